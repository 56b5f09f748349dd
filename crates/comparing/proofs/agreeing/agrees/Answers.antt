-- `comparing::agrees` meets its contract. The invariant of its loop (`Round`): the parts that are free, of which there is one more than are still to
-- be taken off, fit what is left exactly where all fit all. Where no part comes last, none fit (`none_last`); the first that does is taken off
-- (`next_round`); and in the end one part must be all that is left (`all_left`).
use Prim.Native.Nat.{ℕ, ◌+◌, ◌-◌, ◌≤◌, ◌<◌}
use native.Mathlib.Omega.{arith}
use mathlib.Core.Path.{◌≡◌, refl, ◌∙◌}
use mathlib.Core.List.{List}
use lib.ListN.{length}
use Rattle.paper.specs.Code.{Instruction}
use Rattle.paper.specs.Parts.{most_parts}
use Rattle.paper.specs.Comparing.{as_joined}
use Rattle.comparing.specs.Scratch.{start_at, Stand}
use Rattle.comparing.proofs.Picked.{first_round, none_last, fits_in, next_round, last_round, all_left}
use Rattle.comparing.proofs.agreeing.agrees.Goals as goal
use Rattle.comparing.proofs.agreeing.agrees.Goals.{In-Some}

-- the first round
pub loop-round-init : goal.loop-round-init
loop-round-init c =
    let a = c.args in
    (omega arith, λ cs stand. first_round a.blocks.now a.total a.n most_parts cs _ refl c.requires.total_bound.2 c.requires.total_bound.3)

pub pick-requires-clause-left_bound : goal.pick-requires-clause-left_bound
pick-requires-clause-left_bound c =
    let bound = c.requires.total_bound in
    (omega (arith, bound.0, c.loop-round.invariant.0), bound.1, omega (arith, bound.3, c.loop-round-test.array_long))

pub returns-in_default : goal.returns-in_default
returns-in_default c cs stand =
    none_last (c.loop-round.invariant.1 cs stand) (omega (arith, c.loop-round-test.true)) (c.in_default.ensures cs stand)

-- the part that comes last is one of them, by codes that stand
inside : (c : In-Some) → c.in-Some.k < c.args.n
inside c = (c.in-Some.ensures c.requires.by_index.0 c.requires.by_index.1).1

size : (c : In-Some) (cs : ℕ → List Instruction) → Stand c.args.code.now c.args.starts.now c.args.n cs → (from to : ℕ)
    → from ≡ start_at c.args.starts.now c.in-Some.k → to ≡ start_at c.args.starts.now (c.in-Some.k + 1) → to - from ≡ length (as_joined (cs c.in-Some.k))
size c cs stand from to first next = omega (arith, (stand c.in-Some.k (inside c)).next, first, next)

pub bounds-used-k : goal.bounds-used-k
bounds-used-k c = omega (arith, inside c, c.requires.total_bound.3)

pub overflow_add-k : goal.overflow_add-k
overflow_add-k c = omega (arith, inside (goal.at.overflow_add-k c).In-Some, c.requires.total_bound.3)

pub start_at-requires : goal.start_at-requires
start_at-requires c = omega (arith, inside (goal.at.start_at-requires c).In-Some, c.requires.total_bound.1)

pub start_at-requires-in-loop-round : goal.start_at-requires-in-loop-round
start_at-requires-in-loop-round c = omega (arith, inside (goal.at.start_at-requires-in-loop-round c).In-Some, c.requires.total_bound.1)

pub overflow_sub-left : goal.overflow_sub-left
overflow_sub-left c =
    let i = (goal.at.overflow_sub-left c).In-Some in
    omega (arith, (c.requires.by_index.1 c.in-Some.k (inside i)).next, c.start_at.ensures, c.start_at-in-loop-round.ensures)

pub overflow_sub-left-in-loop-round : goal.overflow_sub-left-in-loop-round
overflow_sub-left-in-loop-round c =
    let i = (goal.at.overflow_sub-left-in-loop-round c).In-Some in
    let cs = c.requires.by_index.0 in
    let stand = c.requires.by_index.1 in
    let enough : c.args.n ≤ length c.loop-round.used = omega (arith, c.requires.total_bound.3, c.loop-round-test.array_long) in
    omega (
      arith,
      size i cs stand _ _ c.start_at-in-loop-round.ensures c.start_at.ensures,
      fits_in (c.loop-round.invariant.1 cs stand) c.in-Some.k (c.in-Some.ensures cs stand).0 (inside i) enough,
    )

pub loop-round-preserved : goal.loop-round-preserved
loop-round-preserved c =
    let i = (goal.at.loop-round-preserved c).In-Some in
    let l = c.loop-round in
    let a = c.args in
    let enough : a.n ≤ length l.used = omega (arith, c.requires.total_bound.3, c.loop-round-test.array_long) in
    let fewer : a.n - l._round - 1 ≡ a.n - (l._round + 1) = omega arith in (
      omega (arith, l.invariant.0),
      λ cs stand.
          rw (← fewer)
          (next_round (l.invariant.1 cs stand) c.in-Some.k (c.in-Some.ensures cs stand).0 (inside i) enough _
          (size i cs stand _ _ c.start_at-in-loop-round.ensures c.start_at.ensures) (omega (arith, c.loop-round-test.true))),
    )

-- after the last round one part is left
pub returns-in_default-first_free : goal.returns-in_default-first_free
returns-in_default-first_free c cs stand =
    let none_left : c.args.n - c.loop-round._round ≡ 0 = omega (arith, c.loop-round-test.false) in
    absurd (omega (arith, c.in_default-first_free.ensures, last_round (c.loop-round.invariant.1 cs stand) none_left))

pub is_all-requires-clause-left_bound : goal.is_all-requires-clause-left_bound
is_all-requires-clause-left_bound c =
    let bound = c.requires.total_bound in
    (omega (arith, bound.0, c.loop-round.invariant.0), omega (arith, c.in-Some-first_free.ensures.1, bound.1))

pub is_all-requires-clause-stood : goal.is_all-requires-clause-stood
is_all-requires-clause-stood c =
    let k = c.in-Some-first_free.k in
    (c.requires.by_index.0 k, c.requires.by_index.1 k c.in-Some-first_free.ensures.1)

pub returns : goal.returns
returns c cs stand =
    let first = c.in-Some-first_free in
    let none_left : c.args.n - c.loop-round._round ≡ 0 = omega (arith, c.loop-round-test.false) in
    c.is_all.ensures (cs first.k) (stand first.k first.ensures.1)
    ∙ rw (← first.ensures.0) (all_left (c.loop-round.invariant.1 cs stand) none_left)
