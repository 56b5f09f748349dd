-- Why each point is marked by what the definition holds there: before each turn the array holds the types after the first i instructions,
-- with their floors, and every point up to there is marked (`Point`). A turn that cannot be taken is where the definition's walk fails too,
-- for want of an operand (`fails_few`), of room (`fails_full`) or of a type (`fails_wrong`); every other one stands where the next begins
-- (`point_next`).
use Rattle.std.proofs.Common.{◌≡◌, ℕ, ◌+◌, ◌-◌, ◌*◌, ◌<◌, List, [], sym, refl, ap, ◌∙◌, arith}
use mathlib.Core.Option.{some}
use Rattle.paper.specs.Keys.{Key}
use Rattle.paper.specs.Types.{Ty, bool, same_ty}
use Rattle.paper.specs.Code.{fails, action_of, type_action}
use Rattle.keys.specs.Says.{keys_in}
use Rattle.values.specs.Typed.{ty_meant, typing_meant}
use Rattle.machine.specs.Decoded.{instruction_meant}
use Rattle.machine.specs.Acting.{takes_of}
use Rattle.machine.specs.Following.{floors, Followed}
use Rattle.machine.specs.Packed.{ty_in, floor_in}
use Rattle.machine.proofs.Along.{along, at_blocks}
use Rattle.machine.proofs.Standing.{Turn, made, no_action, fails_few, fails_full, fails_wrong}
use Rattle.machine.proofs.Types.{types_at, types_after_lem}
use Rattle.machine.proofs.Marked.{floor_under, floor_with, Point, point_first, point_next, floor_fits}
use Rattle.machine.proofs.following.follow.Goals as goal
use Rattle.machine.proofs.following.follow.Goals.{After-takes-need, After-typed, After-floor_on-floor}

-- the way ends here: the walk fails, or there is no instruction more
ended : (ks : List Key) (blocks : List ℕ) (n : ℕ) {size : ℕ} {marks stack : List ℕ} {height i : ℕ}
    → Point (types_at ks blocks n) n size marks stack height i → (i < n → along (types_at ks blocks n) 0 n [] ≡ fails i)
    → Followed ks blocks n marks i
ended ks blocks n here stops =
    record {
      within = here.at.upto;
      marked =
          λ k q.
          let m = here.marked k q in
          record {
            held = m.held;
            few = m.few;
            there = sym (types_after_lem ks blocks n k (omega (arith, here.at.upto))) ∙ m.there;
            told = m.told;
          };
      stops = λ q. sym (types_after_lem ks blocks n n (omega arith)) ∙ stops q;
    }

-- the instruction that a turn read is the one that stands there
read : (c : After-takes-need) → let ks = keys_in c.args.list.now in
    action_of (type_action ks) (some (instruction_meant c.in-Some.instruction)) ≡ types_at ks c.args.blocks.now c.args.n c.loop-i.i
read c =
    at_blocks (action_of (type_action (keys_in c.args.list.now))) c.args.blocks.now c.args.n c.loop-i.i
    c.in-Some.ensures

turn : (c : After-takes-need) → let l = c.loop-i in
    Turn ty_in 0 (types_at (keys_in c.args.list.now) c.args.blocks.now c.args.n) c.args.n l.stack l.height l.i c.takes-need.result
turn c =
    record {
      at = c.loop-i.invariant.at;
      more = c.loop-i-test.true;
      needs = c.takes-need.ensures (keys_in c.args.list.now) ∙ ap takes_of (read c);
    }

-- what it leaves is what it was typed as
typed_so : (c : After-typed) → let ks = keys_in c.args.list.now in
    let at = types_at ks c.args.blocks.now c.args.n in
    action_of (type_action ks) (some (instruction_meant c.in-Some.instruction)) ≡ at c.loop-i.i
    → (turn : Turn ty_in 0 at c.args.n c.loop-i.stack c.loop-i.height c.loop-i.i c.takes-need.result) → made turn ≡ typing_meant c.typed.result
typed_so c reads turn =
    let low = c.type_in-low.ensures in
    let top = c.type_in-top.ensures in
    rw (← c.below.ensures, ← reads, ← low, ← top) (sym c.typed.ensures)

-- where what is left goes, and its type
abbrev base : After-floor_on-floor → ℕ
base c = c.loop-i.height - c.takes-need.result

abbrev type_left : After-floor_on-floor → Ty
type_left c = ty_meant c.in-Some-typed.left

floor_so : (c : After-floor_on-floor) → c.floor_on-floor.result ≡ floor_with (type_left c) (base c) (floor_under c.loop-i.stack (base c))
floor_so c =
    rw (← c.below-in-loop-i.ensures, ← c.floor_in.ensures, ← c.is_bool.ensures)
    c.floor_on-floor.ensures

pub loop-i-init : goal.loop-i-init
loop-i-init c =
    point_first (types_at (keys_in c.args.list.now) c.args.blocks.now c.args.n) c.args.n c.args.marks.now _ (omega arith) refl

pub returns-then-height-need : goal.returns-then-height-need
returns-then-height-need c =
    let t = turn (goal.at.returns-then-height-need c).After-takes-need in
    ended _ _ _ c.loop-i.invariant (λ _. fails_few t c.if-height-need.true)

pub returns-then-base-ge-MOST_HELD : goal.returns-then-base-ge-MOST_HELD
returns-then-base-ge-MOST_HELD c =
    let t = turn (goal.at.returns-then-base-ge-MOST_HELD c).After-takes-need in
    ended _ _ _ c.loop-i.invariant (λ _. fails_full t c.if-height-need.false c.if-base-ge-MOST_HELD.true)

-- what stands there is no instruction, and of no type
pub returns-in_default : goal.returns-in_default
returns-in_default c =
    let ks = keys_in c.args.list.now in
    let none_there = at_blocks (action_of (type_action ks)) c.args.blocks.now c.args.n c.loop-i.i c.in_default.ensures in
    ended _ _ _ c.loop-i.invariant (λ _. no_action c.loop-i.invariant.at c.loop-i-test.true (sym none_there))

pub returns-in_default-typed : goal.returns-in_default-typed
returns-in_default-typed c =
    let at = goal.at.returns-in_default-typed c in
    let t = turn at.After-takes-need in
    let wrong = typed_so at.After-typed (read at.After-takes-need) t ∙ ap typing_meant c.in_default-typed.is in
    ended _ _ _ c.loop-i.invariant (λ _. fails_wrong t c.if-height-need.false wrong)

pub mark_of-requires : goal.mark_of-requires
mark_of-requires c =
    let at = goal.at.mark_of-requires c in
    let t = turn at.After-takes-need in
    let f = at.After-floor_on-floor in
    let fits = floor_fits c.loop-i.invariant t (same_ty (type_left f) bool) (base f) (omega arith) (omega arith) in
    (omega arith, omega (arith, floor_so f, fits))

pub loop-i-preserved : goal.loop-i-preserved
loop-i-preserved c =
    let at = goal.at.loop-i-preserved c in
    let t = turn at.After-takes-need in
    let f : After-floor_on-floor = at.After-floor_on-floor in
    let cell = c.packed.result in
    let ty : ty_in cell ≡ type_left f = c.packed.ensures.0 in
    let low : floor_in cell ≡ c.floor_on-floor.result = c.packed.ensures.1 in
    let left = typed_so at.After-typed (read at.After-takes-need) t ∙ ap typing_meant c.in-Some-typed.is in
    point_next c.loop-i.invariant t cell c.mark_of.result
    c.if-height-need.false c.if-base-ge-MOST_HELD.false
    (left ∙ ap (λ a. some a) (sym ty))
    (low ∙ floor_so f ∙ ap (λ a. floor_with a (base f) (floor_under c.loop-i.stack (base f))) (sym ty))
    (c.mark_of.ensures ∙ ap (λ n. (base f + 1) * floors + n) (sym low))

pub returns : goal.returns
returns c =
    let all : c.loop-i.i ≡ c.args.n = omega arith in
    rw all at (ended _ _ _ c.loop-i.invariant (λ q. absurd (omega arith)))
