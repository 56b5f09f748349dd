-- `report::count_turns` meets its contract. Each turn adds what it read to what was counted (`reaches_more`, by `add_held`): at the end all of the
-- file is counted (`answered`), or there is an entry too many (`too_many`).
use Prim.Native.Nat.{ℕ, ◌*◌, ◌/◌, ◌≤◌}
use native.Mathlib.Nat.{zero-mod}
use native.Mathlib.Omega.{arith}
use mathlib.Core.Path.{◌≡◌, refl, sym, ap, ap₂}
use mathlib.Core.List.{List, [], ◌++◌}
use lib.ListN.{length, take}
use lib.Seq.{length-take-le}
use Rattle.paper.specs.Keys.{most_keys, record_size}
use Rattle.paper.specs.Counting.{entry_size, whole_in}
use Rattle.keys.specs.Says.{keys_in}
use Rattle.keys.proofs.Checked.{most_bytes}
use Rattle.keys.proofs.Records.{keys_length}
use Rattle.report.proofs.Whole.{whole_both, reaches_none, answered, too_many}
use Rattle.report.proofs.turns.count_turns.Goals as goal

-- an entry of a list with so few bytes is small
size_small : (list : List ℕ) (size : ℕ) → size ≡ entry_size (keys_in list) → length list ≤ most_keys * record_size → size ≤ 1156
size_small list size is short = omega (arith, is, keys_length list 0 (length list / record_size), short)

-- how many whole entries the first bytes of a part are, and how many bytes are behind them
held_whole : (list part : List ℕ) (got size : ℕ) → got ≤ length part → size ≡ entry_size (keys_in list)
    → whole_in (keys_in list) (take got part) ≡ got / size
held_whole list part got size within is = ap₂ (λ (m : ℕ) (k : ℕ). m / k) (length-take-le got part within) (sym is)

pub loop-turns-init : goal.loop-turns-init
loop-turns-init g c =
    let a = c.args in
    record {
      long = refl;
      many = refl;
      few = omega (arith, c.none-course.ensures.0);
      one = record {
        start = [];
        whole = λ h. zero-mod (entry_size (keys_in a.parted.list.now));
        reaches = λ text p.
            reaches_none text a.parted.list.now a.parted.nodes.now a.parted.rows.now a.parted.n p a.counts.now c.clear.new.counts c.clear.ensures c.none-course.result c.none-course.ensures c.requires.n_in_bounds;
      };
    }

pub overflow_mul-result : goal.overflow_mul-result
overflow_mul-result g c =
    let a = c.args in
    let small = size_small a.parted.list.now c.entry_size-size.result c.entry_size-size.ensures (most_bytes a.parted.list.now c.requires.by_index.1.rooted.listed) in
    omega (arith, small)

pub returns-then-course-got : goal.returns-then-course-got
returns-then-course-got g c =
    let a = c.args in
    let l = c.loop-turns in
    let r = c.read_full-got in
    let one = l.invariant.one in
    let held = take r.result r.new.room in
    let whole = one.whole c.loop-turns-test.true in (
      one.start ++ held,
      λ text p.
          let both = whole_both text a.parted.list.now a.parted.nodes.now a.parted.rows.now a.parted.n p one.start held whole in
          let told = held_whole a.parted.list.now r.new.room r.result c.entry_size-size.result r.ensures c.entry_size-size.ensures in
          too_many text a.parted.list.now a.parted.nodes.now a.parted.rows.now a.parted.n p (one.start ++ held) a.counts.now l.counts c.entry_size-size.result c.entry_size-size.ensures
          (omega (arith, both, (one.reaches text p).whole, told, c.if-course-got.true)),
    )

pub add_held-course-requires-clause-begun : goal.add_held-course-requires-clause-begun
add_held-course-requires-clause-begun g c =
    let (text, p) = c.requires.by_index in
    let one = c.loop-turns.invariant.one in
    record { text = text; passed = p; base = c.clear.new.counts; start = one.start; reaches = one.reaches text p }

pub returns : goal.returns
returns g c =
    let a = c.args in
    let l = c.loop-turns in
    let one = l.invariant.one in (
      one.start,
      λ text p.
          answered text a.parted.list.now a.parted.nodes.now a.parted.rows.now a.parted.n p a.counts.now c.clear.new.counts c.clear.ensures one.start l.counts l.course (one.reaches text p) l.invariant.few,
    )

-- what a turn leaves, where no turn comes after it
pub loop-turns-preserved : goal.loop-turns-preserved
loop-turns-preserved g c =
    let l = c.loop-turns in
    let one = l.invariant.one in
    let x = c.add_held-course in
    let held = c.start.result.now in
    let whole = one.whole c.loop-turns-test.true in
    let same = ap (λ (h : List ℕ). whole_in (keys_in c.args.parted.list.now) h) c.start.ensures in
    let told = held_whole c.args.parted.list.now c.read_full-got.new.room c.read_full-got.result c.entry_size-size.result c.read_full-got.ensures c.entry_size-size.ensures in
    record {
      long = omega (arith, c.read_full-got.auto.room, l.invariant.long);
      many = omega (arith, x.auto.counts, l.invariant.many);
      few = omega (arith, x.ensures.whole_value.0, same, told, c.if-course-got.false, l.invariant.few);
      one = record {
        start = one.start ++ held;
        whole = λ more. absurd (omega arith);
        reaches = λ text p. x.ensures.by_index text p _ one.start whole (one.reaches text p);
      };
    }
