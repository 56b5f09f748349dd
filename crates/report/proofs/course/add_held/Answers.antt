-- `report::add_held` meets its contract: what is held is counted by `tally`, and added to what was counted before (`reaches_more`).
use Prim.Native.Nat.{ℕ, ◌+◌, ◌/◌, ◌%◌}
use native.Mathlib.Omega.{arith}
use mathlib.Core.Path.{◌≡◌, ap}
use lib.ListN.{length}
use Rattle.paper.specs.Counting.{whole_in, cut_in}
use Rattle.keys.specs.Says.{keys_in}
use Rattle.report.proofs.Whole.{spare, totals_few, told_few, reaches_more}
use Rattle.report.proofs.course.add_held.Goals as goal

pub tally-totals-requires : goal.tally-totals-requires
tally-totals-requires c =
    let a = c.args in
    let b = c.requires.begun in
    record { by_index = (b.text, b.passed); spare = spare b.text a.parted.list.now a.parted.nodes.now a.parted.rows.now a.parted.n b.passed (whole_in (keys_in a.parted.list.now) a.held.now) b.reaches c.requires.held_bound }

pub plus-requires : goal.plus-requires
plus-requires c =
    let a = c.args in
    let b = c.requires.begun in
    let (a0, v0, r0) = totals_few b.text a.parted.list.now a.parted.nodes.now a.parted.rows.now a.parted.n b.passed b.reaches in
    let (a1, v1, r1) = told_few b.text a.parted.list.now a.parted.nodes.now a.parted.rows.now a.parted.n b.passed a.held.now (c.tally-totals.ensures b.text b.passed) in
    let few = c.requires.held_bound in
    (omega (arith, a0, a1, few), omega (arith, v0, v1, few), omega (arith, r0, r1, few))

whole_held : (c : goal.After-plus) → let a = c.args in length a.held.now / c.entry_size-size.result ≡ whole_in (keys_in a.parted.list.now) a.held.now
whole_held c = ap (λ (m : ℕ). length c.args.held.now / m) c.entry_size-size.ensures

cut_held : (c : goal.After-plus) → let a = c.args in length a.held.now % c.entry_size-size.result ≡ cut_in (keys_in a.parted.list.now) a.held.now
cut_held c = ap (λ (m : ℕ). length c.args.held.now % m) c.entry_size-size.ensures

pub returns : goal.returns
returns c =
    let a = c.args in
    let whole = ap (λ (m : ℕ). a.before.whole + m) (whole_held c) in record {
      whole_value = (whole, cut_held c);
      by_index = λ text p base s uncut r.
          reaches_more text a.parted.list.now a.parted.nodes.now a.parted.rows.now a.parted.n p s a.held.now r uncut (c.tally-totals.ensures text p) whole (cut_held c) c.plus.ensures;
    }
