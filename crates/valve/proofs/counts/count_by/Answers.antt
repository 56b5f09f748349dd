-- `valve::count_by` meets its contract: too many entries (`too_many`), or the parts' numbers, which are added to zeros (`counts`).
use Prim.Native.Nat.{ℕ}
use mathlib.Core.Path.{subst}
use mathlib.Core.List.{List}
use Rattle.counting.specs.Tallied.{Tells}
use Rattle.valve.proofs.Tallies.{all, too_many, counts}
use Rattle.valve.proofs.counts.count_by.Goals as goal

abbrev size : goal.Then-entries-size-gt-MOST_ENTRIES → ℕ
size c = c.entry_size-size.result

pub returns-then-entries-size-gt-MOST_ENTRIES : goal.returns-then-entries-size-gt-MOST_ENTRIES
returns-then-entries-size-gt-MOST_ENTRIES c text p =
    let a = c.args in
    too_many text a.list.now a.entries.now a.parts.now a.nodes.now a.rows.now a.n p (size c) c.entry_size-size.ensures c.if-entries-size-gt-MOST_ENTRIES.true

abbrev size_2 : goal.After-tally-totals → ℕ
size_2 c = c.entry_size-size.result

pub returns : goal.returns
returns c text p =
    let a = c.args in
    let few = c.if-entries-size-gt-MOST_ENTRIES.false in
    let after = c.tally-totals.new.counts in
    counts text a.list.now a.entries.now a.parts.now a.nodes.now a.rows.now a.n p (size_2 c) c.entry_size-size.ensures few after c.tally-totals.result
    (subst
    (λ (zeros : List ℕ). Tells (all text a.list.now a.entries.now a.parts.now a.nodes.now a.rows.now a.n p) zeros after c.tally-totals.result)
    c.clear.ensures
    (c.tally-totals.ensures text p))
