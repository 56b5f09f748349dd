-- Without a gap the string is eight groups (`eight`); with one it is the groups on its two
-- sides with zeros between them, and the gap has two bytes, so that the right side starts within the string (`room`).
use Prim.Native.Nat.{ℕ, ◌+◌, ◌≤◌}
use mathlib.Core.Path.{sym, ◌∙◌}
use mathlib.Core.List.{List}
use native.Mathlib.Omega.{arith}
use borrow.Author.Tests.{eq-eqb}
use lib.ListN.{length}
use lib.Seq.{length-take-le}
use Rattle.paper.specs.Addresses.{before_gap}
use Rattle.addresses.proofs.Strings.{gap_room, gap_inside}
use Rattle.addresses.proofs.Wholes.{eight}
use Rattle.addresses.proofs.ipv6.read_ipv6.Goals as goal

abbrev string : goal.After-whole → List ℕ
string c = c.args.string.now

pub returns-then-gap-string : goal.returns-then-gap-string
returns-then-gap-string c =
    let s = string c in
    let all = sym c.before_gap-gap.ensures ∙ c.if-gap-string.true in
    c.whole.ensures ∙ eight s ∙ sym (rw (eq-eqb (before_gap s) (length s) all))

abbrev string_2 : goal.Else-gap-string → List ℕ
string_2 c = c.args.string.now

-- where they are not all: the gap's two bytes stand after them
room : (c : goal.Else-gap-string) → c.before_gap-gap.result + 2 ≤ length (string_2 c)
room c =
    let n = c.before_gap-gap.ensures in
    let inside = gap_inside (string_2 c) in
    let two = gap_room (string_2 c) (omega (arith, c.if-gap-string.false)) in
    omega arith

pub slice_bounds-gapped-end : goal.slice_bounds-gapped-end
slice_bounds-gapped-end c = let two = room c in sym (length-take-le _ (string_2 c) (omega arith))

pub overflow_add-gap : goal.overflow_add-gap
overflow_add-gap c = omega (arith, room c, c.well_formed)

pub slice_bounds-gapped-count : goal.slice_bounds-gapped-count
slice_bounds-gapped-count c = omega (arith, room c)

pub slice_bounds-gapped-start : goal.slice_bounds-gapped-start
slice_bounds-gapped-start c = omega (arith, room c)
