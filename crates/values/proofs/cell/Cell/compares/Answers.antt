-- Two operands of one type are compared as they are; of two others that meet, one is brought into the type of the other, and they are
-- compared there.
use mathlib.Core.Path.{◌≡◌, sym, ◌∙◌, ap}
use Rattle.paper.specs.Tokens.{Comparison}
use Rattle.paper.specs.Code.{comparison_of}
use Rattle.paper.specs.Types.{takes}
use Rattle.paper.specs.Meaning.{Value, truth, ty_of, compare_value}
use Rattle.values.specs.Held.{held, like_value}
use Rattle.values.proofs.Held.{is_then, is_compared}
use Rattle.values.proofs.Meeting.{meet_right, meet_left}
use Rattle.values.proofs.cell.Cell.compares.Goals as goal

abbrev asked : goal.After-holds-then-takes → Comparison
asked c = comparison_of c.args.comparison

abbrev left : goal.After-holds-then-takes → Value
left c = held c.args.self

abbrev right : goal.After-holds-then-takes → Value
right c = held c.args.right

takes_tested : (c : goal.After-holds-then-takes) → c.takes.result ≡ takes (ty_of (right c)) (ty_of (left c))
takes_tested c = rw (← c.type_of-3.ensures, ← c.type_of-4.ensures) c.takes.ensures

pub returns-then-takes : goal.returns-then-takes
returns-then-takes c =
    let o = asked c in
    let x = left c in
    let y = right c in
    let brought = c.like in
    let v = truth c.holds-then-takes.result in
    meet_right o x y v (sym (takes_tested c) ∙ c.if-takes.true)
    (is_then (like_value (ty_of y) x) (λ z. compare_value o z y) (held brought.result) v brought.ensures
    (is_compared o (held brought.result) y v (ap truth c.holds-then-takes.ensures)))

abbrev asked_2 : goal.After-holds-2 → Comparison
asked_2 c = comparison_of c.args.comparison

abbrev left_2 : goal.After-holds-2 → Value
left_2 c = held c.args.self

abbrev right_2 : goal.After-holds-2 → Value
right_2 c = held c.args.right

takes_tested_2 : (c : goal.After-holds-2) → c.takes.result ≡ takes (ty_of (right_2 c)) (ty_of (left_2 c))
takes_tested_2 c = rw (← c.type_of-3.ensures, ← c.type_of-4.ensures) c.takes.ensures

pub returns : goal.returns
returns c =
    let o = asked_2 c in
    let x = left_2 c in
    let y = right_2 c in
    let brought = c.like-2 in
    let v = truth c.holds-2.result in
    meet_left o x y v (sym (takes_tested_2 c) ∙ c.if-takes.false)
    (is_then (like_value (ty_of x) y) (compare_value o x) (held brought.result) v brought.ensures
    (is_compared o x (held brought.result) v (ap truth c.holds-2.ensures)))
