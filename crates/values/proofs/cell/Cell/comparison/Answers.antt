-- Of two operands that meet, one is brought into the type of the other, and they are compared there.
use mathlib.Core.Path.{◌≡◌, sym, ◌∙◌}
use Rattle.paper.specs.Code.{comparison_of}
use Rattle.paper.specs.Types.{takes}
use Rattle.paper.specs.Meaning.{ty_of, compare_value}
use Rattle.values.specs.Held.{held, like_value}
use Rattle.values.proofs.Held.{is_then}
use Rattle.values.proofs.Meeting.{meet_right, meet_left}
use Rattle.values.proofs.cell.Cell.comparison.Goals as goal

tested : (c : goal.After-compared)
    → c.takes.result ≡ takes (ty_of (held c.args.right)) (ty_of (held c.args.self))
tested c = rw (← c.type_of.ensures, ← c.type_of-2.ensures) c.takes.ensures

pub returns-then-takes : goal.returns-then-takes
returns-then-takes c =
    let a = c.args in
    let o = comparison_of a.comparison in
    let x = held a.self in
    let y = held a.right in
    let v = held c.compared.result in
    meet_right o x y v (sym (tested c) ∙ c.if-takes.true)
    (is_then (like_value (ty_of y) x) (λ z. compare_value o z y) (held c.like.result) v c.like.ensures c.compared.ensures)

tested_2 : (c : goal.After-compared-2)
    → c.takes.result ≡ takes (ty_of (held c.args.right)) (ty_of (held c.args.self))
tested_2 c = rw (← c.type_of.ensures, ← c.type_of-2.ensures) c.takes.ensures

pub returns : goal.returns
returns c =
    let a = c.args in
    let o = comparison_of a.comparison in
    let x = held a.self in
    let y = held a.right in
    let v = held c.compared-2.result in
    meet_left o x y v (sym (tested_2 c) ∙ c.if-takes.false)
    (is_then (like_value (ty_of x) y) (compare_value o x) (held c.like-2.result) v c.like-2.ensures c.compared-2.ensures)
