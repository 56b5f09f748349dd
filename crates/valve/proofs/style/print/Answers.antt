-- `valve::print` meets its contract: refusal 1 of a text that is too long (`too_long`); else it goes on from what `try_tree` answers with few nodes
-- (`tree_grown`): the refusal of the tree (`not_printed`) or its print (`print_grown`), and where that is over it lends more (`print_long`).
use Rattle.valve.proofs.Prints.{too_long, not_printed}
use Rattle.valve.proofs.Tries.{tree_grown, tree_refused}
use Rattle.valve.proofs.style.print.Goals as goal

pub returns-then-text-gt-MOST_TEXT : goal.returns-then-text-gt-MOST_TEXT
returns-then-text-gt-MOST_TEXT c = too_long _ _ c.if-text-gt-MOST_TEXT.true

pub print_grown-requires-clause-planted : goal.print_grown-requires-clause-planted
print_grown-requires-clause-planted c =
    let t = c.try_tree in
    tree_grown _ _ t.result t.ensures c.in-Ok.is

pub returns-in-Err-Refused : goal.returns-in-Err-Refused
returns-in-Err-Refused c =
    let t = c.try_tree in
    rw c.in-Err-Refused.refusal-is (not_printed _ _ c.if-text-gt-MOST_TEXT.false _ (tree_refused _ _ t.result t.ensures c.in-Err-Refused.is c.in-Err-Refused.field-0-is))
