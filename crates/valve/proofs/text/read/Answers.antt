-- `valve::read` meets its contract: refusal 1 of a text that is too long (`too_long`); else what `try_tree` answers with few nodes (`tree_grown`) is
-- what is to be (`read_told`), and where that is over it lends more (`read_long`).
use Rattle.std.specs.Prelude.{Ok, Err}
use Rattle.valve.proofs.Texts.{too_long, read_told}
use Rattle.valve.proofs.Tries.{tree_grown, tree_refused}
use Rattle.valve.proofs.text.read.Goals as goal

pub returns-then-text-gt-MOST_TEXT : goal.returns-then-text-gt-MOST_TEXT
returns-then-text-gt-MOST_TEXT c = too_long _ c.if-text-gt-MOST_TEXT.true

pub returns-in-Ok : goal.returns-in-Ok
returns-in-Ok c =
    let t = c.try_tree in
    read_told _ c.if-text-gt-MOST_TEXT.false t.new.nodes (Ok _) (tree_grown _ _ t.result t.ensures c.in-Ok.is)

pub returns-in-Err-Refused : goal.returns-in-Err-Refused
returns-in-Err-Refused c =
    let t = c.try_tree in
    read_told _ c.if-text-gt-MOST_TEXT.false t.new.nodes (Err _) (tree_refused _ _ t.result t.ensures c.in-Err-Refused.is c.in-Err-Refused.field-0-is)
