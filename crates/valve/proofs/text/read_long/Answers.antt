-- `valve::read_long` meets its contract: it lends nodes for any text, and what `read_tree` answers is what is to be (`read_told`).
use Rattle.valve.proofs.Texts.{read_told}
use Rattle.valve.proofs.text.read_long.Goals as goal

pub returns : goal.returns
returns c = read_told _ c.requires _ c.read_tree.result c.read_tree.ensures
