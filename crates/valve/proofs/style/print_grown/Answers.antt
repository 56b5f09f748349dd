-- `valve::print_grown` meets its contract: the print of the tree at the last node is the text's (`is_printed`).
use Rattle.valve.proofs.Prints.{is_printed}
use Rattle.valve.proofs.style.print_grown.Goals as goal

pub returns : goal.returns
returns c = is_printed _ _ c.requires.text_len_bound c.requires.planted _ c.lend_print.ensures
