-- `valve::lend_print` meets its contract: a print that did not fit the scratch is past the limit, one that is past the buffer is refused too, and
-- any other is lent whole.
use mathlib.Core.Path.{refl}
use Rattle.valve.proofs.Prints.{lent_first}
use Rattle.valve.proofs.style.lend_print.Goals as goal

pub returns : goal.returns
returns c =
    lent_first _ refl c.write_tree-n.ensures _ c.if-n-gt-MOST_TEXT.false c.if-buffer-n.false _ c.lend_first.ensures
