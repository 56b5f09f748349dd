-- `valve::fix_in` meets its contract: the refusal of the pass, which leaves the buffer, 21 where the result does not fit it, or the result.
use Rattle.paper.proofs.PassedUp.{passed_up}
use Rattle.valve.proofs.Fixes.{not_fixed, is_fixed, no_room, lent}
use Rattle.valve.proofs.octal.fix_in.Goals as goal

pub returns-in_err-n : goal.returns-in_err-n
returns-in_err-n c =
    rw (passed_up _ c.from_residual.ensures.1) (not_fixed _ _ c.fix.result c.fix.ensures _ c.requires.text_len_bound c.in_err-n.was)

pub returns-then-buffer-n : goal.returns-then-buffer-n
returns-then-buffer-n c =
    no_room (is_fixed _ _ c.fix.result c.fix.ensures c.in_ok-n.was) c.requires.text_len_bound _ c.if-buffer-n.true

pub returns : goal.returns
returns c =
    lent (is_fixed _ _ c.fix.result c.fix.ensures c.in_ok-n.was) c.requires.text_len_bound _ _ c.if-buffer-n.false c.lend_first.ensures
