-- `valve::fix_octal` meets its contract: refusal 1 of a text that is too long, else what the pass gives with scratch for its length.
use Rattle.valve.proofs.Fixes.{too_long}
use Rattle.valve.proofs.octal.fix_octal.Goals as goal

pub returns-then-text-gt-MOST_TEXT : goal.returns-then-text-gt-MOST_TEXT
returns-then-text-gt-MOST_TEXT c = too_long _ _ c.if-text-gt-MOST_TEXT.true
