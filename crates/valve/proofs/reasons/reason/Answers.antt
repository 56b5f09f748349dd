-- `valve::reason` meets its contract: a refusal of text or list, which is at no record (`text_refused`), or the reason by the parts (`reason_by`).
use mathlib.Core.Path.{◌∙◌}
use Rattle.explaining.proofs.Reasons.{text_refused}
use Rattle.valve.proofs.reasons.reason.Goals as goal

pub of_refusal-requires : goal.of_refusal-requires
of_refusal-requires c = (text_refused _ c.args.list.now c.args.entry.now _ c.in-Err.ensures).listed

pub returns-in-Err : goal.returns-in-Err
returns-in-Err c = c.of_refusal.ensures ∙ (text_refused _ c.args.list.now c.args.entry.now _ c.in-Err.ensures).reason
