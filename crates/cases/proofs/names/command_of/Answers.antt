-- `cases::names::command_of` meets its contract: the command here has the word (`first_here`), or the first one with it comes later (`first_later`).
use Rattle.std.proofs.Common.{sym, ◌∙◌}
use Rattle.cases.specs.Names.{commands}
use Rattle.cases.proofs.Lists.{first_here, first_later}
use Rattle.cases.proofs.names.command_of.Goals as goal

pub returns-then-same_bytes : goal.returns-then-same_bytes
returns-then-same_bytes c =
    sym (first_here commands c.loop-command.command-index _ _ _ c.word.ensures (sym c.same_bytes.ensures ∙ c.if-same_bytes.true) c.loop-command-test.true) ∙ c.loop-command.invariant

pub loop-command-preserved : goal.loop-command-preserved
loop-command-preserved c =
    first_later commands c.loop-command.command-index _ _ _ c.word.ensures (sym c.same_bytes.ensures ∙ c.if-same_bytes.false) c.loop-command-test.true ∙ c.loop-command.invariant
