-- `valve::pact` meets its contract: the refusal of the names, else what the stages after them answer.
use mathlib.Core.Path.{sym, ap, ◌∙◌}
use Rattle.paper.specs.Answers.{says}
use Rattle.paper.proofs.PassedUp.{passed_up}
use Rattle.keys.proofs.Checked as K
use Rattle.valve.proofs.Contracts.{names_refused}
use Rattle.valve.proofs.pacts.pact.Goals as goal

pub returns-in_err-check_names : goal.returns-in_err-check_names
returns-in_err-check_names c =
    let names = c.args.names.now in
    rw (passed_up _ c.from_residual.ensures.1)
    (names_refused _ _ _ _ _ (K.names_refused names (sym c.check_names.ensures ∙ ap says c.in_err-check_names.was)))

pub pact_named-requires : goal.pact_named-requires
pact_named-requires c = (K.names_listed c.args.names.now (sym c.check_names.ensures ∙ ap says c.in_ok-check_names.was)).0
