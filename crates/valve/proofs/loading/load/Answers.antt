-- `valve::load` meets its contract: the refusal of the list (`list_refused`), or what `load_for` answers for the count of its keys (`list_passed`).
use mathlib.Core.Path.{sym, ap, ◌∙◌}
use Rattle.paper.specs.Answers.{says}
use Rattle.paper.proofs.PassedUp.{passed_up}
use Rattle.valve.proofs.Loads.{list_refused, keys_counted, list_passed}
use Rattle.valve.proofs.loading.load.Goals as goal

pub returns-in_err-count : goal.returns-in_err-count
returns-in_err-count c =
    let a = c.args in
    rw (passed_up _ c.from_residual.ensures.1) (list_refused a.list.now a.blocks.now (sym c.check_list.ensures ∙ ap says c.in_err-count.was))

pub load_for-requires : goal.load_for-requires
load_for-requires c =
    let a = c.args in
    keys_counted a.list.now a.blocks.now (sym c.check_list.ensures ∙ ap says c.in_ok-count.was)

pub returns : goal.returns
returns c =
    let a = c.args in
    c.load_for.ensures ∙ list_passed a.list.now a.blocks.now (sym c.check_list.ensures ∙ ap says c.in_ok-count.was)
