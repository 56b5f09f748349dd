-- `valve::run_all` meets its contract: the refusal of `load` (`load_refused_all`), or what the loaded blocks say of the table (`run_table`).
use mathlib.Core.Path.{sym, ◌∙◌, ap}
use Rattle.paper.specs.Answers.{says}
use Rattle.paper.proofs.PassedUp.{passed_up}
use Rattle.valve.proofs.Runs.{load_refused_all, passes}
use Rattle.valve.proofs.running.run_all.Goals as goal

pub returns-in_err-count : goal.returns-in_err-count
returns-in_err-count c =
    let a = c.args in
    rw (passed_up _ c.from_residual.ensures.1)
    (load_refused_all a.list.now a.blocks.now a.entries.now a.answers.now _ (sym c.load.ensures ∙ ap says c.in_err-count.was))

pub run_table-requires : goal.run_table-requires
run_table-requires c =
    let a = c.args in
    let both = passes a.list.now a.blocks.now (sym c.load.ensures ∙ ap says c.in_ok-count.was) in
    record { list_value = both.0; blocks_value = both.1 }
