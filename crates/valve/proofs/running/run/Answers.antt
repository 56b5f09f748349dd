-- `valve::run` meets its contract: the refusal of `load` (`load_refused`), or what the loaded blocks say of the entry (`run_one`).
use mathlib.Core.Path.{sym, ◌∙◌, ap}
use Rattle.paper.specs.Answers.{says}
use Rattle.paper.proofs.PassedUp.{passed_up}
use Rattle.valve.proofs.Runs.{load_refused, passes}
use Rattle.valve.proofs.running.run.Goals as goal

pub returns-in_err-count : goal.returns-in_err-count
returns-in_err-count c =
    let a = c.args in
    rw (passed_up _ c.from_residual.ensures.1) (load_refused a.list.now a.blocks.now a.entry.now (sym c.load.ensures ∙ ap says c.in_err-count.was))

pub run_one-requires : goal.run_one-requires
run_one-requires c =
    let a = c.args in
    let both = passes a.list.now a.blocks.now (sym c.load.ensures ∙ ap says c.in_ok-count.was) in
    record { list_value = both.0; blocks_value = both.1 }
