-- `valve::run_one` meets its contract: 19 of an entry of another length (`wrong_length`); else its byte and steps, which are those of its run
-- (`alone`), tell the verdict (`told`), or the entry does not conform, and its check tells why (`entry_refused`).
use mathlib.Core.Path.{sym, ap, ◌∙◌}
use mathlib.Core.Bool.{true, false}
use borrow.Author.Rules.{rules}
use Rattle.paper.specs.Answers.{says}
use Rattle.paper.proofs.PassedUp.{passed_up}
use Rattle.valve.proofs.Runs.{wrong_length, alone, told, not_conforming, entry_refused}
use Rattle.valve.proofs.running.run_one.Goals as goal

pub returns-then-length-entry_size : goal.returns-then-length-entry_size
returns-then-length-entry_size c =
    let a = c.args in
    wrong_length a.list.now a.blocks.now c.requires.list_value c.requires.blocks_value a.entry.now c.entry_size.result c.entry_size.ensures c.if-length-entry_size.true

-- its byte and its steps are told by the first of its answers

pub returns-in-1 : goal.returns-in-1
returns-in-1 c =
    let a = c.args in
    let run = c.run_each-steps in
    let byte = alone a.list.now a.blocks.now c.requires.list_value c.requires.blocks_value a.entry.now c.entry_size.result c.entry_size.ensures c.if-length-entry_size.false
    0 run.new.answers run.result run.ensures.value run.ensures.answers_after in
    told a.list.now a.blocks.now c.requires.list_value c.requires.blocks_value a.entry.now true byte c.in-1.is

pub returns-in-2 : goal.returns-in-2
returns-in-2 c =
    let a = c.args in
    let run = c.run_each-steps in
    let byte = alone a.list.now a.blocks.now c.requires.list_value c.requires.blocks_value a.entry.now c.entry_size.result c.entry_size.ensures c.if-length-entry_size.false
    0 run.new.answers run.result run.ensures.value run.ensures.answers_after in
    told a.list.now a.blocks.now c.requires.list_value c.requires.blocks_value a.entry.now false byte c.in-2.is

-- where it has neither byte
pub returns-in_err-check_entry-in_default : goal.returns-in_err-check_entry-in_default
returns-in_err-check_entry-in_default c =
    let a = c.args in
    rw (passed_up _ c.from_residual.ensures.1)
    (entry_refused a.list.now a.blocks.now c.requires.list_value c.requires.blocks_value a.entry.now (sym c.check_entry.ensures ∙ ap says c.in_err-check_entry-in_default.was))

pub unreachable-requires : goal.unreachable-requires
unreachable-requires c =
    let a = c.args in
    let run = c.run_each-steps in
    let byte = alone a.list.now a.blocks.now c.requires.list_value c.requires.blocks_value a.entry.now c.entry_size.result c.entry_size.ensures c.if-length-entry_size.false
    0 run.new.answers run.result run.ensures.value run.ensures.answers_after in
    not_conforming a.list.now a.blocks.now c.requires.list_value c.requires.blocks_value a.entry.now byte (search rules) (search rules)
    (sym c.check_entry.ensures ∙ ap says c.in_ok-check_entry-in_default.was)
