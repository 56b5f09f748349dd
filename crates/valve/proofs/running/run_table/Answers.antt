-- `valve::run_table` meets its contract: a last entry is cut (`cut`), there are too few answers (`too_few`), or each entry has its byte (`ran`).
use Rattle.valve.proofs.Runs.{cut, too_few, ran}
use Rattle.valve.proofs.running.run_table.Goals as goal

pub returns-then-length-size-ne0 : goal.returns-then-length-size-ne0
returns-then-length-size-ne0 c =
    let a = c.args in
    cut a.list.now a.blocks.now c.requires.list_value c.requires.blocks_value a.entries.now a.answers.now c.entry_size-size.result c.entry_size-size.ensures c.if-length-size-ne0.true

pub returns-then-room-whole : goal.returns-then-room-whole
returns-then-room-whole c =
    let a = c.args in
    too_few a.list.now a.blocks.now c.requires.list_value c.requires.blocks_value a.entries.now a.answers.now c.entry_size-size.result c.entry_size-size.ensures
    c.if-length-size-ne0.false c.if-room-whole.true

pub returns : goal.returns
returns c =
    let run = c.run_each-steps in
    let a = c.args in
    let whole = c.if-length-size-ne0.false in
    let enough = c.if-room-whole.false in
    ran a.list.now a.blocks.now c.requires.list_value c.requires.blocks_value a.entries.now a.answers.now c.entry_size-size.result c.entry_size-size.ensures
    whole enough run.result _ run.ensures.value run.ensures.answers_after
