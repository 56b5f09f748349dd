-- What is told of an entry: what its run left, in its steps (`tells_run`), or that it is refused (`tells_none`).
use Rattle.std.proofs.Common.{sym, refl, subst, ◌∙◌, false}
use Rattle.keys.specs.Says.{keys_in, conforms}
use Rattle.machine.specs.Running.{TellsOf}
use Rattle.machine.proofs.Tabled.{passing, tells_run, tells_none}
use Rattle.machine.proofs.running.tell.Goals as goal

pub returns-then-not-enters : goal.returns-then-not-enters
returns-then-not-enters c =
    let a = c.args in
    let ks = keys_in a.list.now in
    tells_none ks a.blocks.now a.entry.now (conforms ks a.entry.now) refl (sym c.enters.ensures ∙ c.if-not-enters.true) false

pub returns : goal.returns
returns c =
    let a = c.args in
    let ks = keys_in a.list.now in
    let ran = c.run-left in
    let conforms_so = passing _ (sym c.enters.ensures ∙ c.if-not-enters.false) in
    subst (λ b. TellsOf ks a.blocks.now a.entry.now b ran.result.steps) (sym c.verdict.ensures)
    (tells_run ks a.blocks.now a.entry.now conforms_so ran.result.left ran.result.steps ran.ensures.left ran.ensures.steps)
