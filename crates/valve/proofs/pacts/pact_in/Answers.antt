-- `valve::pact_in` meets its contract: the draft's fault, that its text is over a limit, or the text of its tree.
use mathlib.Core.Path.{subst, ap, ◌∙◌}
use lib.ListN.{length}
use Rattle.std.specs.Prelude.{Err}
use Rattle.paper.specs.Keys.{records_in}
use Rattle.paper.specs.Contract.{clauses}
use Rattle.drafting.specs.Drafts.{Drafts}
use Rattle.valve.proofs.Contracts.{contract_fault, text_over, text_lent}
use Rattle.valve.proofs.pacts.pact_in.Goals as goal

-- what the draft says, by the case that it answers

pub returns-in-Err-Fault : goal.returns-in-Err-Fault
returns-in-Err-Fault c =
    let a = c.args in
    let d = subst (Drafts a.names.now a.table.now c.draft.new.nodes (clauses (records_in a.names.now) (length a.table.now) a.contract.now)) (c.in-Err-Fault.is ∙ ap Err c.in-Err-Fault.field-0-is) c.draft.ensures in
    contract_fault _ _ _ _ c.requires.named.0 c.requires.named.1 _ d

pub returns-in-Err-Over : goal.returns-in-Err-Over
returns-in-Err-Over c =
    let a = c.args in
    let d = subst (Drafts a.names.now a.table.now c.draft.new.nodes (clauses (records_in a.names.now) (length a.table.now) a.contract.now)) (c.in-Err-Over.is ∙ ap Err c.in-Err-Over.field-0-is) c.draft.ensures in
    text_over _ _ _ _ c.requires.named.0 c.requires.named.1 d.0 d.1.0 d.1.1

pub returns-in-Ok : goal.returns-in-Ok
returns-in-Ok c =
    let a = c.args in
    let d = subst (Drafts a.names.now a.table.now c.draft.new.nodes (clauses (records_in a.names.now) (length a.table.now) a.contract.now)) c.in-Ok.is c.draft.ensures in
    let p = d.1.1 in
    let lent = c.lend_print.ensures in
    text_lent _ _ _ _ c.requires.named.0 c.requires.named.1 d.0 d.1.0 p.within _ p.stands _ (record { says = lent.says; holds = lent.holds })
