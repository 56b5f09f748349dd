-- `drafting::contracts::draft` meets its contract. The invariant of its loop: what the bytes from the next one on say of what stands before it is
-- what the whole contract says (`Read`). A turn reads a byte.
use Rattle.std.proofs.Common.{◌≡◌, ℕ, length, refl, sym, ap, ◌∙◌, arith}
use Rattle.paper.specs.Contract.{ended}
use Rattle.drafting.proofs.Walk.{read_none, read_on, read_fault, read_all, drafts_same}
use Rattle.drafting.proofs.contracts.draft.Goals as goal

pub loop-i-init : goal.loop-i-init
loop-i-init c =
    let a = c.args in
    (refl, read_none a.contract.now a.table.now a.names.now _ _ (c.start-front.ensures a.names.now a.table.now a.nodes.now))

pub returns-in_default : goal.returns-in_default
returns-in_default c =
    let r = c.loop-i.invariant.1 in
    let a = c.args in
    read_fault a.contract.now a.table.now a.names.now _ _ c.loop-i.i r c.loop-i-test.true _ c.in_default.is
    (c.with_byte.ensures c.loop-i.i r.front r.stands)

pub loop-i-preserved : goal.loop-i-preserved
loop-i-preserved c =
    let (kept, r) = c.loop-i.invariant in
    let a = c.args in (
      c.with_byte.auto.nodes ∙ kept,
      read_on a.contract.now a.table.now a.names.now _ _ c.loop-i.i r c.loop-i-test.true _ _ c.in-Some.is
          (c.with_byte.ensures c.loop-i.i r.front r.stands),
    )

pub returns : goal.returns
returns c =
    let r = c.loop-i.invariant.1 in
    let a = c.args in
    let all : c.loop-i.i ≡ length a.contract.now = omega arith in
    drafts_same a.names.now a.table.now _ c.ended.result
    (ap (λ (n : ℕ). ended n r.front r.front.conjunction r.front.comparator) (sym all)
    ∙ read_all a.contract.now a.table.now a.names.now _ _ c.loop-i.i r c.loop-i-test.false)
    (c.ended.ensures a.names.now a.table.now r.front r.stands)
