-- The functions of the ladder meet their contracts, each by those of the functions that it calls.
use Rattle.std.proofs.Common.{refl, sym, ◌∙◌, false, arith}
use Rattle.grammar.specs.Ladder as L
use Rattle.grammar.proofs.Outcomes.{took, took_on, found, absent, pass_up, same_out, started, continued}
use Rattle.grammar.proofs.Operands.{paren_up, paren_close, leaf_only, leaf_first, level_up, level_took, level_not}
use Rattle.grammar.proofs.Operators.{operating, no_operator}
use Rattle.grammar.proofs.Levels.{rung_runs, going_start, going_stop, going_end, going_next, going_last, turned_on}
use Rattle.grammar.proofs.Climbing.{tighter_lower, from_tightest, within_height, below_goal, first_up, climbs_up, climbed_there, climbed_on}
use Rattle.grammar.proofs.ladder.+atom_chain_further_operand_prefix.Goals as goal

-- `atom`: a leaf, or a sequence in parentheses, with a level less and after a token

pub atom-returns-in_default : goal.atom-returns-in_default
atom-returns-in_default t c =
    same_out _ _ _ _ _ _ _ _ (leaf_only _ _ _ _ (absent _ _ _ _ _ c.next_in.ensures c.in_default.is)) c.leaf.result c.leaf.ensures

pub atom-returns-in_default-inner : goal.atom-returns-in_default-inner
atom-returns-in_default-inner t c =
    let f = found c.next_in.ensures c.in-Some.is in
    rw c.again.ensures
    (pass_up _ _ _ _ _ _ _ _ _ _ _ _ (paren_up _ _ _ _ _ _ f) c.chain-inner.result c.in_default-inner.is
    (started (L.sequence false) _ _ _ c.chain-inner.result c.inside-onward.ensures c.chain-inner.ensures))

pub atom-returns : goal.atom-returns
atom-returns t c =
    let f = found c.next_in.ensures c.in-Some.is in
    let h = took_on (L.sequence false) c.inside-onward.ensures c.chain-inner.ensures c.in-Ok.is in
    paren_close _ _ _ _ _ _ f h c.close.result c.close.ensures

-- `chain`: at each turn of its loop the level reads on, and its tree is an operand of the next looser one, or the answer; what it
-- refuses is refused

pub chain-returns-in_default : goal.chain-returns-in_default
chain-returns-in_default t c =
    rw c.again.ensures
    (pass_up _ _ _ _ _ _ _ _ _ _ _ _ (first_up _ _ _ c.args.rung) c.operand-first.result c.in_default.is c.operand-first.ensures)

pub chain-loop-read-init : goal.chain-loop-read-init
chain-loop-read-init t c = record { kept = refl; within = from_tightest c.args.rung; reads = λ before h. h }

pub chain-returns-in_default-more : goal.chain-returns-in_default-more
chain-returns-in_default-more t c =
    let level = c.loop-read.level in
    let h = c.loop-read.invariant.reads _ (took c.operand-first.ensures c.in-Ok.is) in
    rw c.again-in_default-more.ensures
    (pass_up _ _ _ _ _ _ _ _ _ _ _ _ (climbs_up _ _ _ c.loop-read.invariant.within) c.further-more.result c.in_default-more.is
    (continued (L.operand_of level) (L.rung_of level) _ _ _ c.further-more.result c.moved-onward.ensures c.further-more.ensures _ _ _ h))

pub chain-returns-then-height : goal.chain-returns-then-height
chain-returns-then-height t c =
    let level = c.loop-read.level in
    let h = c.loop-read.invariant.reads _ (took c.operand-first.ensures c.in-Ok.is) in
    climbed_there c.loop-read.invariant (sym c.height.ensures ∙ c.if-height.true ∙ c.height-in-loop-read.ensures)
    (took (continued (L.operand_of level) (L.rung_of level) _ _ _ c.further-more.result c.moved-onward.ensures c.further-more.ensures _ _ _ h) c.in-Ok-more.is)

-- where the goal is not reached, the next looser rung is on the way

pub chain-loop-read-smaller : goal.chain-loop-read-smaller
chain-loop-read-smaller t c =
    let level = c.loop-read.level in
    let next = below_goal c.loop-read.invariant.within (λ e. c.if-height.false (c.height.ensures ∙ e ∙ sym c.height-in-loop-read.ensures)) in
    rw c.looser-level.ensures (omega (arith, tighter_lower (L.looser c.args.rung level) level next.0, within_height next.1))

pub chain-loop-read-preserved : goal.chain-loop-read-preserved
chain-loop-read-preserved t c =
    let level = c.loop-read.level in
    let next = below_goal c.loop-read.invariant.within (λ e. c.if-height.false (c.height.ensures ∙ e ∙ sym c.height-in-loop-read.ensures)) in
    rw c.looser-level.ensures
    (climbed_on c.loop-read.invariant next (omega arith) λ before h.
    took (continued (L.operand_of level) (L.rung_of level) _ _ _ c.further-more.result c.moved-onward.ensures c.further-more.ensures _ _ _ h) c.in-Ok-more.is)

-- `further`: at each turn of its loop an operator of the rung is the next token, which goes, or the chain ends; of a rung with one
-- operator at most the first turn is the last

pub further-returns-in_default : goal.further-returns-in_default
further-returns-in_default t c =
    λ at b first h.
    let w = c.loop-sign.invariant.going _ _ _ _ (going_start _ (rung_runs c.args.rung _ _) h) in
    going_stop w (no_operator _ _ _ c.args.rung (absent _ _ _ _ _ c.operator_at.ensures c.in_default.is))

pub further-returns-then-ends_after : goal.further-returns-then-ends_after
further-returns-then-ends_after t c =
    let f = found c.operator_at.ensures c.in-Some.is in
    λ at b first h.
    let w = c.loop-sign.invariant.going _ _ _ _ (going_start _ (rung_runs c.args.rung _ _) h) in
    going_end w (operating _ _ _ c.args.rung f) (sym c.ends_after.ensures ∙ c.if-ends_after.true)

pub further-returns-in_default-more : goal.further-returns-in_default-more
further-returns-in_default-more t c =
    let f = found c.operator_at.ensures c.in-Some.is in
    λ at b first h.
    let w = c.loop-sign.invariant.going _ _ _ _ (going_start _ (rung_runs c.args.rung _ _) h) in
    rw c.again.ensures
    (pass_up _ _ _ _ _ _ _ _ _ _ _ _ (going_next w (operating _ _ _ c.args.rung f) (sym c.ends_after.ensures ∙ c.if-ends_after.false)) c.operand-more.result c.in_default-more.is
    (started (L.operand_of c.args.rung) _ _ _ c.operand-more.result c.moved-onward.ensures c.operand-more.ensures))

pub further-returns-then-at_most_once : goal.further-returns-then-at_most_once
further-returns-then-at_most_once t c =
    let f = found c.operator_at.ensures c.in-Some.is in
    let k = took_on (L.operand_of c.args.rung) c.moved-onward.ensures c.operand-more.ensures c.in-Ok.is in
    λ at b first h.
    let w = c.loop-sign.invariant.going _ _ _ _ (going_start _ (rung_runs c.args.rung _ _) h) in
    going_last w (operating _ _ _ c.args.rung f) (sym c.ends_after.ensures ∙ c.if-ends_after.false) k c.put_joined.ensures (sym c.at_most_once.ensures ∙ c.if-at_most_once.true)

pub further-loop-sign-preserved : goal.further-loop-sign-preserved
further-loop-sign-preserved t c =
    let f = found c.operator_at.ensures c.in-Some.is in
    let k = took_on (L.operand_of c.args.rung) c.moved-onward.ensures c.operand-more.ensures c.in-Ok.is in
    turned_on c.loop-sign.invariant (operating _ _ _ c.args.rung f) (sym c.ends_after.ensures ∙ c.if-ends_after.false) (sym c.at_most_once.ensures ∙ c.if-at_most_once.false) k c.put_joined.ensures

-- `operand`: what opens no level is a leaf

pub operand-returns-in_default-next_in : goal.operand-returns-in_default-next_in
operand-returns-in_default-next_in t c =
    rw (sym c.tighter.ensures ∙ c.in_default.is)
    (same_out _ _ _ _ _ _ _ _ (leaf_first _ _ _ _ (absent _ _ _ _ _ c.next_in.ensures c.in_default-next_in.is)) c.leaf.result c.leaf.ensures)

-- `prefix`: an operator and what it stands before, with a level less; or an atom

pub prefix-returns-in_default : goal.prefix-returns-in_default
prefix-returns-in_default t c =
    same_out _ _ _ _ _ _ _ _ (level_not _ c.if-from-eq0.false _ _ _ (absent _ _ _ _ _ c.next_in.ensures c.in_default.is)) c.atom.result c.atom.ensures

pub prefix-returns-in_default-operand : goal.prefix-returns-in_default-operand
prefix-returns-in_default-operand t c =
    let f = found c.next_in.ensures c.in-Some.is in
    rw c.again.ensures
    (pass_up _ _ _ _ _ _ _ _ _ _ _ _ (level_up _ c.if-from-eq0.false _ _ _ f) c.prefix-operand.result c.in_default-operand.is
    (started L.prefix _ _ _ c.prefix-operand.result c.inside-onward.ensures c.prefix-operand.ensures))

pub prefix-returns : goal.prefix-returns
prefix-returns t c =
    let f = found c.next_in.ensures c.in-Some.is in
    let h = took_on L.prefix c.inside-onward.ensures c.prefix-operand.ensures c.in-Ok.is in
    level_took _ c.if-from-eq0.false _ _ _ f h c.put_prefixed.ensures
