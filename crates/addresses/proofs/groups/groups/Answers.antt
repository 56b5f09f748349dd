-- A bad part decides (`one_bad`); a good one goes after those before it (`read_more`); at the end they are all parts (`split_parts`).
use Rattle.std.proofs.Common.{◌≡◌, ℕ, eqb, refl, sym, ap, ◌∙◌, arith, rules, tests, mod-eq_of_lt, length, map}
use Rattle.std.proofs.lemmas.Iterator.Consumers.{YieldsList-turn, YieldsList-end}
use Rattle.std.proofs.lemmas.Iterator.Splits.{YieldsList-from_slice_split}
use Rattle.std.proofs.lemmas.List.{length_push, map-append}
use Rattle.std.specs.Slice.Iter.{split_rest, split_done, split_callee}
use Rattle.std.specs.List.{slice_split}
use Rattle.number.specs.Values.{value}
use Rattle.number.proofs.Limbs.{value_lt}
use Rattle.addresses.specs.Reads.{scheme, separates, parts_of}
use Rattle.addresses.proofs.Turns.{split_parts, one_bad, read_more, parts_few}
use Rattle.addresses.proofs.groups.groups.Goals as goal

pub loop-part-init : goal.loop-part-init
loop-part-init c = (refl, (refl, sym (mod-eq_of_lt (value_lt c.args.before (search rules)))))

pub returns-then-not-is_part : goal.returns-then-not-is_part
returns-then-not-is_part c =
    let sep = c.separator-separator in
    let made = c.into_iter-part-iterator.ensures.into_iter_gives in
    let split = c.split-part-items.ensures in
    let turn = YieldsList-turn (YieldsList-from_slice_split _ (λ b. eqb b sep.result) c.args.string.now (ap split_rest made ∙ split.rest) (ap split_done made ∙ split.done) (ap split_callee made ∙ split.closure) (λ x b q k. search (rules, tests))) c.loop-part.yielded c.loop-part.part-iterator c.loop-part.yielded_by c.next.result c.next.new.self c.in-Some.part c.in-Some.is c.next.ensures.steps in
    let whole : slice_split (λ b. eqb b sep.result) c.args.string.now ≡ parts_of (scheme c.args.kind) c.args.string.now =
    ap (λ (s : ℕ). slice_split (λ b. eqb b s) c.args.string.now) sep.ensures ∙ split_parts (λ b. eqb b (separates (scheme c.args.kind))) c.args.string.now in
    rw (← whole) (one_bad (scheme c.args.kind) _ (length c.loop-part.yielded) c.in-Some.part.now turn.0 turn.1 (sym c.is_part.ensures ∙ c.if-not-is_part.true))

pub loop-part-preserved : goal.loop-part-preserved
loop-part-preserved c =
    let k = scheme c.args.kind in
    let read = map (λ p. p.now) c.loop-part.yielded in
    let good = sym c.is_part.ensures ∙ c.if-not-is_part.false in
    let more = read_more k (value c.args.before) read (value c.loop-part.number) c.in-Some.part.now c.loop-part.invariant.1 good c.scale.ensures c.base.ensures.0 c.value_of.ensures c.wrapping_grow-number.ensures in
    (rw (length_push, c.loop-part.invariant.0) refl, rw map-append more)

pub returns : goal.returns
returns c =
    let k = scheme c.args.kind in
    let sep = c.separator-separator in
    let made = c.into_iter-part-iterator.ensures.into_iter_gives in
    let split = c.split-part-items.ensures in
    let end = YieldsList-end (YieldsList-from_slice_split _ (λ b. eqb b sep.result) c.args.string.now (ap split_rest made ∙ split.rest) (ap split_done made ∙ split.done) (ap split_callee made ∙ split.closure) (λ x b q k. search (rules, tests))) c.loop-part.yielded c.loop-part.part-iterator c.loop-part.yielded_by c.next.result c.next.new.self c.in-None.is c.next.ensures.steps in
    let whole : slice_split (λ b. eqb b sep.result) c.args.string.now ≡ parts_of k c.args.string.now =
    ap (λ (s : ℕ). slice_split (λ b. eqb b s) c.args.string.now) sep.ensures ∙ split_parts (λ b. eqb b (separates k)) c.args.string.now in
    let read = rw (end.0 ∙ whole) at c.loop-part.invariant.1 in
    let counted : c.loop-part.count ≡ length (parts_of k c.args.string.now) = c.loop-part.invariant.0 ∙ end.1 ∙ ap length whole in
    record { told = read.0; counted = counted; grown = read.1; few = omega (arith, parts_few k c.args.string.now read.0) }
