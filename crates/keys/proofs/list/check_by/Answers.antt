-- `keys::list::check_by` meets its contract: where the length is right, the records decide (`by_records`), and a turn of the loop settles the
-- test of one.
use mathlib.Core.Path.{sym, ◌∙◌}
use borrow.Author.Rules.{rules}
use Rattle.paper.specs.Keys.{records_in, record_test}
use Rattle.paper.proofs.InTurn.{goes_on, stops, is_over}
use Rattle.keys.proofs.Listing.{ragged, too_long, by_records, broken, repeated, new}
use Rattle.keys.proofs.list.check_by.Goals as goal
use Rattle.keys.proofs.list.check_by.Goals.{then-size-ne0-via-then-size-ne0, then-size-ne0-via-else-size-ne0+then-size}

pub returns-then-size-ne0 : goal.returns-then-size-ne0
returns-then-size-ne0 g c rule asks =
    elim c.then-size-ne0.branch [
      | then-size-ne0-via-then-size-ne0 w ↦ sym (ragged rule c.args.list.now w.if-size-ne0.true)
      | then-size-ne0-via-else-size-ne0+then-size w ↦ sym (too_long rule c.args.list.now w.if-size-ne0.false w.if-size.true)
    ]

pub returns-then-not-keeps : goal.returns-then-not-keeps
returns-then-not-keeps g c rule asks =
    let list = c.args.list.now in
    let k = c.loop-k.k in
    let key = c.record_at-key in
    let bad = sym (asks k key.result _ key.ensures.result_len c.keeps.ensures) ∙ c.if-not-keeps.true in
    let refused = stops (record_test rule list) (records_in list) k (search rules) (broken rule list k key.ensures.result_value bad) in
    sym (by_records rule list (search rules) (search rules) (sym (c.loop-k.invariant rule asks) ∙ refused))

pub returns-then-is_some : goal.returns-then-is_some
returns-then-is_some g c rule asks =
    let list = c.args.list.now in
    let k = c.loop-k.k in
    let key = c.record_at-key in
    let there = sym c.is_some.ensures ∙ c.if-is_some.true in
    let good = sym (asks k key.result _ key.ensures.result_len c.keeps.ensures) ∙ c.if-not-keeps.false in
    let again = repeated rule list k key.ensures.result_value good c.name_of.ensures _ there c.find_among.ensures in
    let refused = stops (record_test rule list) (records_in list) k (search rules) again in
    sym (by_records rule list (search rules) (search rules) (sym (c.loop-k.invariant rule asks) ∙ refused))

pub loop-k-preserved : goal.loop-k-preserved
loop-k-preserved g c rule asks =
    let list = c.args.list.now in
    let k = c.loop-k.k in
    let key = c.record_at-key in
    let good = sym (asks k key.result _ key.ensures.result_len c.keeps.ensures) ∙ c.if-not-keeps.false in
    let nowhere = sym c.is_some.ensures ∙ c.if-is_some.false in
    let passes = new rule list k key.ensures.result_value good c.name_of.ensures _ nowhere c.find_among.ensures in
    sym (goes_on (record_test rule list) (records_in list) k (search rules) passes) ∙ c.loop-k.invariant rule asks

pub returns : goal.returns
returns g c rule asks =
    let list = c.args.list.now in
    let passed = is_over (record_test rule list) (records_in list) c.loop-k.k (search rules) in
    sym (by_records rule list (search rules) (search rules) (sym (c.loop-k.invariant rule asks) ∙ passed))
