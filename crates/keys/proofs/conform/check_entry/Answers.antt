-- `keys::conform::check_entry` meets its contract: where the length and the priority are right, the records decide (`by_rules`), and a turn
-- of the loop settles the test of one.
use Prim.Native.Nat.{◌<◌, ◌≤◌, ◌^◌}
use mathlib.Core.Path.{sym, ◌∙◌}
use native.Mathlib.Omega.{arith}
use borrow.Author.Rules.{rules}
use Rattle.paper.specs.Keys.{records_in}
use Rattle.paper.specs.Entry.{priority_of, rule_test}
use Rattle.paper.proofs.InTurn.{goes_on, stops, is_over}
use Rattle.keys.specs.Says.{keys_in}
use Rattle.keys.proofs.Entering.{wrong_length, too_high, by_rules, rule_broken, rule_kept}
use Rattle.keys.proofs.conform.check_entry.Goals as goal

pub returns-then-size-n : goal.returns-then-size-n
returns-then-size-n c = sym (wrong_length c.args.list.now c.args.entry.now c.if-size-n.true)

pub returns-then-read-gt-HIGHEST : goal.returns-then-read-gt-HIGHEST
returns-then-read-gt-HIGHEST c =
    let high : 2 ^ 31 ≤ priority_of c.args.entry.now = omega (arith, c.read.ensures) in
    sym (too_high c.args.list.now c.args.entry.now (search rules) high)

pub returns-then-not-match_ok : goal.returns-then-not-match_ok
returns-then-not-match_ok c =
    let list = c.args.list.now in
    let entry = c.args.entry.now in
    let key = c.read-in-loop-k in
    let bad = sym c.match_ok.ensures ∙ c.if-not-match_ok.true in
    let low : priority_of entry < 2 ^ 31 = omega (arith, c.read.ensures) in
    let broken = rule_broken list entry c.loop-k.k (search rules) c.match_at.ensures.result_value key.result key.ensures bad in
    let refused = stops (rule_test (keys_in list) entry) (records_in list) c.loop-k.k (search rules) broken in
    sym (by_rules list entry (search rules) low (sym c.loop-k.invariant ∙ refused))

pub loop-k-preserved : goal.loop-k-preserved
loop-k-preserved c =
    let list = c.args.list.now in
    let entry = c.args.entry.now in
    let key = c.read-in-loop-k in
    let good = sym c.match_ok.ensures ∙ c.if-not-match_ok.false in
    let passes = rule_kept list entry c.loop-k.k (search rules) c.match_at.ensures.result_value key.result key.ensures good in
    sym (goes_on (rule_test (keys_in list) entry) (records_in list) c.loop-k.k (search rules) passes) ∙ c.loop-k.invariant

pub returns : goal.returns
returns c =
    let list = c.args.list.now in
    let entry = c.args.entry.now in
    let low : priority_of entry < 2 ^ 31 = omega (arith, c.read.ensures) in
    let passed = is_over (rule_test (keys_in list) entry) (records_in list) c.loop-k.k (search rules) in
    sym (by_rules list entry (search rules) low (sym c.loop-k.invariant ∙ passed))
