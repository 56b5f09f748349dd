-- As many bytes stand before the gap as are counted (`before_counted`).
use Rattle.std.proofs.Common.{not, drop, length, arith, rules, ◌∙◌}
use Rattle.std.proofs.lemmas.Iterator.{YieldsList-from_range}
use Rattle.std.proofs.lemmas.Iterator.Consumers.{count_from_yields_List}
use Rattle.std.proofs.lemmas.Iterator.Search.{YieldsList-from_take_while}
use Rattle.addresses.specs.Reads.{gap_at}
use Rattle.addresses.proofs.Strings.{before_counted}
use Rattle.addresses.proofs.ipv6.before_gap.Goals as goal

pub returns : goal.returns
returns c =
    let s = c.args.string.now in
    count_from_yields_List c.take_while.result _ c.count.ensures.ran
    (YieldsList-from_take_while _ (λ k. not (gap_at (drop k s))) (YieldsList-from_range 0 (length s) (length s) (cc) (omega arith)) c.take_while.ensures.closure c.take_while.ensures.done (λ x b q k. search rules))
    ∙ before_counted s
