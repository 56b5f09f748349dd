-- A word goes on for as many bytes as are counted (`word_counted`).
use Rattle.std.proofs.Common.{◌-◌, length, rules, refl, ◌∙◌}
use Rattle.std.proofs.lemmas.Iterator.{YieldsList-from_range}
use Rattle.std.proofs.lemmas.Iterator.Consumers.{count_from_yields_List}
use Rattle.std.proofs.lemmas.Iterator.Search.{YieldsList-from_take_while}
use Rattle.spelling.specs.Words.{goes_on}
use Rattle.spelling.proofs.Words.{word_counted}
use Rattle.spelling.proofs.word.word_more.Goals as goal

pub returns : goal.returns
returns c =
    let s = c.args.s.now in
    let at = c.args.at in
    count_from_yields_List c.take_while.result _ c.count.ensures.ran
    (YieldsList-from_take_while _ (goes_on s) (YieldsList-from_range at (length s) (length s - at) (cc) refl) c.take_while.ensures.closure c.take_while.ensures.done (λ x b q k. search rules))
    ∙ word_counted s at
