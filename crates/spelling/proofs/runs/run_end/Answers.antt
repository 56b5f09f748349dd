-- The run is as long as the bytes that are taken (`span_taken`).
use Rattle.std.proofs.Common.{drop, arith, rules, ap, ◌∙◌, length-drop}
use Rattle.std.proofs.lemmas.Iterator.{YieldsList-from_slice}
use Rattle.std.proofs.lemmas.Iterator.Consumers.{count_from_yields_List}
use Rattle.std.proofs.lemmas.Iterator.Search.{YieldsList-from_take_while}
use Rattle.std.specs.Slice.Iter.{iter_rest}
use Rattle.spelling.specs.Runs.{in_run}
use Rattle.spelling.proofs.Spans.{span_taken, span_within}
use Rattle.spelling.proofs.Steps.{to_end}
use Rattle.spelling.proofs.runs.run_end.Goals as goal

pub returns : goal.returns
returns c =
    let a = c.args in
    let p = in_run a.run in
    let rest = drop a.at a.text.now in
    let taken =
    count_from_yields_List c.take_while.result _ c.count.ensures.ran
    (YieldsList-from_take_while _ p (YieldsList-from_slice rest (ap iter_rest c.take_while.ensures.source ∙ c.iter.ensures.rest ∙ to_end a.text.now a.at)) c.take_while.ensures.closure c.take_while.ensures.done (λ x b q k. search rules))
    ∙ span_taken p rest in
    let inside = span_within p rest in
    record { far = omega arith; inside = omega (arith, length-drop a.at a.text.now) }
