-- No end of the line is met in so many bytes exactly where the line goes on through them (`not_ended`).
use Rattle.std.proofs.Common.{◌≡◌, ◌+◌, ◌-◌, ◌||◌, false, not, eqb, drop, arith, rules, tests, ap, refl, ◌∙◌, take, length-drop}
use Rattle.std.proofs.lemmas.Fn.{fold_over, slice_gives, fronts}
use Rattle.std.proofs.lemmas.List.Sums.{fold_push}
use Rattle.std.specs.List.{fold}
use Rattle.spelling.specs.Runs.{stride}
use Rattle.spelling.proofs.Spans.{not_ended}
use Rattle.spelling.proofs.runs.goes_through.Goals as goal

pub returns : goal.returns
returns c =
    let n : c.args.at + stride - c.args.at ≡ stride = omega arith in
    let rest = drop c.args.at c.args.text.now in
    let met =
    fold_over fronts (λ y. y.now) _ (λ ys e. e ≡ fold (λ ended b. ended || eqb b 10) false ys) _
    (λ ys a x b f' j k. rw (fold_push, ← j) (search (rules, tests)))
    _ _ _ _ (slice_gives c.iter.result) refl c.fold.ensures.ran in
    let looked = c.iter.ensures.rest ∙ ap (λ k. take k rest) n in
    ap not (rw looked at met) ∙ not_ended (λ b. eqb b 10) rest stride false (omega (arith, length-drop c.args.at c.args.text.now))
