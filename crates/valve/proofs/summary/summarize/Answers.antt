-- `valve::summarize` meets its contract: the refusal of text or list (`not_passed`), or what the tree at the root names (`summary_of`).
use borrow.Author.Rules.{rules}
use Rattle.paper.specs.Promised.{SummarizePromised}
use Rattle.valve.proofs.Rooting.{by_root}
use Rattle.valve.proofs.Summaries.{not_passed}
use Rattle.valve.proofs.summary.summarize.Goals as goal

pub returns : goal.returns
returns c =
    by_root _ _ _ (SummarizePromised c.args.text.now c.args.list.now) c.with_root.result c.with_root.ensures
    (λ a f. let rooted = f.rooted in let gives = f.gives in search rules)
    (λ v e. not_passed _ _ v e)
