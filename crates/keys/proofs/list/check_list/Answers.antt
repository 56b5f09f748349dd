-- `keys::list::check_list` meets its contract: it is the check by the rule of layout.
use borrow.Author.Rules.{rules}
use Rattle.paper.specs.Keys.{layout_rule, keys}
use Rattle.keys.proofs.list.check_list.Goals as goal

pub returns : goal.returns
unfolding keys
returns c = c.check_by.ensures layout_rule (λ k key kept whole told. search rules)
