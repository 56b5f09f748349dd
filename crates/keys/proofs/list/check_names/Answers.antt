-- `keys::list::check_names` meets its contract: it is the check by the rule of names.
use borrow.Author.Rules.{rules}
use Rattle.paper.specs.Drafting.{name_rule, names_of}
use Rattle.keys.proofs.list.check_names.Goals as goal

pub returns : goal.returns
unfolding names_of
returns c = c.check_by.ensures name_rule (λ k key kept whole told. search rules)
