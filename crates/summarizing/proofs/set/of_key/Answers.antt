-- The bit of a key below 32 is set (`one_set`); for any other there is none (`past_set`).
use mathlib.Core.Path.{refl, sym, ◌∙◌}
use Rattle.number.proofs.Powers.{one_shifted}
use Rattle.paper.proofs.KeySets.{none_set, one_set}
use Rattle.summarizing.proofs.Sets.{past_set}
use Rattle.summarizing.proofs.set.of_key.Goals as goal

pub returns-then-k-ge-MOST : goal.returns-then-k-ge-MOST
returns-then-k-ge-MOST c = record { keys = c.nothing.ensures.keys ∙ none_set ∙ past_set c.args.k c.if-k-ge-MOST.true; priority = c.nothing.ensures.priority }

pub returns : goal.returns
returns c =
    let k = c.args.k in
    record { keys = one_shifted k 32 c.if-k-ge-MOST.false ∙ sym (one_set k c.if-k-ge-MOST.false); priority = refl }
