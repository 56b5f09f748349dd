-- The bits of either are the union (`or_set`), and the mark is there where either has it.
use mathlib.Core.Path.{sym, ap, ap₂, ◌∙◌}
use mathlib.Core.Bool.{Bool, ◌||◌}
use lib.Bits.{bit_or}
use Rattle.paper.proofs.KeySets.{or_set}
use Rattle.summarizing.proofs.set.either.Goals as goal

pub returns-then-a : goal.returns-then-a
returns-then-a c p q m n a b =
    record {
      keys = ap₂ bit_or a.keys b.keys ∙ or_set p q;
      priority = c.if-a.true ∙ sym (ap (λ (x : Bool). x || n) (sym a.priority ∙ c.if-a.true));
    }

pub returns-else-a : goal.returns-else-a
returns-else-a c p q m n a b =
    record {
      keys = ap₂ bit_or a.keys b.keys ∙ or_set p q;
      priority = b.priority ∙ sym (ap (λ (x : Bool). x || n) (sym a.priority ∙ c.if-a.false));
    }
