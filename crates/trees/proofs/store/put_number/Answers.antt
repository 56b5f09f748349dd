-- `trees::put_number` meets its contract: the third word is the radix of the base, and four are those of the number (`magnitude_words`).
use Prim.Native.Nat.{ℕ, ◌*◌}
use mathlib.Core.Path.{sym, ap, ◌∙◌}
use lib.Seq.{sets}
use Rattle.number.specs.Values.{limb}
use Rattle.number.specs.Bases.{base_meant}
use Rattle.trees.specs.Words.{number_words}
use Rattle.trees.proofs.Stores.{magnitude_words}
use borrow.Author.Rules.{rules}
use Rattle.trees.proofs.store.put_number.Goals as goal

pub returns : goal.returns
returns c =
    let a = c.args in
    let m = a.literal.number in
    c.put.ensures
    ∙ ap (λ (x : ℕ). sets a.nodes.now (a.node * 8) (number_words a.place x (limb m 0) (limb m 1) (limb m 2) (limb m 3))) c.radix.ensures.is
    ∙ ap (sets a.nodes.now (a.node * 8)) (sym (magnitude_words m (search rules) a.node a.place (base_meant a.literal.base)))
