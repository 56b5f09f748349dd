-- One of the two pieces of an explanation, handed back alone: with some other piece beside it, it is what the promised explanation shows.
use Rattle.std.specs.Prelude.{ℕ, List}
use Rattle.std.specs.Borrow.{Bor}
use Rattle.paper.specs.declared.Explanation.{Explanation}
use Rattle.paper.specs.Pieces.{ExplainedPromised}

module _ (text list : Bor (List ℕ)) (entry : List ℕ) where
  abbrev pub TextShown : Bor (List ℕ) → Type 0
  TextShown piece = (why : Explanation) × ((name : Bor (List ℕ)) × ExplainedPromised text list entry why piece name)

  abbrev pub ListShown : Bor (List ℕ) → Type 0
  ListShown name = (why : Explanation) × ((piece : Bor (List ℕ)) × ExplainedPromised text list entry why piece name)
