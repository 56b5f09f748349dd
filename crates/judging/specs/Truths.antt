-- The truth that is told of a value, and joins that their left operand settles.
use Rattle.std.specs.Prelude.{◌≡◌, Bool, true, false, not}
use Rattle.std.proofs.Math.Option.{Option, none, some}
use Rattle.paper.specs.Meaning.{Value, truth, whole, matched, Connective, both, either, if_then}

-- a bool, where the paper gives a truth
abbrev pub IsTruth : Option Value → Bool → Type 0
IsTruth none b = Unit {0}
IsTruth (some (truth a)) b = b ≡ a
IsTruth (some (whole z)) b = Unit {0}
IsTruth (some (matched k w m)) b = Unit {0}

-- whether a join is settled by its left operand, whatever the right one is; and what it is worth then

abbrev pub settles : Connective → Bool → Bool
settles both a = not a
settles either a = a
settles if_then a = not a

abbrev pub settled : Connective → Bool
settled both = false
settled either = true
settled if_then = true
