-- Checkers of types that are wrong about numbers that lose bits: one that reduces them still, one that looks at the right operand alone,
-- one that gives 23 at the operator, and one that takes no number below zero. Each types by a rule of its own for a comparison, and all else
-- as it should. As programs they stand in WrongPrograms, and there they are shown to be real.
use Rattle.std.specs.Prelude.{ℕ, ◌^◌, ◌≡◌, Bool, true, false, List, ltb, ℤ, pos, negsuc, Result}
use Rattle.paper.specs.declared.Refusal.{Refusal}
use Rattle.std.proofs.Math.Option.{Option, none, some}
use Rattle.paper.specs.Answers.{ok, ◌>>=◌, require, in_text, says}
use Rattle.paper.specs.Grammar.{Tree, place_of}
use Rattle.paper.specs.Types.{Ty, bool, int, of, comparison_type, spelled, keeps_bits, bits_kept, operator_type}
use Rattle.paper.specs.BitsKept.{ComparisonRule, rule_before, restriction_by}
use Rattle.paper.specs.Promised.{Bytes, CheckPromised}
use Rattle.paper.specs.Demands.{CheckedRight}

-- what is answered for a text and a list
abbrev pub Checker : Type 0
Checker = List ℕ → List ℕ → Result (Unit {0}) Refusal

-- what demand 2 asks of it; and its promise, which has the number and the place
abbrev pub ChecksAllRight : Checker → Type 0
ChecksAllRight x = (text list : List ℕ) → Bytes text → Bytes list → CheckedRight text list (x text list)

abbrev pub ChecksAsPromised : Checker → Type 0
ChecksAsPromised x = (text list : List ℕ) → Bytes text → Bytes list → CheckPromised text list (x text list)

abbrev pub TypesBy : ComparisonRule → Checker → Type 0
TypesBy rule x =
    (text list : List ℕ) → Bytes text → Bytes list → says (x text list) ≡ (restriction_by rule text list >>= λ _. ok tt)

abbrev pub ReducesStill : Checker → Type 0
ReducesStill = TypesBy rule_before

abbrev pub right_alone : ComparisonRule
right_alone at c l r a b = operator_type at (comparison_type c a b) >>= λ t. bits_kept r a >>= λ _. ok t

abbrev pub LooksRight : Checker → Type 0
LooksRight = TypesBy right_alone

abbrev pub at_operator : ComparisonRule
at_operator at c l r a b =
    operator_type at (comparison_type c a b)
    >>= λ t. require (keeps_bits l b) 23 in_text at
    >>= λ _. require (keeps_bits r a) 23 in_text at
    >>= λ _. ok t

abbrev pub PlacesAtOperator : Checker → Type 0
PlacesAtOperator = TypesBy at_operator

-- "between 0 and 2^W − 1"
abbrev pub unsigned : ℕ → Option ℤ → Bool
unsigned w none = true
unsigned w (some (pos n)) = ltb n (2 ^ w)
unsigned w (some (negsuc n)) = false

abbrev pub keeps_unsigned : Tree → Ty → Bool
keeps_unsigned t bool = true
keeps_unsigned t int = true
keeps_unsigned t (of k w) = unsigned w (spelled t)

abbrev pub above_zero : ComparisonRule
above_zero at c l r a b =
    operator_type at (comparison_type c a b)
    >>= λ t. require (keeps_unsigned l b) 23 in_text (place_of l)
    >>= λ _. require (keeps_unsigned r a) 23 in_text (place_of r)
    >>= λ _. ok t

abbrev pub TakesNoneBelowZero : Checker → Type 0
TakesNoneBelowZero = TypesBy above_zero

-- the claim

pub record WrongCheckersFail : Type 0 where
  pub reducing : (x : Checker) → ReducesStill x → ¬ ChecksAllRight x
  pub looking_right : (x : Checker) → LooksRight x → ¬ ChecksAllRight x
  pub at_operator_lem : (x : Checker) → PlacesAtOperator x → ¬ ChecksAsPromised x
  pub above_zero_lem : (x : Checker) → TakesNoneBelowZero x → ¬ ChecksAllRight x
