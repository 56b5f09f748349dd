-- 02 j, "Numbers that lose bits": what number 23 changes. "Where an int operand built only of a numeral or address, minus signs and
-- parentheses meets width W, its number must lie between −2^(W−1) and 2^W − 1. Otherwise give new number 23, .. such a comparison has no
-- type, so nothing above it is judged. Demand 2 counts such a text as ill-typed. Other ints, such as prefix lengths, are still reduced.
-- .. Old blocks keep their meaning."
use Rattle.std.specs.Prelude.{ℕ, suc, ◌+◌, ◌-◌, ◌^◌, ◌≤◌, ◌≡◌, ◌↔◌, ◌⊎◌, Bool, true, List, pos, negsuc}
use Rattle.std.proofs.Math.Option.{Option, some}
use Rattle.paper.specs.Numbers.{modulo}
use Rattle.paper.specs.Answers.{Answer, ok, refused, ◌>>=◌, in_text}
use Rattle.paper.specs.Tokens.{bytes, same_bytes, Comparison}
use Rattle.paper.specs.Keys.{Key, find, keys}
use Rattle.paper.specs.Entry.{Entry, entry_of}
use Rattle.paper.specs.Grammar as G
use Rattle.paper.specs.Grammar.{Tree}
use Rattle.paper.specs.Types.{Ty, bool, int, when, and_then, field_named, bare_type, field_type, prefix_type, join_type, comparison_type, fits_in, keeps_bits, operator_type, known, named_type, type_of, root_type}
use Rattle.paper.specs.Meaning.{Value, truth, whole, bare_value, field_value, prefix_value, connective, join_value, comparison_value, is_true}
use Rattle.paper.specs.Calls.{sized, tree, Restriction, restriction, judge_answer}

-- typing with another rule for a comparison whose operands have types: of its place, its comparison, its operands and their types
abbrev pub ComparisonRule : Type 0
ComparisonRule = ℕ → Comparison → Tree → Tree → Ty → Ty → Answer Ty

unfoldable pub type_by : ComparisonRule → List Key → Tree → Answer Ty
type_by rule ks (G.truth at b) = ok bool
type_by rule ks (G.number at n) = ok int
type_by rule ks (G.key at w) = known at (and_then (find ks w) (bare_type ks))
type_by rule ks (G.field at w to f) = known at (find ks w) >>= λ k. named_type to (and_then (field_named f) (λ g. field_type ks g k))
type_by rule ks (G.attribute at to f) = named_type to (when (same_bytes f (bytes "priority")) int)
type_by rule ks (G.prefixed at o t) = type_by rule ks t >>= λ a. operator_type at (prefix_type o a)
type_by rule ks (G.joined at o l r) = type_by rule ks l >>= λ a. type_by rule ks r >>= λ b. operator_type at (join_type a b)
type_by rule ks (G.compared at c l r) = type_by rule ks l >>= λ a. type_by rule ks r >>= λ b. rule at c l r a b

unfoldable pub restriction_by : ComparisonRule → List ℕ → List ℕ → Answer Restriction
unfolding type_by tree keys
restriction_by rule text list =
    sized text
    >>= λ _. keys list
    >>= λ ks. tree text
    >>= λ t. type_by rule ks t
    >>= λ a. root_type t a
    >>= λ _. ok (record { keys = ks; root = t })

-- how 01 had it

abbrev pub rule_before : ComparisonRule
rule_before at c l r a b = operator_type at (comparison_type c a b)

unfoldable pub value_before : List Key → Entry → Tree → Option Value
value_before ks e (G.truth at b) = some (truth b)
value_before ks e (G.number at n) = some (whole (pos n.value))
value_before ks e (G.key at w) = and_then (find ks w) (bare_value ks e)
value_before ks e (G.field at w to f) = and_then (find ks w) (λ k. and_then (field_named f) (λ g. field_value ks e g k))
value_before ks e (G.attribute at to f) = when (same_bytes f (bytes "priority")) (whole (pos e.priority))
value_before ks e (G.prefixed at o t) = and_then (value_before ks e t) (prefix_value o)
value_before ks e (G.joined at o l r) = and_then (value_before ks e l) (λ a. and_then (value_before ks e r) (join_value (connective o) a))
value_before ks e (G.compared at c l r) = and_then (value_before ks e l) (λ a. and_then (value_before ks e r) (comparison_value c a))

unfoldable pub judge_before : List ℕ → List ℕ → List ℕ → Answer Bool
unfolding restriction_by entry_of value_before
judge_before text list entry =
    restriction_by rule_before text list
    >>= λ r. entry_of r.keys entry
    >>= λ e. ok (is_true (value_before r.keys e r.root))

-- every number that meets a width in a tree lies in its range: at each comparison whose operands have types that suit it
abbrev pub LosesNone : List Key → Tree → Type 0
LosesNone ks (G.truth at b) = Unit {0}
LosesNone ks (G.number at n) = Unit {0}
LosesNone ks (G.key at w) = Unit {0}
LosesNone ks (G.field at w to f) = Unit {0}
LosesNone ks (G.attribute at to f) = Unit {0}
LosesNone ks (G.prefixed at o t) = LosesNone ks t
LosesNone ks (G.joined at o l r) = LosesNone ks l × LosesNone ks r
LosesNone ks (G.compared at c l r) =
    LosesNone ks l × LosesNone ks r
    × ((a b : Ty) → type_by rule_before ks l ≡ ok a → type_by rule_before ks r ≡ ok b → comparison_type c a b ≡ some bool
    → (keeps_bits l b ≡ true) × (keeps_bits r a ≡ true))

-- A text passes exactly when it passed before and loses no bits at any comparison; it then has the types, and judges entries, as before. A
-- text that passed and loses some is refused with 23, and with nothing else
pub record OnlyLostBits : Type 0 where
  pub types : (ks : List Key) (t : Tree) (a : Ty) → (type_of ks t ≡ ok a) ↔ ((type_by rule_before ks t ≡ ok a) × LosesNone ks t)
  pub passes : (text list : List ℕ) (r : Restriction)
      → (restriction text list ≡ ok r) ↔ ((restriction_by rule_before text list ≡ ok r) × LosesNone r.keys r.root)
  pub refuses : (text list : List ℕ) (r : Restriction) → restriction_by rule_before text list ≡ ok r
      → (restriction text list ≡ ok r) ⊎ ((at : ℕ) × (restriction text list ≡ refused 23 in_text at))
  pub judged : (text list entry : List ℕ) (r : Restriction) → restriction text list ≡ ok r
      → judge_answer text list entry ≡ judge_before text list entry

-- what the range is for: a number in it stands as itself, and a negative one as the W bits that say it, the first of them 1
pub record BitsStand : Type 0 where
  pub itself : (w n : ℕ) → fits_in w (pos n) ≡ true → modulo (pos n) (2 ^ w) ≡ n
  pub below_zero : (w n : ℕ) → 1 ≤ w → fits_in w (negsuc n) ≡ true
      → (modulo (negsuc n) (2 ^ w) + suc n ≡ 2 ^ w) × (2 ^ (w - 1) ≤ modulo (negsuc n) (2 ^ w))
