-- 01, "Types and meaning", the types; refusals 11 to 14, and 23 of 02 j.
-- "Types: bool, int, bit<W>, and ternary, lpm, range, optional of W. A bare exact key is bit<W>; another bare key has its kind's
-- type." So bit<W> is the type of exact at W.
use Rattle.std.specs.Prelude.{ℕ, ◌-◌, ◌^◌, Bool, true, false, not, cond, ◌&&◌, ◌||◌, List, eqb, ltb, ℤ, pos, negsuc, neg_ℤ}
use Rattle.std.proofs.Math.Option.{Option, none, some, map}
use Rattle.std.proofs.Math.ListN.{get_elem?}
use Rattle.paper.specs.Answers.{Answer, ok, refused, ◌>>=◌, require, in_text}
use Rattle.paper.specs.Tokens.{bytes, same_bytes, Prefix, not_sign, minus_sign, Comparison, equal, unequal, greater, at_least, less, at_most}
use Rattle.paper.specs.Keys.{Kind, exact, ternary, lpm, range, optional, kind_no, Key, is_none, find}
use Rattle.paper.specs.Entry.{is_exact}
use Rattle.paper.specs.Grammar.{Tree, truth, number, key, field, attribute, prefixed, joined, compared, place_of}

pub data Ty : Type 0 where
  bool int : Ty
  of : Kind → ℕ → Ty

abbrev pub bits : ℕ → Ty
bits w = of exact w

abbrev pub same_ty : Ty → Ty → Bool
same_ty bool bool = true
same_ty bool int = false
same_ty bool (of k w) = false
same_ty int bool = false
same_ty int int = true
same_ty int (of k w) = false
same_ty (of k w) bool = false
same_ty (of k w) int = false
same_ty (of k w) (of l x) = eqb (kind_no k) (kind_no l) && eqb w x

abbrev pub when : {A : Type 0} → Bool → A → Option A
when true a = some a
when false a = none

abbrev pub and_then : {A B : Type 0} → Option A → (A → Option B) → Option B
and_then none f = none
and_then (some a) f = f a

-- fields: "Fields are those of 004's table."

pub data Field : Type 0 where
  value mask prefix_length low high : Field

abbrev pub field_named : List ℕ → Option Field
field_named w =
    cond (same_bytes w (bytes "value")) (some value)
    (cond (same_bytes w (bytes "mask")) (some mask)
    (cond (same_bytes w (bytes "prefix_length")) (some prefix_length)
    (cond (same_bytes w (bytes "low")) (some low)
    (cond (same_bytes w (bytes "high")) (some high) none))))

abbrev pub has : Kind → Field → Bool
has exact value = true
has exact mask = false
has exact prefix_length = false
has exact low = false
has exact high = false
has ternary value = true
has ternary mask = true
has ternary prefix_length = false
has ternary low = false
has ternary high = false
has lpm value = true
has lpm mask = false
has lpm prefix_length = true
has lpm low = false
has lpm high = false
has range value = false
has range mask = false
has range prefix_length = false
has range low = true
has range high = true
has optional value = true
has optional mask = true
has optional prefix_length = false
has optional low = false
has optional high = false

abbrev pub field_ty : ℕ → Field → Ty
field_ty w value = bits w
field_ty w mask = bits w
field_ty w prefix_length = int
field_ty w low = bits w
field_ty w high = bits w

-- of the key of an index, where there is one

abbrev pub bare_type : List Key → ℕ → Option Ty
bare_type ks k = map (λ (x : Key). of x.kind x.width) (get_elem? ks k)

abbrev pub field_type : List Key → Field → ℕ → Option Ty
field_type ks f k = and_then (get_elem? ks k) (λ x. when (has x.kind f) (field_ty x.width f))

-- operators

-- ""!" takes bool. "-" takes int, or bit<W> modulo 2^W."
abbrev pub not_type : Ty → Option Ty
not_type a = when (same_ty a bool) bool

abbrev pub is_number : Ty → Bool
is_number bool = false
is_number int = true
is_number (of k w) = is_exact k

abbrev pub negate_type : Ty → Option Ty
negate_type a = when (is_number a) a

abbrev pub prefix_type : Prefix → Ty → Option Ty
prefix_type not_sign a = not_type a
prefix_type minus_sign a = negate_type a

-- "The joins take bools."
abbrev pub join_type : Ty → Ty → Option Ty
join_type a b = when (same_ty a bool && same_ty b bool) bool

-- comparisons

-- ""==" and "!=" take equal types (equal in all fields), int with bit<W> or a bare key, or bit<W> with a bare key of that W. .. A bool
-- never meets a number.": each pair that they take, with the type in which the two meet

-- the kinds of two types of one W
abbrev pub meet_kind : Kind → Kind → Option Kind
meet_kind k l = cond (eqb (kind_no k) (kind_no l)) (some k) (cond (is_exact k) (some l) (when (is_exact l) k))

abbrev pub meet : Ty → Ty → Option Ty
meet bool bool = some bool
meet bool int = none
meet bool (of k w) = none
meet int bool = none
meet int int = some int
meet int (of k w) = some (of k w)
meet (of k w) bool = none
meet (of k w) int = some (of k w)
meet (of k w) (of l x) = and_then (meet_kind k l) (λ j. when (eqb w x) (of j w))

-- "Ordering takes int and int, bit<W> and bit<W>, or int and bit<W>."
abbrev pub ordered : Ty → Ty → Bool
ordered bool b = false
ordered int bool = false
ordered int int = true
ordered int (of k w) = is_exact k
ordered (of k w) bool = false
ordered (of k w) int = is_exact k
ordered (of k w) (of l x) = is_exact k && is_exact l && eqb w x

-- whether a comparison takes a pair
abbrev pub compares : Comparison → Ty → Ty → Bool
compares equal a b = not (is_none (meet a b))
compares unequal a b = not (is_none (meet a b))
compares greater a b = ordered a b
compares at_least a b = ordered a b
compares less a b = ordered a b
compares at_most a b = ordered a b

abbrev pub comparison_type : Comparison → Ty → Ty → Option Ty
comparison_type c a b = when (compares c a b) bool

-- instructions 8 and 9

-- "Convert takes int, or for a bare-key type also bit of that W." Nothing is converted to bool or int.
abbrev pub takes : Ty → Ty → Bool
takes bool a = false
takes int a = false
takes (of k w) a = same_ty a int || not (is_exact k) && same_ty a (bits w)

-- "compare then needs equal types": two of one type that the comparison takes
abbrev pub suits : Comparison → Ty → Bool
suits c a = compares c a a

abbrev pub compare_type : Comparison → Ty → Ty → Option Ty
compare_type c a b = when (same_ty a b && suits c a) bool

-- numbers that lose bits (02 j)

-- "an int operand built only of a numeral or address, minus signs and parentheses": its number. Parentheses are no part of a tree
abbrev pub spelled : Tree → Option ℤ
spelled (truth at b) = none
spelled (number at n) = some (pos n.value)
spelled (key at w) = none
spelled (field at w to f) = none
spelled (attribute at to f) = none
spelled (prefixed at not_sign t) = none
spelled (prefixed at minus_sign t) = map neg_ℤ (spelled t)
spelled (joined at o l r) = none
spelled (compared at c l r) = none

-- "its number must lie between −2^(W−1) and 2^W − 1": a number n, or −(n + 1)
abbrev pub fits_in : ℕ → ℤ → Bool
fits_in w (pos n) = ltb n (2 ^ w)
fits_in w (negsuc n) = ltb n (2 ^ (w - 1))

-- no number, none lost: "Other ints, such as prefix lengths, are still reduced"
abbrev pub holds_all : ℕ → Option ℤ → Bool
holds_all w none = true
holds_all w (some z) = fits_in w z

-- "Where an int operand .. meets width W": an operand, beside one of that type
abbrev pub keeps_bits : Tree → Ty → Bool
keeps_bits t bool = true
keeps_bits t int = true
keeps_bits t (of k w) = holds_all w (spelled t)

-- "Otherwise give new number 23, at the operand's place"
abbrev pub bits_kept : Tree → Ty → Answer (Unit {0})
bits_kept t other = require (keeps_bits t other) 23 in_text (place_of t)

-- trees

-- 13: "operator with wrong operand types", at the operator
abbrev pub operator_type : ℕ → Option Ty → Answer Ty
operator_type at none = refused 13 in_text at
operator_type at (some a) = ok a

-- "in the type stage, once both operands have types that suit the operator; such a comparison has no type"
abbrev pub compared_type : ℕ → Comparison → Tree → Tree → Ty → Ty → Answer Ty
compared_type at c l r a b = operator_type at (comparison_type c a b) >>= λ t. bits_kept l b >>= λ _. bits_kept r a >>= λ _. ok t

-- 11: "unknown key", at its token
abbrev pub known : {A : Type 0} → ℕ → Option A → Answer A
known at none = refused 11 in_text at
known at (some a) = ok a

-- 12: "unknown field for that kind, or unknown attribute", at its name
abbrev pub named_type : ℕ → Option Ty → Answer Ty
named_type at none = refused 12 in_text at
named_type at (some a) = ok a

-- "Operands are typed left, right, then the operator. An operator is judged only when its operands have types."
unfoldable pub type_of : List Key → Tree → Answer Ty
type_of ks (truth at b) = ok bool
type_of ks (number at n) = ok int
type_of ks (key at w) = known at (and_then (find ks w) (bare_type ks))
type_of ks (field at w to f) = known at (find ks w) >>= λ k. named_type to (and_then (field_named f) (λ g. field_type ks g k))
type_of ks (attribute at to f) = named_type to (when (same_bytes f (bytes "priority")) int)
type_of ks (prefixed at o t) = type_of ks t >>= λ a. operator_type at (prefix_type o a)
type_of ks (joined at o l r) = type_of ks l >>= λ a. type_of ks r >>= λ b. operator_type at (join_type a b)
type_of ks (compared at c l r) = type_of ks l >>= λ a. type_of ks r >>= λ b. compared_type at c l r a b

-- 14: "whole text not bool", at the root's place
abbrev pub root_type : Tree → Ty → Answer (Unit {0})
root_type t bool = ok tt
root_type t int = refused 14 in_text (place_of t)
root_type t (of k w) = refused 14 in_text (place_of t)

unfoldable pub typed : List Key → Tree → Answer (Unit {0})
unfolding type_of
typed ks t = type_of ks t >>= root_type t
