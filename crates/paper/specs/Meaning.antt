-- 01, "Types and meaning", the meaning: what a tree is worth on an entry.
use Rattle.std.specs.Prelude.{ℕ, ◌-◌, ◌^◌, Bool, false, not, cond, ◌&&◌, ◌||◌, List, eqb, ltb, ℤ, pos, neg_ℤ}
use Rattle.std.specs.Bool.{beq}
use Rattle.std.proofs.Math.Option.{Option, none, some}
use Rattle.std.proofs.Math.ListN.{get_elem?}
use Rattle.paper.specs.Numbers.{modulo, same_whole, less_whole}
use Rattle.paper.specs.Tokens.{bytes, same_bytes, Prefix, not_sign, minus_sign, Join, sequel, implies, or_else, and_also, Comparison, equal, unequal, greater, at_least, less, at_most}
use Rattle.paper.specs.Keys.{Kind, exact, ternary, lpm, range, optional, kind_no, Key, find}
use Rattle.paper.specs.Entry.{Match, Entry, is_exact}
use Rattle.paper.specs.Grammar as G
use Rattle.paper.specs.Grammar.{Tree}
use Rattle.paper.specs.Types.{Ty, bool, int, of, same_ty, when, and_then, Field, value, mask, prefix_length, low, high, field_named, has, meet, compares, takes, suits, keeps_bits}

-- a number of bit<W> is the exact match of that number
pub data Value : Type 0 where
  truth : Bool → Value
  whole : ℤ → Value
  matched : Kind → ℕ → Match → Value

abbrev pub ty_of : Value → Ty
ty_of (truth b) = bool
ty_of (whole z) = int
ty_of (matched k w m) = of k w

-- "A number meeting a bare key becomes the match of that one value: mask all ones, prefix length W, or low equal to high."
abbrev pub one_value : Kind → ℕ → ℕ → Match
one_value exact w n = record { first = n; second = 0; length = 0 }
one_value ternary w n = record { first = n; second = 2 ^ w - 1; length = 0 }
one_value lpm w n = record { first = n; second = 0; length = w }
one_value range w n = record { first = n; second = n; length = 0 }
one_value optional w n = record { first = n; second = 2 ^ w - 1; length = 0 }

abbrev pub bits_value : ℕ → ℕ → Value
bits_value w n = matched exact w (one_value exact w n)

-- keys, fields and priority of an entry

abbrev pub bare_value : List Key → Entry → ℕ → Option Value
bare_value ks e k = and_then (get_elem? ks k) (λ x. and_then (get_elem? e.matches k) (λ m. some (matched x.kind x.width m)))

abbrev pub field_in : ℕ → Field → Match → Value
field_in w value m = bits_value w m.first
field_in w mask m = bits_value w m.second
field_in w prefix_length m = whole (pos m.length)
field_in w low m = bits_value w m.first
field_in w high m = bits_value w m.second

abbrev pub field_value : List Key → Entry → Field → ℕ → Option Value
field_value ks e f k =
    and_then (get_elem? ks k) (λ x. and_then (get_elem? e.matches k) (λ m. when (has x.kind f) (field_in x.width f m)))

-- operators; nothing where Types gives no type

abbrev pub not_value : Value → Option Value
not_value (truth b) = some (truth (not b))
not_value (whole z) = none
not_value (matched k w m) = none

abbrev pub negate_value : Value → Option Value
negate_value (truth b) = none
negate_value (whole z) = some (whole (neg_ℤ z))
negate_value (matched k w m) = when (is_exact k) (matched k w (one_value k w (modulo (neg_ℤ (pos m.first)) (2 ^ w))))

abbrev pub prefix_value : Prefix → Value → Option Value
prefix_value not_sign a = not_value a
prefix_value minus_sign a = negate_value a

-- ";" and "&&" mean the same
pub data Connective : Type 0 where
  both either if_then : Connective

abbrev pub connective : Join → Connective
connective sequel = both
connective implies = if_then
connective or_else = either
connective and_also = both

abbrev pub connect : Connective → Bool → Bool → Bool
connect both a b = a && b
connect either a b = a || b
connect if_then a b = not a || b

abbrev pub join_value : Connective → Value → Value → Option Value
join_value o (truth a) (truth b) = some (truth (connect o a b))
join_value o (truth a) (whole z) = none
join_value o (truth a) (matched k w m) = none
join_value o (whole y) b = none
join_value o (matched k w m) b = none

-- comparisons

-- "An int meeting width W is reduced modulo 2^W first. A number meeting a bare key becomes the match of that one value": a value in the
-- type in which it meets another. One of that type stays as it is, and so does a bool, which "never meets a number".
abbrev pub in_type : Ty → Value → Value
in_type bool a = a
in_type int a = a
in_type (of k w) (truth b) = truth b
in_type (of k w) (whole z) = matched k w (one_value k w (modulo z (2 ^ w)))
in_type (of k w) (matched l x m) = matched k w (cond (eqb (kind_no k) (kind_no l)) m (one_value k w m.first))

-- "equal in all fields"
abbrev pub same_match : Match → Match → Bool
same_match m n = eqb m.first n.first && eqb m.second n.second && eqb m.length n.length

-- two bools, two whole numbers, or two matches; no others are of one type
abbrev pub same_value : Value → Value → Bool
same_value (truth a) (truth b) = beq a b
same_value (truth a) (whole z) = false
same_value (truth a) (matched k w m) = false
same_value (whole y) (truth b) = false
same_value (whole y) (whole z) = same_whole y z
same_value (whole y) (matched k w m) = false
same_value (matched k w m) (truth b) = false
same_value (matched k w m) (whole z) = false
same_value (matched k w m) (matched l x n) = same_match m n

-- two whole numbers, or two numbers of bit<W>; ordering takes no others
abbrev pub less_value : Value → Value → Bool
less_value (truth a) b = false
less_value (whole y) (truth b) = false
less_value (whole y) (whole z) = less_whole y z
less_value (whole y) (matched k w m) = false
less_value (matched k w m) (truth b) = false
less_value (matched k w m) (whole z) = false
less_value (matched k w m) (matched l x n) = ltb m.first n.first

-- of two values of one type
abbrev pub holds : Comparison → Value → Value → Bool
holds equal a b = same_value a b
holds unequal a b = not (same_value a b)
holds greater a b = less_value b a
holds at_least a b = not (less_value a b)
holds less a b = less_value a b
holds at_most a b = not (less_value b a)

abbrev pub comparison_value : Comparison → Value → Value → Option Value
comparison_value c a b =
    and_then (meet (ty_of a) (ty_of b)) (λ m. when (compares c (ty_of a) (ty_of b)) (truth (holds c (in_type m a) (in_type m b))))

-- instructions 8 and 9

abbrev pub convert_value : Kind → ℕ → Value → Option Value
convert_value k w a = when (takes (of k w) (ty_of a)) (in_type (of k w) a)

abbrev pub compare_value : Comparison → Value → Value → Option Value
compare_value c a b = when (same_ty (ty_of a) (ty_of b) && suits c (ty_of a)) (truth (holds c a b))

-- trees; nothing where a tree has no type, so nothing of a comparison whose number loses bits (02 j)
unfoldable pub value_of : List Key → Entry → Tree → Option Value
value_of ks e (G.truth at b) = some (truth b)
value_of ks e (G.number at n) = some (whole (pos n.value))
value_of ks e (G.key at w) = and_then (find ks w) (bare_value ks e)
value_of ks e (G.field at w to f) = and_then (find ks w) (λ k. and_then (field_named f) (λ g. field_value ks e g k))
value_of ks e (G.attribute at to f) = when (same_bytes f (bytes "priority")) (whole (pos e.priority))
value_of ks e (G.prefixed at o t) = and_then (value_of ks e t) (prefix_value o)
value_of ks e (G.joined at o l r) = and_then (value_of ks e l) (λ a. and_then (value_of ks e r) (join_value (connective o) a))
value_of ks e (G.compared at c l r) =
    and_then (value_of ks e l)
    (λ a. and_then (value_of ks e r) (λ b. and_then (comparison_value c a b) (when (keeps_bits l (ty_of b) && keeps_bits r (ty_of a)))))

-- of a text that passes, the value is a bool; no other is true
abbrev pub is_true : Option Value → Bool
is_true none = false
is_true (some (truth b)) = b
is_true (some (whole z)) = false
is_true (some (matched k w m)) = false
