-- The instructions of a tree's code are in range: its indices are those of keys, its widths those of keys, and each skip lands directly
-- after its join, which stands in the code.
use Prim.Native.Nat.{ℕ, zero, suc, ◌+◌, ◌^◌, ◌≤◌, ◌<◌}
use native.Mathlib.Omega.{arith}
use mathlib.Core.Bool.{Bool, true, false, cond, ◌&&◌}
use mathlib.Core.Option.{Option, none, some}
use mathlib.Core.List.{List, [], ◌∷◌, ◌++◌}
use lib.ListN.{length, length-append, get_elem?}
use lib.Dec.{eqb}
use Rattle.paper.specs.Answers.{Answer, ok, refused, ◌>>=◌}
use Rattle.paper.specs.Tokens.{bytes, same_bytes, Prefix, not_sign, minus_sign}
use Rattle.paper.specs.Keys.{Key, find_from, find}
use Rattle.paper.specs.Grammar.{Tree, truth, number, key, field, attribute, prefixed, joined, compared}
use Rattle.paper.specs.Types.{Ty, bool, int, of, same_ty, when, and_then, Field, value, mask, prefix_length, low, high, has, field_ty, field_named, bare_type, field_type, prefix_type, is_number, join_type, meet_kind, meet, compares, comparison_type, bits_kept, operator_type, known, named_type, type_of}
use Rattle.paper.specs.Meaning.{connective}
use Rattle.paper.specs.Code.{push_key, push_field, compare}
use Rattle.paper.specs.Translating.{has_type, meeting, convert_to, changed, conversion, operation, pushing, code_of}
use Rattle.paper.specs.BlocksRoundTrip.{All, Width, Ranged, Listed, NumbersFit, CodeInRange}
use Rattle.paper.proofs.Basics.{If, if_then, if_when, any, map_then}
use Rattle.paper.proofs.Stages.{Of, of_bind}
use Rattle.paper.proofs.RangedCode.{ranged_append, join_size, join_ranged}

-- types of a width from 1 to 128

abbrev Narrow : Ty → Type 0
Narrow bool = Unit {0}
Narrow int = Unit {0}
Narrow (of k w) = Width w

of_operator : (at : ℕ) (o : Option Ty) → If Narrow o → Of Narrow (operator_type at o)
of_operator at none h = tt
of_operator at (some a) h = h

of_known : (at : ℕ) (o : Option Ty) → If Narrow o → Of Narrow (known at o)
of_known at none h = tt
of_known at (some a) h = h

of_named : (at : ℕ) (o : Option Ty) → If Narrow o → Of Narrow (named_type at o)
of_named at none h = tt
of_named at (some a) h = h

has_narrow : (x : Answer Ty) → Of Narrow x → If Narrow (has_type x)
has_narrow (ok a) h = h
has_narrow (refused n i at) h = tt

prefix_narrow : (o : Prefix) (a : Ty) → Narrow a → If Narrow (prefix_type o a)
prefix_narrow not_sign a h = if_when Narrow (same_ty a bool) bool tt
prefix_narrow minus_sign a h = if_when Narrow (is_number a) a h

meet_narrow : (a b : Ty) → Narrow a → Narrow b → If Narrow (meet a b)
meet_narrow bool bool h k = tt
meet_narrow bool int h k = tt
meet_narrow bool (of l x) h k = tt
meet_narrow int bool h k = tt
meet_narrow int int h k = tt
meet_narrow int (of l x) h k = k
meet_narrow (of j w) bool h k = tt
meet_narrow (of j w) int h k = h
meet_narrow (of j w) (of l x) h k =
    if_then (λ _. Unit {0}) Narrow (meet_kind j l) (λ i. when (eqb w x) (of i w)) (any (meet_kind j l)) (λ i _. if_when Narrow (eqb w x) (of i w) h)

field_narrow : (w : ℕ) (f : Field) → Width w → Narrow (field_ty w f)
field_narrow w value h = h
field_narrow w mask h = h
field_narrow w prefix_length h = tt
field_narrow w low h = h
field_narrow w high h = h

-- of the key of an index
elem_narrow : (ks : List Key) → All (λ x. Width x.width) ks → (k : ℕ) (f : Key → Option Ty) → ((x : Key) → Width x.width → If Narrow (f x))
    → If Narrow (and_then (get_elem? ks k) f)
elem_narrow [] h k f g = tt
elem_narrow (x ∷ ks) h zero f g = g x h.0
elem_narrow (x ∷ ks) h (suc k) f g = elem_narrow ks h.1 k f g

known_narrow : (at to : ℕ) (o : Option ℕ) (f : ℕ → Option Ty) → ((k : ℕ) → If Narrow (f k)) → Of Narrow (known at o >>= λ k. named_type to (f k))
known_narrow at to none f h = tt
known_narrow at to (some k) f h = of_named to (f k) (h k)

-- two tests that pass a type on
of_tests : (x y : Answer (Unit {0})) (a : Ty) → Narrow a → Of Narrow (x >>= λ _. y >>= λ _. ok a)
of_tests (ok _) (ok _) a n = n
of_tests (ok _) (refused m i at) a n = tt
of_tests (refused m i at) y a n = tt

type_narrow : (ks : List Key) → All (λ x. Width x.width) ks → (t : Tree) → Of Narrow (type_of ks t)
unfolding type_of
type_narrow ks h (truth at b) = tt
type_narrow ks h (number at n) = tt
type_narrow ks h (key at w) =
    of_known at (and_then (find ks w) (bare_type ks))
    (if_then (λ _. Unit {0}) Narrow (find ks w) (bare_type ks) (any (find ks w))
    (λ k _. rw (map_then (λ (x : Key). of x.kind x.width) (get_elem? ks k)) (elem_narrow ks h k _ (λ x wide. wide))))
type_narrow ks h (field at w to f) =
    known_narrow at to (find ks w) (λ k. and_then (field_named f) (λ g. field_type ks g k))
    (λ k.
    if_then (λ _. Unit {0}) Narrow (field_named f) (λ g. field_type ks g k) (any (field_named f))
    (λ g _. elem_narrow ks h k _ (λ x wide. if_when Narrow (has x.kind g) (field_ty x.width g) (field_narrow x.width g wide))))
type_narrow ks h (attribute at to f) = of_named to (when (same_bytes f (bytes "priority")) int) (if_when Narrow (same_bytes f (bytes "priority")) int tt)
type_narrow ks h (prefixed at o t) =
    of_bind Narrow Narrow (type_of ks t) _ (type_narrow ks h t) (λ a n. of_operator at (prefix_type o a) (prefix_narrow o a n))
type_narrow ks h (joined at o l r) =
    of_bind Narrow Narrow (type_of ks l) _ (type_narrow ks h l)
    (λ a _.
    of_bind Narrow Narrow (type_of ks r) _ (type_narrow ks h r)
    (λ b _. of_operator at (join_type a b) (if_when Narrow (same_ty a bool && same_ty b bool) bool tt)))
type_narrow ks h (compared at c l r) =
    of_bind Narrow Narrow (type_of ks l) _ (type_narrow ks h l)
    (λ a _.
    of_bind Narrow Narrow (type_of ks r) _ (type_narrow ks h r)
    (λ b _.
    of_bind Narrow Narrow (operator_type at (comparison_type c a b)) _
    (of_operator at (comparison_type c a b) (if_when Narrow (compares c a b) bool tt))
    (of_tests (bits_kept l b) (bits_kept r a))))

-- indices of keys

pub found_below : (ks : List Key) (k n : ℕ) (name : List ℕ) → k + length ks ≤ n → If (λ j. j < n) (find_from k ks name)
found_below [] k n name h = tt
found_below (x ∷ ks) k n name h = go (same_bytes x.name name) (found_below ks (suc k) n name (omega arith))
  where
    go : (b : Bool) → If (λ j. j < n) (find_from (suc k) ks name) → If (λ j. j < n) (cond b (some k) (find_from (suc k) ks name))
    go true later = omega arith
    go false later = later

-- instructions

key_ranged : (o : Option ℕ) → If (λ j. j < 2 ^ 16) o → Ranged (pushing (and_then o (λ k. some (push_key k))))
key_ranged none h = tt
key_ranged (some k) h = (h, tt)

field_ranged : (o : Option ℕ) (p : Option Field) → If (λ j. j < 2 ^ 16) o
    → Ranged (pushing (and_then o (λ k. and_then p (λ g. some (push_field g k)))))
field_ranged none p h = tt
field_ranged (some k) none h = tt
field_ranged (some k) (some g) h = (h, tt)

prefix_ranged : (o : Prefix) → Ranged (operation o ∷ [])
prefix_ranged not_sign = (tt, tt)
prefix_ranged minus_sign = (tt, tt)

convert_ranged : (m : Ty) → Narrow m → Ranged (convert_to m)
convert_ranged bool h = tt
convert_ranged int h = tt
convert_ranged (of k w) h = (h, tt)

change_ranged : (a m : Option Ty) → If Narrow m → Ranged (changed a m)
change_ranged none m h = tt
change_ranged (some a) none h = tt
change_ranged (some a) (some m) h = go (same_ty a m)
  where
    go : (b : Bool) → Ranged (cond b [] (convert_to m))
    go true = tt
    go false = convert_ranged m h

module _ (ks : List Key) (listed : Listed ks) where
  index_small : (w : List ℕ) → If (λ j. j < 2 ^ 16) (find ks w)
  index_small w = found_below ks 0 (2 ^ 16) w (omega (arith, listed.few))

  narrow : (t : Tree) → If Narrow (has_type (type_of ks t))
  narrow t = has_narrow (type_of ks t) (type_narrow ks listed.widths t)

  meeting_narrow : (l r : Tree) → If Narrow (meeting ks l r)
  meeting_narrow l r =
      if_then Narrow Narrow (has_type (type_of ks l)) _ (narrow l)
      (λ a n. if_then Narrow Narrow (has_type (type_of ks r)) _ (narrow r) (λ b k. meet_narrow a b n k))

  conversion_ranged : (l r t : Tree) → Ranged (conversion ks t (meeting ks l r))
  conversion_ranged l r t = change_ranged (has_type (type_of ks t)) (meeting ks l r) (meeting_narrow l r)

  ranged : (t : Tree) → NumbersFit t → length (code_of ks t) < 2 ^ 16 → Ranged (code_of ks t)
  unfolding code_of
  ranged (truth at b) h few = (tt, tt)
  ranged (number at n) h few = (h, tt)
  ranged (key at w) h few = key_ranged (find ks w) (index_small w)
  ranged (field at w to f) h few = field_ranged (find ks w) (field_named f) (index_small w)
  ranged (attribute at to f) h few = (tt, tt)
  ranged (prefixed at o t) h few =
      let size = length-append (code_of ks t) (operation o ∷ []) in
      ranged_append (code_of ks t) (operation o ∷ []) (ranged t h (omega (arith, size, few))) (prefix_ranged o)
  ranged (joined at o l r) h few =
      let size = join_size (connective o) (code_of ks l) (code_of ks r) in
      join_ranged (connective o) (code_of ks l) (code_of ks r) (omega (arith, size, few)) (ranged l h.0 (omega (arith, size, few)))
      (ranged r h.1 (omega (arith, size, few)))
  ranged (compared at c l r) h few =
      let m = meeting ks l r in
      let one = code_of ks l ++ conversion ks l m in
      let two = one ++ code_of ks r in
      let three = two ++ conversion ks r m in
      let last = compare c ∷ [] in
      let size-one = length-append (code_of ks l) (conversion ks l m) in
      let size-two = length-append one (code_of ks r) in
      let size-three = length-append two (conversion ks r m) in
      let size = length-append three last in
      ranged_append three last
      (ranged_append two (conversion ks r m)
      (ranged_append one (code_of ks r)
      (ranged_append (code_of ks l) (conversion ks l m) (ranged l h.0 (omega (arith, size, size-three, size-two, size-one, few))) (conversion_ranged l r l))
      (ranged r h.1 (omega (arith, size, size-three, size-two, few))))
      (conversion_ranged l r r))
      (tt, tt)

pub code_in_range : CodeInRange
code_in_range = ranged
