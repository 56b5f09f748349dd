-- The print of a clean tree is bytes: its words have letters, digits, "_" and dots, its numerals digits, and its operators are quoted.
use Prim.Native.Nat.{ℕ, suc, ◌+◌, ◌≤◌, ◌<◌}
use native.Mathlib.Nat.{suc_inj}
use native.Mathlib.Omega.{arith}
use mathlib.Core.Path.{◌≡◌, refl}
use mathlib.Core.Bool.{Bool, true, false, cond, ◌&&◌, ◌||◌, and-eq-true_iff, false≢true}
use mathlib.Core.List.{List, [], ◌∷◌, ◌++◌, map}
use lib.ListN.{length}
use lib.Dec.{eqb, ltb}
use borrow.Author.Tests.{eqb-true, ltb-true, ltb-false, lt-leb, ne_eqb}
use Rattle.paper.specs.Tokens.{bytes, is, is_id_start, is_id_byte, starts, word_more, is_key, Base, decimal, binary, hex, radix, Prefix, not_sign, minus_sign, Join, sequel, implies, or_else, and_also, Comparison, equal, unequal, greater, at_least, less, at_most}
use Rattle.paper.specs.Grammar.{Tree, truth, number, key, field, attribute, prefixed, joined, compared}
use Rattle.paper.specs.Print.{tightest, left_of, right_of, looser, digits_in, digit_byte, most_digits, numeral_in, base_prefix, prefix_bytes, join_bytes, comparison_bytes, spaced, enclosed, truth_bytes, print}
use Rattle.paper.specs.Sized.{Clean}
use Rattle.paper.specs.BlocksRoundTrip.{All}
use Rattle.paper.specs.Promised.{Bytes}
use Rattle.paper.proofs.Basics.{and_false}
use Rattle.paper.proofs.ByteLists.{append_bytes, all_bytes_lem}
use Rattle.paper.proofs.DigitsReadBack.{digits_below}

-- words

word_byte : (b : ℕ) (dotted : Bool) → is_id_byte b || is "." b && dotted ≡ true → b < 256
word_byte b dotted h = go (ltb b 256) refl
  where
    go : (z : Bool) → ltb b 256 ≡ z → b < 256
    go true e = ltb-true b 256 e
    go false e =
        let over : 256 ≤ b = ltb-false b 256 e in
        absurd
        (false≢true
        (simp (
          lt-leb b 122 (omega (arith, over)),
          lt-leb b 90 (omega (arith, over)),
          lt-leb b 57 (omega (arith, over)),
          ne_eqb b 95 (λ s. omega (arith, over, s)),
          ne_eqb b 46 (λ s. omega (arith, over, s)),
          and_false,
        )
        at h))

more_bytes : (s : List ℕ) → word_more s ≡ length s → Bytes s
more_bytes [] h = tt
more_bytes (b ∷ s) h = go (is_id_byte b || is "." b && starts is_id_start s) refl h (more_bytes s)
  where
    go : (z : Bool) → is_id_byte b || is "." b && starts is_id_start s ≡ z → cond z (suc (word_more s)) 0 ≡ suc (length s)
        → (word_more s ≡ length s → Bytes s) → Bytes (b ∷ s)
    go true e g later = (word_byte b (starts is_id_start s) e, later (suc_inj g))
    go false e g later = absurd (omega (arith, g))

word_bytes : (w : List ℕ) → is_key w ≡ true → Bytes w
word_bytes [] h = tt
word_bytes (b ∷ s) h =
    let both = (and-eq-true_iff (is_id_start b) (eqb (word_more s) (length s))).0 h in
    (word_byte b false (rw both.0), more_bytes s (eqb-true (word_more s) (length s) both.1))

-- numerals

digit_bytes : (ds : List ℕ) → All (λ d. d < 16) ds → Bytes (map digit_byte ds)
digit_bytes [] h = tt
digit_bytes (d ∷ ds) h = (go (ltb d 10), digit_bytes ds h.1)
  where
    go : (b : Bool) → cond b (48 + d) (87 + d) < 256
    go true = omega (arith, h.0)
    go false = omega (arith, h.0)

sixteen : (base : ℕ) (ds : List ℕ) → base ≤ 16 → All (λ d. d < base) ds → All (λ d. d < 16) ds
sixteen base [] le h = tt
sixteen base (d ∷ ds) le h = (omega (arith, h.0), sixteen base ds le h.1)

numeral_bytes : (base v : ℕ) → 0 < base → base ≤ 16 → Bytes (numeral_in base v)
numeral_bytes base v low high =
    let ds = digits_in base most_digits v in
    digit_bytes ds (sixteen base ds high (digits_below base most_digits v low))

literal_bytes : (base : Base) (v : ℕ) → Bytes (base_prefix base ++ numeral_in (radix base) v)
literal_bytes decimal v = numeral_bytes 10 v (omega arith) (omega arith)
literal_bytes binary v = append_bytes (bytes "0b") (numeral_in 2 v) (all_bytes_lem (bytes "0b") refl) (numeral_bytes 2 v (omega arith) (omega arith))
literal_bytes hex v = append_bytes (bytes "0x") (numeral_in 16 v) (all_bytes_lem (bytes "0x") refl) (numeral_bytes 16 v (omega arith) (omega arith))

-- operators

prefix_bytes_lem : (o : Prefix) → Bytes (prefix_bytes o)
prefix_bytes_lem not_sign = all_bytes_lem (bytes "!") refl
prefix_bytes_lem minus_sign = all_bytes_lem (bytes "-") refl

join_bytes_lem : (o : Join) → Bytes (spaced (join_bytes o))
join_bytes_lem sequel = all_bytes_lem (bytes " ; ") refl
join_bytes_lem implies = all_bytes_lem (bytes " -> ") refl
join_bytes_lem or_else = all_bytes_lem (bytes " || ") refl
join_bytes_lem and_also = all_bytes_lem (bytes " && ") refl

comparison_bytes_lem : (c : Comparison) → Bytes (spaced (comparison_bytes c))
comparison_bytes_lem equal = all_bytes_lem (bytes " == ") refl
comparison_bytes_lem unequal = all_bytes_lem (bytes " != ") refl
comparison_bytes_lem greater = all_bytes_lem (bytes " > ") refl
comparison_bytes_lem at_least = all_bytes_lem (bytes " >= ") refl
comparison_bytes_lem less = all_bytes_lem (bytes " < ") refl
comparison_bytes_lem at_most = all_bytes_lem (bytes " <= ") refl

enclosed_bytes : (b : Bool) (s : List ℕ) → Bytes s → Bytes (enclosed b s)
enclosed_bytes false s h = h
enclosed_bytes true s h =
    append_bytes (bytes "(" ++ s) (bytes ")") (append_bytes (bytes "(") s (all_bytes_lem (bytes "(") refl) h) (all_bytes_lem (bytes ")") refl)

two_bytes : (l sign r : List ℕ) → Bytes l → Bytes sign → Bytes r → Bytes (l ++ sign ++ r)
two_bytes l sign r h s g = append_bytes (l ++ sign) r (append_bytes l sign h s) g

truth_bytes_lem : (b : Bool) → Bytes (truth_bytes b)
truth_bytes_lem true = all_bytes_lem (bytes "true") refl
truth_bytes_lem false = all_bytes_lem (bytes "false") refl

pub print_bytes : (t : Tree) → Clean t → Bytes (print t)
unfolding print
print_bytes (truth at b) clean = truth_bytes_lem b
print_bytes (number at n) clean = literal_bytes n.base n.value
print_bytes (key at w) clean = word_bytes w clean.0
print_bytes (field at w to f) clean =
    two_bytes w (bytes "::") f (word_bytes w clean.0) (all_bytes_lem (bytes "::") refl) (word_bytes f clean.2)
print_bytes (attribute at to f) clean = append_bytes (bytes "::") f (all_bytes_lem (bytes "::") refl) (word_bytes f clean.0)
print_bytes (prefixed at o t) clean =
    append_bytes (prefix_bytes o) (enclosed (looser tightest t) (print t)) (prefix_bytes_lem o)
    (enclosed_bytes (looser tightest t) (print t) (print_bytes t clean))
print_bytes (joined at o l r) clean =
    two_bytes (enclosed (looser (left_of o) l) (print l)) (spaced (join_bytes o)) (enclosed (looser (right_of o) r) (print r))
    (enclosed_bytes (looser (left_of o) l) (print l) (print_bytes l clean.0)) (join_bytes_lem o)
    (enclosed_bytes (looser (right_of o) r) (print r) (print_bytes r clean.1))
print_bytes (compared at c l r) clean =
    two_bytes (enclosed (looser tightest l) (print l)) (spaced (comparison_bytes c)) (enclosed (looser tightest r) (print r))
    (enclosed_bytes (looser tightest l) (print l) (print_bytes l clean.0)) (comparison_bytes_lem c)
    (enclosed_bytes (looser tightest r) (print r) (print_bytes r clean.1))
