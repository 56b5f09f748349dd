-- An octal numeral begins with a 0, takes its whole run, and has no more digits in hex: of k octal digits it is below 8^k, so below 16^k, and "0x" is
-- as long as what announced octal.
use Prim.Native.Nat.{ℕ, suc, ◌^◌, ◌≤◌, ◌<◌}
use native.Mathlib.Nat.{pow-le-pow_left, lt_of_lt_of_le}
use native.Mathlib.Omega.{arith}
use mathlib.Core.Path.{◌≡◌, refl, ap, subst}
use mathlib.Core.Bool.{Bool, true, false, not, cond, ◌||◌, true≢false, and-eq-true_iff}
use mathlib.Core.Option.{Option, none, some}
use mathlib.Core.List.{List, [], ◌∷◌, ◌++◌, map}
use lib.ListN.{length, take, drop, length-map}
use lib.Dec.{eqb, ltb}
use borrow.Author.Tests.{ltb-true, eqb-true}
use Rattle.paper.specs.Tokens.{bytes, is, span, starts, is_id_start, is_digit, is_blank, is_id_byte, digit_of, Base, decimal, Notation, based, octal, radix_of, notation_of, Numeral, spelled, spelling, is_numeral, numeral_value, literal_in, Sign, one_byte, two_bytes, string, numeral, Scan, blank, token, octal_numeral, no_token, too_large, scan_comment, numeral_scan, scan_numeral, scan_one, scan_two, scan_sign, is_space, is_slash, is_quote, is_letter, is_figure, is_other, scan_class, scan}
use Rattle.paper.specs.Print.{digit_byte, digits_in, most_digits, numeral_in}
use Rattle.paper.proofs.AddressNumbers.{number_below, run_below}
use Rattle.paper.proofs.DigitsReadBack.{digits_few}
use Rattle.paper.proofs.WordsScanned.{radix_small}

-- no digits are fewer than those in hex

radix_most : (w : Notation) → radix_of w ≤ 16
radix_most (based base) = radix_small base
radix_most octal = omega arith

hex_short : (n : Numeral) → is_numeral n ≡ true → length (numeral_in 16 (numeral_value n)) ≤ length n.digits
hex_short n h =
    let s = n.digits in
    let base = radix_of n.notation in
    let is_digit_lem : ℕ → Bool = λ b. ltb (digit_of b) base in
    let v = numeral_value n in
    let both = (and-eq-true_iff (ltb 0 (length s)) (eqb (span is_digit_lem s) (length s))).0 h in
    let some : 0 < length s = ltb-true 0 (length s) both.0 in
    let below : v < base ^ length (map digit_of s) =
    number_below base (map digit_of s) (run_below base s (eqb-true (span is_digit_lem s) (length s) both.1))
    in
    let small : v < 16 ^ length s =
    lt_of_lt_of_le (subst (λ m. v < base ^ m) (length-map s digit_of) below) (pow-le-pow_left (radix_most n.notation) (length s))
    in
    omega (arith, digits_few 16 most_digits (length s) v (omega arith) (omega arith) small, length-map (digits_in 16 most_digits v) digit_byte)

-- how a run that spells an octal numeral begins: with a 0, and a byte more than its digits

record Announced (b : ℕ) (s : List ℕ) (n : Numeral) : Type 0 where
  first : is "0" b ≡ true
  longer : suc (length n.digits) ≤ length s

based_not : {A : Type 0} (base : Base) → based base ≡ octal → A
based_not base e = absurd (true≢false (ap is_based e))
  where
    is_based : Notation → Bool
    is_based (based c) = true
    is_based octal = false

announced : (b : ℕ) (s : List ℕ) → (spelling (b ∷ s)).notation ≡ octal → Announced b s (spelling (b ∷ s))
announced b [] e = based_not decimal e
announced b (c ∷ s) e = go (is "0" b) (notation_of c) refl e
  where
    go : (t : Bool) (o : Option Notation) → is "0" b ≡ t → (spelled (cond t o none) (b ∷ c ∷ s) s).notation ≡ octal
        → Announced b (c ∷ s) (spelled (cond t o none) (b ∷ c ∷ s) s)
    go true none f e = based_not decimal e
    go true (some w) f e = record { first = f; longer = omega arith }
    go false o f e = based_not decimal e

-- what stands where an octal numeral does: a byte, those after it, the number, and how many bytes more it takes
pub record IsOctal (b : ℕ) (s : List ℕ) (v n : ℕ) : Type 0 where
  pub first : b ≡ 48
  pub whole_run : n ≡ span is_id_byte s
  pub shorter : length (bytes "0x" ++ numeral_in 16 v) ≤ length (b ∷ take n s)

-- by the tests that give a byte its class, in their order
module _ (b : ℕ) (s : List ℕ) where
  abbrev pub IfOctal : Scan → Type 0
  IfOctal (octal_numeral v n) = IsOctal b s v n
  IfOctal (blank n) = Unit {0}
  IfOctal (token t n) = Unit {0}
  IfOctal no_token = Unit {0}
  IfOctal too_large = Unit {0}

  either : (t : Bool) (c d : Scan) → IfOctal c → IfOctal d → IfOctal (cond t c d)
  either true c d h k = h
  either false c d h k = k

  one_sign : (o : Option Sign) → IfOctal (scan_one o)
  one_sign none = tt
  one_sign (some g) = tt

  two_signs : (o : Option Sign) → IfOctal (scan_two o b)
  two_signs none = one_sign (one_byte b)
  two_signs (some g) = tt

  signs : (r : List ℕ) → IfOctal (scan_sign b r)
  signs [] = one_sign (one_byte b)
  signs (c ∷ r) = two_signs (two_bytes b c)

  comment : (r : List ℕ) → IfOctal (scan_comment r)
  comment [] = tt
  comment (c ∷ r) = either (is "/" c) (blank _) no_token tt tt

  numerals : IfOctal (scan_numeral b s)
  numerals = go (is_numeral n) n.notation refl refl
    where
      more : ℕ
      more = span is_id_byte s

      n : Numeral
      n = spelling (b ∷ take more s)

      go : (t : Bool) (w : Notation) → is_numeral n ≡ t → n.notation ≡ w → IfOctal (cond t (numeral_scan w (numeral_value n) more) no_token)
      go true (based base) e f =
          either (ltb (numeral_value n) (2 ^ 128)) (token (numeral (literal_in base (numeral_value n))) more) too_large tt tt
      go true octal e f =
          let a = announced b (take more s) f in
          record { first = eqb-true b 48 a.first; whole_run = refl; shorter = omega (arith, hex_short n e) }
      go false w e f = tt

  pub if_octal : IfOctal (scan b s)
  unfolding scan
  if_octal = go (is_blank b) (is "/" b) (is "'" b) (is_id_start b) (is_digit b)
    where
      go : (blank slash quote letter digit : Bool)
          → IfOctal (scan_class (cond blank is_space (cond slash is_slash (cond quote is_quote (cond letter is_letter (cond digit is_figure is_other))))) b s)
      go true slash quote letter digit = tt
      go false true quote letter digit = comment s
      go false false true letter digit =
          let n = span (λ c. not (is "'" c || eqb c 10)) s in
          either (starts (is "'") (drop n s)) (token (string (take n s)) (suc n)) no_token tt tt
      go false false false true digit = tt
      go false false false false true = numerals
      go false false false false false = signs s
