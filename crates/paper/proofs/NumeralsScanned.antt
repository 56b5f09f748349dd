-- A number below 2^128, written in a base, is scanned as the numeral of that base and number, wherever it stands.
use Prim.Native.Nat.{ℕ, ◌/◌, ◌%◌, ◌^◌, ◌≤◌, ◌<◌}
use native.Mathlib.Nat.{lt_of_lt_of_le}
use native.Mathlib.Omega.{arith}
use mathlib.Core.Path.{◌≡◌, refl, sym, ap, subst, ◌∙◌}
use mathlib.Core.Bool.{Bool, true, false, cond}
use mathlib.Core.Option.{some}
use mathlib.Core.List.{List, [], ◌∷◌, ◌++◌, map}
use lib.ListN.{length, length-append}
use lib.Dec.{ltb}
use borrow.Author.Tests.{leb-true}
use Rattle.paper.specs.Numbers.{in_base}
use Rattle.paper.specs.Tokens.{is_id_byte, Base, decimal, binary, hex, radix, based, notation_of, literal_in, numeral, Scan, token, scan}
use Rattle.paper.specs.BlocksRoundTrip.{All}
use Rattle.paper.specs.Print.{most_digits, digits_in, digit_byte, numeral_in}
use Rattle.paper.proofs.DigitsReadBack.{digits_back, digits_below}
use Rattle.paper.proofs.WordsScanned.{Loose, counted, scan_decimal, scan_announced}

pub digits_some : (base n : ℕ) → 0 < length (digits_in base most_digits n)
digits_some base n = go (ltb n base)
  where
    go : (b : Bool) → 0 < length (cond b (n ∷ []) (digits_in base 127 (n / base) ++ (n % base ∷ [])))
    go true = omega arith
    go false = omega (arith, length-append (digits_in base 127 (n / base)) (n % base ∷ []))

radix_two : (base : Base) → 2 ≤ radix base
radix_two decimal = omega arith
radix_two binary = omega arith
radix_two hex = omega arith

-- a number below 2^128 has digits enough in each base
all_digits : (base : Base) → 2 ^ 128 ≤ radix base ^ most_digits
all_digits decimal = leb-true (2 ^ 128) (10 ^ most_digits) refl
all_digits binary = leb-true (2 ^ 128) (2 ^ most_digits) refl
all_digits hex = leb-true (2 ^ 128) (16 ^ most_digits) refl

-- digits of a number in a base: there is one, each is of the base, and they count the number
record DigitsOf (base : Base) (v : ℕ) (ds : List ℕ) : Type 0 where
  pub some_digit : 0 < length ds
  pub of_base : All (λ d. d < radix base) ds
  pub count_it : in_base (radix base) ds ≡ v

own_digits : (base : Base) (v : ℕ) → v < 2 ^ 128 → DigitsOf base v (digits_in (radix base) most_digits v)
own_digits base v small =
    let two = radix_two base in
    record {
      some_digit = digits_some (radix base) v;
      of_base = digits_below (radix base) most_digits v (omega arith);
      count_it = digits_back (radix base) most_digits v two (lt_of_lt_of_le small (all_digits base));
    }

-- the digits of a number that is small enough, scanned to a token: to the token of the number
own_token : (base : Base) (v : ℕ) (ds : List ℕ) (n : ℕ) (found : Scan) → v < 2 ^ 128 → in_base (radix base) ds ≡ v
    → (in_base (radix base) ds < 2 ^ 128 → found ≡ token (numeral (counted base ds)) n) → found ≡ token (numeral (literal_in base v)) n
own_token base v ds n found small e h = h (subst (λ x. x < 2 ^ 128) (sym e) small) ∙ ap (λ (x : ℕ). token (numeral (literal_in base x)) n) e

-- in decimal: digits alone, of which there is a first
pub decimal_scanned : (v : ℕ) → v < 2 ^ 128 → (rest : List ℕ) → Loose rest
    → (b : ℕ) × (s : List ℕ) × (numeral_in 10 v ≡ b ∷ s) × (scan b (s ++ rest) ≡ token (numeral (literal_in decimal v)) (length s))
decimal_scanned v small rest loose = go (digits_in 10 most_digits v) (own_digits decimal v small)
  where
    go : (ds : List ℕ) → DigitsOf decimal v ds
        → (b : ℕ) × (s : List ℕ) × (map digit_byte ds ≡ b ∷ s) × (scan b (s ++ rest) ≡ token (numeral (literal_in decimal v)) (length s))
    go [] h = absurd (omega (arith, h.some_digit))
    go (d ∷ ds) h =
        let s = map digit_byte ds in
        (digit_byte d, s, refl, own_token decimal v (d ∷ ds) (length s) _ small h.count_it (λ m. scan_decimal d ds rest h.of_base m loose))

-- in any other base: after a 0 and the letter that announces it
pub announced_scanned : (letter : ℕ) (base : Base) → is_id_byte letter ≡ true → notation_of letter ≡ some (based base) → (v : ℕ) → v < 2 ^ 128
    → (rest : List ℕ) → Loose rest
    → let s = letter ∷ numeral_in (radix base) v in scan 48 (s ++ rest) ≡ token (numeral (literal_in base v)) (length s)
announced_scanned letter base id announces v small rest loose = go (digits_in (radix base) most_digits v) (own_digits base v small)
  where
    go : (ds : List ℕ) → DigitsOf base v ds
        → let s = letter ∷ map digit_byte ds in scan 48 (s ++ rest) ≡ token (numeral (literal_in base v)) (length s)
    go [] h = absurd (omega (arith, h.some_digit))
    go (d ∷ ds) h =
        own_token base v (d ∷ ds) (length (letter ∷ map digit_byte (d ∷ ds))) _ small h.count_it
        (λ m. scan_announced letter base id announces d ds rest h.of_base m loose)
