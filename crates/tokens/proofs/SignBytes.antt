-- Signs, from their first byte.
use Prim.Native.Nat.{ℕ, ◌+◌, ◌-◌, ◌≤◌, ◌<◌}
use mathlib.Core.Path.{◌≡◌, refl, ap, ap₂, sym, ◌∙◌}
use mathlib.Core.Bool.{Bool, true, false, cond, and-false, false≢true}
use mathlib.Core.Option.{some, none}
use mathlib.Core.List.{List, [], ◌∷◌}
use native.Mathlib.Decide.{dec_lt}
use native.Mathlib.Omega.{arith}
use lib.Dec.{eqb, leb}
use lib.ListN.{length, get_or, drop, drop_of_length-le, get_or-eq_default}
use borrow.Author.Tests.{eqb-false, eq-eqb, ne_eqb, leb-true}
use Rattle.paper.specs.Tokens.{is_blank, is_digit, is_id_start, Sign, one_byte, two_bytes, Scan, blank, octal_numeral, too_large, Tok, scan, scan_one, scan_two, scan_word, scan_sign, word_more, token, no_token, sign, Literal, plain}
use Rattle.spelling.proofs.Spans.{cut}
use Rattle.spelling.proofs.Tests.{and_both}
use Rattle.tokens.specs.Tape.{word_no, numeral_no, string_no, first_sign, sign_of, tok_of}
use Rattle.tokens.specs.Scanned.{Stands, Begins, Coded, kind_in, length_in, second_of, pair_of, alone_of, longest, sign_scan, sign_found, plain_end, plain_scan, plain_found}
use Rattle.tokens.specs.declared.found.Lexeme.TheVariants.{Token, NoToken}
use Rattle.tokens.proofs.Scans.{as_word, as_sign}

-- the signs that begin with a byte

-- a sign of two bytes before its second byte, and else that of one byte
pub chosen : (second : Bool) (g : Sign) (b pair alone : ℕ) → token (sign g) 1 ≡ sign_scan pair → scan_one (one_byte b) ≡ sign_scan alone
    → scan_two (cond second (some g) none) b ≡ sign_scan (cond second pair alone)
chosen true g b pair alone two one = two
chosen false g b pair alone two one = one

-- where both are the same
pub either : (second : Bool) (x : Scan) (code : ℕ) → x ≡ sign_scan code → x ≡ sign_scan (cond second code code)
either true x code e = e
either false x code e = e

-- a byte that begins no sign
pub record NoSign (b : ℕ) : Type 0 where
  pub semicolon : b ≡ 59 → ⊥
  pub opens : b ≡ 40 → ⊥
  pub closes : b ≡ 41 → ⊥
  pub minus : b ≡ 45 → ⊥
  pub bang : b ≡ 33 → ⊥
  pub above : b ≡ 62 → ⊥
  pub below : b ≡ 60 → ⊥
  pub equals : b ≡ 61 → ⊥
  pub bar : b ≡ 124 → ⊥
  pub amp : b ≡ 38 → ⊥
  pub colon : b ≡ 58 → ⊥

module _ (b : ℕ) (h : NoSign b) where
  no_two : (c : ℕ) → two_bytes b c ≡ none
  no_two c =
      rw (
        ne_eqb b 45 h.minus,
        ne_eqb b 124 h.bar,
        ne_eqb b 38 h.amp,
        ne_eqb b 61 h.equals,
        ne_eqb b 33 h.bang,
        ne_eqb b 62 h.above,
        ne_eqb b 60 h.below,
        ne_eqb b 58 h.colon,
      )

  no_one : one_byte b ≡ none
  no_one =
      rw (
        ne_eqb b 59 h.semicolon,
        ne_eqb b 62 h.above,
        ne_eqb b 60 h.below,
        ne_eqb b 33 h.bang,
        ne_eqb b 45 h.minus,
        ne_eqb b 40 h.opens,
        ne_eqb b 41 h.closes,
      )

  pub begins_none : Begins b 0
  begins_none =
      record {
        scans = λ next. either (eqb next 0) (scan_two (two_bytes b next) b) 0 (rw (no_two next, no_one));
        pair = record { low = λ h. omega arith; high = omega arith; some = λ h. omega arith; few = omega arith };
        alone = record { low = λ h. omega arith; high = omega arith; some = λ h. omega arith; few = omega arith };
        single = λ e. omega arith;
      }

  no_scan : (s : List ℕ) → scan_sign b s ≡ no_token
  no_scan [] = rw no_one
  no_scan (c ∷ s) = rw (no_two c, no_one)

-- the longest of them

alone : (b : ℕ) → two_bytes b 0 ≡ none
alone b = simp and-false

-- past the end stands no second byte, nor does a 0
next : (s : List ℕ) (at b : ℕ) → scan_sign b (drop at s) ≡ scan_two (two_bytes b (get_or s at 0)) b
next s at b = go (dec_lt at (length s))
  where
    go : Dec (at < length s) → scan_sign b (drop at s) ≡ scan_two (two_bytes b (get_or s at 0)) b
    go (yes h) = rw (cut s at h)
    go (no h) =
        let k : length s ≤ at = omega arith in
        rw (drop_of_length-le s k, get_or-eq_default s 0 k, alone b)

tok_sign : (s : List ℕ) (k from to : ℕ) (n : Literal) → first_sign ≤ k → tok_of s k from to n ≡ sign (sign_of k)
tok_sign s k from to n h = rw (ne_eqb k word_no (omega arith), ne_eqb k numeral_no (omega arith), ne_eqb k string_no (omega arith))

some_code : (code : ℕ) → eqb code 0 ≡ false → 0 < code
some_code code e = let ne = eqb-false code 0 e in go code ne
  where
    go : (n : ℕ) → (n ≡ 0 → ⊥) → 0 < n
    go n ne = omega (arith, ne)

module _ (s : List ℕ) (at : ℕ) (signs : ℕ) (g : Begins (get_or s at 0) signs) (h : at < length s) where
  abbrev here : Scan
  here = scan_sign (get_or s at 0) (drop (at + 1) s)

  -- of a code that is the longest sign's
  module _ (code : ℕ) (coded : Coded code 2) (inside : at + length_in code ≤ length s) (is : longest signs (get_or s (at + 1) 0) ≡ code) where
    scanned : here ≡ sign_scan code
    scanned = next s (at + 1) (get_or s at 0) ∙ g.scans (get_or s (at + 1) 0) ∙ ap sign_scan is

    stands : Stands s at (plain 0) here (sign_found at code)
    stands = go (eqb code 0) refl
      where
        go : (z : Bool) → eqb code 0 ≡ z → Stands s at (plain 0) here (cond z NoToken (Token (kind_in code) (at + length_in code)))
        go true e = record { says = sym (scanned ∙ rw e); ends = tt }
        go false e =
            let some = some_code code e in
            let m : at + length_in code - (at + 1) ≡ length_in code - 1 = omega (arith, coded.some some) in
            record {
              says = ap₂ (λ t i. token t i) (tok_sign s (kind_in code) at (at + length_in code) (plain 0) (coded.low some)) m ∙ sym (scanned ∙ rw e);
              ends = record {
                known = coded.high;
                taken = omega (arith, coded.some some);
                inside = inside;
                quoted = λ q. omega (arith, q, coded.low some);
              };
            }

  pub pair_stands : get_or s (at + 1) 0 ≡ second_of signs → Stands s at (plain 0) here (sign_found at (pair_of signs))
  pair_stands e = stands (pair_of signs) g.pair (go (dec_lt (at + 1) (length s))) (rw (eq-eqb _ _ e))
    where
      go : Dec (at + 1 < length s) → at + length_in (pair_of signs) ≤ length s
      go (yes k) = omega (arith, g.pair.few)
      go (no k) =
          let past : length s ≤ at + 1 = omega arith in
          let zero : second_of signs ≡ 0 = sym e ∙ get_or-eq_default s 0 past in
          omega (arith, g.single zero)

  pub alone_coded : Coded (alone_of signs) 2
  alone_coded = let a = g.alone in record { low = a.low; high = a.high; some = a.some; few = omega (arith, a.few) }

  pub alone_stands : (get_or s (at + 1) 0 ≡ second_of signs → ⊥) → Stands s at (plain 0) here (sign_found at (alone_of signs))
  alone_stands e = stands (alone_of signs) alone_coded (omega (arith, g.alone.few)) (rw (ne_eqb _ _ e))

-- a word or a sign

pub plain_sign : (s : List ℕ) (at code : ℕ) → Coded code 2 → sign_found at code ≡ plain_found s at code
plain_sign s at code coded = go (eqb code 0) refl
  where
    go : (z : Bool) → eqb code 0 ≡ z
        → cond z NoToken (Token (kind_in code) (at + length_in code)) ≡ cond z NoToken (Token (kind_in code) (plain_end s at code))
    go true e = refl
    go false e = rw (ne_eqb (kind_in code) word_no (λ k. omega (arith, k, coded.low (some_code code e))))

-- it ends no earlier than its code says
pub plain_end_from : (s : List ℕ) (at code : ℕ) → at + length_in code ≤ plain_end s at code
plain_end_from s at code = go (eqb (kind_in code) word_no) (at + length_in code)
  where
    go : (t : Bool) (i : ℕ) → i ≤ cond t (i + word_more (drop i s)) i
    go true i = omega arith
    go false i = omega arith

found : Scan → Bool
found (token t n) = true
found (blank n) = false
found (octal_numeral v n) = false
found no_token = false
found too_large = false

-- what begins a word or a sign is of no other class
module _ (b : ℕ) (s : List ℕ) (t : Tok) (m : ℕ) (is : token t m ≡ plain_scan b s) where
  is_sign : is_id_start b ≡ false → scan_sign b s ≡ no_token → ⊥
  unfolding found
  is_sign letter nothing =
      let other : plain_scan b s ≡ no_token = rw (letter, nothing) in
      false≢true (sym (ap found (is ∙ other)))

  digit_none : is_digit b ≡ true → NoSign b
  digit_none d =
      let both = and_both (leb 48 b) (leb b 57) d in
      let low = leb-true 48 b both.0 in
      let high = leb-true b 57 both.1 in
      record {
        semicolon = λ e. omega (arith, low, high, e);
        opens = λ e. omega (arith, low, high, e);
        closes = λ e. omega (arith, low, high, e);
        minus = λ e. omega (arith, low, high, e);
        bang = λ e. omega (arith, low, high, e);
        above = λ e. omega (arith, low, high, e);
        below = λ e. omega (arith, low, high, e);
        equals = λ e. omega (arith, low, high, e);
        bar = λ e. omega (arith, low, high, e);
        amp = λ e. omega (arith, low, high, e);
        colon = λ e. omega (arith, low, high, e);
      }

  quoting : (q : ℕ) → is_id_start q ≡ false → ((s : List ℕ) → scan_sign q s ≡ no_token) → eqb b q ≡ false
  quoting q letter nothing = ne_eqb b q (λ e. is_sign (ap is_id_start e ∙ letter) (ap (λ x. scan_sign x s) e ∙ nothing s))

  slash_none : (s : List ℕ) → scan_sign 47 s ≡ no_token
  slash_none [] = refl
  slash_none (c ∷ s) = refl

  quote_none : (s : List ℕ) → scan_sign 39 s ≡ no_token
  quote_none [] = refl
  quote_none (c ∷ s) = refl

  pub plain_scanned : is_blank b ≡ false → scan b s ≡ plain_scan b s
  plain_scanned blank_not = go (is_id_start b) refl (is_digit b) refl
    where
      go : (letter : Bool) → is_id_start b ≡ letter → (digit : Bool) → is_digit b ≡ digit → scan b s ≡ cond letter (scan_word b s) (scan_sign b s)
      go true e d f = as_word b s blank_not (quoting 47 refl slash_none) (quoting 39 refl quote_none) e
      go false e true f = absurd (is_sign e (no_scan b (digit_none f) s))
      go false e false f = as_sign b s blank_not (quoting 47 refl slash_none) (quoting 39 refl quote_none) e f
