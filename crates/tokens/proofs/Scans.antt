-- What stands at a byte: by its class, and words and numerals.
use Prim.Native.Nat.{ℕ, suc, ◌+◌, ◌-◌, ◌≤◌, ◌<◌}
use mathlib.Core.Path.{◌≡◌, refl, ap, ap₂, sym, ◌∙◌, subst}
use mathlib.Core.Bool.{Bool, true, false, cond, ◌&&◌, ◌||◌}
use mathlib.Core.List.{List, [], ◌∷◌}
use native.Mathlib.Omega.{arith}
use lib.Dec.{eqb}
use lib.ListN.{length, get_or, take, drop, length-drop}
use Rattle.paper.specs.Tokens.{is, starts, is_blank, is_id_start, is_digit, is_id_byte, word_more, span, Numeral, spelling, is_numeral, numeral_value, numeral_scan, Scan, scan, scan_comment, scan_string, scan_word, scan_numeral, scan_sign, blank, token, word, Literal, plain}
use Rattle.paper.specs.Tokens as P
use Rattle.std.proofs.Common.{◌^◌, ltb, Result, Ok, Err}
use Rattle.number.specs.Values.{value}
use Rattle.spelling.specs.Numerals.{notation_meant, Spells}
use Rattle.spelling.specs.Runs.{EndsAt}
use Rattle.spelling.specs.declared.numerals.Numeral as read
use Rattle.spelling.specs.declared.numerals.NumeralError.{NumeralError}
use Rattle.spelling.specs.declared.numerals.NumeralError.TheVariants as S
use Rattle.spelling.specs.declared.numerals.Notation.{Notation}
use Rattle.spelling.specs.declared.numerals.Notation.TheVariants.{Based, Octal}
use Rattle.tokens.specs.Scanned.{Stands, fits_as, literal_for, too_large_as}
use Rattle.tokens.specs.declared.found.Lexeme.{Lexeme}
use Rattle.tokens.specs.declared.found.Lexeme.TheVariants.{Blank, Token, NoToken}
use Rattle.tokens.proofs.Parts.{part_slice, part_first}

-- by its class

module _ (b : ℕ) (s : List ℕ) where
  pub as_blank : is_blank b ≡ true → scan b s ≡ blank 0
  unfolding scan
  as_blank e = rw e

  module _ (blank_not : is_blank b ≡ false) where
    pub as_comment : eqb b 47 ≡ true → scan b s ≡ scan_comment s
    unfolding scan
    as_comment e = rw (blank_not, e)

    module _ (slash_not : eqb b 47 ≡ false) where
      pub as_string : eqb b 39 ≡ true → scan b s ≡ scan_string s
      unfolding scan
      as_string e = rw (blank_not, slash_not, e)

      module _ (quote_not : eqb b 39 ≡ false) where
        pub as_word : is_id_start b ≡ true → scan b s ≡ scan_word b s
        unfolding scan
        as_word e = rw (blank_not, slash_not, quote_not, e)

        pub as_numeral : is_id_start b ≡ false → is_digit b ≡ true → scan b s ≡ scan_numeral b s
        unfolding scan
        as_numeral e f = rw (blank_not, slash_not, quote_not, e, f)

        pub as_sign : is_id_start b ≡ false → is_digit b ≡ false → scan b s ≡ scan_sign b s
        unfolding scan
        as_sign e f = rw (blank_not, slash_not, quote_not, e, f)

pub stands_as : {s : List ℕ} {at : ℕ} {m n : Literal} {x y : Scan} {f g : Lexeme} → f ≡ g → m ≡ n → x ≡ y → Stands s at n y g → Stands s at m x f
stands_as e p q h = rw (e, p, q) h

-- words and numerals

pub more_fits : (s : List ℕ) → word_more s ≤ length s
more_fits [] = omega arith
more_fits (b ∷ s) = go (is_id_byte b || is "." b && starts is_id_start s) (more_fits s)
  where
    go : (t : Bool) → word_more s ≤ length s → cond t (suc (word_more s)) 0 ≤ suc (length s)
    go true h = omega arith
    go false h = omega arith

module _ (s : List ℕ) (at : ℕ) (h : at < length s) where
  pub blank_stands : Stands s at (plain 0) (blank 0) (Blank (at + 1))
  blank_stands =
      let e : at + 1 - (at + 1) ≡ 0 = omega arith in
      record { says = ap blank e; ends = omega arith }

  pub word_inside : at + 1 + word_more (drop (at + 1) s) ≤ length s
  word_inside = omega (arith, more_fits (drop (at + 1) s), length-drop (at + 1) s)

  pub word_stands : Stands s at (plain 0) (scan_word (get_or s at 0) (drop (at + 1) s)) (Token 0 (at + 1 + word_more (drop (at + 1) s)))
  word_stands =
      let n = word_more (drop (at + 1) s) in
      let m : at + 1 + n - (at + 1) ≡ n = omega arith in
      let p = sym (part_slice at (at + 1 + n) s (omega arith)) ∙ part_first s at n (at + 1 + n) h refl in
      record { says = ap₂ (λ l i. token (word l) i) p m; ends = omega (arith, word_inside) }

-- the run at an offset, and the numeral that it spells

abbrev run_more : List ℕ → ℕ → ℕ
run_more s at = span is_id_byte (drop (at + 1) s)

abbrev spelt : List ℕ → ℕ → Numeral
spelt s at = spelling (get_or s at 0 ∷ take (run_more s at) (drop (at + 1) s))

module _ (s : List ℕ) (at end : ℕ) (h : at < length s) (f : EndsAt s (at + 1) (run_more s at) end) where
  on_the_run : (r : Result read.Numeral NumeralError) → Spells (spelling (take (end - at) (drop at s))) r → Spells (spelt s at) r
  on_the_run r e = subst (λ l. Spells (spelling l) r) (part_first s at (run_more s at) end h f.far) e

  run_taken : end - (at + 1) ≡ run_more s at
  run_taken = omega arith

  scanned_in : {x : P.Notation} → is_numeral (spelt s at) ≡ true → x ≡ (spelt s at).notation
      → numeral_scan x (numeral_value (spelt s at)) (run_more s at) ≡ scan_numeral (get_or s at 0) (drop (at + 1) s)
  scanned_in e n = ap (λ x. numeral_scan x (numeral_value (spelt s at)) (run_more s at)) n ∙ rw e

  pub numeral_fits : (r : read.Numeral) → Spells (spelling (take (end - at) (drop at s))) (Ok r)
      → Stands s at (literal_for (notation_meant r.notation) (value r.number)) (scan_numeral (get_or s at 0) (drop (at + 1) s)) (fits_as r.notation end)
  numeral_fits r e = go r.notation (value r.number) (on_the_run (Ok r) e)
    where
      go : (w : Notation) (v : ℕ)
          → (is_numeral (spelt s at) ≡ true) × (ltb (numeral_value (spelt s at)) (2 ^ 128) ≡ true) × (notation_meant w ≡ (spelt s at).notation) × (v ≡ numeral_value (spelt s at))
          → Stands s at (literal_for (notation_meant w) v) (scan_numeral (get_or s at 0) (drop (at + 1) s)) (fits_as w end)
      go (Based base) v g = record { says = rw (g.3, run_taken) (rw g.1 at (scanned_in g.0 g.2)); ends = omega arith }
      go Octal v g =
          record {
            says = record { is = rw (g.3, run_taken) (scanned_in g.0 g.2); fits = rw g.3 g.1 };
            ends = omega arith;
          }

  pub numeral_large : (w : Notation) → Spells (spelling (take (end - at) (drop at s))) (Err (S.TooLarge w))
      → Stands s at (plain 0) (scan_numeral (get_or s at 0) (drop (at + 1) s)) (too_large_as w)
  numeral_large w e = go w (on_the_run (Err (S.TooLarge w)) e)
    where
      go : (w : Notation) → Spells (spelt s at) (Err (S.TooLarge w))
          → Stands s at (plain 0) (scan_numeral (get_or s at 0) (drop (at + 1) s)) (too_large_as w)
      go (Based base) g = record { says = rw g.1 at (scanned_in g.0 g.2); ends = tt }
      go Octal g =
          record { says = record { number = numeral_value (spelt s at); more = run_more s at; is = scanned_in g.0 g.2; large = g.1 }; ends = tt }

  pub numeral_none : Spells (spelling (take (end - at) (drop at s))) (Err S.NoNumeral)
      → Stands s at (plain 0) (scan_numeral (get_or s at 0) (drop (at + 1) s)) NoToken
  numeral_none e = record { says = rw (on_the_run (Err S.NoNumeral) e); ends = tt }
