-- The wrong passes are real: each takes a text of one form for its own, where the buffer has room, and leaves every other to a pass that is right.
use Prim.Native.Nat.{ℕ, zero, suc, ◌+◌, ◌-◌, ◌<◌}
use Rattle.std.specs.Prelude.{Ok}
use native.Mathlib.Omega.{arith}
use mathlib.Core.Path.{◌≡◌, sym, ap, ap₂, subst, ◌∙◌}
use mathlib.Core.Bool.{Bool, true, cond, ◌&&◌}
use mathlib.Core.List.{List, [], ◌∷◌, ◌++◌, map, append_assoc, append-nil}
use lib.ListN.{length, take, drop, replicate, length-append, length-replicate}
use lib.Seq.{take_at, drop-append_seam}
use lib.Dec.{eqb, ltb, leb}
use borrow.Author.Tests.{eq-eqb, ne_eqb, lt-ltb, le-leb}
use Rattle.paper.specs.Numbers.{in_base}
use Rattle.paper.specs.Tokens.{bytes, same_bytes, span, within, digit_of, most_text}
use Rattle.paper.specs.Print.{numeral_in}
use Rattle.paper.specs.Calls.{over}
use Rattle.tried.specs.WrongFixers.{Fixer, Octal, in_hex, Makes, ChangesStrings, ChangesComments, KeepsZeros, DropsPrefix}
use Rattle.paper.proofs.Words.{bytes_same}

abbrev is_octal : List ℕ → Bool
is_octal ds = ltb 0 (length ds) && eqb (span (within 48 55) ds) (length ds)

is_octal_lem : (ds : List ℕ) → Octal ds → is_octal ds ≡ true
is_octal_lem ds (some, all) = rw (lt-ltb 0 (length ds) some, eq-eqb (span (within 48 55) ds) (length ds) all)

-- what stands between two ends of a text
module _ (front back : List ℕ) where
  abbrev between : List ℕ → List ℕ
  between text = take (length text - (length front + length back)) (drop (length front) text)

  abbrev around : List ℕ → List ℕ
  around middle = front ++ middle ++ back

  between_is : (middle : List ℕ) → between (around middle) ≡ middle
  between_is middle =
      let n = length (around middle) - (length front + length back) in
      let size : n ≡ length middle =
      omega (arith, length-append (front ++ middle) back, length-append front middle)
      in
      let rest : drop (length front) (around middle) ≡ middle ++ back =
      ap (drop (length front)) (append_assoc front middle back) ∙ drop-append_seam front (middle ++ back)
      in
      ap (take n) rest ∙ take_at middle back n (sym size)

  -- where it has octal digits, something is made of it
  module _ (digits made : List ℕ → List ℕ) (fix : Fixer) where
    takes : List ℕ → List ℕ → List ℕ → Bool
    takes text middle buffer =
        same_bytes text (around middle) && is_octal (digits middle) && leb (length text) most_text && leb (length (made middle)) (length buffer)

    abbrev wrong : Fixer
    wrong text buffer =
        let new = made (between text) in
        cond (takes text (between text) buffer) (record { answer = Ok (length new); buffer = over new buffer }) (fix text buffer)

    wrong_makes : (middle : List ℕ) → is_octal (digits middle) ≡ true → Makes wrong (around middle) (made middle)
    unfolding takes
    wrong_makes middle octal buffer lent short room =
        let text = around middle in
        rw (
          between_is middle,
          bytes_same text,
          octal,
          le-leb (length text) most_text short,
          le-leb (length (made middle)) (length buffer) room,
        )

-- zeros before another digit

abbrev is_zero : ℕ → Bool
is_zero b = eqb b 48

abbrev zeros : List ℕ → ℕ
zeros ds = span is_zero ds

zeros_counted : (k d : ℕ) (ds : List ℕ) → 48 < d → zeros (replicate k 48 ++ (d ∷ ds)) ≡ k
zeros_counted zero d ds h = rw (ne_eqb d 48 (λ e. omega arith))
zeros_counted (suc k) d ds h = ap suc (zeros_counted k d ds h)

abbrev without_zeros : List ℕ → List ℕ
without_zeros ds = drop (zeros ds) ds

abbrev with_zeros : List ℕ → List ℕ
with_zeros ds = bytes "0x" ++ take (zeros ds) ds ++ numeral_in 16 (in_base 8 (map digit_of (without_zeros ds)))

-- each, from a pass that is right

abbrev whole : List ℕ → List ℕ
whole ds = ds

module _ (fix : Fixer) where
  pub strings_real : (x : Fixer) × ChangesStrings x
  strings_real =
      let made : List ℕ → List ℕ = λ ds. bytes "'" ++ in_hex ds ++ bytes "'" in
      let front = bytes "'0o" in
      let back = bytes "'" in
      (wrong front back whole made fix, λ ds octal. wrong_makes front back whole made fix ds (is_octal_lem ds octal))

  -- a text that ends with the digits
  ending : (front : List ℕ) (digits made : List ℕ → List ℕ) (ds : List ℕ) → is_octal (digits ds) ≡ true
      → Makes (wrong front [] digits made fix) (front ++ ds) (made ds)
  ending front digits made ds octal =
      subst (λ (text : List ℕ). Makes (wrong front [] digits made fix) text (made ds)) (append-nil (front ++ ds))
      (wrong_makes front [] digits made fix ds octal)

  pub comments_real : (x : Fixer) × ChangesComments x
  comments_real =
      let made : List ℕ → List ℕ = λ ds. bytes "//" ++ in_hex ds in
      (wrong (bytes "//0o") [] whole made fix, λ ds octal. ending (bytes "//0o") whole made ds (is_octal_lem ds octal))

  pub dropped_real : (x : Fixer) × DropsPrefix x
  dropped_real = (wrong (bytes "0o") [] whole whole fix, λ ds octal. ending (bytes "0o") whole whole ds (is_octal_lem ds octal))

  pub zeros_real : (x : Fixer) × KeepsZeros x
  zeros_real = (x, keeps)
    where
      x : Fixer
      x = wrong (bytes "0o") [] without_zeros with_zeros fix

      keeps : KeepsZeros x
      keeps k d ds octal h =
          let run : List ℕ = replicate k 48 in
          let all = run ++ (d ∷ ds) in
          let many : zeros all ≡ length run = zeros_counted k d ds h ∙ sym (length-replicate k 48) in
          let first : take (zeros all) all ≡ run = take_at run (d ∷ ds) (zeros all) (sym many) in
          let rest : without_zeros all ≡ d ∷ ds = ap (λ n. drop n all) many ∙ drop-append_seam run (d ∷ ds) in
          let makes = ending (bytes "0o") without_zeros with_zeros all (ap is_octal rest ∙ is_octal_lem (d ∷ ds) octal) in
          subst (λ (made : List ℕ). Makes x (bytes "0o" ++ all) made)
          (ap₂ (λ (a b : List ℕ). bytes "0x" ++ a ++ numeral_in 16 (in_base 8 (map digit_of b))) first rest) makes
