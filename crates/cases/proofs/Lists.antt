-- A list of bytes, cut: one byte more, the command of a word, the values of characters, the words of a line, and lines.
use Prim.Native.Nat.{ℕ, zero, suc, ◌+◌, ◌*◌, ◌-◌, ◌/◌, ◌%◌, ◌≤◌, ◌<◌}
use mathlib.Core.Path.{◌≡◌, refl, sym, ap, ◌∙◌}
use mathlib.Core.Bool.{Bool, true, false, not, cond}
use mathlib.Core.Logic.{◌⊎◌, inl, inr, ⊎_elim}
use mathlib.Core.List.{List, [], ◌∷◌, ◌++◌}
use native.Mathlib.Nat.{add-zero}
use native.Mathlib.Decide.{dec_lt}
use native.Mathlib.Omega.{arith}
use lib.ListN.{length, get_or, drop, length-drop}
use lib.Seq.{drop-cons, drop-drop}
use lib.Dec.{eqb, ltb}
use borrow.Author.Tests.{ltb-true, lt-ltb, le-ltb, lt-leb}
use Rattle.paper.specs.Numbers.{byte_at}
use Rattle.std.specs.Prelude.{Some}
use Rattle.paper.specs.Tokens.{span, digit_of, same_bytes}
use Rattle.cases.specs.declared.names.Command.{Command}
use Rattle.cases.specs.Places.{stop_from}
use Rattle.cases.specs.Names.{word_of, first_of}
use Rattle.cases.specs.Words.{six_digits, value_at, spelled, word_bytes, next_word, words_from, line_bytes}
use Rattle.cases.specs.Inputs.{heads, last_of, gives}

-- one digit more of a number
pub digits_on : (s : List ℕ) (n i : ℕ) → i < length s → six_digits (n % 100000 * 10 + digit_of (get_or s i 0)) (drop (i + 1) s) ≡ six_digits n (drop i s)
digits_on s n i h =
    let e : i + 1 ≡ suc i = omega arith in
    rw (e, drop-cons s i 0 h)

-- the first command of a word is the one at a place, or among those after it

pub first_here : (cs : List Command) (i : ℕ) (d : Command) (w word : List ℕ) → w ≡ word_of (get_or cs i d) → same_bytes w word ≡ true → i < length cs
    → first_of (drop i cs) word ≡ Some (get_or cs i d)
first_here cs i d w word e same h =
    let named : same_bytes (word_of (get_or cs i d)) word ≡ true = ap (λ (v : List ℕ). same_bytes v word) (sym e) ∙ same in
    rw (drop-cons cs i d h, named)

pub first_later : (cs : List Command) (i : ℕ) (d : Command) (w word : List ℕ) → w ≡ word_of (get_or cs i d) → same_bytes w word ≡ false → i < length cs
    → first_of (drop (i + 1) cs) word ≡ first_of (drop i cs) word
first_later cs i d w word e same h =
    let named : same_bytes (word_of (get_or cs i d)) word ≡ false = ap (λ (v : List ℕ). same_bytes v word) (sym e) ∙ same in
    let next : i + 1 ≡ suc i = omega arith in
    rw (next, drop-cons cs i d h, named)

-- the values between two offsets, one at a time: a width is 1 or 2

widths : (width : ℕ) → 0 < width → width ≤ 2 → (width ≡ 1) ⊎ (width ≡ 2)
widths width h l = elim (dec_lt width 2) [ yes m ↦ inl (omega arith) | no m ↦ inr (omega arith) ]

module _ (width : ℕ) (s : List ℕ) (i to : ℕ) (some : 0 < width) (few : width ≤ 2) where
  abbrev left : ℕ → ℕ
  left at = (to - at + (width - 1)) / width

  left_on : i < to → left i ≡ suc (left (i + width))
  left_on h = ⊎_elim (λ e. rw e (omega arith)) (λ e. rw e (omega arith)) (widths width some few)

  left_none : to ≤ i → left i ≡ 0
  left_none h = ⊎_elim (λ e. rw e (omega arith)) (λ e. rw e (omega arith)) (widths width some few)

  pub spelled_on : i < to → spelled width s i to ≡ value_at width s i ∷ spelled width s (i + width) to
  spelled_on h = rw (left_on h)

  pub spelled_none : to ≤ i → spelled width s i to ≡ []
  spelled_none h = rw (left_none h)

-- the words of a line, one at a time

span_inside : (p : ℕ → Bool) (s : List ℕ) → span p s ≤ length s
span_inside p [] = omega arith
span_inside p (b ∷ s) = go (p b) refl (span_inside p s)
  where
    go : (t : Bool) → p b ≡ t → span p s ≤ length s → span p (b ∷ s) ≤ length (b ∷ s)
    go true e i = rw e (omega arith)
    go false e i = rw e (omega arith)

next_onward : (s : List ℕ) (end : ℕ) → end ≤ length s → end < next_word s end
next_onward s end l = go (eqb (byte_at s end) 10) refl (eqb (byte_at s (end + 1)) 32) refl
  where
    go : (t : Bool) → eqb (byte_at s end) 10 ≡ t → (u : Bool) → eqb (byte_at s (end + 1)) 32 ≡ u → end < next_word s end
    go true e true f = rw (e, f) (omega arith)
    go true e false f = rw (e, f) (omega arith)
    go false e u f = rw e (omega arith)

abbrev following : List ℕ → ℕ → ℕ
following s at = next_word s (stop_from s at 32)

following_onward : (s : List ℕ) (at : ℕ) → at < length s → at < following s at
following_onward s at h =
    let inside : stop_from s at 32 ≤ length s = omega (arith, span_inside (ltb 32) (drop at s), length-drop at s) in
    omega (arith, next_onward s (stop_from s at 32) inside)

-- as many words as there are bytes are enough
words_enough : (n m : ℕ) (s : List ℕ) (at : ℕ) → length s - at ≤ n → n ≤ m → words_from n s at ≡ words_from m s at
words_enough zero zero s at h l = refl
words_enough zero (suc m) s at h l = rw (le-ltb at (length s) (omega arith))
words_enough (suc n) zero s at h l = absurd (omega arith)
words_enough (suc n) (suc m) s at h l = go (ltb at (length s)) refl (λ k. words_enough n m s (following s at) k (omega arith))
  where
    go : (t : Bool) → ltb at (length s) ≡ t
        → (length s - following s at ≤ n → words_from n s (following s at) ≡ words_from m s (following s at))
        → words_from (suc n) s at ≡ words_from (suc m) s at
    go true e i =
        let onward = following_onward s at (ltb-true at (length s) e) in
        rw e (ap (λ (r : List ℕ). word_bytes s at (stop_from s at 32) ++ r) (i (omega arith)))
    go false e i = rw e

pub line_on : (s : List ℕ) (at : ℕ) → at < length s → line_bytes s at ≡ word_bytes s at (stop_from s at 32) ++ line_bytes s (following s at)
line_on s at h =
    let n = length s - (at + 1) in
    let some : length s - at ≡ suc n = omega arith in
    let onward = following_onward s at h in
    ap (λ (m : ℕ). words_from m s at) some
    ∙ rw (lt-ltb at (length s) h)
    (ap (λ (r : List ℕ). word_bytes s at (stop_from s at 32) ++ r) (sym (words_enough (length s - following s at) n s (following s at) (omega arith) (omega arith))))

pub line_none : (s : List ℕ) (at : ℕ) → length s ≤ at → line_bytes s at ≡ []
line_none s at h = let none : length s - at ≡ 0 = omega arith in rw none

-- lines, by where they begin

skip : (s : List ℕ) (at : ℕ) → heads at false s ≡ heads (at + span (ltb 10) s + 1) true (drop (suc (span (ltb 10) s)) s)
skip [] at = refl
skip (b ∷ s) at = go (ltb 10 b) refl (skip s (at + 1))
  where
    go : (t : Bool) → ltb 10 b ≡ t → heads (at + 1) false s ≡ heads (at + 1 + span (ltb 10) s + 1) true (drop (suc (span (ltb 10) s)) s)
        → heads at false (b ∷ s) ≡ heads (at + span (ltb 10) (b ∷ s) + 1) true (drop (suc (span (ltb 10) (b ∷ s))) (b ∷ s))
    go true e i =
        let one : at + 1 + span (ltb 10) s + 1 ≡ at + suc (span (ltb 10) s) + 1 = omega arith in
        rw e (i ∙ ap (λ (j : ℕ). heads j true (drop (suc (span (ltb 10) s)) s)) one)
    go false e i = rw (e, add-zero)

heads_cut : (s : List ℕ) (at : ℕ) → 0 < length s → heads at true s ≡ at ∷ heads (at + span (ltb 10) s + 1) true (drop (suc (span (ltb 10) s)) s)
heads_cut [] at h = absurd (omega arith)
heads_cut (b ∷ s) at h = ap (λ (r : List ℕ). at ∷ r) (skip (b ∷ s) at)

pub line_head : (s : List ℕ) (at : ℕ) → at < length s → heads at true (drop at s) ≡ at ∷ heads (stop_from s at 10 + 1) true (drop (stop_from s at 10 + 1) s)
line_head s at h =
    let n = span (ltb 10) (drop at s) in
    let past : at + suc n ≡ at + n + 1 = omega arith in
    heads_cut (drop at s) at (omega (arith, length-drop at s))
    ∙ ap (λ (r : List ℕ). at ∷ heads (at + n + 1) true r) (drop-drop (suc n) at s ∙ ap (λ (m : ℕ). drop m s) past)

-- no line past an offset is among those up to it
pub heads_past : (file : List ℕ) (to : ℕ) (input : Command) (s : List ℕ) (at : ℕ) (begins : Bool) (none : ℕ) → to < at
    → last_of (gives file to input) none (heads at begins s) ≡ none
heads_past file to input [] at begins none h = refl
heads_past file to input (b ∷ s) at true none h =
    let later : cond (gives file to input at) at none ≡ none = rw (lt-leb at to h) in
    ap (λ (n : ℕ). last_of (gives file to input) n (heads (at + 1) (not (ltb 10 b)) s)) later
    ∙ heads_past file to input s (at + 1) (not (ltb 10 b)) none (omega arith)
heads_past file to input (b ∷ s) at false none h = heads_past file to input s (at + 1) (not (ltb 10 b)) none (omega arith)
