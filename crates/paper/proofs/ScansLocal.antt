-- What stands at a byte depends on the bytes that it takes, and on the next one after them, unless that is a dot: another surrounding that begins
-- alike leaves it as it is.
use Prim.Native.Nat.{ℕ, suc, ◌^◌, ◌<◌}
use native.Mathlib.Nat.{suc_inj}
use native.Mathlib.Omega.{arith}
use mathlib.Core.Path.{◌≡◌, refl, sym, ap, ◌∙◌}
use mathlib.Core.Bool.{Bool, true, false, cond, not, ◌&&◌, ◌||◌}
use mathlib.Core.List.{List, [], ◌∷◌, ◌++◌}
use lib.ListN.{length, take, drop, length-drop}
use lib.Seq.{take_at, take-append-le, drop-append-le}
use lib.Dec.{eqb, ltb}
use Rattle.paper.specs.Tokens.{is, span, starts, is_id_byte, is_id_start, is_digit, is_blank, word_more, Notation, based, octal, spelling, is_numeral, numeral_value, literal_in, numeral, string, Scan, blank, token, octal_numeral, no_token, too_large, numeral_scan, scan_comment, scan_string, scan_word, scan_numeral, scan_sign, is_space, is_slash, is_quote, is_letter, is_figure, is_other, scan_class, scan}

-- two surroundings: both end there, or both go on with the same byte, which is no dot
abbrev pub Alike : List ℕ → List ℕ → Type 0
Alike [] [] = Unit {0}
Alike [] (d ∷ t) = ⊥
Alike (c ∷ s) [] = ⊥
Alike (c ∷ s) (d ∷ t) = (c ≡ d) × (is "." c ≡ false)

-- how many bytes something takes with its own; none where there is nothing to take
abbrev pub covers : Scan → ℕ
covers (blank n) = suc n
covers (token k n) = suc n
covers (octal_numeral v n) = suc n
covers no_token = 0
covers too_large = 0

-- a run of bytes that pass a test

run_ends : (t : Bool) (n : ℕ) → cond t (suc n) 0 ≡ 0 → t ≡ false
run_ends true n h = absurd (omega arith)
run_ends false n h = refl

run_goes_on : (t : Bool) (m n : ℕ) → cond t (suc m) 0 ≡ suc n → (t ≡ true) × (m ≡ n)
run_goes_on true m n h = (refl, suc_inj h)
run_goes_on false m n h = absurd (omega arith)

module _ (p : ℕ → Bool) where
  span_ends : (rest rest' : List ℕ) → Alike rest rest' → span p rest ≡ 0 → span p rest' ≡ 0
  span_ends [] [] a h = refl
  span_ends [] (d ∷ t) a h = absurd a
  span_ends (c ∷ s) [] a h = absurd a
  span_ends (c ∷ s) (d ∷ t) a h = rw (ap p (sym a.0) ∙ run_ends (p c) (span p s) h)

  -- one that ends with s
  span_local : (s rest rest' : List ℕ) → Alike rest rest' → span p (s ++ rest) ≡ length s → span p (s ++ rest') ≡ length s
  span_local [] rest rest' a h = span_ends rest rest' a h
  span_local (b ∷ s) rest rest' a h =
      let (e, f) = run_goes_on (p b) (span p (s ++ rest)) (length s) h in
      rw e (ap suc (span_local s rest rest' a f))

  -- one that ends before
  span_inside : (s rest rest' : List ℕ) → span p (s ++ rest) < length s → span p (s ++ rest') ≡ span p (s ++ rest)
  span_inside [] rest rest' h = absurd (omega arith)
  span_inside (b ∷ s) rest rest' h = go (p b) h (λ m. span_inside s rest rest' m)
    where
      go : (t : Bool) → cond t (suc (span p (s ++ rest))) 0 < suc (length s)
          → (span p (s ++ rest) < length s → span p (s ++ rest') ≡ span p (s ++ rest))
          → cond t (suc (span p (s ++ rest'))) 0 ≡ cond t (suc (span p (s ++ rest))) 0
      go true h more = ap suc (more (omega arith))
      go false h more = refl

  starts_local : (s rest rest' : List ℕ) → Alike rest rest' → starts p (s ++ rest) ≡ starts p (s ++ rest')
  starts_local [] [] [] a = refl
  starts_local [] [] (d ∷ t) a = absurd a
  starts_local [] (c ∷ s) [] a = absurd a
  starts_local [] (c ∷ s) (d ∷ t) a = ap p a.0
  starts_local (b ∷ s) rest rest' a = refl

  starts_inside : (s rest rest' : List ℕ) → 0 < length s → starts p (s ++ rest) ≡ starts p (s ++ rest')
  starts_inside [] rest rest' h = absurd (omega arith)
  starts_inside (b ∷ s) rest rest' h = refl

-- a word goes on over a dot only where an id start follows: the next byte is none

neither : (x y z : Bool) → (x || y && z) ≡ false → x ≡ false
neither true y z h = h
neither false y z h = refl

word_ends : (rest rest' : List ℕ) → Alike rest rest' → word_more rest ≡ 0 → word_more rest' ≡ 0
word_ends [] [] a h = refl
word_ends [] (d ∷ t) a h = absurd a
word_ends (c ∷ s) [] a h = absurd a
word_ends (c ∷ s) (d ∷ t) a h =
    let dotted = starts is_id_start s in
    let e = neither (is_id_byte c) (is "." c) dotted (run_ends (is_id_byte c || is "." c && dotted) (word_more s) h) in
    rw (ap is_id_byte (sym a.0) ∙ e, ap (is ".") (sym a.0) ∙ a.1)

word_local : (s rest rest' : List ℕ) → Alike rest rest' → word_more (s ++ rest) ≡ length s → word_more (s ++ rest') ≡ length s
word_local [] rest rest' a h = word_ends rest rest' a h
word_local (b ∷ s) rest rest' a h =
    let goes_on : Bool → Bool = λ x. is_id_byte b || is "." b && x in
    let (e, f) = run_goes_on (goes_on (starts is_id_start (s ++ rest))) (word_more (s ++ rest)) (length s) h in
    rw (sym (ap goes_on (starts_local is_id_start s rest rest' a)) ∙ e) (ap suc (word_local s rest rest' a f))

-- by what a byte begins

module _ (b : ℕ) (s rest rest' : List ℕ) (a : Alike rest rest') where
  word_same : covers (scan_word b (s ++ rest)) ≡ suc (length s) → scan_word b (s ++ rest') ≡ scan_word b (s ++ rest)
  word_same h =
      let n : word_more (s ++ rest) ≡ length s = suc_inj h in
      let m = word_local s rest rest' a n in
      rw (m, n, take_at s rest' (length s) refl, take_at s rest (length s) refl)

  number_size : (t : Bool) (w : Notation) (v more : ℕ) → covers (cond t (numeral_scan w v more) no_token) ≡ suc (length s) → more ≡ length s
  number_size true octal v more h = suc_inj h
  number_size true (based base) v more h = go (ltb v (2 ^ 128)) h
    where
      go : (x : Bool) → covers (cond x (token (numeral (literal_in base v)) more) too_large) ≡ suc (length s) → more ≡ length s
      go true h = suc_inj h
      go false h = absurd (omega arith)
  number_size false w v more h = absurd (omega arith)

  numeral_same : covers (scan_numeral b (s ++ rest)) ≡ suc (length s) → scan_numeral b (s ++ rest') ≡ scan_numeral b (s ++ rest)
  numeral_same h =
      let u = spelling (b ∷ take (span is_id_byte (s ++ rest)) (s ++ rest)) in
      let n = number_size (is_numeral u) u.notation (numeral_value u) (span is_id_byte (s ++ rest)) h in
      let m = span_local is_id_byte s rest rest' a n in
      rw (m, n, take_at s rest' (length s) refl, take_at s rest (length s) refl)

sign_same : (b : ℕ) (s rest rest' : List ℕ) → Alike rest rest' → scan_sign b (s ++ rest') ≡ scan_sign b (s ++ rest)
sign_same b [] [] [] a = refl
sign_same b [] [] (d ∷ t) a = absurd a
sign_same b [] (c ∷ s) [] a = absurd a
sign_same b [] (c ∷ s) (d ∷ t) a = rw a.0
sign_same b (c ∷ s) rest rest' a = refl

comment_same : (s rest rest' : List ℕ) → Alike rest rest' → covers (scan_comment (s ++ rest)) ≡ suc (length s)
    → scan_comment (s ++ rest') ≡ scan_comment (s ++ rest)
comment_same [] [] rest' a h = absurd (omega arith)
comment_same [] (c ∷ t) rest' a h = go (is "/" c) (span (λ b. not (eqb b 10)) t) h
  where
    go : (x : Bool) (n : ℕ) → covers (cond x (blank (suc n)) no_token) ≡ 1 → scan_comment rest' ≡ scan_comment (c ∷ t)
    go true n h = absurd (omega arith)
    go false n h = absurd (omega arith)
comment_same (c ∷ s) rest rest' a h = go (is "/" c) h
  where
    comment : ℕ → Bool
    comment b = not (eqb b 10)

    go : (x : Bool) → covers (cond x (blank (suc (span comment (s ++ rest)))) no_token) ≡ suc (suc (length s))
        → cond x (blank (suc (span comment (s ++ rest')))) no_token ≡ cond x (blank (suc (span comment (s ++ rest)))) no_token
    go true h =
        let n : span comment (s ++ rest) ≡ length s = suc_inj (suc_inj h) in
        ap (λ m. blank (suc m)) (span_local comment s rest rest' a n ∙ sym n)
    go false h = refl

-- a string ends with a quote of its own

string_size : (x : Bool) (q : List ℕ) (n m : ℕ) → covers (cond x (token (string q) (suc n)) no_token) ≡ suc m → suc n ≡ m
string_size true q n m h = suc_inj h
string_size false q n m h = absurd (omega arith)

string_same : (s rest rest' : List ℕ) → covers (scan_string (s ++ rest)) ≡ suc (length s) → scan_string (s ++ rest') ≡ scan_string (s ++ rest)
string_same s rest rest' h =
    let within : ℕ → Bool = λ c. not (is "'" c || eqb c 10) in
    let quoted = starts (is "'") in
    let n = span within (s ++ rest) in
    let far = string_size (quoted (drop n (s ++ rest))) (take n (s ++ rest)) n (length s) h in
    let same : span within (s ++ rest') ≡ n = span_inside within s rest rest' (omega arith) in
    let front : take n (s ++ rest') ≡ take n (s ++ rest) = take-append-le n s rest' (omega arith) ∙ sym (take-append-le n s rest (omega arith)) in
    let next : quoted (drop n (s ++ rest')) ≡ quoted (drop n (s ++ rest)) =
    ap quoted (drop-append-le n s rest' (omega arith)) ∙ starts_inside (is "'") (drop n s) rest' rest (omega (arith, length-drop n s))
    ∙ sym (ap quoted (drop-append-le n s rest (omega arith)))
    in
    rw (same, front, next)

-- by the tests that give a byte its class, in their order
pub scan_local : (b : ℕ) (s rest rest' : List ℕ) → Alike rest rest' → covers (scan b (s ++ rest)) ≡ suc (length s)
    → scan b (s ++ rest') ≡ scan b (s ++ rest)
unfolding scan
scan_local b s rest rest' a = go (is_blank b) (is "/" b) (is "'" b) (is_id_start b) (is_digit b)
  where
    go : (x y z l d : Bool)
        → let class = cond x is_space (cond y is_slash (cond z is_quote (cond l is_letter (cond d is_figure is_other)))) in
        covers (scan_class class b (s ++ rest)) ≡ suc (length s) → scan_class class b (s ++ rest') ≡ scan_class class b (s ++ rest)
    go true y z l d h = refl
    go false true z l d h = comment_same s rest rest' a h
    go false false true l d h = string_same s rest rest' h
    go false false false true d h = word_same b s rest rest' a h
    go false false false false true h = numeral_same b s rest rest' a h
    go false false false false false h = sign_same b s rest rest' a
