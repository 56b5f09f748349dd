-- Nothing that stands at a byte takes a byte that is not there: neither a blank, nor a token, nor an octal numeral.
use Prim.Native.Nat.{ℕ, zero, suc, ◌^◌, ◌≤◌, zero-le, suc-le-suc}
use mathlib.Core.Path.{◌≡◌, refl, sym}
use mathlib.Core.Bool.{Bool, true, false, not, cond, ◌&&◌, ◌||◌, true≢false}
use mathlib.Core.Option.{Option, none, some}
use mathlib.Core.List.{List, [], ◌∷◌}
use lib.ListN.{length, take, drop}
use lib.Dec.{eqb, ltb}
use Rattle.paper.specs.Tokens.{is, span, starts, is_id_byte, is_id_start, is_digit, is_blank, word_more, Notation, based, octal, spelling, is_numeral, numeral_value, literal_in, one_byte, two_bytes, Sign, numeral, string, Scan, blank, token, no_token, too_large, taken, numeral_scan, scan_comment, scan_string, scan_numeral, scan_one, scan_two, scan_sign, is_space, is_slash, is_quote, is_letter, is_figure, is_other, scan_class, scan}

abbrev pub Fits : List ℕ → Scan → Type 0
Fits s c = taken c ≤ length s

either_fits : (s : List ℕ) (b : Bool) (x y : Scan) → (b ≡ true → Fits s x) → Fits s y → Fits s (cond b x y)
either_fits s true x y h g = h refl
either_fits s false x y h g = g

one_more_fits : (b : Bool) {n m : ℕ} → n ≤ m → cond b (suc n) 0 ≤ suc m
one_more_fits true h = suc-le-suc h
one_more_fits false h = zero-le

pub span_fits : (p : ℕ → Bool) (s : List ℕ) → span p s ≤ length s
span_fits p [] = zero-le
span_fits p (b ∷ s) = one_more_fits (p b) (span_fits p s)

word_fits : (s : List ℕ) → word_more s ≤ length s
word_fits [] = zero-le
word_fits (b ∷ s) = one_more_fits (is_id_byte b || is "." b && starts is_id_start s) (word_fits s)

starts_fits : (p : ℕ → Bool) (n : ℕ) (s : List ℕ) → starts p (drop n s) ≡ true → suc n ≤ length s
starts_fits p zero [] h = absurd (true≢false (sym h))
starts_fits p (suc n) [] h = absurd (true≢false (sym h))
starts_fits p zero (b ∷ s) h = suc-le-suc zero-le
starts_fits p (suc n) (b ∷ s) h = suc-le-suc (starts_fits p n s h)

comment_fits : (s : List ℕ) → Fits s (scan_comment s)
comment_fits [] = zero-le
comment_fits (c ∷ s) =
    let comment : ℕ → Bool = λ b. not (eqb b 10) in
    either_fits (c ∷ s) (is "/" c) (blank (suc (span comment s))) no_token (λ _. suc-le-suc (span_fits comment s)) zero-le

string_fits : (s : List ℕ) → Fits s (scan_string s)
string_fits s =
    let n = span (λ b. not (is "'" b || eqb b 10)) s in
    either_fits s (starts (is "'") (drop n s)) (token (string (take n s)) (suc n)) no_token (starts_fits (is "'") n s) zero-le

notation_fits : (s : List ℕ) (o : Notation) (v more : ℕ) → more ≤ length s → Fits s (numeral_scan o v more)
notation_fits s octal v more h = h
notation_fits s (based base) v more h =
    either_fits s (ltb v (2 ^ 128)) (token (numeral (literal_in base v)) more) too_large (λ _. h) zero-le

numeral_fits : (b : ℕ) (s : List ℕ) → Fits s (scan_numeral b s)
numeral_fits b s =
    let more = span is_id_byte s in
    let n = spelling (b ∷ take more s) in
    either_fits s (is_numeral n) (numeral_scan n.notation (numeral_value n) more) no_token
    (λ _. notation_fits s n.notation (numeral_value n) more (span_fits is_id_byte s)) zero-le

one_fits : (s : List ℕ) (o : Option Sign) → Fits s (scan_one o)
one_fits s none = zero-le
one_fits s (some g) = zero-le

two_fits : (c : ℕ) (s : List ℕ) (o : Option Sign) (b : ℕ) → Fits (c ∷ s) (scan_two o b)
two_fits c s none b = one_fits (c ∷ s) (one_byte b)
two_fits c s (some g) b = suc-le-suc zero-le

sign_fits : (b : ℕ) (s : List ℕ) → Fits s (scan_sign b s)
sign_fits b [] = one_fits [] (one_byte b)
sign_fits b (c ∷ s) = two_fits c s (two_bytes b c) b

-- by the tests that give a byte its class, in their order
pub scan_fits : (b : ℕ) (s : List ℕ) → Fits s (scan b s)
unfolding scan
scan_fits b s = go (is_blank b) (is "/" b) (is "'" b) (is_id_start b) (is_digit b)
  where
    go : (blank slash quote letter digit : Bool)
        → Fits s (scan_class (cond blank is_space (cond slash is_slash (cond quote is_quote (cond letter is_letter (cond digit is_figure is_other))))) b s)
    go true slash quote letter digit = zero-le
    go false true quote letter digit = comment_fits s
    go false false true letter digit = string_fits s
    go false false false true digit = word_fits s
    go false false false false true = numeral_fits b s
    go false false false false false = sign_fits b s
