-- A word and a numeral in any base are each one token wherever they stand, since a byte follows that goes on with neither.
use Prim.Native.Nat.{ℕ, suc, ◌+◌, ◌^◌, ◌≤◌, ◌<◌}
use native.Mathlib.Nat.{suc_inj}
use native.Mathlib.Omega.{arith}
use mathlib.Core.Path.{◌≡◌, refl, sym, ap, ap₂, ◌∙◌}
use mathlib.Core.Bool.{Bool, true, false, cond, ◌&&◌, ◌||◌, true≢false, and-eq-true_iff}
use mathlib.Core.Option.{Option, none, some}
use mathlib.Core.List.{List, [], ◌∷◌, ◌++◌, map, append-nil}
use lib.ListN.{length}
use lib.Seq.{take_at}
use lib.Dec.{eqb, leb, ltb}
use borrow.Author.Tests.{eqb-true, leb-true, lt-leb, le-leb, ne_eqb, eq-eqb, ltb-true, ltb-false, lt-ltb, le-ltb}
use Rattle.paper.specs.Numbers.{in_base}
use Rattle.paper.specs.Tokens.{is, is_digit, is_id_start, is_id_byte, span, starts, word_more, is_key, digit_of, Base, decimal, binary, hex, radix, Notation, based, notation_of, Numeral, spelling, spelled, is_numeral, numeral_value, Literal, literal_in, word, numeral, Scan, token, no_token, numeral_scan, scan, is_letter, is_figure, class_of}
use Rattle.paper.specs.BlocksRoundTrip.{All}
use Rattle.paper.specs.Print.{digit_byte}

-- bytes

-- a byte that passes a test is none of those that do not
pub unlike : (p : ℕ → Bool) (b c : ℕ) → p b ≡ true → p c ≡ false → eqb b c ≡ false
unlike p b c h g = ne_eqb b c (λ e. true≢false (sym h ∙ ap p e ∙ g))

-- what may follow a word or a numeral
abbrev pub Loose : List ℕ → Type 0
Loose [] = Unit {0}
Loose (b ∷ s) = (is_id_byte b ≡ false) × (is "." b ≡ false)

-- words

starts_on : (p : ℕ → Bool) (w rest : List ℕ) → starts p w ≡ true → starts p (w ++ rest) ≡ true
starts_on p [] rest h = absurd (true≢false (sym h))
starts_on p (b ∷ w) rest h = h

word_span : (w rest : List ℕ) → word_more w ≡ length w → Loose rest → word_more (w ++ rest) ≡ length w
word_span [] [] h loose = refl
word_span [] (b ∷ rest) h loose = rw (loose.0, loose.1)
word_span (b ∷ w) rest h loose =
    go (is_id_byte b) (is "." b) (starts is_id_start w) refl refl refl h (λ g. word_span w rest g loose)
  where
    go : (x y z : Bool) → is_id_byte b ≡ x → is "." b ≡ y → starts is_id_start w ≡ z → cond (x || y && z) (suc (word_more w)) 0 ≡ suc (length w)
        → (word_more w ≡ length w → word_more (w ++ rest) ≡ length w) → word_more (b ∷ (w ++ rest)) ≡ suc (length w)
    go true y z e f d h more = rw e (ap suc (more (suc_inj h)))
    go false true true e f d h more = rw (e, f, starts_on is_id_start w rest d) (ap suc (more (suc_inj h)))
    go false true false e f d h more = absurd (omega (arith, h))
    go false false z e f d h more = absurd (omega (arith, h))

letter_class : (b : ℕ) → is_id_start b ≡ true → class_of b ≡ is_letter
letter_class b h =
    rw (
      unlike is_id_start b 32 h refl,
      unlike is_id_start b 9 h refl,
      unlike is_id_start b 13 h refl,
      unlike is_id_start b 10 h refl,
      unlike is_id_start b 47 h refl,
      unlike is_id_start b 39 h refl,
      h,
    )

pub scan_word : (b : ℕ) (w rest : List ℕ) → is_key (b ∷ w) ≡ true → Loose rest → scan b (w ++ rest) ≡ token (word (b ∷ w)) (length w)
unfolding scan
scan_word b w rest h loose =
    let both = (and-eq-true_iff (is_id_start b) (eqb (word_more w) (length w))).0 h in
    let n = word_span w rest (eqb-true (word_more w) (length w) both.1) loose in
    rw (letter_class b both.0, n, take_at w rest (length w) refl)

-- numerals

module _ (d : ℕ) where
  low_digit : d < 10 → digit_byte d ≡ 48 + d
  low_digit h = rw (lt-ltb d 10 h)

  high_digit : 10 ≤ d → digit_byte d ≡ 87 + d
  high_digit h = rw (le-ltb d 10 h)

  pub low_is_digit : d < 10 → is_digit (digit_byte d) ≡ true
  low_is_digit h = rw (low_digit h, le-leb 48 (48 + d) (omega arith), le-leb (48 + d) 57 (omega arith))

  pub digit_back : d < 16 → digit_of (digit_byte d) ≡ d
  digit_back h = go (ltb d 10) refl
    where
      go : (t : Bool) → ltb d 10 ≡ t → digit_of (cond t (48 + d) (87 + d)) ≡ d
      go true e =
          let l = ltb-true d 10 e in
          rw (le-leb 48 (48 + d) (omega arith), le-leb (48 + d) 57 (omega arith)) (omega arith)
      go false e =
          let l = ltb-false d 10 e in
          rw (
            lt-leb (87 + d) 57 (omega arith),
            le-leb 48 (87 + d) (omega arith),
            le-leb 97 (87 + d) (omega arith),
            le-leb (87 + d) 102 (omega arith),
          )
          (omega arith)

  pub digit_id : d < 16 → is_id_byte (digit_byte d) ≡ true
  digit_id h = go (ltb d 10) refl
    where
      go : (t : Bool) → ltb d 10 ≡ t → is_id_byte (cond t (48 + d) (87 + d)) ≡ true
      go true e =
          let l = ltb-true d 10 e in
          rw (
            lt-leb 97 (48 + d) (omega arith),
            lt-leb 65 (48 + d) (omega arith),
            ne_eqb (48 + d) 95 (λ f. omega arith),
            le-leb 48 (48 + d) (omega arith),
            le-leb (48 + d) 57 (omega arith),
          )
      go false e =
          let l = ltb-false d 10 e in
          rw (le-leb 97 (87 + d) (omega arith), le-leb (87 + d) 122 (omega arith))

abbrev Stops : (ℕ → Bool) → List ℕ → Type 0
Stops p [] = Unit {0}
Stops p (b ∷ s) = p b ≡ false

loose_stops : (rest : List ℕ) → Loose rest → Stops is_id_byte rest
loose_stops [] h = tt
loose_stops (b ∷ s) h = h.0

span_all : (p : ℕ → Bool) (s rest : List ℕ) → All (λ b. p b ≡ true) s → Stops p rest → span p (s ++ rest) ≡ length s
span_all p [] [] h stop = refl
span_all p [] (b ∷ rest) h stop = rw stop
span_all p (b ∷ s) rest h stop = rw h.0 (ap suc (span_all p s rest h.1 stop))

all_map : (P Q : ℕ → Type 0) (f : ℕ → ℕ) → ((d : ℕ) → P d → Q (f d)) → (ds : List ℕ) → All P ds → All Q (map f ds)
all_map P Q f g [] h = tt
all_map P Q f g (d ∷ ds) h = (g d h.0, all_map P Q f g ds h.1)

pub radix_small : (base : Base) → radix base ≤ 16
radix_small decimal = omega arith
radix_small binary = omega arith
radix_small hex = omega arith

digits_same : (base : Base) (ds : List ℕ) → All (λ d. d < radix base) ds → map digit_of (map digit_byte ds) ≡ ds
digits_same base [] h = refl
digits_same base (d ∷ ds) h = ap₂ ◌∷◌ (digit_back d (omega (arith, h.0, radix_small base))) (digits_same base ds h.1)

not_announced : (b : ℕ) → is_digit b ≡ true → notation_of b ≡ none
not_announced b h =
    rw (
      unlike is_digit b 100 h refl,
      unlike is_digit b 68 h refl,
      unlike is_digit b 98 h refl,
      unlike is_digit b 66 h refl,
      unlike is_digit b 111 h refl,
      unlike is_digit b 79 h refl,
      unlike is_digit b 120 h refl,
      unlike is_digit b 88 h refl,
    )

figure_class : (b : ℕ) → is_digit b ≡ true → class_of b ≡ is_figure
figure_class b h =
    let both = (and-eq-true_iff (leb 48 b) (leb b 57)).0 h in
    let low = leb-true b 57 both.1 in
    rw (
      unlike is_digit b 32 h refl,
      unlike is_digit b 9 h refl,
      unlike is_digit b 13 h refl,
      unlike is_digit b 10 h refl,
      unlike is_digit b 47 h refl,
      unlike is_digit b 39 h refl,
      lt-leb 97 b (omega arith),
      lt-leb 65 b (omega arith),
      unlike is_digit b 95 h refl,
      h,
    )

-- digits, as a numeral in a base
abbrev written : Base → List ℕ → Numeral
written base ds = record { notation = based base; digits = map digit_byte ds }

abbrev pub counted : Base → List ℕ → Literal
counted base ds = literal_in base (in_base (radix base) ds)

module _ (base : Base) (d : ℕ) (ds : List ℕ) (h : All (λ e. e < radix base) (d ∷ ds)) where
  numeral_good : is_numeral (written base (d ∷ ds)) ≡ true
  numeral_good =
      let s = map digit_byte (d ∷ ds) in
      let of_base : ℕ → Bool = λ b. ltb (digit_of b) (radix base) in
      let below = all_map (λ e. e < radix base) (λ b. of_base b ≡ true) digit_byte
      (λ e m. rw (digit_back e (omega (arith, m, radix_small base))) (lt-ltb e (radix base) m)) (d ∷ ds) h
      in
      let whole : span of_base s ≡ length s = ap (span of_base) (sym (append-nil s)) ∙ span_all of_base s [] below tt in
      rw (whole, eq-eqb (length s) (length s) refl, lt-ltb 0 (length s) (omega arith))

  numeral_counts : numeral_value (written base (d ∷ ds)) ≡ in_base (radix base) (d ∷ ds)
  numeral_counts = ap (in_base (radix base)) (digits_same base (d ∷ ds) h)

  digits_ids : All (λ b. is_id_byte b ≡ true) (map digit_byte (d ∷ ds))
  digits_ids = all_map (λ e. e < radix base) (λ b. is_id_byte b ≡ true) digit_byte (λ e m. digit_id e (omega (arith, m, radix_small base))) (d ∷ ds) h

-- digits alone are spelled in decimal
plain_spelling : (d : ℕ) (ds : List ℕ) → All (λ e. e < 10) ds → spelling (map digit_byte (d ∷ ds)) ≡ written decimal (d ∷ ds)
plain_spelling d [] h = refl
plain_spelling d (e ∷ ds) h = go (is "0" (digit_byte d)) (notation_of (digit_byte e)) (not_announced (digit_byte e) (low_is_digit e h.0))
  where
    go : (t : Bool) (o : Option Notation) → o ≡ none
        → spelled (cond t o none) (map digit_byte (d ∷ e ∷ ds)) (map digit_byte ds) ≡ written decimal (d ∷ e ∷ ds)
    go true o h = rw h
    go false o h = refl

-- a run of letters and digits is scanned as a whole, whatever it spells
abbrev whole_run : Numeral → ℕ → Scan
whole_run n more = cond (is_numeral n) (numeral_scan n.notation (numeral_value n) more) no_token

scan_run : (b : ℕ) (s rest : List ℕ) → is_digit b ≡ true → All (λ c. is_id_byte c ≡ true) s → Loose rest
    → scan b (s ++ rest) ≡ whole_run (spelling (b ∷ s)) (length s)
unfolding scan
scan_run b s rest h ids loose =
    rw (figure_class b h, span_all is_id_byte s rest ids (loose_stops rest loose), take_at s rest (length s) refl)

run_fits : (base : Base) (d : ℕ) (ds : List ℕ) (more : ℕ) → All (λ e. e < radix base) (d ∷ ds) → in_base (radix base) (d ∷ ds) < 2 ^ 128
    → whole_run (written base (d ∷ ds)) more ≡ token (numeral (counted base (d ∷ ds))) more
run_fits base d ds more h small =
    rw (numeral_good base d ds h, numeral_counts base d ds h, lt-ltb (in_base (radix base) (d ∷ ds)) (2 ^ 128) small)

pub scan_decimal : (d : ℕ) (ds rest : List ℕ) → All (λ e. e < 10) (d ∷ ds) → in_base 10 (d ∷ ds) < 2 ^ 128 → Loose rest
    → scan (digit_byte d) (map digit_byte ds ++ rest) ≡ token (numeral (counted decimal (d ∷ ds))) (length (map digit_byte ds))
scan_decimal d ds rest h small loose =
    let more = length (map digit_byte ds) in
    scan_run (digit_byte d) (map digit_byte ds) rest (low_is_digit d h.0) (digits_ids decimal d ds h).1 loose
    ∙ ap (λ (n : Numeral). whole_run n more) (plain_spelling d ds h.1)
    ∙ run_fits decimal d ds more h small

-- a 0, the letter that announces a base, and digits of it
pub scan_announced : (letter : ℕ) (base : Base) → is_id_byte letter ≡ true → notation_of letter ≡ some (based base) → (d : ℕ) (ds rest : List ℕ)
    → All (λ e. e < radix base) (d ∷ ds) → in_base (radix base) (d ∷ ds) < 2 ^ 128 → Loose rest
    → scan 48 ((letter ∷ map digit_byte (d ∷ ds)) ++ rest) ≡ token (numeral (counted base (d ∷ ds))) (length (letter ∷ map digit_byte (d ∷ ds)))
scan_announced letter base id announces d ds rest h small loose =
    let s = map digit_byte (d ∷ ds) in
    let more = length (letter ∷ s) in
    scan_run 48 (letter ∷ s) rest refl (id, digits_ids base d ds h) loose
    ∙ ap (λ (o : Option Notation). whole_run (spelled o (48 ∷ letter ∷ s) s) more) announces
    ∙ run_fits base d ds more h small
