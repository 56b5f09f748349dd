-- The stretches by the kinds on a tape are those of the paper's parts. By the tokens from the last to the first: one that divides ends a
-- part and begins the next, any other is one more of the part that goes on.
use Prim.Native.Nat.{ℕ, zero, suc, ◌+◌, ◌-◌, ◌≤◌, ◌<◌}
use native.Mathlib.Nat.{add-zero}
use native.Mathlib.Omega.{arith}
use mathlib.Core.Path.{◌≡◌, refl, sym, ap, ap₂, ◌∙◌}
use mathlib.Core.Bool.{Bool, true, false, cond, and-eq-true_iff}
use mathlib.Core.List.{List, [], ◌∷◌, ◌++◌, map, map-append}
use lib.Dec.{eqb}
use borrow.Author.Tests.{eq-eqb, ne_eqb, eqb-true}
use Rattle.paper.specs.Tokens.{join, sequel, Token}
use Rattle.paper.specs.Parts.{open_after, between, non_empty, top_level, Stretch, token_end, last_of, stretch_of}
use Rattle.paper.proofs.PartsCut.{before, before_append, before_none}
use Rattle.tokens.specs.Tape.{Tape, tape_of, kind_at, start_at, end_at, sign_no, token_on, tokens_on}
use Rattle.tokens.specs.Tokenized.{CutInto}
use Rattle.tokens.proofs.Tapes.{tape_snoc}
use Rattle.parts.specs.Cutting.{kind_divides, kind_opens, stretched, stretches}
use Rattle.parts.proofs.Told.{told}

non_empty_first : (p : List Token) (ps : List (List Token)) → non_empty (p ∷ ps) ≡ non_empty (p ∷ []) ++ non_empty ps
non_empty_first [] ps = refl
non_empty_first (u ∷ us) ps = refl

last_on : (T : Tape) (i n : ℕ) → last_of (token_on T i) (tokens_on T (i + 1) n) ≡ token_on T (i + n)
unfolding tokens_on
last_on T i zero = rw (add-zero i)
last_on T i (suc n) =
    let e : i + 1 + n ≡ i + suc n = omega arith in
    last_on T (i + 1) n ∙ ap (token_on T) e

module _ (text tape : List ℕ) (count : ℕ) (cut : CutInto (tape_of text tape) count) where
  abbrev T : Tape
  T = tape_of text tape

  abbrev stretches_of : List (List Token) → List Stretch
  stretches_of ps = map (stretch_of text) (non_empty ps)

  -- a part by its first token and the number of those that follow
  part_stretch : (first n past : ℕ) → past - 1 ≡ first + n → past ≤ count → 0 < past
      → record { from = start_at tape first; to = end_at tape (past - 1) } ≡ stretch_of text (tokens_on T first (suc n))
  unfolding tokens_on stretch_of
  part_stretch first n past e h some =
      let last : last_of (token_on T first) (tokens_on T (first + 1) n) ≡ token_on T (past - 1) = last_on T first n ∙ ap (token_on T) (sym e) in
      let to : end_at tape (past - 1) ≡ token_end text (last_of (token_on T first) (tokens_on T (first + 1) n)).at =
      cut.ends (past - 1) (omega arith) ∙ ap (λ (u : Token). token_end text u.at) (sym last) in
      λ j. record { from = start_at tape first; to = to j }

  stretched_is : (first past : ℕ) → first ≤ past → past ≤ count
      → stretched tape first past ≡ stretches_of (tokens_on T first (past - first) ∷ [])
  unfolding tokens_on
  stretched_is first past h inside = go (past - first) refl
    where
      go : (n : ℕ) → past - first ≡ n → stretched tape first past ≡ stretches_of (tokens_on T first n ∷ [])
      go zero e = rw (eq-eqb first past (omega (arith, e)))
      go (suc n) e =
          rw (ne_eqb first past (λ same. omega (arith, e, same)))
          (ap (λ (s : Stretch). s ∷ []) (part_stretch first n past (omega (arith, e)) inside (omega (arith, e))))

  -- n tokens from index i on, where so many parentheses are open, with those before them that are of the same part
  abbrev parted : ℕ → ℕ → ℕ → ℕ → List (List Token)
  parted first depth i n = before (tokens_on T first (i - first)) (between depth (tokens_on T i n))

  -- a token that divides
  one_ends : (n first depth i : ℕ) → first ≤ i → i + suc n ≤ count → kind_divides depth (kind_at tape i) ≡ true
      → stretches tape (i + 1) depth (i + 1) n ≡ stretches_of (parted (i + 1) depth (i + 1) n)
      → stretched tape first i ++ stretches tape (i + 1) depth (i + 1) n ≡ stretches_of (parted first depth i (suc n))
  unfolding tokens_on between
  one_ends n first depth i h inside e later =
      let u = token_on T i in
      let us = tokens_on T (i + 1) n in
      let ours = tokens_on T first (i - first) in
      let k = told T i in
      let kind : kind_at tape i ≡ sign_no (join sequel) =
      eqb-true (kind_at tape i) (sign_no (join sequel)) ((and-eq-true_iff (eqb (kind_at tape i) (sign_no (join sequel))) (eqb depth 0)).0 e).0 in
      let level : open_after depth u.tok ≡ depth = k.opens depth ∙ ap (kind_opens depth) kind in
      let none : i + 1 - (i + 1) ≡ 0 = omega arith in
      let rest : stretches tape (i + 1) depth (i + 1) n ≡ stretches_of (between depth us) =
      later ∙ ap (λ (m : ℕ). stretches_of (before (tokens_on T (i + 1) m) (between depth us))) none in
      ap₂ (λ (x y : List Stretch). x ++ y) (stretched_is first i h (omega arith)) rest
      ∙ sym (map-append (stretch_of text) (non_empty (ours ∷ [])) (non_empty (between depth us)))
      ∙ ap (map (stretch_of text)) (sym (non_empty_first ours (between depth us)))
      ∙ ap stretches_of (sym (before_none ours (between depth us)))
      ∙ rw (k.divides depth, e, level)

  -- any other
  one_goes_on : (n first depth i : ℕ) → first ≤ i → kind_divides depth (kind_at tape i) ≡ false
      → stretches tape first (kind_opens depth (kind_at tape i)) (i + 1) n ≡ stretches_of (parted first (kind_opens depth (kind_at tape i)) (i + 1) n)
      → stretches tape first (kind_opens depth (kind_at tape i)) (i + 1) n ≡ stretches_of (parted first depth i (suc n))
  unfolding tokens_on between
  one_goes_on n first depth i h e later =
      let u = token_on T i in
      let us = tokens_on T (i + 1) n in
      let ours = tokens_on T first (i - first) in
      let k = told T i in
      let more : i + 1 - first ≡ suc (i - first) = omega arith in
      let here : first + (i - first) ≡ i = omega arith in
      let grown : tokens_on T first (i + 1 - first) ≡ ours ++ (u ∷ []) =
      ap (tokens_on T first) more ∙ tape_snoc T first (i - first) ∙ ap (λ (m : ℕ). ours ++ (token_on T m ∷ [])) here in
      later
      ∙ ap₂ (λ (ts : List Token) (d : ℕ). stretches_of (before ts (between d us))) grown (sym (k.opens depth))
      ∙ ap stretches_of (before_append ours (u ∷ []) (between (open_after depth u.tok) us))
      ∙ rw (k.divides depth, e)

  cut_as_parted : (n first depth i : ℕ) → first ≤ i → i + n ≤ count → stretches tape first depth i n ≡ stretches_of (parted first depth i n)
  unfolding stretches tokens_on between
  cut_as_parted zero first depth i h inside =
      stretched_is first i h (omega arith) ∙ ap stretches_of (sym (before_none (tokens_on T first (i - first)) []))
  cut_as_parted (suc n) first depth i h inside =
      go (kind_divides depth (kind_at tape i)) refl (λ first d l. cut_as_parted n first d (i + 1) l (omega arith))
    where
      go : (b : Bool) → kind_divides depth (kind_at tape i) ≡ b
          → ((first d : ℕ) → first ≤ i + 1 → stretches tape first d (i + 1) n ≡ stretches_of (parted first d (i + 1) n))
          → cond b (stretched tape first i ++ stretches tape (i + 1) depth (i + 1) n) (stretches tape first (kind_opens depth (kind_at tape i)) (i + 1) n)
          ≡ stretches_of (parted first depth i (suc n))
      go true e later = one_ends n first depth i h inside e (later (i + 1) depth (omega arith))
      go false e later = one_goes_on n first depth i h e (later first (kind_opens depth (kind_at tape i)) (omega arith))

  pub cut_as_top_level : stretches tape 0 0 0 count ≡ map (stretch_of text) (top_level (tokens_on T 0 count))
  unfolding top_level tokens_on
  cut_as_top_level = cut_as_parted count 0 0 0 (omega arith) (omega arith)
