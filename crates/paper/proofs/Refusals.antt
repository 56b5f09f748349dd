-- The stage of refusals 8 to 10 answers what the grammar asks of it, and nothing else.
use Prim.Native.Nat.{ℕ, suc}
use mathlib.Core.Path.{◌≡◌, refl, sym, ap, subst, ◌∙◌}
use mathlib.Core.Logic.{◌≢◌}
use mathlib.Core.List.{List, [], ◌∷◌, ◌++◌, append_assoc}
use native.Mathlib.Omega.{arith}
use Rattle.paper.specs.Answers.{in_text, Answer, ok, refused}
use Rattle.paper.specs.Tokens.{Token}
use Rattle.paper.specs.Addresses.{address}
use Rattle.paper.specs.Grammar.{Tree, got, stuck, Out, ends, deep, bad, whole, most_levels, outcome, parsed}
use Rattle.paper.specs.Sentences.{Phrases, Prefixed, Whole, Sentence, Bounded, OneDeeper, WellSpelled, Valid, Continues, FirstBad, Number, text_ends, no_sentence, too_deep, bad_string, Stops, place_from, Right, ParsedIsRight, ReadIsValid, EightIsFirstBad, FirstBadIsEight}
use Rattle.paper.proofs.ParserTakes.{same_next, exact, Says}
use Rattle.paper.proofs.Cuts.{Further, sole_cut, continues_sooner}
use Rattle.paper.proofs.Levels.{Limited, whole_says, read_phrase}
use Rattle.paper.proofs.Sentences.{address_readers, not_both, no_further, deep_further, bad_further, strict_lenient, valid_is_sentence, one_tree}

-- what begins a valid text begins one of the others, and what begins any begins a sentence

continues_as : (S R : Phrases) (taken : List Token) → ((t : Tree) (ts : List Token) → S t ts → R t ts)
    → Continues S taken → Continues R taken
continues_as S R taken into (t, rest, h) = (t, rest, into t (taken ++ rest) h)

valid_bounded : (taken : List Token) → Continues Valid taken → Continues Bounded taken
valid_bounded taken = continues_as Valid Bounded taken (strict_lenient most_levels)

bounded_sentence : (taken : List Token) → Continues Bounded taken → Continues Sentence taken
bounded_sentence taken = continues_as Bounded Sentence taken (λ t ts h. (most_levels, h))

deeper_sentence : (taken : List Token) → Continues OneDeeper taken → Continues Sentence taken
deeper_sentence taken = continues_as OneDeeper Sentence taken (λ t ts h. (suc most_levels, h))

valid_spelled : (taken : List Token) → Continues Valid taken → Continues WellSpelled taken
valid_spelled taken = continues_as Valid WellSpelled taken (λ t ts h. (most_levels, h))

-- it answers what is asked

module _ (size : ℕ) (ts : List Token) where
  told : (o : Out) → whole address most_levels ts ≡ o
      → Says (whole address most_levels) (Limited address address_readers most_levels) ts o → Right size ts (outcome size o)
  told (ends (got t) us) e h = read_phrase address address_readers most_levels t ts us e
  told (ends stuck []) e h = (
    [],
    record {
      taken = h.taken;
      split = h.split;
      before = h.front exact;
      number = text_ends (λ t. not_both most_levels ts [] t e);
    },
    refl,
    refl,
  )
  told (ends stuck (u ∷ us)) e h = (
    u ∷ us,
    record {
      taken = h.taken;
      split = h.split;
      before = h.front exact;
      number = no_sentence (no_further most_levels h.taken u (λ ws. h.local (u ∷ ws) same_next));
    },
    refl,
    refl,
  )
  told (deep at) e (u, us, place, cause, h) = (
    u ∷ us,
    record {
      taken = h.taken;
      split = h.split;
      before = h.front.0 exact;
      number =
          too_deep cause
          (continues_as (Whole (Prefixed address (suc most_levels))) OneDeeper (h.taken ++ (u ∷ []))
          (strict_lenient (suc most_levels)) h.front.1)
          (deep_further most_levels h.taken u at (λ ws. h.local (u ∷ ws) same_next));
    },
    refl,
    sym place,
  )
  told (bad at) e (u, us, place, cause, h) = (
    u ∷ us,
    record {
      taken = h.taken;
      split = h.split;
      before = h.front.0 exact;
      number = bad_string cause h.front.1 (bad_further most_levels h.taken u at (λ ws. h.local (u ∷ ws) same_next));
    },
    refl,
    sym place,
  )

  is_right : Right size ts (parsed size ts)
  unfolding parsed
  is_right =
      let o = whole address most_levels ts in
      told o refl (whole_says address address_readers most_levels ts o refl)

-- no other answer is right

refutes : (ts taken : List Token) (u : Token) (us : List Token) (n : ℕ) → Number ts taken (u ∷ us) n
    → ¬ Continues Valid (taken ++ (u ∷ []))
refutes ts taken u us n (no_sentence h) c = h (bounded_sentence (taken ++ (u ∷ [])) (valid_bounded (taken ++ (u ∷ [])) c))
refutes ts taken u us n (too_deep o s h) c = h (valid_bounded (taken ++ (u ∷ [])) c)
refutes ts taken u us n (bad_string q b h) c = h (valid_spelled (taken ++ (u ∷ [])) c)

same_number : (ts taken us : List Token) (m n : ℕ) → Number ts taken us m → Number ts taken us n → m ≡ n
same_number ts taken us m n (text_ends h) (text_ends g) = refl
same_number ts taken us m n (no_sentence h) (no_sentence g) = refl
same_number ts taken us m n (no_sentence {u = u} h) (too_deep o s g) = absurd (h (deeper_sentence (taken ++ (u ∷ [])) s))
same_number ts taken us m n (no_sentence {u = u} h) (bad_string q b g) = absurd (h (bounded_sentence (taken ++ (u ∷ [])) b))
same_number ts taken us m n (too_deep {u = u} o s h) (no_sentence g) = absurd (g (deeper_sentence (taken ++ (u ∷ [])) s))
same_number ts taken us m n (too_deep o s h) (too_deep p r g) = refl
same_number ts taken us m n (too_deep o s h) (bad_string q b g) = absurd (h b)
same_number ts taken us m n (bad_string {u = u} q b h) (no_sentence g) = absurd (g (bounded_sentence (taken ++ (u ∷ [])) b))
same_number ts taken us m n (bad_string q b h) (too_deep o s g) = absurd (g b)
same_number ts taken us m n (bad_string q b h) (bad_string r c g) = refl

not_ended : (ts taken : List Token) (n : ℕ) (t : Tree) → Number ts taken [] n → ¬ Sentence t ts
not_ended ts taken n t (text_ends h) = h t

module _ (ts : List Token) where
  valid_goes_on : (t : Tree) (us : List Token) (n : ℕ) → Valid t ts → ¬ Stops ts us n
  valid_goes_on t [] n v s = not_ended ts s.taken n t s.number (valid_is_sentence t ts v)
  valid_goes_on t (u ∷ us) n v s = refutes ts s.taken u us n s.number (t, us, rw append_assoc (rw s.split at v))

  -- tokens that one answer goes on with, no other stops at
  not_after : (us vs : List Token) (m n : ℕ) (s : Stops ts us m) (r : Stops ts vs n) → ¬ Further s.taken us r.taken
  not_after us vs m n s r (u, rest, more, e, d) =
      refutes ts s.taken u rest m (rw e at s.number) (continues_sooner Valid s.taken u more (rw d at r.before))

  one_stop : (us vs : List Token) (m n : ℕ) → Stops ts us m → Stops ts vs n → (us ≡ vs) × (m ≡ n)
  one_stop us vs m n s r = (cut.1, same_number ts r.taken vs m n (rw (cut.0, cut.1) at s.number) r.number)
    where
      cut : (s.taken ≡ r.taken) × (us ≡ vs)
      cut =
          sole_cut s.taken us r.taken vs (sym s.split ∙ r.split) (not_after us vs m n s r) (not_after vs us n m r s)

  one_right : (size : ℕ) (a b : Answer Tree) → Right size ts a → Right size ts b → a ≡ b
  one_right size (ok t) (ok r) h g =
      ap ok (one_tree t r ts (valid_is_sentence t ts h) (valid_is_sentence r ts g))
  one_right size (ok t) (refused n j at) h (us, s, j-is, at-is) = absurd (valid_goes_on t us n h s)
  one_right size (refused n i at) (ok t) (us, s, i-is, at-is) h = absurd (valid_goes_on t us n h s)
  one_right size (refused m i at) (refused n j to) (us, s, i-is, at-is) (vs, r, j-is, to_is) =
      let (e, d) = one_stop us vs m n s r in
      cc

pub parsed_is_right : ParsedIsRight
parsed_is_right size ts a = (
  λ e. subst (λ (a : Answer Tree). Right size ts a) e (is_right size ts),
  λ h. one_right ts size (parsed size ts) a (is_right size ts) h,
)

pub read_is_valid : ReadIsValid
read_is_valid size ts t = parsed_is_right size ts (ok t)

-- 8 by itself

eight_no_sentence : (ts taken : List Token) (u : Token) (us : List Token) (n : ℕ) → n ≡ 8 → Number ts taken (u ∷ us) n
    → ¬ Continues Sentence (taken ++ (u ∷ []))
eight_no_sentence ts taken u us n e (no_sentence h) = h
eight_no_sentence ts taken u us n e (too_deep o s h) = absurd (omega arith)
eight_no_sentence ts taken u us n e (bad_string q b h) = absurd (omega arith)

stops_first_bad : (ts us : List Token) → Stops ts us 8 → FirstBad ts us
stops_first_bad ts us s =
    record {
      taken = s.taken;
      split = s.split;
      before = bounded_sentence s.taken (valid_bounded s.taken s.before);
      after = λ u rest e. eight_no_sentence ts s.taken u rest 8 refl (rw e at s.number);
      short = λ e t. not_ended ts s.taken 8 t (rw e at s.number);
    }

pub eight_is_first_bad : EightIsFirstBad
eight_is_first_bad size ts at e =
    let (us, s, i, place) = (parsed_is_right size ts (refused 8 in_text at)).0 e in
    (us, stops_first_bad ts us s, place)

module _ (ts : List Token) where
  bad_before : (us vs : List Token) (f : FirstBad ts us) (g : FirstBad ts vs) → ¬ Further f.taken us g.taken
  bad_before us vs f g (u, rest, more, e, d) =
      f.after u rest e (continues_sooner Sentence f.taken u more (rw d at g.before))

  one_first_bad : (us vs : List Token) → FirstBad ts us → FirstBad ts vs → us ≡ vs
  one_first_bad us vs f g =
      (sole_cut f.taken us g.taken vs (sym f.split ∙ g.split) (bad_before us vs f g) (bad_before vs us g f)).1

  no_bad_sentence : (t : Tree) (us : List Token) → FirstBad ts us → ¬ Sentence t ts
  no_bad_sentence t [] f s = f.short refl t s
  no_bad_sentence t (u ∷ us) f s = f.after u us refl (t, us, rw append_assoc (rw f.split at s))

  else_eight : (taken us : List Token) (n : ℕ) → Number ts taken us n → n ≢ 9 → n ≢ 10 → n ≡ 8
  else_eight taken us n (text_ends h) nine ten = refl
  else_eight taken us n (no_sentence h) nine ten = refl
  else_eight taken us n (too_deep o s h) nine ten = absurd (nine refl)
  else_eight taken us n (bad_string q b h) nine ten = absurd (ten refl)

pub first_bad_is_eight : FirstBadIsEight
first_bad_is_eight size ts us f nine ten = go (parsed size ts) refl (is_right size ts)
  where
    go : (a : Answer Tree) → parsed size ts ≡ a → Right size ts a → parsed size ts ≡ refused 8 in_text (place_from size us)
    go (ok t) e v = absurd (no_bad_sentence ts t us f (valid_is_sentence t ts v))
    go (refused n i at) e (vs, s, i-is, at-is) =
        let n-is = else_eight ts s.taken vs n s.number (λ d. nine i at (rw d at e)) (λ d. ten i at (rw d at e)) in
        let same = one_first_bad ts us vs f (stops_first_bad ts vs (rw n-is at s)) in
        cc
