-- A judgement's own four numbers are heard as it (`place_back`). Numbers that are heard as anything else than refused with 20 at entry 0 are told of
-- that judgement, so that of numbers that tell none there is nothing else to hear.
use Prim.Native.Nat.{ℕ, zero, suc, ◌≤◌}
use Rattle.std.specs.Prelude.{Ok, Err}
use Rattle.paper.specs.declared.Verdict.TheVariants.{Accepted, Violated}
use native.Mathlib.Omega.{arith}
use mathlib.Core.Path.{◌≡◌, refl, sym, ap, ◌∙◌}
use mathlib.Core.Logic.{◌≢◌}
use mathlib.Core.Bool.{Bool, true, false, cond, ◌&&◌, and-eq-true_iff}
use lib.Dec.{eqb, leb}
use borrow.Author.Tests.{eqb-true, le-leb, leb-true}
use Rattle.paper.specs.declared.Place.{Place}
use Rattle.paper.specs.declared.Place.TheVariants as P
use Rattle.paper.specs.Answers.{input_of, offset_of, judgement_says, refusal, Judgement}
use Rattle.abi.specs.declared.answer.PolluxAnswer.{PolluxAnswer}
use Rattle.abi.specs.Heard.{no_answer, place_in, refusal_in, plain, verdict_in, heard_as}
use Rattle.abi.specs.Told.{input_no, turned_away, judged, Numbered, EarlierHeard}
use Rattle.abi.proofs.told.earlier_heard.Goals as goal

refusal_told : (n : ℕ) (p : Place) → n ≤ 255 → heard_as (judged (judgement_says (refusal n p))) ≡ refusal n p
refusal_told n (P.Text at) h = rw (le-leb n 255 h)
refusal_told n (P.List at) h = rw (le-leb n 255 h)
refusal_told n (P.Entry at) h = rw (le-leb n 255 h)
refusal_told n (P.Blocks at) h = rw (le-leb n 255 h)
refusal_told n (P.Buffer at) h = rw (le-leb n 255 h)
refusal_told n (P.Contract at) h = rw (le-leb n 255 h)
refusal_told n (P.Table at) h = rw (le-leb n 255 h)

as_told : (j : Judgement) → Numbered j → heard_as (judged (judgement_says j)) ≡ j
as_told (Ok Accepted) h = refl
as_told (Ok Violated) h = refl
as_told (Err v) h = refusal_told v.number v.place h

-- four numbers are an answer
abbrev four : ℕ → ℕ → ℕ → ℕ → PolluxAnswer
four says number input value = record { says = says; number = number; input = input; value = value }

-- the place of a number from 1 to 7 and an offset is told by these
place_told : (n i at : ℕ) → 1 ≤ i → i ≤ 7 → four 0 n i at ≡ judged (judgement_says (refusal n (place_in i at)))
place_told n zero at low high = absurd (omega (arith, low))
place_told n (suc zero) at low high = refl
place_told n (suc (suc zero)) at low high = refl
place_told n (suc (suc (suc zero))) at low high = refl
place_told n (suc (suc (suc (suc zero)))) at low high = refl
place_told n (suc (suc (suc (suc (suc zero))))) at low high = refl
place_told n (suc (suc (suc (suc (suc (suc zero)))))) at low high = refl
place_told n (suc (suc (suc (suc (suc (suc (suc zero))))))) at low high = refl
place_told n (suc (suc (suc (suc (suc (suc (suc (suc i)))))))) at low high = absurd (omega (arith, high))

-- numbers that tell no judgement
no_refusal : (p : PolluxAnswer) (none_told : (j : Judgement) → Numbered j → p ≢ judged (judgement_says j)) → p.says ≡ 0 → refusal_in p ≡ no_answer
no_refusal p none_told e = go (leb p.number 255 && leb 1 p.input && leb p.input 7) refl
  where
    go : (b : Bool) → leb p.number 255 && leb 1 p.input && leb p.input 7 ≡ b → cond b (refusal p.number (place_in p.input p.value)) no_answer ≡ no_answer
    go false h = refl
    go true h =
        let (ab, c) = (and-eq-true_iff (leb p.number 255 && leb 1 p.input) (leb p.input 7)).0 h in
        let (a, b) = (and-eq-true_iff (leb p.number 255) (leb 1 p.input)).0 ab in
        let is : p ≡ four 0 p.number p.input p.value = ap (λ (says : ℕ). four says p.number p.input p.value) e in
        absurd (none_told (refusal p.number (place_in p.input p.value)) (leb-true p.number 255 a)
        (is ∙ place_told p.number p.input p.value (leb-true 1 p.input b) (leb-true p.input 7 c)))

-- a verdict with nothing beside it
only : (p : PolluxAnswer) (none_told : (j : Judgement) → Numbered j → p ≢ judged (judgement_says j)) → (says : ℕ) → p.says ≡ says → plain p ≡ true → p ≡ four says 0 0 0
only p none_told says e h =
    let (ab, c) = (and-eq-true_iff (eqb p.number 0 && eqb p.input 0) (eqb p.value 0)).0 h in
    let (a, b) = (and-eq-true_iff (eqb p.number 0) (eqb p.input 0)).0 ab in
    ap (λ (x : ℕ). four x p.number p.input p.value) e
    ∙ ap (λ (x : ℕ). four says x p.input p.value) (eqb-true p.number 0 a)
    ∙ ap (λ (x : ℕ). four says 0 x p.value) (eqb-true p.input 0 b)
    ∙ ap (four says 0 0) (eqb-true p.value 0 c)

no_verdict : (p : PolluxAnswer) (none_told : (j : Judgement) → Numbered j → p ≢ judged (judgement_says j)) → verdict_in p ≡ no_answer
no_verdict p none_told = go (plain p) (eqb p.says 1) (eqb p.says 2) refl refl refl
  where
    go : (a b c : Bool) → plain p ≡ a → eqb p.says 1 ≡ b → eqb p.says 2 ≡ c → cond a (cond b (Ok Accepted) (cond c (Ok Violated) no_answer)) no_answer ≡ no_answer
    go false b c _ _ _ = refl
    go true true c h one _ = absurd (none_told (Ok Accepted) tt ((only p none_told) 1 (eqb-true p.says 1 one) h))
    go true false true h _ two = absurd (none_told (Ok Violated) tt ((only p none_told) 2 (eqb-true p.says 2 two) h))
    go true false false _ _ _ = refl

or_none : (p : PolluxAnswer) (none_told : (j : Judgement) → Numbered j → p ≢ judged (judgement_says j)) → heard_as p ≡ no_answer
or_none p none_told = go (eqb p.says 0) refl
  where
    go : (b : Bool) → eqb p.says 0 ≡ b → cond b (refusal_in p) (verdict_in p) ≡ no_answer
    go true e = (no_refusal p none_told) (eqb-true p.says 0 e)
    go false e = (no_verdict p none_told)

pub returns : goal.returns
returns c = record { as_told = as_told; or_none = or_none }
