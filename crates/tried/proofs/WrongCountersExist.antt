-- The wrong counts are real: each says what another does, but for the numbers of the parts, which go by a rule of its own, or for the refused
-- entries, of which a cut one is one more.
use Prim.Native.Nat.{ℕ, zero, suc, ◌<◌}
use Rattle.std.specs.Prelude.{Result, Err, Ok}
use Rattle.paper.specs.declared.Refusal.{Refusal}
use Rattle.paper.specs.declared.Counted.{Counted}
use native.Mathlib.Omega.{arith}
use mathlib.Core.Path.{◌≡◌, refl, ap, ◌∙◌}
use mathlib.Core.List.{List}
use Rattle.paper.specs.Answers.{Answer, ok, refused, ◌>>=◌, refusal}
use Rattle.paper.specs.Calls.{restriction, over}
use Rattle.paper.specs.Parts.{parts}
use Rattle.paper.specs.Counting.{entries_in, Counts, counts_of, Totals, totals_of, counting_says}
use Rattle.paper.specs.Demands.{counts_in}
use Rattle.tried.specs.WrongCounters.{Counter, CountsAllRight, Rule, NumbersBy, one_more_refused, CountsCut}
use Rattle.paper.proofs.DemandTwo.{checkable_restriction}

-- by a rule

module _ (rule : Rule) (right : Counter) where
  abbrev lent : Answer (List ℕ) → List ℕ → List ℕ
  lent (ok new) numbers = over new numbers
  lent (refused n i at) numbers = numbers

  numbers_by : List ℕ → List ℕ → List ℕ → Answer (List ℕ)
  numbers_by text list entries =
      restriction text list
      >>= λ r. parts text
      >>= λ ps. ok (rule r.keys r.root ps (entries_in r.keys entries))

  counter : Counter
  counter text list entries numbers =
      record { answer = (right text list entries numbers).answer; numbers = lent (numbers_by text list entries) numbers }

  by_rule : NumbersBy rule counter
  unfolding numbers_by counter
  by_rule text list entries numbers _ _ _ _ c = rw (checkable_restriction text list c.passes, c.divided)

  pub counter_real : (x : Counter) × NumbersBy rule x
  counter_real = (counter, by_rule)

-- with the entry that is cut

abbrev with_cut : ℕ → ℕ → ℕ
with_cut zero n = n
with_cut (suc cut) n = suc n

abbrev one_more : Result Counted Refusal → Result Counted Refusal
one_more (Ok t) =
    Ok (record { parts = t.parts; accepted = t.accepted; violated = t.violated; refused = with_cut t.cut t.refused; cut = t.cut })
one_more (Err v) = Err v

abbrev cut_added : Totals → Totals
cut_added t =
    record { parts = t.parts; accepted = t.accepted; violated = t.violated; refused = with_cut t.cut t.refused; cut = t.cut }

says_more : (a : Result Counted Refusal) → counting_says (one_more a) ≡ (counting_says a >>= λ t. ok (cut_added t))
says_more (Ok t) = refl
says_more (Err v) = refl

is_more : (c : Counts) → 0 < c.cut → cut_added (totals_of c) ≡ one_more_refused c
is_more c cut = ap (λ (n : ℕ). record { parts = (totals_of c).parts; accepted = c.accepted; violated = c.violated; refused = n; cut = c.cut }) (go c.cut cut)
  where
    go : (n : ℕ) → 0 < n → with_cut n c.refused ≡ suc c.refused
    go zero h = absurd (omega (arith, h))
    go (suc n) h = refl

module _ (right : Counter) (all : CountsAllRight right) where
  cutter : Counter
  cutter text list entries numbers =
      let r = right text list entries numbers in
      record { answer = one_more r.answer; numbers = r.numbers }

  with_cut_lem : CountsCut cutter
  unfolding cutter counts_of
  with_cut_lem text list entries numbers t l e n c cut =
      let r = right text list entries numbers in
      let counts = counts_in text list entries c in
      says_more r.answer
      ∙ ap (λ (a : Answer Totals). a >>= λ t. ok (cut_added t)) ((all text list entries numbers t l e n).totals c)
      ∙ ap ok (is_more counts cut)

  pub cut_real : (x : Counter) × CountsCut x
  cut_real = (cutter, with_cut_lem)
