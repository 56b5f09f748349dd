-- Programs that keep the promises return what the definitions say, so it is enough that these say the same of both entries. Of entries that
-- agree in what the text names they do: each part of the text names no more than the text. An entry with an absent record spelled out is
-- read as the same entry. And the bits of a summary are what the text names, so what is said of the one is said of the other.
use Prim.Native.Nat.{ℕ}
use mathlib.Core.Path.{◌≡◌, refl, sym, ap, ap₂, subst, ◌∙◌}
use mathlib.Core.Bool.{Bool, cond}
use mathlib.Core.Option.{Option, some}
use mathlib.Core.List.{List, [], ◌∷◌}
use Rattle.paper.specs.Answers.{Answer, ok, refused, ◌>>=◌}
use Rattle.paper.specs.Tokens.{sequel}
use Rattle.paper.specs.Keys.{Key, keys}
use Rattle.paper.specs.Entry.{Entry, entry_of}
use Rattle.paper.specs.Grammar as G
use Rattle.paper.specs.Grammar.{Tree}
use Rattle.paper.specs.Meaning.{Value, value_of, is_true}
use Rattle.paper.specs.Translating.{steps_of}
use Rattle.paper.specs.Calls.{Restriction, restriction, judge_answer, run_answer}
use Rattle.paper.specs.BlocksRoundTrip.{Width, All}
use Rattle.paper.specs.TranslationCorrect.{judged_in_steps}
use Rattle.paper.specs.Parts.{Part, parts}
use Rattle.paper.specs.PartsDecide.{JoinedLeft, alone, then, roots}
use Rattle.paper.specs.Explained.{holds_on, first_false, false_part, reason_for, explain_answer}
use Rattle.paper.specs.Named.{names, marked, set_of, Summary, summary_answer, summarizing_says, summed}
use Rattle.paper.specs.RecheckedRight.{bit_at, SameNamed, BothConform}
use Rattle.paper.specs.Promised.{Bytes, Programs, Kept}
use Rattle.paper.specs.Dependence.{Alike, UnnamedDoesNotMatter, SummaryTellsAll, SummaryTellsNoMore, spell_out, with_record, SpelledOutDoesNotMatter}
use Rattle.paper.proofs.Basics.{all_append, all_some}
use Rattle.paper.proofs.Stages.{ok_same, bind_ok}
use Rattle.paper.proofs.KeyLists.{keys_listed}
use Rattle.paper.proofs.TranslationCorrect.{passing}
use Rattle.paper.proofs.PartsCut.{text_is_its_parts}
use Rattle.paper.proofs.Depends.{Agree, Joins, left_agree, right_agree, agree_value, same_agree, same_judgement, same_steps}
use Rattle.paper.proofs.RecheckedRight.{summary, summarizes, summary_there}
use Rattle.paper.proofs.CanMatter.{named_can_matter}
use Rattle.paper.proofs.AnotherRecord.{with_bytes, written_bytes}
use Rattle.paper.proofs.SpelledOut.{reading, spelled_fits, same_entry}
use Rattle.paper.proofs.Promised.{judgement_same, running_same, explanation_same}
use Rattle.paper.proofs.DemandThree.{runs_in_steps}

-- what the definitions say of two entries, and what programs then return

record SaidAlike (text list entry other : List ℕ) : Type 0 where
  judged : judge_answer text list entry ≡ judge_answer text list other
  explained : explain_answer text list entry ≡ explain_answer text list other
  in_steps : judged_in_steps text list entry ≡ judged_in_steps text list other

module _ (p : Programs) (kept : Kept p) (text list entry other : List ℕ) (t : Bytes text) (l : Bytes list) (en : Bytes entry) (ot : Bytes other) where
  alike : SaidAlike text list entry other → Alike p text list entry other
  alike same =
      record {
        judged =
            judgement_same (p.judge text list entry) (p.judge text list other)
            (kept.judge text list entry t l en ∙ same.judged ∙ sym (kept.judge text list other t l ot));
        explained =
            explanation_same (p.explain text list entry) (p.explain text list other)
            (kept.explain text list entry t l en ∙ same.explained ∙ sym (kept.explain text list other t l ot));
        ran = λ buffer n b e.
            let in_steps = runs_in_steps p kept text list buffer t l b n e in
            running_same _ _ (in_steps entry en ∙ same.in_steps ∙ sym (in_steps other ot));
      }

-- the explanation: of two entries that agree in what the text names, the same part is the first false one

module _ (ks : List Key) (e f : Entry) where
  parts_agree : {ts : List Tree} {t : Tree} → JoinedLeft ts t → Agree ks t e f → All (λ u. Agree ks u e f) ts
  unfolding names marked
  parts_agree (alone t) h = (h, tt)
  parts_agree (then {ts = ts} {l = l} j at r) h =
      let both : Joins ks e f l r (G.joined at sequel l r) = record { named = λ k. refl; mark = refl } in
      all_append (λ u. Agree ks u e f) ts (r ∷ []) (parts_agree j (left_agree ks e f l r (G.joined at sequel l r) both h))
      (right_agree ks e f l r (G.joined at sequel l r) both h, tt)

  first_same : (ps : List Part) → All (λ u. Agree ks u e f) (roots ps) → first_false (holds_on ks e) ps ≡ first_false (holds_on ks f) ps
  first_same [] h = refl
  first_same (p ∷ ps) h =
      ap₂ (λ (v : Option Value) (later : Option Part). cond (is_true v) later (some p))
      (agree_value ks e f p.root h.0) (first_same ps h.1)

module _ (text list entry other : List ℕ) (both : BothConform text list entry other)
    (same : SameNamed both.rule.keys both.rule.root entry other) where
  same_reason : explain_answer text list entry ≡ explain_answer text list other
  unfolding explain_answer false_part
  same_reason =
      let (ps, are, joins) = text_is_its_parts text both.rule.root (passing text list both.rule both.passes).read in
      let agree = parts_agree both.rule.keys both.was both.is joins (same_agree text list entry other both same) in
      rw (both.passes, both.old_conforms, both.new_conforms, are)
      (ap (λ (first : Option Part). reason_for list (ok first)) (first_same both.rule.keys both.was both.is ps agree))

  named_alike : SaidAlike text list entry other
  named_alike =
      record {
        judged = same_judgement text list entry other both same;
        explained = same_reason;
        in_steps = same_steps text list entry other both same;
      }

pub unnamed_does_not_matter : UnnamedDoesNotMatter
unnamed_does_not_matter p kept text list entry other t l en ot both same =
    alike p kept text list entry other t l en ot (named_alike text list entry other both same)

-- what the summary of a text and a list that pass tells

module _ (p : Programs) (kept : Kept p) (text list : List ℕ) (t : Bytes text) (l : Bytes list) (set : ℕ) (mark : Bool)
    (says : p.summarize text list ≡ summed set mark) where
  abbrev told : Summary
  told = record { keys = set; priority = mark }

  answered : summary_answer text list ≡ ok told
  answered = sym (kept.summarize text list t l) ∙ ap summarizing_says says

  passes : (r : Restriction) × (restriction text list ≡ ok r)
  unfolding summary_answer
  passes =
      let (r, passed, _) = bind_ok (restriction text list) (λ r. ok (summary_of r)) told answered in
      (r, passed)
    where
      summary_of : Restriction → Summary
      summary_of r = record { keys = set_of (names r.keys r.root); priority = marked r.root }

  module _ (r : Restriction) (passed : restriction text list ≡ ok r) where
    is : told ≡ summary text list r passed
    is = ok_same told (summary text list r passed) (sym answered ∙ summary_there text list r passed)

    bit : (k : ℕ) → bit_at set k ≡ names r.keys r.root k
    bit k = ap (λ (s : Summary). bit_at s.keys k) is ∙ (summarizes text list r passed).bits k

    marks : mark ≡ marked r.root
    marks = ap (λ (s : Summary). s.priority) is

pub summary_tells_all : SummaryTellsAll
summary_tells_all p kept text list entry other t l en ot both set mark says records priority =
    let rule = both.rule in
    unnamed_does_not_matter p kept text list entry other t l en ot both
    (record {
      records = λ k h. records k (bit p kept text list t l set mark says rule both.passes k ∙ h);
      priority = λ h. priority (marks p kept text list t l set mark says rule both.passes ∙ h);
    })

pub summary_tells_no_more : SummaryTellsNoMore
summary_tells_no_more p kept text list t l set mark says k h =
    let (r, passed) = passes p kept text list t l set mark says in
    named_can_matter p kept text list r l passed k (sym (bit p kept text list t l set mark says r passed k) ∙ h)

-- entries that are read alike

module _ (text list entry other : List ℕ) (ks : List Key) (listed : keys list ≡ ok ks) (same : entry_of ks entry ≡ entry_of ks other) where
  read_alike : {A : Type 0} (f : Restriction → Entry → Answer A)
      → (restriction text list >>= λ r. entry_of r.keys entry >>= f r) ≡ (restriction text list >>= λ r. entry_of r.keys other >>= f r)
  read_alike f = go (restriction text list) refl
    where
      go : (a : Answer Restriction) → restriction text list ≡ a
          → (a >>= λ r. entry_of r.keys entry >>= f r) ≡ (a >>= λ r. entry_of r.keys other >>= f r)
      go (ok r) e =
          let is : ks ≡ r.keys = ok_same ks r.keys (sym listed ∙ (passing text list r e).listed) in
          ap (λ (x : Answer Entry). x >>= f r) (subst (λ (us : List Key). entry_of us entry ≡ entry_of us other) is same)
      go (refused n i at) e = refl

  said_alike : SaidAlike text list entry other
  unfolding judge_answer judged_in_steps explain_answer false_part
  said_alike =
      record {
        judged = read_alike (λ r e. ok (is_true (value_of r.keys e r.root)));
        explained =
            ap (reason_for list) (read_alike (λ r e. parts text >>= λ ps. ok (first_false (holds_on r.keys e) ps)));
        in_steps = read_alike (λ r e. ok (record { accepted = is_true (value_of r.keys e r.root); steps = steps_of r.keys e r.root }));
      }

  ran_alike : (blocks : List ℕ) → run_answer list blocks entry ≡ run_answer list blocks other
  unfolding run_answer
  ran_alike blocks = rw (listed, same)

pub spelled_out_does_not_matter : SpelledOutDoesNotMatter
spelled_out_does_not_matter p kept text list entry ks e k x t l en listed conforms there is-absent =
    let other = with_record entry k (spell_out x) in
    let (_, wide) = all_some (λ y. Width y.width) ks k x (keys_listed list ks listed).widths there in
    let ot = with_bytes entry (spell_out x) k en (written_bytes x wide (reading x) (spelled_fits x)) in
    let again : entry_of ks other ≡ ok e = same_entry ks entry e k x wide conforms there is-absent in
    let same = conforms ∙ sym again in (
      again,
      record {
        alike = alike p kept text list entry other t l en ot (said_alike text list entry other ks listed same);
        ran = λ blocks b.
            running_same (p.run list blocks entry) (p.run list blocks other)
            (kept.run list blocks entry l b en ∙ ran_alike text list entry other ks listed same blocks ∙ sym (kept.run list blocks other l b ot));
      },
    )
