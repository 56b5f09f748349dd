-- Demand 3: with programs that keep the promises, the blocks of a text load and say what the text says, in the steps counted over its tree,
-- and all blocks that load run.
use Prim.Native.Nat.{ℕ, ◌*◌}
use Rattle.std.specs.Prelude.{Result, Ok}
use Rattle.paper.specs.declared.Refusal.{Refusal}
use Rattle.paper.specs.declared.Ended.{Ended}
use mathlib.Core.Path.{◌≡◌, sym, ap, ◌∙◌}
use mathlib.Core.Bool.{Bool}
use mathlib.Core.List.{List}
use lib.ListN.{length}
use borrow.Author.Tests.{le-leb, lt-leb}
use Rattle.paper.specs.declared.Place.TheVariants as P
use Rattle.paper.specs.Answers.{ok, Ran, says, running_says, refusal}
use Rattle.paper.specs.Keys.{Key, keys}
use Rattle.paper.specs.Entry.{Entry, entry_of}
use Rattle.paper.specs.Meaning.{is_true, value_of}
use Rattle.paper.specs.Blocks.{block_size, blocks_needed}
use Rattle.paper.specs.Translating.{steps_of}
use Rattle.paper.specs.Calls.{translate_buffer, run_answer}
use Rattle.paper.specs.TranslationCorrect.{judged_in_steps, verdict_of, Filled}
use Rattle.paper.specs.Promised.{verdict_in, judgement_of_run, Bytes, Programs, Kept}
use Rattle.paper.specs.Demands.{Judgeable, Translates, blocks_written, Carried, Judged, DemandThree, DemandThreeMet}
use Rattle.paper.proofs.Stages.{ok_same}
use Rattle.paper.proofs.TranslationCorrect.{translation_carries, checked_count, loaded_answers}
use Rattle.paper.proofs.Promised.{ran_says, judgement_of_run_lem, judgement_same, says_same, running_same}
use Rattle.paper.proofs.ByteLists.{take_bytes, buffer_bytes}
use Rattle.paper.proofs.DemandTwo.{checkable_restriction}

-- of a text, a list and an entry that can be judged

abbrev judged_on : {text list entry : List ℕ} → Judgeable text list entry → Ran
judged_on j =
    let c = j.passes in
    record { accepted = is_true (value_of c.ks j.on c.root); steps = steps_of c.ks j.on c.root }

judgeable_steps : {text list entry : List ℕ} (j : Judgeable text list entry) → judged_in_steps text list entry ≡ ok (judged_on j)
unfolding judged_in_steps
judgeable_steps {text} {list} j = rw (checkable_restriction text list j.passes, j.conforms)

module _ (p : Programs) (kept : Kept p) where
  translates : (text list : List ℕ) → Bytes text → Bytes list → p.check text list ≡ Ok tt → Translates p text list
  translates text list t l e =
      let (n, few, answer) = checked_count text list (sym (kept.check text list t l) ∙ ap says e) in
      record {
        count = n;
        few = few;
        enough = λ buffer b room.
            says_same (p.translate text list buffer).answer (Ok n)
            ((kept.translate text list buffer t l b).says ∙ answer buffer ∙ rw (le-leb (block_size * blocks_needed n) (length buffer) room));
        short = λ buffer b little.
            says_same (p.translate text list buffer).answer (refusal 15 (P.Buffer (length buffer)))
            ((kept.translate text list buffer t l b).says ∙ answer buffer ∙ rw (lt-leb (block_size * blocks_needed n) (length buffer) little));
      }

  bytes_there : (text list buffer : List ℕ) → Bytes text → Bytes list → Bytes buffer → Bytes (p.translate text list buffer).buffer
  bytes_there text list buffer t l b = rw (kept.translate text list buffer t l b).holds (buffer_bytes text list buffer b)

  module _ (text list buffer : List ℕ) (t : Bytes text) (l : Bytes list) (b : Bytes buffer) (n : ℕ)
      (e : (p.translate text list buffer).answer ≡ Ok n) where
    abbrev blocks : List ℕ
    blocks = blocks_written n (translate_buffer text list buffer)

    blocks_there : Bytes blocks
    blocks_there = take_bytes (block_size * blocks_needed n) (translate_buffer text list buffer) (buffer_bytes text list buffer b)

    filled : Filled text list buffer n
    filled = translation_carries text list buffer n (sym (kept.translate text list buffer t l b).says ∙ ap says e)

    abbrev exit : (p.translate text list buffer).buffer ≡ translate_buffer text list buffer
    exit = (kept.translate text list buffer t l b).holds

    carried : Carried buffer (p.translate text list buffer).buffer n (p.load list (blocks_written n (p.translate text list buffer).buffer))
    carried =
        record {
          room = filled.room;
          loads = rw exit (says_same (p.load list blocks) (Ok n) (kept.load list blocks l blocks_there ∙ filled.carries.loads));
          later = rw exit filled.later;
        }

    -- the run of the blocks
    abbrev running : List ℕ → Result Ended Refusal
    running entry = p.run list (blocks_written n (p.translate text list buffer).buffer) entry

    ran : (entry : List ℕ) → Bytes entry → running_says (running entry) ≡ run_answer list blocks entry
    ran entry en = ap (λ s. running_says (p.run list (blocks_written n s) entry)) exit ∙ kept.run list blocks entry l blocks_there en

    pub runs_in_steps : (entry : List ℕ) → Bytes entry → running_says (running entry) ≡ judged_in_steps text list entry
    runs_in_steps entry en = ran entry en ∙ filled.carries.runs entry

    runs_alike : (entry : List ℕ) → Bytes entry → judgement_of_run (running entry) ≡ p.judge text list entry
    runs_alike entry en =
        judgement_same (judgement_of_run (running entry)) (p.judge text list entry)
        (judgement_of_run_lem (running entry)
        ∙ ap verdict_of (ran entry en)
        ∙ filled.carries.judges entry
        ∙ sym (kept.judge text list entry t l en))

    steps_counted : (entry : List ℕ) → Bytes entry → (j : Judgeable text list entry) (b : Bool) (m : ℕ)
        → running entry ≡ verdict_in b m → m ≡ steps_of j.passes.ks j.on j.passes.root
    steps_counted entry en j b m h =
        let told : ok (record { accepted = b; steps = m }) ≡ ok (judged_on j) =
        sym (ran_says b m) ∙ sym (ap running_says h) ∙ runs_in_steps entry en ∙ judgeable_steps j in
        ap (λ a. a.steps) (ok_same (record { accepted = b; steps = m }) (judged_on j) told)

  answered : (list blocks : List ℕ) → Bytes list → Bytes blocks → (n : ℕ) → p.load list blocks ≡ Ok n
      → (ks : List Key) → keys list ≡ ok ks → (entry : List ℕ) → Bytes entry → (e : Entry) → entry_of ks entry ≡ ok e
      → Judged p list blocks entry ks e n
  answered list blocks l s n h ks listed entry en e conforms =
      let a = loaded_answers list blocks entry ks e n (sym (kept.load list blocks l s) ∙ ap says h) listed conforms in
      record {
        goes = a.run;
        answer =
            running_same (p.run list blocks entry) (verdict_in a.run.bit (length a.run.path))
            (kept.run list blocks entry l s en ∙ a.answer ∙ sym (ran_says a.run.bit (length a.run.path)));
      }

  demands : DemandThree p
  demands =
      record {
        translates = translates;
        bytes = bytes_there;
        carries = carried;
        runs_alike = runs_alike;
        steps_counted = steps_counted;
        runs = answered;
      }

pub demand_three_met : DemandThreeMet
demand_three_met = demands
