-- From the promises of the calls to demand 3, for one text, list, entry and buffer.
use Prim.Native.Nat.{ℕ, ◌*◌, ◌≤◌}
use Rattle.std.specs.Prelude.{Result, Ok}
use Rattle.paper.specs.declared.Refusal.{Refusal}
use Rattle.paper.specs.declared.Ended.{Ended}
use Rattle.paper.specs.Answers.{Judgement}
use mathlib.Core.Path.{◌≡◌, sym, ap, ◌∙◌}
use mathlib.Core.List.{List}
use lib.ListN.{length}
use Rattle.paper.specs.Blocks.{block_size, blocks_needed}
use Rattle.paper.specs.CodeCorrect.{most_translated}
use Rattle.paper.specs.TranslationCorrect.{verdict_of}
use Rattle.paper.specs.Promised.{judgement_of_run, JudgePromised, TranslatePromised, LoadPromised, RunPromised}
use Rattle.paper.specs.Demands.{blocks_written}
use Rattle.paper.proofs.TranslationCorrect.{translation_carries}
use Rattle.paper.proofs.Promised.{judgement_same, judgement_of_run_lem, says_same}
use Rattle.promises.specs.Held.{gave, Held}

module _ (text list buffer exit : List ℕ) (n : ℕ) (t : TranslatePromised text list buffer (gave (Ok n) exit)) where
  pub room_there : (block_size * blocks_needed n ≤ length buffer) × (length exit ≡ length buffer) × (n ≤ most_translated)
  room_there =
      let f = translation_carries text list buffer n (sym t.says) in
      (f.room, rw t.holds f.size, f.few)

  pub held : (entry : List ℕ) (loaded : Result ℕ Refusal) (ran : Result Ended Refusal) (judged : Judgement)
      → LoadPromised list (blocks_written n exit) loaded → RunPromised list (blocks_written n exit) entry ran → JudgePromised text list entry judged
      → Held text list entry buffer exit n loaded ran judged
  held entry loaded ran judged l r j =
      let f = translation_carries text list buffer n (sym t.says) in
      record {
        translate = t;
        load = l;
        run = r;
        judge = j;
        carried =
            record {
              room = f.room;
              loads = says_same loaded (Ok n) (l ∙ rw t.holds f.carries.loads);
              later = rw t.holds f.later;
            };
        alike =
            judgement_same (judgement_of_run ran) judged
            (judgement_of_run_lem ran ∙ ap verdict_of r ∙ rw t.holds (f.carries.judges entry) ∙ sym j);
        steps = r ∙ rw t.holds (f.carries.runs entry);
      }
