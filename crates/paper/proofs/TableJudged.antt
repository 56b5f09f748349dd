-- A table by the blocks of a text: byte i is what `run` says of entry i, and that is what the text is judged to say of it.
use Prim.Native.Nat.{ℕ, ◌*◌}
use Rattle.paper.specs.declared.Verdict.{Verdict}
use Rattle.paper.specs.declared.Verdict.TheVariants.{Accepted, Violated}
use Rattle.std.specs.Prelude.{Result, Err, Ok}
use Rattle.paper.specs.declared.Refusal.{Refusal}
use Rattle.paper.specs.declared.Ended.{Ended}
use mathlib.Core.Path.{◌≡◌, refl, ap, ◌∙◌}
use lib.ListN.{drop}
use Rattle.paper.specs.Answers.{running_says, ended}
use Rattle.paper.specs.Blocks.{block_size, blocks_needed}
use Rattle.paper.specs.Counting.{entry_size}
use Rattle.paper.specs.RunAll.{verdict_byte}
use Rattle.paper.specs.Promised.{judgement_of_run}
use Rattle.paper.specs.Demands.{blocks_written}
use Rattle.paper.specs.RunAllRight.{entry_at, judgement_byte, TableIsJudged}
use Rattle.paper.proofs.ByteLists.{take_bytes, drop_bytes}
use Rattle.paper.proofs.DemandThree.{demand_three_met}
use Rattle.paper.proofs.RunAllRight.{table_is_its_runs}

byte_of : (v : Verdict) (steps : ℕ) → verdict_byte (running_says (ended v steps)) ≡ judgement_byte (Ok v)
byte_of Accepted steps = refl
byte_of Violated steps = refl

byte_of_run : (r : Result Ended Refusal) → verdict_byte (running_says r) ≡ judgement_byte (judgement_of_run r)
byte_of_run (Ok e) = byte_of e.verdict e.steps
byte_of_run (Err v) = refl

pub table_is_judged : TableIsJudged
table_is_judged p kept text list buffer t l b m written entries answers e a n s answer ks listed i inside =
    let three = demand_three_met p kept in
    let exit = (p.translate text list buffer).buffer in
    let blocks = blocks_written m exit in
    let size = entry_size ks in
    let entry = entry_at ks entries i in
    let lent = take_bytes (block_size * blocks_needed m) exit (three.bytes text list buffer t l b) in
    let en = take_bytes size (drop (i * size) entries) (drop_bytes (i * size) entries e) in
    (table_is_its_runs p kept list blocks entries answers l lent e a n s answer ks listed).each i inside
    ∙ byte_of_run (p.run list blocks entry)
    ∙ ap judgement_byte (three.runs_alike text list buffer t l b m written entry en)
