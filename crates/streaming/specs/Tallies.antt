-- How many entries were given each answer, and what blocks say of many.
use Rattle.std.specs.Prelude.{◌≡◌, ℕ, ◌+◌, ◌%◌, ◌^◌, Bool, true, false, cond, List, length, ◌==◌, Ok, Err}
use Rattle.paper.specs.Answers.{Answer, ok, refused, Judgement}
use Rattle.paper.specs.Counting.{entry_size}
use Rattle.paper.specs.RunAll.{AllRan, run_all_answer}
use Rattle.keys.specs.Says.{keys_in}
use Rattle.paper.specs.declared.Verdict.TheVariants.{Accepted, Violated}
use Rattle.paper.specs.declared.Rechecking.{Rechecking}
use Rattle.paper.specs.declared.Rechecking.TheVariants.{Reused, Judged}
use Rattle.streaming.specs.Sizes.{whole_of}
use Rattle.streaming.specs.declared.tally.Tally.{Tally}

-- a count is held in 64 bits
abbrev pub most_counted : ℕ
most_counted = 18446744073709551615

abbrev pub total : Tally → ℕ
total t = t.accepted + t.violated + t.refused

abbrev pub counted : Judgement → Tally → Tally
counted (Ok Accepted) t = record { accepted = t.accepted + 1; violated = t.violated; refused = t.refused }
counted (Ok Violated) t = record { accepted = t.accepted; violated = t.violated + 1; refused = t.refused }
counted (Err v) t = record { accepted = t.accepted; violated = t.violated; refused = t.refused + 1 }

-- Entries by blocks, which are given a byte each.

-- what a byte tells of an entry: 1 accepted, 2 violated, and any other what a run of it alone says
abbrev pub verdict_by : ℕ → Answer Bool → Answer Bool
verdict_by byte alone = cond (byte == 1) (ok true) (cond (byte == 2) (ok false) alone)

-- a refusal takes no step
abbrev pub steps_of : Answer AllRan → ℕ
steps_of (ok t) = t.steps
steps_of (refused n i at) = 0

-- the steps of all whole entries are added, of which 64 bits are kept; there is a byte for each, as no more than 65,536 bytes are held
pub record StepsAdded (list blocks entries : List ℕ) (before after : ℕ) : Type 0 where
  pub answers : List ℕ
  pub room : length answers ≡ 65536
  pub added : after ≡ (before + steps_of (run_all_answer list blocks (whole_of (entry_size (keys_in list)) entries) answers)) % 2 ^ 64

-- a recheck hands back one answer, reused or not
abbrev pub answer_in : Rechecking → Judgement
answer_in (Reused j) = j
answer_in (Judged j) = j

abbrev pub reused_by : Rechecking → ℕ
reused_by (Reused j) = 1
reused_by (Judged j) = 0
