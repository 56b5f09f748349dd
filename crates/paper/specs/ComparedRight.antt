-- What 02 l's comparison is to be: it says "agrees" exactly of our translation of the parts in some order. "Agreement means equal answers on
-- every conforming entry."
use Rattle.std.specs.Prelude.{ℕ, ◌≡◌, ◌↔◌, true, List}
use Rattle.paper.specs.Answers.{ok}
use Rattle.paper.specs.Calls.{Restriction, restriction, judge_answer, translate_answer, translate_buffer, run_answer}
use Rattle.paper.specs.Loading.{loaded}
use Rattle.paper.specs.Parts.{Part, parts}
use Rattle.paper.specs.PartsDecide.{roots}
use Rattle.paper.specs.TranslationCorrect.{verdict_of}
use Rattle.paper.specs.Promised.{Bytes}
use Rattle.paper.specs.Demands.{blocks_written}
use Rattle.paper.specs.Comparing.{InSomeOrder, Ours, part_codes, compare_answer}

-- a text and a list that pass, with the text's parts, and blocks that load with the list
pub record Comparable (text list blocks : List ℕ) : Type 0 where
  pub rule : Restriction
  pub passes : restriction text list ≡ ok rule
  pub ps : List Part
  pub divided : parts text ≡ ok ps
  pub count : ℕ
  pub loads : loaded rule.keys blocks ≡ ok count

abbrev pub AgreesExactly : Type 0
AgreesExactly =
    (text list blocks : List ℕ) → Bytes blocks → (c : Comparable text list blocks)
    → (compare_answer text list blocks ≡ ok true) ↔ Ours c.rule.keys (roots c.ps) blocks

-- refusals included; the steps may differ
abbrev pub AgreementMeansEqual : Type 0
AgreementMeansEqual =
    (text list blocks : List ℕ) → Bytes blocks → compare_answer text list blocks ≡ ok true
    → (entry : List ℕ) → verdict_of (run_answer list blocks entry) ≡ judge_answer text list entry

-- the blocks of a text agree with another whose parts have the same codes in some order
abbrev pub ReorderedAgree : Type 0
ReorderedAgree =
    (text other list buffer : List ℕ) (n : ℕ) (r : Restriction) (ps qs : List Part) → Bytes list → Bytes buffer → restriction text list ≡ ok r
    → parts text ≡ ok ps → parts other ≡ ok qs → InSomeOrder (part_codes r.keys qs) (part_codes r.keys ps)
    → translate_answer other list buffer ≡ ok n
    → compare_answer text list (blocks_written n (translate_buffer other list buffer)) ≡ ok true

-- so those of the text itself do
abbrev pub OwnAgree : Type 0
OwnAgree =
    (text list buffer : List ℕ) (n : ℕ) → Bytes list → Bytes buffer → translate_answer text list buffer ≡ ok n
    → compare_answer text list (blocks_written n (translate_buffer text list buffer)) ≡ ok true
