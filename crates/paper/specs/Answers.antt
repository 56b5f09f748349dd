-- 01, "Refusal numbers": "A refusal's place says which input it lies in (text, key list, entry, blocks, buffer) and a byte
-- offset." 02 k: "Places may now lie in the contract or the number table." And for the enum of every call and stage, this paper's number and values for each of its cases.
use Rattle.std.specs.Prelude.{ℕ, zero, suc, Bool, true, false, Result, Ok, Err}
use Rattle.paper.specs.declared.Refusal.{Refusal}
use Rattle.paper.specs.declared.Ended.{Ended}
use Rattle.paper.specs.declared.Verdict.{Verdict}
use Rattle.paper.specs.declared.Verdict.TheVariants.{Accepted, Violated}
use Rattle.paper.specs.declared.Place.{Place}
use Rattle.paper.specs.declared.Place.TheVariants as P

pub data Input : Type 0 where
  in_text in_list in_entry in_blocks in_buffer in_contract in_table : Input

-- what is asked for, or a refusal: its number, the input that it lies in, and the byte offset there
pub data Answer (A : Type 0) : Type 0 where
  ok : A → Answer A
  refused : ℕ → Input → ℕ → Answer A

infixl 1 ◌>>=◌
-- the next stage, where this one passes
abbrev pub ◌>>=◌ : {A B : Type 0} → Answer A → (A → Answer B) → Answer B
ok a >>= f = f a
refused n i at >>= f = refused n i at

-- a stage that only tests
abbrev pub require : Bool → ℕ → Input → ℕ → Answer (Unit {0})
require true n i at = ok tt
require false n i at = refused n i at

-- "In a stage the earliest place wins": n tests in turn, from that of index k on, of which the first that refuses decides
abbrev pub in_turn : (ℕ → Answer (Unit {0})) → ℕ → ℕ → Answer (Unit {0})
in_turn test k zero = ok tt
in_turn test k (suc n) = test k >>= λ _. in_turn test (suc k) n

abbrev pub input_of : Place → Input
input_of (P.Text at) = in_text
input_of (P.List at) = in_list
input_of (P.Entry at) = in_entry
input_of (P.Blocks at) = in_blocks
input_of (P.Buffer at) = in_buffer
input_of (P.Contract at) = in_contract
input_of (P.Table at) = in_table

abbrev pub offset_of : Place → ℕ
offset_of (P.Text at) = at
offset_of (P.List at) = at
offset_of (P.Entry at) = at
offset_of (P.Blocks at) = at
offset_of (P.Buffer at) = at
offset_of (P.Contract at) = at
offset_of (P.Table at) = at

-- a refusal, in the paper's number and place
abbrev pub refused_by : {A : Type 0} → Refusal → Answer A
refused_by v = refused v.number (input_of v.place) (offset_of v.place)

-- what a call or a stage of one answers with what was asked for, read by f; and as it is
abbrev pub says_as : {A B : Type 0} → (A → B) → Result A Refusal → Answer B
says_as f (Ok a) = ok (f a)
says_as f (Err v) = refused_by v

abbrev pub says : {A : Type 0} → Result A Refusal → Answer A
says (Ok a) = ok a
says (Err v) = refused_by v

-- such an answer with a refusal of this number at this place
abbrev pub refusal : {A : Type 0} → ℕ → Place → Result A Refusal
refusal n p = Err (record { number = n; place = p })

-- accepted: true; violated: false
abbrev pub accepts : Verdict → Bool
accepts Accepted = true
accepts Violated = false

abbrev pub Judgement : Type 0
Judgement = Result Verdict Refusal

abbrev pub judgement_says : Judgement → Answer Bool
judgement_says = says_as accepts

-- 02 g: whether the entry is accepted, and "the steps taken"
pub record Ran : Type 0 where
  pub accepted : Bool
  pub steps : ℕ

abbrev pub ran : Ended → Ran
ran e = record { accepted = accepts e.verdict; steps = e.steps }

abbrev pub ended : Verdict → ℕ → Result Ended Refusal
ended v n = Ok (record { verdict = v; steps = n })

abbrev pub running_says : Result Ended Refusal → Answer Ran
running_says = says_as ran
