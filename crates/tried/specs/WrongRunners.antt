-- Wrong ways with skips: a run that reports the instructions of the code as its steps; a run whose skip passes over but leaves the old bool; a
-- load check that compares a landing with the skip's height only. Each is described so that a sloppy maker's is one, and fails what 02 g asks.
-- As programs they stand in WrongPrograms, and there they are shown to be real.
use Rattle.std.specs.Prelude.{ℕ, zero, suc, ◌+◌, ◌≡◌, Bool, true, cond, List, [], ◌∷◌, map, length, take, eqb, Result, Ok}
use Rattle.paper.specs.declared.Refusal.{Refusal}
use Rattle.paper.specs.declared.Ended.{Ended}
use Rattle.std.proofs.Math.Option.{Option, none, some}
use Rattle.paper.specs.Answers.{ok}
use Rattle.paper.specs.Keys.{Key, keys}
use Rattle.paper.specs.Entry.{Entry}
use Rattle.paper.specs.Types.{Ty}
use Rattle.paper.specs.Meaning.{Value}
use Rattle.paper.specs.Code.{Skip, Instruction, Action, takes_one, act, Walk, fails, ends, go_on, walk, type_action, value_action, action_of, skip_of}
use Rattle.paper.specs.Blocks.{layout}
use Rattle.paper.specs.Loading.{program, load_check, passed, Run, done, carry_on, left_true, steps_taken}
use Rattle.paper.specs.Promised.{verdict_in, Bytes, LoadPromised}
use Rattle.paper.specs.Demands.{Runnable, RanRight}

-- what is answered for a list, blocks and an entry
abbrev pub Runner : Type 0
Runner = List ℕ → List ℕ → List ℕ → Result Ended Refusal

-- what demand 2 asks of it
abbrev pub RunsRight : Runner → Type 0
RunsRight x = (list blocks entry : List ℕ) → Bytes list → Bytes blocks → Bytes entry → RanRight list blocks entry (x list blocks entry)

-- the instructions of the code, whatever was passed over
abbrev pub ReportsInstructions : Runner → Type 0
ReportsInstructions x =
    (list blocks entry : List ℕ) → Bytes list → Bytes blocks → Bytes entry → (j : Runnable list blocks entry)
    → (b : Bool) × (x list blocks entry ≡ verdict_in b j.count)

-- a skip that leaves the bool as it finds it

abbrev pub kept_by : Option Skip → Action Value → Action Value
kept_by none a = a
kept_by (some s) a = takes_one (λ v. some v)

unfoldable pub keeping_from : List Key → Entry → List (Option Instruction) → ℕ → ℕ → List Value → Run
keeping_from ks e [] n i held = done [] held
keeping_from ks e (x ∷ xs) zero i held =
    carry_on (record { at = i; held = held }) (act (kept_by (skip_of x) (action_of (value_action ks e) x)) held)
    (keeping_from ks e xs (passed (skip_of x) held) (i + 1))
keeping_from ks e (x ∷ xs) (suc n) i held = keeping_from ks e xs n (i + 1) held

abbrev pub keeping_answer : List Key → Entry → List ℕ → Result Ended Refusal
keeping_answer ks e blocks =
    let r = keeping_from ks e (program blocks) 0 0 [] in
    verdict_in (left_true r) (steps_taken r)

abbrev pub LeavesOldBool : Runner → Type 0
LeavesOldBool x =
    (list blocks entry : List ℕ) → Bytes list → Bytes blocks → Bytes entry → (j : Runnable list blocks entry)
    → x list blocks entry ≡ keeping_answer j.ks j.on blocks

-- a landing where as many values are held as at the skip, of whatever types

abbrev pub as_high : List Ty → Walk Ty → Bool
as_high held (fails i) = true
as_high held (ends there) = eqb (length held) (length there)

abbrev pub lands_high : List Key → Option Skip → List (Option Instruction) → List Ty → Bool
lands_high ks none rest held = true
lands_high ks (some s) rest held = as_high held (walk 0 (map (action_of (type_action ks)) (take s.over rest)) held)

unfoldable pub heights_from : List Key → ℕ → List (Option Instruction) → List Ty → Walk Ty
unfolding walk
heights_from ks i [] held = ends held
heights_from ks i (x ∷ xs) held =
    go_on i (act (action_of (type_action ks) x) held)
    (λ later. cond (lands_high ks (skip_of x) xs later) (heights_from ks (i + 1) xs later) (fails i))

-- what is answered for a list and blocks
abbrev pub Loader : Type 0
Loader = List ℕ → List ℕ → Result ℕ Refusal

abbrev pub LoadsRight : Loader → Type 0
LoadsRight x = (list blocks : List ℕ) → Bytes list → Bytes blocks → LoadPromised list blocks (x list blocks)

-- it passes all blocks that are laid out well and whose landings are as high
abbrev pub ComparesHeights : Loader → Type 0
ComparesHeights x =
    (list blocks : List ℕ) → Bytes list → Bytes blocks → (ks : List Key) → keys list ≡ ok ks → layout (length ks) blocks ≡ ok tt
    → load_check (length blocks) (heights_from ks 0 (program blocks) []) ≡ ok tt → (n : ℕ) × (x list blocks ≡ Ok n)

-- the claim

pub record WrongRunnersFail : Type 0 where
  pub instructions : (x : Runner) → ReportsInstructions x → ¬ RunsRight x
  pub old_bool : (x : Runner) → LeavesOldBool x → ¬ RunsRight x
  pub heights : (x : Loader) → ComparesHeights x → ¬ LoadsRight x
