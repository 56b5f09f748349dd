-- 01, "The load check follows the types through the sequence: operands as above, at most 384 values held, one bool at the end;
-- instruction fields in range." Refusal 18. And running what was loaded.
-- 02 g: skips, "The load check asks that the types held at the landing equal those at the skip"; "Running reports the steps taken".
use Rattle.std.specs.Prelude.{ℕ, zero, suc, ◌+◌, ◌*◌, ◌/◌, ◌%◌, Bool, true, false, cond, ◌&&◌, List, [], ◌∷◌, map, length, take}
use Rattle.std.specs.Bool.{beq}
use Rattle.std.proofs.Math.Option.{Option, none, some}
use Rattle.paper.specs.Answers.{Answer, ok, refused, ◌>>=◌, in_blocks}
use Rattle.paper.specs.Keys.{Key}
use Rattle.paper.specs.Entry.{Entry}
use Rattle.paper.specs.Types.{Ty, bool, int, of, same_ty}
use Rattle.paper.specs.Meaning.{Value, is_true}
use Rattle.paper.specs.Code.{Skip, Instruction, instruction_size, parts_at, decode, act, Walk, fails, ends, go_on, walk, type_action, value_action, action_of, skip_of}
use Rattle.paper.specs.Blocks.{block_size, in_block, total_of, layout}

-- where instruction i begins
abbrev pub instruction_at : ℕ → ℕ
instruction_at i = block_size * (i / in_block) + 4 + instruction_size * (i % in_block)

-- n instructions, from the one of index i on, where there are no more: so many are left after each
abbrev pub instructions_from : List ℕ → ℕ → ℕ → List (Option Instruction)
instructions_from blocks i zero = []
instructions_from blocks i (suc n) = decode n (parts_at blocks (instruction_at i)) ∷ instructions_from blocks (i + 1) n

abbrev pub program : List ℕ → List (Option Instruction)
program blocks = instructions_from blocks 0 (total_of blocks)

abbrev pub same_types : List Ty → List Ty → Bool
same_types [] [] = true
same_types [] (b ∷ t) = false
same_types (a ∷ s) [] = false
same_types (a ∷ s) (b ∷ t) = same_ty a b && same_types s t

-- "A landing past an instruction that fails by itself is not compared."
abbrev pub same_at : List Ty → Walk Ty → Bool
same_at held (fails i) = true
same_at held (ends there) = same_types held there

-- "the types held at the landing equal those at the skip": what is held there, by a walk over what the skip would pass over
abbrev pub lands_well : List Key → Option Skip → List (Option Instruction) → List Ty → Bool
lands_well ks none rest held = true
lands_well ks (some s) rest held = same_at held (walk 0 (map (action_of (type_action ks)) (take s.over rest)) held)

-- the index of the first instruction that fails, by itself or by its landing, or the types held at the end; from that of index i on
unfoldable pub check_from : List Key → ℕ → List (Option Instruction) → List Ty → Walk Ty
unfolding walk
check_from ks i [] held = ends held
check_from ks i (x ∷ xs) held =
    go_on i (act (action_of (type_action ks) x) held)
    (λ later. cond (lands_well ks (skip_of x) xs later) (check_from ks (i + 1) xs later) (fails i))

unfoldable pub types_along : List Key → List (Option Instruction) → Walk Ty
unfolding check_from
types_along ks code = check_from ks 0 code []

-- 18: "an instruction fails the load check", its first byte, or the blocks' length at the end
abbrev pub end_ok : ℕ → List Ty → Answer (Unit {0})
end_ok size [] = refused 18 in_blocks size
end_ok size (bool ∷ []) = ok tt
end_ok size (int ∷ []) = refused 18 in_blocks size
end_ok size (of k w ∷ []) = refused 18 in_blocks size
end_ok size (a ∷ b ∷ held) = refused 18 in_blocks size

abbrev pub load_check : ℕ → Walk Ty → Answer (Unit {0})
load_check size (fails i) = refused 18 in_blocks (instruction_at i)
load_check size (ends held) = end_ok size held

-- "A load that passes returns that number too", the number of instructions
unfoldable pub loaded : List Key → List ℕ → Answer ℕ
unfolding layout types_along
loaded ks blocks =
    layout (length ks) blocks
    >>= λ _. load_check (length blocks) (types_along ks (program blocks))
    >>= λ _. ok (total_of blocks)

-- Running. How many instructions are passed over after one that is carried out, by what was held before it
abbrev pub passed : Option Skip → List Value → ℕ
passed none held = 0
passed (some s) [] = 0
passed (some s) (v ∷ held) = cond (beq (is_true (some v)) s.on) s.over 0

-- an instruction that is carried out: its index, and what is held before it
pub record Step : Type 0 where
  pub at : ℕ
  pub held : List Value

-- the index of the one that fails; or the steps, and what is held at the end
pub data Run : Type 0 where
  stuck : ℕ → Run
  done : List Step → List Value → Run

abbrev pub after : Step → Run → Run
after p (stuck i) = stuck i
after p (done path held) = done (p ∷ path) held

abbrev pub carry_on : Step → Option (List Value) → (List Value → Run) → Run
carry_on p none go = stuck p.at
carry_on p (some later) go = after p (go later)

-- the code from index i on, of which so many instructions are still to be passed over
unfoldable pub run_from : List Key → Entry → List (Option Instruction) → ℕ → ℕ → List Value → Run
run_from ks e [] n i held = done [] held
run_from ks e (x ∷ xs) zero i held =
    carry_on (record { at = i; held = held }) (act (action_of (value_action ks e) x) held) (run_from ks e xs (passed (skip_of x) held) (i + 1))
run_from ks e (x ∷ xs) (suc n) i held = run_from ks e xs n (i + 1) held

-- "Running starts with nothing held"
unfoldable pub run_along : List Key → Entry → List (Option Instruction) → Run
unfolding run_from
run_along ks e code = run_from ks e code 0 0 []

-- the one value that is left at the end; blocks that load always leave one
abbrev pub left : Run → Option Value
left (stuck i) = none
left (done path []) = none
left (done path (a ∷ [])) = some a
left (done path (a ∷ b ∷ held)) = none

-- "The entry is accepted exactly when the bool left at the end is true"
abbrev pub left_true : Run → Bool
left_true r = is_true (left r)

-- "Running reports the steps taken, which is the count that the definition of stepping gives"
abbrev pub steps_taken : Run → ℕ
steps_taken (stuck i) = 0
steps_taken (done path held) = length path
