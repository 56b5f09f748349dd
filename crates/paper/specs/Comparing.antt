-- 02 l, "Check a contractor's translator": "Given a text, the key list and their blocks, say "agrees" exactly when the blocks load and are our
-- translation of the same top-level parts, each used once, in some order, joined from the left. .. Blocks that load and do not fit give
-- "differs". Skips are those g) would place."
--
-- First what it is to agree; then how it is found, from the end of the code, where it is never in doubt which part comes last. ComparedRight
-- says that the one is the other.
use Rattle.std.specs.Prelude.{ℕ, zero, suc, ◌+◌, ◌-◌, ◌≡◌, Bool, true, false, ◌&&◌, List, [], ◌∷◌, ◌++◌, map, length, take, drop, leb, Result, Ok, Err}
use Rattle.paper.specs.declared.Refusal.{Refusal}
use Rattle.paper.specs.declared.Agreement.{Agreement}
use Rattle.paper.specs.declared.Agreement.TheVariants.{Agrees, Differs}
use Rattle.std.proofs.Math.Option.{Option, none, some}
use Rattle.paper.specs.Answers.{Answer, ok, refused, ◌>>=◌, input_of, offset_of, refused_by, says_as}
use Rattle.paper.specs.Numbers.{bytes_at}
use Rattle.paper.specs.Tokens.{same_bytes}
use Rattle.paper.specs.Keys.{Key}
use Rattle.paper.specs.Grammar.{Tree}
use Rattle.paper.specs.Types.{when}
use Rattle.paper.specs.Meaning.{both}
use Rattle.paper.specs.Code.{Instruction, connects, skip, instruction_size, encode}
use Rattle.paper.specs.Blocks.{total_of}
use Rattle.paper.specs.Loading.{instruction_at, program, loaded}
use Rattle.paper.specs.Translating.{skip_for, code_of}
use Rattle.paper.specs.Calls.{restriction}
use Rattle.paper.specs.Parts.{Part, parts}
use Rattle.paper.specs.PartsDecide.{JoinedLeft}

-- "each used once, in some order"

-- one of a list, and the others as they stand
pub data TakenOut {A : Type 0} (x : A) : List A → List A → Type 0 where
  at_head : (xs : List A) → TakenOut x (x ∷ xs) xs
  past : {xs rest : List A} (y : A) → TakenOut x xs rest → TakenOut x (y ∷ xs) (y ∷ rest)

-- all of the second list, each taken out once
pub data InSomeOrder {A : Type 0} : List A → List A → Type 0 where
  all_used : InSomeOrder [] []
  then_use : {xs ys rest : List A} (x : A) → TakenOut x ys rest → InSomeOrder xs rest → InSomeOrder (x ∷ xs) ys

-- "our translation of the same top-level parts, .. joined from the left"
pub record Ours (ks : List Key) (parts : List Tree) (blocks : List ℕ) : Type 0 where
  pub order : List Tree
  pub once : InSomeOrder order parts
  pub root : Tree
  pub joined : JoinedLeft order root
  pub translated : program blocks ≡ map some (code_of ks root)

-- the instructions of code, each as its 20 bytes: of blocks as they stand, and of ours as they are written

abbrev pub records_from : List ℕ → ℕ → ℕ → List (List ℕ)
records_from blocks i zero = []
records_from blocks i (suc n) = bytes_at blocks (instruction_at i) instruction_size ∷ records_from blocks (i + 1) n

abbrev pub records_in : List ℕ → List (List ℕ)
records_in blocks = records_from blocks 0 (total_of blocks)

abbrev pub written : List Instruction → List (List ℕ)
written code = map encode code

abbrev pub same_records : List (List ℕ) → List (List ℕ) → Bool
same_records [] [] = true
same_records [] (b ∷ s) = false
same_records (a ∷ r) [] = false
same_records (a ∷ r) (b ∷ s) = same_bytes a b && same_records r s

-- a part as it is joined to those before it: 02 g's skip over it and the join, the part, and the join
abbrev pub as_joined : List Instruction → List Instruction
as_joined code = skip (skip_for both (length code)) ∷ (code ++ (connects both ∷ []))

-- what stands before an ending, where code ends so
abbrev pub before_ending : List (List ℕ) → List (List ℕ) → Option (List (List ℕ))
before_ending ending s =
    let n = length s - length ending in
    when (leb (length ending) (length s) && same_records (drop n s) ending) (take n s)

-- a part found at the end: the parts that are left, and the code before it
pub data Picked : Type 0 where
  nothing : Picked
  picked : List (List Instruction) → List (List ℕ) → Picked

abbrev pub behind : List Instruction → Picked → Picked
behind d nothing = nothing
behind d (picked rest s) = picked (d ∷ rest) s

abbrev pub picked_or : Option (List (List ℕ)) → List (List Instruction) → Picked → Picked
picked_or none ds later = later
picked_or (some s) ds later = picked ds s

-- the first of the parts' codes with which code ends, as it is joined
abbrev pub pick : List (List Instruction) → List (List ℕ) → Picked
pick [] s = nothing
pick (d ∷ ds) s =
    let later = behind d (pick ds s) in
    picked_or (before_ending (written (as_joined d)) s) ds later

abbrev pub on_picked : Picked → (List (List Instruction) → List (List ℕ) → Bool) → Bool
on_picked nothing f = false
on_picked (picked rest s) f = f rest s

abbrev pub is_whole : List (List Instruction) → List (List ℕ) → Bool
is_whole [] s = false
is_whole (c ∷ []) s = same_records (written c) s
is_whole (c ∷ d ∷ ds) s = false

-- of one more than so many parts: all but one are taken off the end, and the last is all that is left
unfoldable pub fits : ℕ → List (List Instruction) → List (List ℕ) → Bool
fits zero cs s = is_whole cs s
fits (suc n) cs s = on_picked (pick cs s) (fits n)

-- the codes of a text's parts
abbrev pub part_codes : List Key → List Part → List (List Instruction)
part_codes ks ps = map (λ (p : Part). code_of ks p.root) ps

-- text and list first, then the blocks (16; 17; 18): whether they agree
unfoldable pub compare_answer : List ℕ → List ℕ → List ℕ → Answer Bool
unfolding restriction parts loaded code_of fits
compare_answer text list blocks =
    restriction text list
    >>= λ r. parts text
    >>= λ ps. loaded r.keys blocks
    >>= λ _. ok (fits (length ps - 1) (part_codes r.keys ps) (records_in blocks))

abbrev pub agrees : Agreement → Bool
agrees Agrees = true
agrees Differs = false

abbrev pub agreement_says : Result Agreement Refusal → Answer Bool
agreement_says = says_as agrees

abbrev pub agreement_for : Bool → Agreement
agreement_for true = Agrees
agreement_for false = Differs

abbrev pub agreement : Bool → Result Agreement Refusal
agreement b = Ok (agreement_for b)
