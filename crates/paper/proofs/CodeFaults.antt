-- Refusal 18 by the table, and so the stages of a load. The table's rows are those of wrong instructions, by index, and of the end; the
-- check fails at the first wrong instruction, whose place comes before those of all others and before the blocks' length.
use Prim.Native.Nat.{ℕ, ◌+◌, ◌*◌, ◌≤◌, ◌<◌}
use native.Mathlib.Nat.{zero-add}
use native.Mathlib.Decide.{ℕ_discrete}
use native.Mathlib.Omega.{arith}
use mathlib.Core.Path.{◌≡◌, refl, sym, ap, subst, ◌∙◌}
use mathlib.Core.Logic.{◌≢◌, inl, inr}
use mathlib.Core.Option.{Option, none, some}
use mathlib.Core.List.{List, [], ◌∷◌, ◌++◌, map, map-append}
use lib.ListN.{length, take, length-map}
use Rattle.paper.specs.Answers.{Answer, ok, refused, ◌>>=◌, require, in_turn, in_blocks}
use Rattle.paper.specs.Keys.{Key, keys}
use Rattle.paper.specs.Types.{Ty, bool, int, of}
use Rattle.paper.specs.Code.{Skip, Instruction, skip, act, Walk, fails, ends, go_on, walk}
use Rattle.paper.specs.Blocks.{in_block, blocks_in, total_of, block_test, layout}
use Rattle.paper.specs.Loading.{instruction_at, program, same_at, types_along, end_ok, load_check, loaded}
use Rattle.paper.specs.Calls.{load_answer}
use Rattle.paper.specs.LoadedBlocksRun.{types_through}
use Rattle.paper.specs.Faults.{Faults, BlocksSize, BlocksLayout, BlocksCode, instruction_fails, skip_misfits, end_not_bool}
use Rattle.paper.specs.Table.{Sooner, stage, Given, list_stages, block_stages, load_stages}
use Rattle.paper.proofs.Stages.{bind_again}
use Rattle.paper.proofs.Walks.{on_walk, walk_append, walk_anywhere}
use Rattle.paper.proofs.Landings.{ends_same, on_types, check_walks}
use Rattle.paper.proofs.LoadedBlocksRun.{program_length}
use Rattle.paper.proofs.LayoutPassed.{each_block, counts_within}
use Rattle.paper.proofs.StagesInOrder.{only_wins, Tells, given_tells, Follows, follows_one, follows_as, follows_then}
use Rattle.paper.proofs.ListFaults.{list_follows}
use Rattle.paper.proofs.BlockFaults.{blocks_sized, blocks_size_tells, blocks_layout_tells}
use Rattle.paper.proofs.FirstWrong.{FirstAt, Told, WrongHere, Wrong, check_told, stands, wrong_there, wrong_below}
use Rattle.paper.proofs.Misfits.{skip_leaves, held_at, Misfit, misfit, told_apart}

-- Places: those of instructions rise with the index, and lie in blocks that are laid out well

sooner_there : (j k : ℕ) → j ≤ k → Sooner 18 (instruction_at j) 18 (instruction_at k)
sooner_there j k l = go (ℕ_discrete j k)
  where
    go : Dec (j ≡ k) → Sooner 18 (instruction_at j) 18 (instruction_at k)
    go (yes e) = inr (ap instruction_at e, omega arith)
    go (no d) = inl (omega arith)

pub inside_blocks : (blocks : List ℕ) (k : ℕ) → total_of blocks ≤ in_block * blocks_in blocks → k < total_of blocks
    → instruction_at k < length blocks
inside_blocks blocks k few l = omega arith

-- The end

not_one_bool : (size : ℕ) (held : List Ty) → held ≢ bool ∷ [] → end_ok size held ≡ refused 18 in_blocks size
not_one_bool size [] h = refl
not_one_bool size (bool ∷ []) h = absurd (h refl)
not_one_bool size (int ∷ []) h = refl
not_one_bool size (of k w ∷ []) h = refl
not_one_bool size (a ∷ b ∷ held) h = refl

one_bool_decided : (held : List Ty) → Dec (held ≡ bool ∷ [])
one_bool_decided [] = no (λ d. absurd (let z : ◌≡◌ {A = ℕ} 0 1 = ap length d in omega (arith, z)))
one_bool_decided (bool ∷ []) = yes refl
one_bool_decided (int ∷ []) = no (λ d. absurd (let z : ◌≡◌ {A = ℕ} 0 1 = cc in omega (arith, z)))
one_bool_decided (of k w ∷ []) = no (λ d. absurd (let z : ◌≡◌ {A = ℕ} 0 1 = cc in omega (arith, z)))
one_bool_decided (a ∷ b ∷ held) = no (λ d. absurd (omega (arith, ap length d)))

module _ (ks : List Key) (blocks : List ℕ) where
  -- The rows of the table, by index: that of a wrong instruction, or the end

  data ByIndex : ℕ → ℕ → Type 0 where
    at_index : (k : ℕ) → Wrong ks (program blocks) [] k → ByIndex 18 (instruction_at k)
    at_end : (held : List Ty) → types_through ks (program blocks) ≡ ends held → held ≢ bool ∷ [] → ByIndex 18 (length blocks)

  -- after a front that ends so
  through : (front more : List (Option Instruction)) (held : List Ty) → types_through ks front ≡ ends held
      → types_through ks (front ++ more) ≡ walk (length front) (map (on_types ks) more) held
  unfolding types_through
  through front more held upto =
      let size : 0 + length (map (on_types ks) front) ≡ length front = rw length-map (zero-add (length front)) in
      ap (λ s. walk 0 s []) (map-append (on_types ks) front more)
      ∙ walk_append (map (on_types ks) front) (map (on_types ks) more) 0 []
      ∙ ap (λ w. on_walk w (walk (0 + length (map (on_types ks) front)) (map (on_types ks) more))) upto
      ∙ ap (λ n. walk n (map (on_types ks) more) held) size

  -- a wrong instruction is a row's

  misfit_row : (front : List (Option Instruction)) (x : Option Instruction) (rest : List (Option Instruction)) (held later : List Ty)
      → program blocks ≡ front ++ (x ∷ rest) → types_through ks front ≡ ends held → act (on_types ks x) held ≡ some later
      → Misfit ks x rest later → BlocksCode ks blocks 18 (instruction_at (length front))
  unfolding walk
  misfit_row front x rest held later split upto acts m =
      let s = m.this in
      let passed = take s.over rest in
      let acts-so : act (on_types ks (some (skip s))) held ≡ some later = rw m.is at acts in
      let same : held ≡ later = skip_leaves ks s held later acts-so in
      let lands : walk (length front + 1) (map (on_types ks) passed) later ≡ ends m.there =
      walk_anywhere (map (on_types ks) passed) 0 (length front + 1) later m.there m.lands
      in
      let reached : types_through ks (front ++ (some (skip s) ∷ passed)) ≡ ends m.there =
      through front (some (skip s) ∷ passed) held upto
      ∙ ap (λ o. go_on (length front) o (walk (length front + 1) (map (on_types ks) passed))) acts-so ∙ lands
      in
      skip_misfits front s rest held m.there (rw m.is at split) upto reached (λ d. m.differs (sym same ∙ d))

  row_of : (front : List (Option Instruction)) (x : Option Instruction) (rest : List (Option Instruction)) (held : List Ty)
      → program blocks ≡ front ++ (x ∷ rest) → types_through ks front ≡ ends held → WrongHere ks x rest (act (on_types ks x) held)
      → BlocksCode ks blocks 18 (instruction_at (length front))
  row_of front x rest held split upto h = go (act (on_types ks x) held) refl h
    where
      go : (o : Option (List Ty)) → act (on_types ks x) held ≡ o → WrongHere ks x rest o → BlocksCode ks blocks 18 (instruction_at (length front))
      go none e f = instruction_fails front x rest held split upto e
      go (some later) e f = misfit_row front x rest held later split upto e (misfit ks x rest later f)

  row : (n at : ℕ) → ByIndex n at → BlocksCode ks blocks n at
  unfolding types_through
  row n at (at_index k h) =
      let r = stands ks (program blocks) 0 [] k h in
      subst (λ j. BlocksCode ks blocks 18 (instruction_at j)) r.index
      (row_of r.front r.this r.rest r.holds r.split r.upto r.wrong)
  row n at (at_end held e d) = end_not_bool held e d

  -- and a row's is a wrong instruction

  skip_wrong : (front : List (Option Instruction)) (s : Skip) (rest : List (Option Instruction)) (held there : List Ty)
      → types_through ks front ≡ ends held → types_through ks (front ++ (some (skip s) ∷ take s.over rest)) ≡ ends there → held ≢ there
      → WrongHere ks (some (skip s)) rest (act (on_types ks (some (skip s))) held)
  unfolding walk
  skip_wrong front s rest held there upto reached differs =
      go (act (on_types ks (some (skip s))) held) refl (sym (through front (some (skip s) ∷ take s.over rest) held upto) ∙ reached)
    where
      go : (o : Option (List Ty)) → act (on_types ks (some (skip s))) held ≡ o
          → go_on (length front) o (walk (length front + 1) (map (on_types ks) (take s.over rest))) ≡ ends there → WrongHere ks (some (skip s)) rest o
      go none acts f = tt
      go (some later) acts f =
          let same : held ≡ later = skip_leaves ks s held later acts in
          let lands : held_at ks s rest later ≡ ends there =
          walk_anywhere (map (on_types ks) (take s.over rest)) (length front + 1) 0 later there f
          in
          ap (same_at later) lands ∙ told_apart later there (λ d. differs (same ∙ d))

  by_index : (n at : ℕ) → BlocksCode ks blocks n at → ByIndex n at
  unfolding types_through
  by_index n at (instruction_fails front x rest held split upto stops) =
      at_index (length front)
      (subst (λ code. Wrong ks code [] (length front)) (sym split) (wrong_there ks front x rest 0 [] held upto (rw stops tt)))
  by_index n at (skip_misfits front s rest held there split upto reached differs) =
      at_index (length front)
      (subst (λ code. Wrong ks code [] (length front)) (sym split)
      (wrong_there ks front (some (skip s)) rest 0 [] held upto (skip_wrong front s rest held there upto reached differs)))
  by_index n at (end_not_bool held e d) = at_end held e d

  -- So the check tells of the stage

  module _ (few : total_of blocks ≤ in_block * blocks_in blocks) where
    inside : (k : ℕ) → Wrong ks (program blocks) [] k → instruction_at k < length blocks
    inside k h =
        inside_blocks blocks k few (omega (arith, wrong_below ks (program blocks) [] k h, program_length blocks 0 (total_of blocks)))

    -- the first wrong instruction comes before all other faults
    first_sooner : (at m to : ℕ) (h : FirstAt (Wrong ks (program blocks) []) 0 at) → ByIndex m to → Sooner 18 (instruction_at h.index) m to
    first_sooner at m to h (at_index k f) = sooner_there h.index k (h.first k f)
    first_sooner at m to h (at_end held e d) = inl (inside h.index h.has)

    -- where no instruction is wrong, only the end is left
    end_only : (held : List Ty) → types_through ks (program blocks) ≡ ends held → ((k : ℕ) → ¬ Wrong ks (program blocks) [] k)
        → (m to : ℕ) → ByIndex m to → (m ≡ 18) × (to ≡ length blocks) × (held ≢ bool ∷ [])
    end_only held same free m to (at_index k f) = absurd (free k f)
    end_only held same free m to (at_end there e d) = (refl, refl, rw (ends_same (sym e ∙ same)) at d)

    end_tells : (held : List Ty) → types_through ks (program blocks) ≡ ends held → ((k : ℕ) → ¬ Wrong ks (program blocks) [] k)
        → Tells in_blocks (BlocksCode ks blocks) (end_ok (length blocks) held)
    end_tells held same free = go (one_bool_decided held)
      where
        only : (m to : ℕ) → BlocksCode ks blocks m to → (m ≡ 18) × (to ≡ length blocks) × (held ≢ bool ∷ [])
        only m to f = end_only held same free m to (by_index m to f)

        go : Dec (held ≡ bool ∷ []) → Tells in_blocks (BlocksCode ks blocks) (end_ok (length blocks) held)
        go (yes e) = rw e (λ m to f. (only m to f).2 e)
        go (no d) =
            rw (not_one_bool (length blocks) held d)
            (refl, only_wins (end_not_bool held same d) (λ m to f. ((only m to f).0, (only m to f).1)))

    walk_tells : (w : Walk Ty) → types_along ks (program blocks) ≡ w → Told (Wrong ks (program blocks) []) 0 w
        → Tells in_blocks (BlocksCode ks blocks) (load_check (length blocks) w)
    unfolding types_along types_through
    walk_tells (fails at) checked h =
        let place : at ≡ h.index = h.place ∙ zero-add h.index in
        rw place (
          refl,
          record {
            fault = row 18 (instruction_at h.index) (at_index h.index h.has);
            first = λ m to f. first_sooner at m to h (by_index m to f);
          },
        )
    walk_tells (ends held) checked free = end_tells held (check_walks ks (program blocks) 0 0 [] held checked) free

    code_tells : Tells in_blocks (BlocksCode ks blocks) (load_check (length blocks) (types_along ks (program blocks)))
    unfolding types_along
    code_tells = walk_tells (types_along ks (program blocks)) refl (check_told ks (program blocks) 0 [])

-- 16; 17; 18
pub blocks_follow : (list : List ℕ) (ks : List Key) (blocks : List ℕ) → keys list ≡ ok ks
    → Follows (block_stages list blocks) (loaded ks blocks)
unfolding loaded layout
blocks_follow list ks blocks listed =
    let size = require (blocks_sized blocks) 16 in_blocks (length blocks) in
    let lay = in_turn (block_test (length ks) blocks) 0 (blocks_in blocks) in
    let types = load_check (length blocks) (types_along ks (program blocks)) in
    let two : List Key → Faults = λ ks. BlocksLayout (length ks) blocks in
    let three : List Key → Faults = λ ks. BlocksCode ks blocks in
    let last = stage in_blocks (Given (keys list) three) ∷ [] in
    let mid = stage in_blocks (Given (keys list) two) ∷ [] in
    subst (λ (a : Answer ℕ). Follows (block_stages list blocks) a)
    (sym (bind_again size (λ _. lay) (λ _. types >>= λ _. ok (total_of blocks))))
    (follows_then (stage in_blocks (BlocksSize blocks) ∷ []) (mid ++ last) size (λ _. lay >>= λ _. types >>= λ _. ok (total_of blocks))
    (follows_one in_blocks (BlocksSize blocks) size (blocks_size_tells blocks))
    (λ _ _.
    follows_then mid last lay (λ _. types >>= λ _. ok (total_of blocks))
    (follows_one in_blocks (Given (keys list) two) lay
    (given_tells (keys list) ks listed two in_blocks lay (blocks_layout_tells (length ks) blocks)))
    (λ _ passes.
    let few = counts_within (length ks) blocks (each_block (length ks) blocks passes) in
    follows_as last types (λ _. total_of blocks)
    (follows_one in_blocks (Given (keys list) three) types
    (given_tells (keys list) ks listed three in_blocks types (code_tells ks blocks few))))))

pub load_follows : (list blocks : List ℕ) → Follows (load_stages list blocks) (load_answer list blocks)
unfolding load_answer
load_follows list blocks =
    follows_then (list_stages list) (block_stages list blocks) (keys list) (λ ks. loaded ks blocks) (list_follows list)
    (λ ks listed. blocks_follow list ks blocks listed)
