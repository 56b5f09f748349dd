-- Blocks hold a program exactly where their records are those it is written as: an instruction in range reads back from its bytes, and bytes
-- that are read as an instruction are those that it is written as.
use Prim.Native.Nat.{ℕ, zero, suc, ◌+◌, ◌*◌, ◌≤◌, ◌<◌}
use native.Mathlib.Omega.{arith}
use mathlib.Core.Path.{◌≡◌, refl, sym, ap, ap₂, ◌∙◌}
use mathlib.Core.Option.{some}
use mathlib.Core.List.{List, [], ◌∷◌, ◌++◌, map, nil≢cons, head-eq_of_cons-eq, tail-eq_of_cons-eq}
use lib.ListN.{length, drop, length-map, take-append-drop}
use Rattle.paper.specs.Numbers.{bytes_at}
use Rattle.paper.specs.Code.{Instruction, instruction_size, encode, parts_at, decode}
use Rattle.paper.specs.Blocks.{in_block, blocks_in, total_of}
use Rattle.paper.specs.Loading.{instruction_at, instructions_from, program}
use Rattle.paper.specs.BlocksRoundTrip.{InRange, Ranged}
use Rattle.paper.specs.Promised.{Bytes}
use Rattle.paper.specs.Comparing.{records_from, records_in, written}
use Rattle.paper.proofs.InstructionsRoundTrip.{bytes_back, bytes_again}
use Rattle.paper.proofs.ByteLists.{take_bytes, drop_bytes}

module _ (blocks : List ℕ) where
  pub records_many : (i n : ℕ) → length (records_from blocks i n) ≡ n
  records_many i zero = refl
  records_many i (suc n) = ap suc (records_many (i + 1) n)

  -- of so many records
  many_written : (i n : ℕ) (code : List Instruction) → records_from blocks i n ≡ written code → n ≡ length code
  many_written i n code e = sym (records_many i n) ∙ ap length e ∙ length-map code encode

  -- read

  one_read : (at left : ℕ) (x : Instruction) → InRange left x → bytes_at blocks at instruction_size ≡ encode x → decode left (parts_at blocks at) ≡ some x
  one_read at left x ranged e =
      let rest = drop instruction_size (drop at blocks) in
      bytes_back left x ranged blocks rest at
      (sym (take-append-drop instruction_size (drop at blocks)) ∙ ap (λ (s : List ℕ). s ++ rest) e)

  records_read : (i n : ℕ) (code : List Instruction) → Ranged code → records_from blocks i n ≡ written code → instructions_from blocks i n ≡ map some code
  records_read i zero [] ranged e = refl
  records_read i zero (x ∷ code) ranged e = absurd (nil≢cons e)
  records_read i (suc n) [] ranged e = absurd (nil≢cons (sym e))
  records_read i (suc n) (x ∷ code) ranged e =
      let left : n ≡ length code = many_written (i + 1) n code (tail-eq_of_cons-eq e) in
      ap₂ ◌∷◌ (one_read (instruction_at i) n x (rw left ranged.0) (head-eq_of_cons-eq e))
      (records_read (i + 1) n code ranged.1 (tail-eq_of_cons-eq e))

  pub program_read : (code : List Instruction) → Ranged code → records_in blocks ≡ written code → program blocks ≡ map some code
  program_read code ranged e = records_read 0 (total_of blocks) code ranged e

  -- written

  module _ (bytes : Bytes blocks) (few : total_of blocks ≤ in_block * blocks_in blocks) where
    there : (i : ℕ) → i < total_of blocks → instruction_at i + instruction_size ≤ length blocks
    there i l = omega arith

    records_written : (i n : ℕ) (code : List Instruction) → i + n ≡ total_of blocks → instructions_from blocks i n ≡ map some code
        → records_from blocks i n ≡ written code
    records_written i zero [] all e = refl
    records_written i zero (x ∷ code) all e = absurd (nil≢cons e)
    records_written i (suc n) [] all e = absurd (nil≢cons (sym e))
    records_written i (suc n) (x ∷ code) all e =
        let at = instruction_at i in
        let small = take_bytes instruction_size (drop at blocks) (drop_bytes at blocks bytes) in
        ap₂ ◌∷◌ (sym (bytes_again blocks at (there i (omega arith)) small n x (head-eq_of_cons-eq e)).again)
        (records_written (i + 1) n code (omega arith) (tail-eq_of_cons-eq e))

    pub program_written : (code : List Instruction) → program blocks ≡ map some code → records_in blocks ≡ written code
    program_written code e = records_written 0 (total_of blocks) code (omega arith) e
