-- 01, "Blocks", the 512 bytes, by example: numbers in bytes, the check, and blocks that keep or break their layout.
use Rattle.std.specs.Prelude.{ℕ, ◌≡◌, List, [], ◌∷◌, ◌++◌, set, replicate}
use Rattle.paper.specs.Answers.{ok, refused, in_blocks}
use Rattle.paper.specs.Numbers.{number_at, big_endian}
use Rattle.paper.specs.Blocks.{check_of, sealed, blocks_needed, layout}
use Rattle.tried.specs.Examples.{Example, on, Agree, On, repeat, numbers_from}

-- "numbers big-endian"
pub record InBytes : Type 0 where
  pub two : big_endian 2 0x0102 ≡ numbers_from 1 2
  pub four : big_endian 4 0x01020304 ≡ numbers_from 1 4
  pub sixteen : big_endian 16 0x0102030405060708090a0b0c0d0e0f10 ≡ numbers_from 1 16
  pub two_back : number_at (numbers_from 0 8) 3 2 ≡ 0x0304
  pub sixteen_back : number_at (numbers_from 0 20) 1 16 ≡ 0x0102030405060708090a0b0c0d0e0f10

-- "two sums from 0, the first adds each word, the second adds the first sum, both modulo 65,535. Second sum, then first."
abbrev pub checks : List (Example (List ℕ) (List ℕ))
checks =
    on [] (0 ∷ 0 ∷ 0 ∷ 0 ∷ [])
    ∷ on (0x12 ∷ 0x34 ∷ []) (0x12 ∷ 0x34 ∷ 0x12 ∷ 0x34 ∷ [])
    ∷ on (0 ∷ 1 ∷ 0 ∷ 2 ∷ []) (0 ∷ 4 ∷ 0 ∷ 3 ∷ [])
    ∷ on (0xff ∷ 0xfe ∷ []) (0xff ∷ 0xfe ∷ 0xff ∷ 0xfe ∷ [])
    ∷ on (0xff ∷ 0xff ∷ []) (0 ∷ 0 ∷ 0 ∷ 0 ∷ [])
    ∷ on (0x80 ∷ 0 ∷ 0x80 ∷ 0 ∷ []) (0x80 ∷ 0x01 ∷ 0 ∷ 1 ∷ [])
    ∷ on (0x80 ∷ 0 ∷ 0 ∷ 1 ∷ []) (0 ∷ 2 ∷ 0x80 ∷ 1 ∷ [])
    ∷ []

-- 25 instructions to a block
abbrev pub needs : List (Example ℕ ℕ)
needs =
    on 1 1
    ∷ on 25 1
    ∷ on 26 2
    ∷ on 50 2
    ∷ on 51 3
    ∷ on 2050 82
    ∷ []

-- 20 bytes of an instruction that has no constant: operation, detail, operand
abbrev pub row : ℕ → ℕ → ℕ → List ℕ
row operation detail operand = operation ∷ detail ∷ (big_endian 2 operand ++ replicate 16 0)

-- a block byte by byte: its number, its count, the 500 bytes of instructions and zeros, the total, the number of keys, the check
abbrev pub block_with : List ℕ → ℕ → ℕ → List ℕ → ℕ → ℕ → List ℕ
block_with check number count body total keys =
    big_endian 2 number ++ big_endian 2 count ++ body ++ big_endian 2 total ++ big_endian 2 keys ++ check

-- with the check that it must have
abbrev pub block : ℕ → ℕ → List ℕ → ℕ → ℕ → List ℕ
block number count body total keys = sealed (block_with [] number count body total keys)

-- one instruction, and zeros
abbrev pub alone : List ℕ → List ℕ
alone instruction = instruction ++ replicate 480 0

abbrev pub push_true : List ℕ
push_true = row 1 0 1

abbrev pub conjoin : List ℕ
conjoin = row 10 0 0

abbrev pub invert : List ℕ
invert = row 6 0 0

-- 25 instructions that leave one bool
abbrev pub full : List ℕ
full = repeat 13 push_true ++ repeat 12 conjoin

abbrev pub single : List ℕ
single = block_with (0xFD ∷ 0xFA ∷ 0x01 ∷ 0x03 ∷ []) 0 1 (alone push_true) 1 0

-- one block, without keys
abbrev pub one_block : List (On (Unit {0}))
one_block =
    on single (ok tt)
    -- "its number from 0"
    ∷ on (block 1 1 (alone push_true) 1 0) (refused 17 in_blocks 0)
    ∷ on (block 256 1 (alone push_true) 1 0) (refused 17 in_blocks 0)
    -- "its instruction count, .. 1 to 25"
    ∷ on (block 0 0 (replicate 500 0) 0 0) (refused 17 in_blocks 0)
    ∷ on (block_with (0x4A ∷ 0xC3 ∷ 0x85 ∷ 0x3F ∷ []) 0 25 full 25 0) (ok tt)
    ∷ on (block 0 26 full 26 0) (refused 17 in_blocks 0)
    -- "instructions, then zeros": the first and the last byte of these
    ∷ on (block 0 1 (push_true ++ (1 ∷ replicate 479 0)) 1 0) (refused 17 in_blocks 0)
    ∷ on (block 0 1 (push_true ++ replicate 479 0 ++ (1 ∷ [])) 1 0) (refused 17 in_blocks 0)
    -- "the total count, which is the sum of the counts in all the blocks given"
    ∷ on (block 0 1 (alone push_true) 0 0) (refused 17 in_blocks 0)
    ∷ on (block 0 1 (alone push_true) 2 0) (refused 17 in_blocks 0)
    -- "the number of keys, as in the list given"
    ∷ on (block 0 1 (alone push_true) 1 1) (refused 17 in_blocks 0)
    -- "the check": each of its bytes
    ∷ on (set single 508 0xAA) (refused 17 in_blocks 0)
    ∷ on (set single 509 0xAA) (refused 17 in_blocks 0)
    ∷ on (set single 510 0xAA) (refused 17 in_blocks 0)
    ∷ on (set single 511 0xAA) (refused 17 in_blocks 0)
    ∷ []

-- two blocks

abbrev pub first_block : List ℕ
first_block = block_with (0x4A ∷ 0xC5 ∷ 0x85 ∷ 0x40 ∷ []) 0 25 full 26 0

abbrev pub last_block : List ℕ
last_block = block_with (0xEA ∷ 0x34 ∷ 0x06 ∷ 0x1C ∷ []) 1 1 (alone invert) 26 0

abbrev pub two_blocks : List (On (Unit {0}))
two_blocks =
    on (first_block ++ last_block) (ok tt)
    -- "Blocks cut at a block's end that still load because the shorter program also ends in a bool: the total count forbids it."
    ∷ on first_block (refused 17 in_blocks 0)
    ∷ on (last_block ++ first_block) (refused 17 in_blocks 0)
    -- "25 except in the last block", though all else is right
    ∷ on (block 0 24 (repeat 24 push_true ++ replicate 20 0) 25 0 ++ block 1 1 (alone invert) 25 0) (refused 17 in_blocks 0)
    -- the second block's number, total, number of keys and check
    ∷ on (first_block ++ block 0 1 (alone invert) 26 0) (refused 17 in_blocks 512)
    ∷ on (first_block ++ block 1 1 (alone invert) 1 0) (refused 17 in_blocks 512)
    ∷ on (first_block ++ block 1 1 (alone invert) 26 1) (refused 17 in_blocks 512)
    ∷ on (first_block ++ set last_block 511 0xAA) (refused 17 in_blocks 512)
    -- "the earliest place wins"
    ∷ on (set first_block 1 1 ++ set last_block 1 2) (refused 17 in_blocks 0)
    ∷ []

pub record BlockExamples : Type 0 where
  pub numbers : InBytes
  pub sums : Agree check_of checks
  pub as_many_as_needed : Agree blocks_needed needs
  pub one_block_lem : Agree (layout 0) one_block
  pub fewer_keys_than_listed : layout 1 single ≡ refused 17 in_blocks 0
  pub two_blocks_lem : Agree (layout 0) two_blocks
