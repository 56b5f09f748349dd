-- 01, "Blocks", the 512 bytes; refusals 16 and 17.
-- "A block: bytes 0, 1 its number from 0; 2, 3 its instruction count, 25 except in the last block (1 to 25); 4 to 503
-- instructions, then zeros; 504, 505 the total count, which is the sum of the counts in all the blocks given; 506, 507 the number
-- of keys, as in the list given; 508 to 511 the check."
use Rattle.std.specs.Prelude.{ℕ, zero, suc, ◌+◌, ◌*◌, ◌-◌, ◌/◌, ◌%◌, Bool, ◌&&◌, List, [], ◌∷◌, ◌++◌, length, take, drop, replicate, eqb, ltb, leb}
use Rattle.paper.specs.Answers.{Answer, ◌>>=◌, require, in_turn, in_blocks}
use Rattle.paper.specs.Numbers.{bytes_at, number_at, big_endian}
use Rattle.paper.specs.Tokens.{same_bytes}
use Rattle.paper.specs.Keys.{all_zero}
use Rattle.paper.specs.Code.{Instruction, instruction_size, encode}

abbrev pub block_size : ℕ
block_size = 512

abbrev pub in_block : ℕ
in_block = 25

-- 02 g: "the limit becomes 123 blocks in number 16"
abbrev pub most_blocks : ℕ
most_blocks = 123

-- "The check runs over the 254 big-endian 16-bit words before it: two sums from 0, the first adds each word, the second adds the
-- first sum, both modulo 65,535."
pub record Sums : Type 0 where
  pub first : ℕ
  pub second : ℕ

-- of two sums so far; a single byte is no word, and there is none at the end of an even number of bytes
abbrev pub sums_from : ℕ → ℕ → List ℕ → Sums
sums_from a b [] = record { first = a; second = b }
sums_from a b (x ∷ []) = record { first = a; second = b }
sums_from a b (x ∷ y ∷ s) =
    let c = (a + (x * 256 + y)) % 65535 in
    sums_from c ((b + c) % 65535) s

unfoldable pub sums_of : List ℕ → Sums
sums_of s = sums_from 0 0 s

-- "Second sum, then first."
abbrev pub check_of : List ℕ → List ℕ
check_of s =
    let c = sums_of s in
    big_endian 2 c.second ++ big_endian 2 c.first

-- writing

abbrev pub encode_all : List Instruction → List ℕ
encode_all [] = []
encode_all (i ∷ is) = encode i ++ encode_all is

abbrev pub sealed : List ℕ → List ℕ
sealed s = s ++ check_of s

-- the block of a number, with its instructions
abbrev pub block_of : ℕ → ℕ → ℕ → List Instruction → List ℕ
block_of total keys k code =
    sealed
    (big_endian 2 k ++ big_endian 2 (length code) ++ encode_all code ++ replicate (500 - instruction_size * length code) 0
    ++ big_endian 2 total ++ big_endian 2 keys)

abbrev pub blocks_needed : ℕ → ℕ
blocks_needed n = (n + (in_block - 1)) / in_block

-- n blocks, from number k on
abbrev pub blocks_from : ℕ → ℕ → ℕ → ℕ → List Instruction → List ℕ
blocks_from total keys k zero code = []
blocks_from total keys k (suc n) code =
    block_of total keys k (take in_block code) ++ blocks_from total keys (k + 1) n (drop in_block code)

unfoldable pub blocks_of : ℕ → List Instruction → List ℕ
unfolding sums_of
blocks_of keys code = blocks_from (length code) keys 0 (blocks_needed (length code)) code

-- reading

abbrev pub blocks_in : List ℕ → ℕ
blocks_in blocks = length blocks / block_size

abbrev pub count_at : List ℕ → ℕ → ℕ
count_at blocks k = number_at blocks (k * block_size + 2) 2

-- "the sum of the counts in all the blocks given", as they stand
abbrev pub counts_from : List ℕ → ℕ → ℕ → ℕ
counts_from blocks k zero = 0
counts_from blocks k (suc n) = count_at blocks k + counts_from blocks (k + 1) n

abbrev pub total_of : List ℕ → ℕ
total_of blocks = counts_from blocks 0 (blocks_in blocks)

-- "25 except in the last block (1 to 25)": of a block that so many later ones follow
abbrev pub count_ok : ℕ → ℕ → Bool
count_ok zero c = leb 1 c && leb c in_block
count_ok (suc later) c = eqb c in_block

abbrev pub block_ok : ℕ → List ℕ → ℕ → Bool
block_ok keys blocks k =
    let b = bytes_at blocks (k * block_size) block_size in
    let count = number_at b 2 2 in
    let later = blocks_in blocks - (k + 1) in
    eqb (number_at b 0 2) k
    && count_ok later count
    && all_zero (bytes_at b (4 + instruction_size * count) (500 - instruction_size * count))
    && eqb (number_at b 504 2) (total_of blocks)
    && eqb (number_at b 506 2) keys
    && same_bytes (bytes_at b 508 4) (check_of (take 508 b))

-- 17: "a block breaks its layout". Of block k
abbrev pub block_test : ℕ → List ℕ → ℕ → Answer (Unit {0})
block_test keys blocks k = require (block_ok keys blocks k) 17 in_blocks (k * block_size)

-- 16: "blocks: length 0, no multiple of 512, or over 82 blocks", 123 since 02 g; then 17
unfoldable pub layout : ℕ → List ℕ → Answer (Unit {0})
unfolding sums_of
layout keys blocks =
    require (ltb 0 (length blocks) && eqb (length blocks % block_size) 0 && leb (length blocks) (most_blocks * block_size)) 16 in_blocks
    (length blocks)
    >>= λ _. in_turn (block_test keys blocks) 0 (blocks_in blocks)
