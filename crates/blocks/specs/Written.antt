-- What is written for any bytes of code: "25 except in the last block", "4 to 503 instructions, then zeros". Where the code is that of
-- instructions, these are the paper's blocks (proofs/Rows, `paper_blocks`).
use Rattle.std.specs.Prelude.{ℕ, zero, suc, ◌+◌, ◌*◌, ◌-◌, ◌/◌, List, [], ◌++◌, length, take, drop, replicate}
use Rattle.paper.specs.Numbers.{bytes_at, big_endian}
use Rattle.paper.specs.Code.{Instruction}
use Rattle.paper.specs.Blocks.{in_block, sealed, blocks_needed}

-- the instructions of block k
abbrev pub held : ℕ → List Instruction → List Instruction
held k is = take in_block (drop (k * in_block) is)

-- the bytes of a block's instructions, up to the tail
abbrev pub padded : List ℕ → List ℕ
padded code = code ++ replicate (500 - length code) 0

-- block k with these bytes for its instructions
abbrev pub coded_block : ℕ → ℕ → ℕ → List ℕ → List ℕ
coded_block total keys k code =
    sealed (big_endian 2 k ++ big_endian 2 (length code / 20) ++ padded code ++ big_endian 2 total ++ big_endian 2 keys)

-- block k of all the code
abbrev pub block_at : ℕ → ℕ → List ℕ → ℕ → List ℕ
block_at total keys code k = coded_block total keys k (bytes_at code (k * 500) 500)

-- n blocks one after another, from number k on
abbrev pub in_row : (ℕ → List ℕ) → ℕ → ℕ → List ℕ
in_row block k zero = []
in_row block k (suc n) = block k ++ in_row block (k + 1) n

-- the blocks of all the code: as many as its whole instructions need
abbrev pub coded_blocks : ℕ → List ℕ → List ℕ
coded_blocks keys code = in_row (block_at (length code / 20) keys code) 0 (blocks_needed (length code / 20))
