-- What damage to loaded blocks is seen: a cut at a block's end, and a byte that is not the one that was written.
-- Not seen, where all else stays as it was: a word of the 254 that turns from 0000 to FFFF or back, since the sums are taken modulo
-- 65,535; and changes of several words that leave both sums, such as 1 more, 2 less and 1 more in three words in a row.
use Rattle.std.specs.Prelude.{ℕ, ◌*◌, ◌^◌, ◌≤◌, ◌<◌, ◌≢◌, ◌≡◌, List, length, take, set}
use Rattle.std.specs.Int.Bits.{bit_xor}
use Rattle.paper.specs.Answers.{ok, refused, in_blocks}
use Rattle.paper.specs.Numbers.{byte_at}
use Rattle.paper.specs.Blocks.{block_size}
use Rattle.paper.specs.Calls.{load_answer}

-- "Blocks cut at a block's end that still load because the shorter program also ends in a bool: the total count forbids it."
-- (Cut to nothing, they are refused with 16.)
abbrev pub CutRefused : Type 0
CutRefused =
    (list blocks : List ℕ) (n : ℕ) → load_answer list blocks ≡ ok n → (m : ℕ) → 1 ≤ m → m * block_size < length blocks
    → load_answer list (take (m * block_size) blocks) ≡ refused 17 in_blocks 0

-- a refusal at a block's first byte, the changed byte's or an earlier one
pub record Seen (list blocks : List ℕ) (i : ℕ) : Type 0 where
  pub block : ℕ
  pub refuses : load_answer list blocks ≡ refused 17 in_blocks (block * block_size)
  pub before : block * block_size ≤ i

-- one byte turned into another
abbrev pub ByteSeen : Type 0
ByteSeen =
    (list blocks : List ℕ) (n : ℕ) → load_answer list blocks ≡ ok n → (i v : ℕ) → i < length blocks → byte_at blocks i < 256 → v < 256
    → v ≢ byte_at blocks i → Seen list (set blocks i v) i

-- so one bit
abbrev pub BitSeen : Type 0
BitSeen =
    (list blocks : List ℕ) (n : ℕ) → load_answer list blocks ≡ ok n → (i b : ℕ) → i < length blocks → byte_at blocks i < 256 → b < 8
    → Seen list (set blocks i (bit_xor (byte_at blocks i) (2 ^ b))) i
