-- Blocks in a row: how they grow over what was lent, and that those of instructions are the paper's.
use Prim.Native.Nat.{ℕ, zero, suc, ◌+◌, ◌*◌, ◌-◌, ◌/◌, ◌≤◌}
use native.Mathlib.Nat.{add-zero, zero-add}
use native.Mathlib.Numerals.{add-one}
use native.Mathlib.Omega.{arith}
use mathlib.Core.Path.{◌≡◌, refl, sym, ◌∙◌, ap, ap₂}
use mathlib.Core.List.{List, [], ◌∷◌, ◌++◌, append_assoc, append-nil}
use lib.ListN.{length, take, drop, replicate, length-append, length-replicate, length-take, length-drop}
use lib.Seq.{drop-nil, drop-drop, drop-append-add, take-nil, take_at, take-append-add, sets}
use Rattle.paper.specs.Numbers.{bytes_at, big_endian}
use Rattle.paper.specs.Code.{Instruction, encode}
use Rattle.paper.specs.Blocks.{encode_all, sealed, block_of, blocks_from, blocks_needed, blocks_of}
use Rattle.paper.proofs.InstructionsRoundTrip.{row_length}
use Rattle.blocks.specs.Written.{held, coded_block, block_at, in_row, coded_blocks}
use Rattle.blocks.proofs.Stores.{stored}

-- every block has its 512 bytes

coded_length : (total keys k : ℕ) (code : List ℕ) → length code ≤ 500 → length (coded_block total keys k code) ≡ 512
coded_length total keys k code few = simp (length-append, length-replicate) (omega arith)

pub block_length : (total keys : ℕ) (code : List ℕ) (k : ℕ) → length (block_at total keys code k) ≡ 512
block_length total keys code k =
    coded_length total keys k (bytes_at code (k * 500) 500) (omega (arith, length-take 500 (drop (k * 500) code)))

-- a row grows block by block

module _ (block : ℕ → List ℕ) where
  in_row_more : (n k : ℕ) → in_row block k (suc n) ≡ in_row block k n ++ block (k + n)
  in_row_more zero k = append-nil (block k) ∙ ap block (sym (add-zero k))
  in_row_more (suc n) k =
      let e : k + 1 + n ≡ k + suc n = omega arith in
      ap (λ (s : List ℕ). block k ++ s) (in_row_more n (k + 1)) ∙ sym (append_assoc (block k) (in_row block (k + 1) n) (block (k + 1 + n)))
      ∙ ap (λ (j : ℕ). block k ++ in_row block (k + 1) n ++ block j) e

  module _ (sizes : (k : ℕ) → length (block k) ≡ 512) where
    in_row_length : (n k : ℕ) → length (in_row block k n) ≡ n * 512
    in_row_length zero k = refl
    in_row_length (suc n) k = length-append (block k) (in_row block (k + 1) n) ∙ omega (arith, sizes k, in_row_length n (k + 1))

    module _ (old : List ℕ) where
      -- over the first k blocks, the next
      pub row_on : (k : ℕ) (buffer : List ℕ) → (k + 1) * 512 ≤ length old → buffer ≡ in_row block 0 k ++ drop (k * 512) old
          → sets buffer (k * 512) (block k) ≡ in_row block 0 (k + 1) ++ drop ((k + 1) * 512) old
      row_on k buffer room so_far =
          let done = in_row block 0 k in
          let rest = drop (k * 512) old in
          let size : length done ≡ k * 512 = in_row_length k 0 in
          let all : k * 512 + 512 ≤ length (done ++ rest) = omega (arith, length-append done rest, length-drop (k * 512) old) in
          let next : k * 512 + 512 ≡ (k + 1) * 512 = omega arith in
          let later : drop (k * 512 + 512) (done ++ rest) ≡ drop ((k + 1) * 512) old =
          ap (λ (n : ℕ). drop (n + 512) (done ++ rest)) (sym size) ∙ drop-append-add done rest 512 ∙ drop-drop 512 (k * 512) old
          ∙ ap (λ (n : ℕ). drop n old) next
          in
          ap (λ (b : List ℕ). sets b (k * 512) (block k)) so_far ∙ stored (done ++ rest) (k * 512) 512 (block k) (sizes k) all
          ∙ ap₂ (λ (a b : List ℕ). a ++ block k ++ b) (take_at done rest (k * 512) size) later
          ∙ ap (λ (a : List ℕ). a ++ drop ((k + 1) * 512) old)
          (ap (λ (j : ℕ). done ++ block j) (sym (zero-add k)) ∙ sym (in_row_more k 0) ∙ ap (in_row block 0) (sym (add-one k)))

-- instructions in a row, cut after 25

row_drop : (n : ℕ) (is : List Instruction) → drop (n * 20) (encode_all is) ≡ encode_all (drop n is)
row_drop zero is = refl
row_drop (suc n) [] = drop-nil (suc n * 20)
row_drop (suc n) (i ∷ is) =
    let e : suc n * 20 ≡ 20 + n * 20 = omega arith in
    ap (λ (m : ℕ). drop m (encode_all (i ∷ is))) e ∙ drop-append-add (encode i) (encode_all is) (n * 20) ∙ row_drop n is

row_take : (n : ℕ) (is : List Instruction) → take (n * 20) (encode_all is) ≡ encode_all (take n is)
row_take zero is = refl
row_take (suc n) [] = take-nil (suc n * 20)
row_take (suc n) (i ∷ is) =
    let e : suc n * 20 ≡ 20 + n * 20 = omega arith in
    ap (λ (m : ℕ). take m (encode_all (i ∷ is))) e ∙ take-append-add (encode i) (encode_all is) (n * 20)
    ∙ ap (λ (s : List ℕ). encode i ++ s) (row_take n is)

held_bytes : (k : ℕ) (is : List Instruction) → bytes_at (encode_all is) (k * 500) 500 ≡ encode_all (held k is)
held_bytes k is =
    let e : k * 500 ≡ k * 25 * 20 = omega arith in
    ap (λ (m : ℕ). take 500 (drop m (encode_all is))) e ∙ ap (take 500) (row_drop (k * 25) is) ∙ row_take 25 (drop (k * 25) is)

-- the paper's blocks

coded_same : (total keys k : ℕ) (is : List Instruction) → coded_block total keys k (encode_all is) ≡ block_of total keys k is
coded_same total keys k is =
    let code = encode_all is in
    let bytes : length code ≡ 20 * length is = row_length is in
    let count : length code / 20 ≡ length is = omega arith in
    let left : 500 - length code ≡ 500 - 20 * length is = omega arith in
    let head = big_endian 2 k ++ big_endian 2 (length is) in
    let body =
    ap₂ (λ (n m : ℕ). big_endian 2 k ++ big_endian 2 n ++ (code ++ replicate m 0)) count left
    ∙ sym (append_assoc head code (replicate (500 - 20 * length is) 0))
    in
    ap (λ (p : List ℕ). sealed (p ++ big_endian 2 total ++ big_endian 2 keys)) body

module _ (total keys : ℕ) (is : List Instruction) where
  block_same : (k : ℕ) → block_at total keys (encode_all is) k ≡ block_of total keys k (held k is)
  block_same k = ap (coded_block total keys k) (held_bytes k is) ∙ coded_same total keys k (held k is)

  rows_same : (n k : ℕ) → in_row (block_at total keys (encode_all is)) k n ≡ blocks_from total keys k n (drop (k * 25) is)
  rows_same zero k = refl
  rows_same (suc n) k =
      let next : (k + 1) * 25 ≡ k * 25 + 25 = omega arith in
      let rest : drop ((k + 1) * 25) is ≡ drop 25 (drop (k * 25) is) = ap (λ (m : ℕ). drop m is) next ∙ sym (drop-drop 25 (k * 25) is) in
      ap₂ (λ (a b : List ℕ). a ++ b) (block_same k) (rows_same n (k + 1) ∙ ap (blocks_from total keys (k + 1) n) rest)

-- of the bytes of instructions, the blocks written are the paper's
pub paper_blocks : (keys : ℕ) (code : List ℕ) (is : List Instruction) → code ≡ encode_all is → coded_blocks keys code ≡ blocks_of keys is
unfolding blocks_of
paper_blocks keys code is e =
    let count : length (encode_all is) / 20 ≡ length is = omega (arith, row_length is) in
    ap (coded_blocks keys) e ∙ ap (λ (n : ℕ). in_row (block_at n keys (encode_all is)) 0 (blocks_needed n)) count
    ∙ rows_same (length is) keys is (blocks_needed (length is)) 0
