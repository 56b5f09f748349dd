-- A block as it is written has its fields where they are read, and passes; blocks in a row stand 512 bytes apart.
use Prim.Native.Nat.{ℕ, zero, suc, ◌+◌, ◌*◌, ◌-◌, ◌^◌, ◌≤◌, ◌<◌}
use native.Mathlib.Nat.{add-zero, not-suc-le-zero, le_of_suc-le-suc}
use native.Mathlib.Omega.{arith}
use mathlib.Core.Path.{◌≡◌, refl, sym, ap, ap₂, ◌∙◌}
use mathlib.Core.Bool.{true}
use mathlib.Core.List.{List, ◌++◌, append_assoc}
use lib.ListN.{length, take, drop, replicate, length-append, length-take, length-replicate}
use lib.Seq.{drop-append-add, take_at, drop-drop}
use borrow.Author.Tests.{eq-eqb}
use Rattle.paper.specs.Numbers.{bytes_at, number_at, big_endian}
use Rattle.paper.specs.Keys.{all_zero}
use Rattle.paper.specs.Code.{Instruction, instruction_size}
use Rattle.paper.specs.Blocks.{block_size, in_block, check_of, encode_all, sealed, block_of, blocks_from, blocks_in, total_of, count_ok, block_ok}
use Rattle.paper.proofs.Words.{bytes_same}
use Rattle.paper.proofs.Digits.{drop_on, number_back}
use Rattle.paper.proofs.InstructionsRoundTrip.{row_length}

zeros_zero : (n : ℕ) → all_zero (replicate n 0) ≡ true
zeros_zero zero = refl
zeros_zero (suc n) = zeros_zero n

-- a block whose fields are right passes
fields_pass : (keys : ℕ) (blocks : List ℕ) (k : ℕ) (b : List ℕ) (count : ℕ) (zeros body : List ℕ)
    → bytes_at blocks (k * block_size) block_size ≡ b → number_at b 0 2 ≡ k → number_at b 2 2 ≡ count
    → count_ok (blocks_in blocks - (k + 1)) count ≡ true
    → bytes_at b (4 + instruction_size * count) (500 - instruction_size * count) ≡ zeros → all_zero zeros ≡ true
    → number_at b 504 2 ≡ total_of blocks → number_at b 506 2 ≡ keys → take 508 b ≡ body → bytes_at b 508 4 ≡ check_of body
    → block_ok keys blocks k ≡ true
fields_pass keys blocks k b count zeros body there f0 f2 fits fz clear f504 f506 front f508 =
    rw (there, f0, eq-eqb k k refl, f2, fits, fz, clear, f504, eq-eqb (total_of blocks) (total_of blocks) refl, f506, eq-eqb keys keys refl, f508, front)
    (bytes_same (check_of body))

-- one block

module _ (total keys k : ℕ) (code : List Instruction) (few : length code ≤ in_block) where
  abbrev pub count : ℕ
  count = length code

  abbrev pub zeros : List ℕ
  zeros = replicate (500 - instruction_size * count) 0

  -- what the check runs over, and its parts from each field on
  abbrev pub body : List ℕ
  body =
      big_endian 2 k ++ big_endian 2 count ++ encode_all code ++ zeros ++ big_endian 2 total ++ big_endian 2 keys

  abbrev pub after_zeros : List ℕ → List ℕ
  after_zeros rest = big_endian 2 total ++ (big_endian 2 keys ++ rest)

  abbrev pub after_code : List ℕ → List ℕ
  after_code rest = zeros ++ after_zeros rest

  abbrev pub after_head : List ℕ → List ℕ
  after_head rest = encode_all code ++ after_code rest

  laid_out : (rest : List ℕ) → body ++ rest ≡ big_endian 2 k ++ (big_endian 2 count ++ after_head rest)
  laid_out rest = simp append_assoc

  zeros_length : length zeros ≡ 500 - instruction_size * count
  zeros_length = length-replicate (500 - instruction_size * count) 0

  module _ (s rest : List ℕ) (base : ℕ) (there : drop base s ≡ body ++ rest) where
    pub at_count : drop (base + 2) s ≡ big_endian 2 count ++ after_head rest
    at_count = drop_on s (big_endian 2 k) _ base (base + 2) (there ∙ laid_out rest) refl

    pub at_code : drop (base + 4) s ≡ after_head rest
    at_code = drop_on s (big_endian 2 count) _ (base + 2) (base + 4) at_count (omega arith)

    at_zeros : drop (base + 4 + instruction_size * count) s ≡ after_code rest
    at_zeros = drop_on s (encode_all code) _ (base + 4) (base + 4 + instruction_size * count) at_code (rw row_length)

    at_total : drop (base + 504) s ≡ after_zeros rest
    at_total = drop_on s zeros _ (base + 4 + instruction_size * count) (base + 504) at_zeros (omega (arith, zeros_length))

    at_keys : drop (base + 506) s ≡ big_endian 2 keys ++ rest
    at_keys = drop_on s (big_endian 2 total) _ (base + 504) (base + 506) at_total (omega arith)

    at_check : drop (base + 508) s ≡ rest
    at_check = drop_on s (big_endian 2 keys) rest (base + 506) (base + 508) at_keys (omega arith)

  body_length : length body ≡ 508
  body_length = simp length-append (omega (arith, row_length code, zeros_length))

  module _ (blocks : List ℕ) (there : bytes_at blocks (k * block_size) block_size ≡ sealed body) (counted : total_of blocks ≡ total)
      (fits : count_ok (blocks_in blocks - (k + 1)) count ≡ true) (k-small : k < 2 ^ 16) (total-small : total < 2 ^ 16) (keys-small : keys < 2 ^ 16) where
    pub block_passes : block_ok keys blocks k ≡ true
    block_passes =
        let b = sealed body in
        let check = check_of body in
        fields_pass keys blocks k b count zeros body there (number_back b _ 0 2 k (laid_out check) k-small)
        (number_back b _ 2 2 count (at_count b check 0 refl) (omega arith)) fits
        (ap (take (500 - instruction_size * count)) (at_zeros b check 0 refl) ∙ take_at zeros _ _ zeros_length)
        (zeros_zero (500 - instruction_size * count)) (number_back b _ 504 2 total (at_total b check 0 refl) total-small ∙ sym counted)
        (number_back b _ 506 2 keys (at_keys b check 0 refl) keys-small) (take_at body check 508 body_length)
        (ap (take 4) (at_check b check 0 refl))

-- blocks in a row

pub taken : (code : List Instruction) → length (take in_block code) ≤ in_block
taken code = rw length-take (omega arith)

module _ (total keys : ℕ) where
  pub block_length : (k : ℕ) (code : List Instruction) → length code ≤ in_block → length (block_of total keys k code) ≡ block_size
  block_length k code few =
      let whole = body total keys k code few in
      length-append whole (check_of whole) ∙ ap (λ n. n + 4) (body_length total keys k code few)

  pub blocks_length : (n k : ℕ) (code : List Instruction) → length (blocks_from total keys k n code) ≡ block_size * n
  blocks_length zero k code = refl
  blocks_length (suc n) k code =
      rw length-append (omega (arith, block_length k (take in_block code) (taken code), blocks_length n (k + 1) (drop in_block code)))

  -- the block of an index
  pub block_there : (n j k : ℕ) (code : List Instruction) → j < n
      → (rest : List ℕ)
      × (drop (block_size * j) (blocks_from total keys k n code) ≡ block_of total keys (k + j) (take in_block (drop (in_block * j) code)) ++ rest)
  block_there zero j k code h = absurd (not-suc-le-zero h)
  block_there (suc n) zero k code h = (blocks_from total keys (k + 1) n (drop in_block code), rw add-zero)
  block_there (suc n) (suc j) k code h =
      let r = block_there n j (k + 1) (drop in_block code) (le_of_suc-le-suc h) in
      let first = block_of total keys k (take in_block code) in
      let e : block_size * suc j ≡ length first + block_size * j = omega (arith, block_length k (take in_block code) (taken code)) in
      let index : k + 1 + j ≡ k + suc j = omega arith in
      let size : in_block + in_block * j ≡ in_block * suc j = omega arith in
      let part : drop (in_block * j) (drop in_block code) ≡ drop (in_block * suc j) code =
      drop-drop (in_block * j) in_block code ∙ ap (λ n. drop n code) size
      in
      let more = blocks_from total keys (k + 1) n (drop in_block code) in (
        r.0,
        ap (λ n. drop n (first ++ more)) e ∙ drop-append-add first more (block_size * j) ∙ r.1
            ∙ ap₂ (λ i c. block_of total keys i (take in_block c) ++ r.0) index part,
      )
