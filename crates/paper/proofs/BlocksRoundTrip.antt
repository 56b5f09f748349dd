-- The blocks of a sequence read back: their layout is right, and they hold the sequence.
use Prim.Native.Nat.{ℕ, zero, suc, ◌+◌, ◌*◌, ◌-◌, ◌/◌, ◌%◌, ◌≤◌, ◌<◌, min}
use native.Mathlib.Nat.{sub-zero, div-add-mod, zero-add}
use native.Mathlib.Numerals.{add-one}
use native.Mathlib.Omega.{arith}
use mathlib.Core.Path.{◌≡◌, sym, ap, ◌∙◌}
use mathlib.Core.Bool.{true}
use mathlib.Core.Option.{some}
use mathlib.Core.List.{List, ◌∷◌, ◌++◌, map, append_assoc}
use lib.ListN.{length, get_or, take, drop, length-take, length-drop, drop_of_length-le}
use lib.Seq.{take_at, drop-drop, drop-cons, get_or-take, get_or-drop}
use borrow.Author.Tests.{eq-eqb, le-leb, lt-ltb}
use Rattle.paper.specs.Answers.{ok}
use Rattle.paper.specs.Numbers.{bytes_at}
use Rattle.paper.specs.Keys.{most_keys}
use Rattle.paper.specs.Code.{Instruction, push_priority, instruction_size, encode, parts_at, decode}
use Rattle.paper.specs.Blocks.{block_size, in_block, most_blocks, check_of, sealed, blocks_needed, blocks_from, blocks_of, count_at, counts_from, blocks_in, total_of, count_ok, block_test, layout}
use Rattle.paper.specs.Loading.{instruction_at, instructions_from}
use Rattle.paper.specs.BlocksRoundTrip.{Ranged, Written, BlocksBack}
use Rattle.paper.proofs.Digits.{number_back}
use Rattle.paper.proofs.InstructionsRoundTrip.{bytes_back, row_there}
use Rattle.paper.proofs.RangedCode.{ranged_at}
use Rattle.paper.proofs.OneBlock.{body, after_code, at_count, at_code, block_passes, taken, block_length, blocks_length, block_there}
use Rattle.paper.proofs.InTurn.{all_pass}

module _ (keys : ℕ) (code : List Instruction) (keys-few : keys ≤ most_keys) (nonempty : 1 ≤ length code) (few : length code ≤ most_blocks * in_block) where
  abbrev total : ℕ
  total = length code

  abbrev many : ℕ
  many = blocks_needed total

  abbrev blocks : List ℕ
  blocks = blocks_from total keys 0 many code

  -- the instructions of the block of a number
  abbrev part : ℕ → List Instruction
  part k = take in_block (drop (in_block * k) code)

  part_length : (k : ℕ) → length (part k) ≡ min in_block (total - in_block * k)
  part_length k = length-take in_block (drop (in_block * k) code) ∙ ap (min in_block) (length-drop (in_block * k) code)

  few_here : (k : ℕ) → length (part k) ≤ in_block
  few_here k = taken (drop (in_block * k) code)

  abbrev body_of : ℕ → List ℕ
  body_of k = body total keys k (part k) (few_here k)

  whole_length : length blocks ≡ block_size * many
  whole_length = blocks_length total keys many 0 code

  here : (k : ℕ) → k < many → (rest : List ℕ) × (drop (k * block_size) blocks ≡ sealed (body_of k) ++ rest)
  here k h =
      let r = block_there total keys many k 0 code h in
      let at : k * block_size ≡ block_size * k = omega arith in
      (r.0, rw (at, r.1, zero-add k))

  -- the block after its body
  rest_after : (k : ℕ) → k < many → (rest : List ℕ) × (drop (k * block_size) blocks ≡ body_of k ++ rest)
  rest_after k h =
      let r = here k h in
      (check_of (body_of k) ++ r.0, r.1 ∙ append_assoc (body_of k) (check_of (body_of k)) r.0)

  count_there : (k : ℕ) → k < many → count_at blocks k ≡ length (part k)
  count_there k h =
      let r = rest_after k h in
      number_back blocks _ (k * block_size + 2) 2 (length (part k)) (at_count total keys k (part k) (few_here k) blocks r.0 (k * block_size) r.1)
      (omega (arith, few_here k))

  counts : (n k : ℕ) → k + n ≡ many → counts_from blocks k n ≡ total - in_block * k
  counts zero k e = omega arith
  counts (suc n) k e = rw (count_there k (omega arith)) (omega (arith, counts n (k + 1) (omega arith), part_length k))

  as_many : length blocks / block_size ≡ many
  as_many = rw whole_length (omega arith)

  counted : total_of blocks ≡ total
  counted = rw as_many (counts many 0 (omega arith) ∙ sub-zero total)

  -- layout

  stands : (k : ℕ) → k < many → bytes_at blocks (k * block_size) block_size ≡ sealed (body_of k)
  stands k h =
      let r = here k h in
      ap (take block_size) r.1 ∙ take_at (sealed (body_of k)) r.0 block_size (block_length total keys k (part k) (few_here k))

  count_ok_lem : (n k : ℕ) → k + suc n ≡ many → count_ok n (length (part k)) ≡ true
  count_ok_lem zero k e =
      rw (le-leb 1 (length (part k)) (omega (arith, part_length k)), le-leb (length (part k)) in_block (few_here k))
  count_ok_lem (suc n) k e = eq-eqb (length (part k)) in_block (omega (arith, part_length k))

  each : (k : ℕ) → k < many → block_test keys blocks k ≡ ok tt
  each k h =
      let later : blocks_in blocks - (k + 1) ≡ many - (k + 1) = rw as_many in
      let fits : count_ok (blocks_in blocks - (k + 1)) (length (part k)) ≡ true = rw later (count_ok_lem (many - (k + 1)) k (omega arith)) in
      rw (block_passes total keys k (part k) (few_here k) blocks (stands k h) counted fits (omega arith) (omega arith) (omega arith))

  passes : layout keys blocks ≡ ok tt
  unfolding layout
  passes =
      let sized : length blocks ≤ most_blocks * block_size = omega (arith, whole_length) in
      let long : 0 < length blocks = omega (arith, whole_length) in
      let even : length blocks % block_size ≡ 0 = omega (arith, whole_length) in
      rw (lt-ltb 0 (length blocks) long, eq-eqb (length blocks % block_size) 0 even, le-leb (length blocks) (most_blocks * block_size) sized, as_many)
      (all_pass (block_test keys blocks) many each)

  -- the sequence

  module _ (ranged : Ranged code) where
    abbrev at : ℕ → Instruction
    at i = get_or code i push_priority

    -- so many are left after it
    instruction_back : (i left : ℕ) → i + 1 + left ≡ total → decode left (parts_at blocks (instruction_at i)) ≡ some (at i)
    instruction_back i left e =
        let k = i / in_block in
        let j = i % in_block in
        let r = rest_after k (omega arith) in
        let start = k * block_size + 4 in
        let row = row_there (part k) (after_code total keys k (part k) (few_here k) r.0) j (omega (arith, part_length k)) in
        let same : get_or (part k) j push_priority ≡ at i =
        get_or-take in_block (drop (in_block * k) code) j push_priority (omega arith) ∙ get_or-drop (in_block * k) code j push_priority
        ∙ ap at (div-add-mod i in_block)
        in
        let place : instruction_at i ≡ start + instruction_size * j = omega arith in
        bytes_back left (at i) (ranged_at code push_priority ranged i left e) blocks row.0 (instruction_at i)
        (ap (λ n. drop n blocks) place ∙ sym (drop-drop (instruction_size * j) start blocks)
        ∙ ap (drop (instruction_size * j)) (at_code total keys k (part k) (few_here k) blocks r.0 (k * block_size) r.1) ∙ row.1
        ∙ ap (λ x. encode x ++ row.0) same)

    sequence_back : (n i : ℕ) → i + n ≡ total → instructions_from blocks i n ≡ map some (drop i code)
    sequence_back zero i e =
        let past : total ≤ i = omega arith in
        rw (drop_of_length-le code past)
    sequence_back (suc n) i e =
        rw (drop-cons code i push_priority (omega arith), instruction_back i n (omega arith))
        (ap (λ s. some (at i) ∷ s) (sequence_back n (i + 1) (omega arith) ∙ ap (λ m. map some (drop m code)) (add-one i)))

    written : Written keys code blocks
    written = record { size = whole_length; passes = passes; total = counted; back = rw counted (sequence_back total 0 (omega arith)) }

pub blocks_back : BlocksBack
unfolding blocks_of
blocks_back keys code keys-few nonempty few ranged = written keys code keys-few nonempty few ranged
