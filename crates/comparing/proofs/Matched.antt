-- What the tests on records tell. Records are compared one after the other; those of a part, as it is joined, with the end of the code; and without
-- its skip and its join, with all of it.
use Prim.Native.Nat.{ℕ, suc, ◌+◌, ◌-◌, ◌*◌, ◌≤◌, ◌<◌}
use native.Mathlib.Nat.{add-zero, zero-add, sub-zero}
use native.Mathlib.Omega.{arith}
use mathlib.Core.Path.{◌≡◌, sym, ap, ◌∙◌}
use mathlib.Core.Bool.{Bool, true, false, ◌&&◌}
use mathlib.Core.List.{List, [], ◌∷◌, ◌++◌, map-append, tail-eq_of_cons-eq}
use lib.ListN.{length, take, drop, length-map}
use lib.Seq.{take_at}
use borrow.Author.Tests.{le-leb, lt-leb}
use Rattle.paper.specs.Tokens.{same_bytes}
use Rattle.paper.specs.Meaning.{both}
use Rattle.paper.specs.Code.{Instruction, instruction_size, connects, encode}
use Rattle.paper.specs.Comparing.{records_from, written, same_records, as_joined}
use Rattle.translating.proofs.AsJoined.{joined_length}
use Rattle.comparing.specs.Scratch.{record_at, code_from, start_at, Stood}
use Rattle.comparing.specs.Picking.{is_free, ends_with, last_free}
use Rattle.comparing.proofs.Rows.{records_take, block_record, blocks_length, blocks_drop, other_length, swapped}

-- k of n records have been compared
module _ (blocks : List ℕ) (i : ℕ) (code : List ℕ) (j n : ℕ) where
  abbrev pub same_from : ℕ → Bool
  same_from k = same_records (records_from blocks (i + k) (n - k)) (code_from code (j + k) (n - k))

  pub none_compared : same_from 0 ≡ same_records (records_from blocks i n) (code_from code j n)
  none_compared = rw (add-zero i, add-zero j, sub-zero n)

  abbrev pub same_at : ℕ → Bool
  same_at k = same_bytes (block_record blocks (i + k)) (record_at code (j + k))

  one_compared : (k : ℕ) → k < n → same_from k ≡ (same_at k && same_from (k + 1))
  one_compared k h =
      let left : n - k ≡ suc (n - (k + 1)) = omega arith in
      let theirs : i + k + 1 ≡ i + (k + 1) = omega arith in
      let ours : j + k + 1 ≡ j + (k + 1) = omega arith in
      rw (left, theirs, ours)

  pub differs_here : (k : ℕ) → k < n → same_at k ≡ false → same_from k ≡ false
  differs_here k h e = one_compared k h ∙ rw e

  pub same_here : (k : ℕ) → k < n → same_at k ≡ true → same_from k ≡ same_from (k + 1)
  same_here k h e = one_compared k h ∙ rw e

  pub all_compared : (k : ℕ) → n ≤ k → same_from k ≡ true
  all_compared k h =
      let none : n - k ≡ 0 = omega arith in
      rw none

-- a part at the end of so much code

module _ (c : List Instruction) where
  written_length : length (written (as_joined c)) ≡ length (as_joined c)
  written_length = length-map (as_joined c) encode

  module _ (blocks : List ℕ) (left : ℕ) where
    pub too_short : left < length (as_joined c) → ends_with (written (as_joined c)) (records_from blocks 0 left) ≡ false
    too_short h =
        rw (lt-leb (length (written (as_joined c))) (length (records_from blocks 0 left)) (omega (arith, written_length, blocks_length blocks 0 left)))

    pub long_enough : length (as_joined c) ≤ left
        → ends_with (written (as_joined c)) (records_from blocks 0 left)
        ≡ same_records (records_from blocks (left - length (as_joined c)) (length (as_joined c))) (written (as_joined c))
    long_enough h =
        let size = length (as_joined c) in
        let s = records_from blocks 0 left in
        let before = left - size in
        let all : left ≡ before + size = omega arith in
        let n : length s - length (written (as_joined c)) ≡ before = omega (arith, written_length, blocks_length blocks 0 left) in
        let end : drop before s ≡ records_from blocks before size =
        ap (λ (m : ℕ). drop before (records_from blocks 0 m)) all ∙ blocks_drop blocks 0 before size ∙ ap (λ (m : ℕ). records_from blocks m size) (zero-add before) in
        rw (le-leb (length (written (as_joined c))) (length s) (omega (arith, written_length, blocks_length blocks 0 left)), n, end)

-- a part that stands between two numbers

module _ (code starts : List ℕ) (used : List Bool) (k : ℕ) (c : List Instruction) (stood : Stood code starts k c) (blocks : List ℕ) (left from to : ℕ)
    (first : from ≡ start_at starts k) (next : to ≡ start_at starts (k + 1))
  where
    size_is : to - from ≡ length (as_joined c)
    size_is = omega (arith, stood.next)

    pub in_scratch : (from + (to - from) ≡ to) × (instruction_size * to ≤ length code)
    in_scratch = (omega (arith, stood.next), omega (arith, stood.inside))

    pub not_free : is_free used k ≡ false → false ≡ last_free used k c (records_from blocks 0 left)
    not_free e = rw e

    module _ (free : is_free used k ≡ true) where
      pub is_short : left < to - from → false ≡ last_free used k c (records_from blocks 0 left)
      is_short h = rw free (sym (too_short c blocks left (omega (arith, size_is))))

      pub by_records : to - from ≤ left
          → same_records (records_from blocks (left - (to - from)) (to - from)) (code_from code from (to - from)) ≡ last_free used k c (records_from blocks 0 left)
      by_records h =
          rw (free, size_is, first)
          (ap (same_records (records_from blocks (left - length (as_joined c)) (length (as_joined c)))) stood.reads
          ∙ sym (long_enough c blocks left (omega (arith, size_is))))

-- a part alone, without its skip and its join

module _ (code starts : List ℕ) (k : ℕ) (c : List Instruction) (stood : Stood code starts k c) (blocks : List ℕ) (left from to : ℕ)
    (first : from ≡ start_at starts k) (next : to ≡ start_at starts (k + 1))
  where
    own_reads : code_from code (start_at starts k + 1) (length c) ≡ written c
    own_reads =
        let more : length (as_joined c) ≡ suc (length c + 1) = omega (arith, joined_length c) in
        let behind : code_from code (start_at starts k + 1) (length c + 1) ≡ written (c ++ (connects both ∷ [])) =
        tail-eq_of_cons-eq (ap (code_from code (start_at starts k)) (sym more) ∙ stood.reads) in
        sym (records_take (record_at code) (start_at starts k + 1) (length c) 1)
        ∙ ap (take (length c)) (behind ∙ map-append encode c (connects both ∷ []))
        ∙ take_at (written c) (written (connects both ∷ [])) (length c) (length-map c encode)

    own_size : to - 1 - (from + 1) ≡ length c
    own_size = omega (arith, stood.next, joined_length c)

    pub own_inside : (from + 2 ≤ to) × (instruction_size * to ≤ length code)
    own_inside = (omega (arith, stood.next, joined_length c), omega (arith, stood.inside))

    pub other_size : (left ≡ to - 1 - (from + 1) → ⊥) → false ≡ same_records (written c) (records_from blocks 0 left)
    other_size d =
        sym
        (other_length (written c) (records_from blocks 0 left)
        (λ e. d (omega (arith, e, length-map c encode, blocks_length blocks 0 left, own_size))))

    pub of_size : left ≡ to - 1 - (from + 1) → same_records (records_from blocks 0 left) (code_from code (from + 1) left) ≡ same_records (written c) (records_from blocks 0 left)
    of_size e =
        let n : left ≡ length c = e ∙ own_size in
        let reads : code_from code (from + 1) left ≡ written c = rw (first, n) own_reads in
        ap (same_records (records_from blocks 0 left)) reads ∙ swapped (records_from blocks 0 left) (written c)
