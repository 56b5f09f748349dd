-- Refusals 16 and 17 by the table.
use Prim.Native.Nat.{ℕ, ◌*◌, ◌%◌, ◌≤◌, ◌<◌}
use native.Mathlib.Omega.{arith}
use mathlib.Core.Path.{◌≡◌, refl, sym, subst, ◌∙◌}
use mathlib.Core.Logic.{◌⊎◌, inl, inr}
use mathlib.Core.Bool.{Bool, true, false, ◌&&◌, and-eq-true_iff, true≢false}
use mathlib.Core.List.{List}
use lib.ListN.{length}
use lib.Dec.{eqb, ltb, leb}
use borrow.Author.Tests.{eqb-true, eqb-false, leb-true, leb-false, ltb-true, ltb-false}
use Rattle.paper.specs.Answers.{require, in_turn, in_blocks}
use Rattle.paper.specs.Blocks.{block_size, most_blocks, blocks_in, block_ok, block_test}
use Rattle.paper.specs.Faults.{BlocksSize, no_blocks, blocks_uneven, blocks_over, BlocksLayout, block_broken}
use Rattle.paper.specs.Table.{Free}
use Rattle.paper.proofs.Basics.{either_false}
use Rattle.paper.proofs.StagesInOrder.{Tells, test_tells}
use Rattle.paper.proofs.Earliest.{Indexed, test_tells_at, tests_tell}

-- the length

module _ (blocks : List ℕ) where
  abbrev some_there : Bool
  some_there = ltb 0 (length blocks)

  abbrev even : Bool
  even = eqb (length blocks % block_size) 0

  abbrev few : Bool
  few = leb (length blocks) (most_blocks * block_size)

  abbrev pub blocks_sized : Bool
  blocks_sized = some_there && even && few

  size_free : blocks_sized ≡ true → Free (BlocksSize blocks)
  size_free h =
      let (front, last) = (and-eq-true_iff (some_there && even) few).0 h in
      let (first, second) = (and-eq-true_iff some_there even).0 front in
      go (ltb-true 0 (length blocks) first) (eqb-true (length blocks % block_size) 0 second)
      (leb-true (length blocks) (most_blocks * block_size) last)
    where
      go : 0 < length blocks → length blocks % block_size ≡ 0 → length blocks ≤ most_blocks * block_size → Free (BlocksSize blocks)
      go a b c n at (no_blocks e) = omega (arith, e)
      go a b c n at (blocks_uneven d) = d b
      go a b c n at (blocks_over l) = omega arith

  size_fault : blocks_sized ≡ false → BlocksSize blocks 16 (length blocks)
  size_fault h = go (either_false (some_there && even) few h)
    where
      by : (some_there ≡ false) ⊎ (even ≡ false) → BlocksSize blocks 16 (length blocks)
      by (inl e) = no_blocks (omega (arith, ltb-false 0 (length blocks) e))
      by (inr e) = blocks_uneven (eqb-false (length blocks % block_size) 0 e)

      go : (some_there && even ≡ false) ⊎ (few ≡ false) → BlocksSize blocks 16 (length blocks)
      go (inl e) = by (either_false some_there even e)
      go (inr e) = blocks_over (leb-false (length blocks) (most_blocks * block_size) e)

  size_only : (m to : ℕ) → BlocksSize blocks m to → (m ≡ 16) × (to ≡ length blocks)
  size_only m to (no_blocks h) = (refl, refl)
  size_only m to (blocks_uneven h) = (refl, refl)
  size_only m to (blocks_over h) = (refl, refl)

  pub blocks_size_tells : Tells in_blocks (BlocksSize blocks) (require blocks_sized 16 in_blocks (length blocks))
  blocks_size_tells = test_tells (BlocksSize blocks) blocks_sized 16 in_blocks (length blocks) size_free size_fault size_only

-- the blocks

module _ (keys : ℕ) (blocks : List ℕ) where
  abbrev total : ℕ
  total = blocks_in blocks

  indexed : Indexed (BlocksLayout keys blocks) total (λ k. k * block_size)
  indexed = record { index = index; rises = λ j k l. omega arith }
    where
      index : (n at : ℕ) → BlocksLayout keys blocks n at → (k : ℕ) × (k < total) × (at ≡ k * block_size)
      index n at (block_broken k l h) = (k, l, refl)

  broken_at : (k n at : ℕ) → BlocksLayout keys blocks n at → at ≡ k * block_size → block_ok keys blocks k ≡ false
  broken_at k n at (block_broken j l h) e = let same : j ≡ k = omega arith in subst (λ x. block_ok keys blocks x ≡ false) same h

  only : (n at : ℕ) → BlocksLayout keys blocks n at → n ≡ 17
  only n at (block_broken k l h) = refl

  pub blocks_layout_tells : Tells in_blocks (BlocksLayout keys blocks) (in_turn (block_test keys blocks) 0 total)
  blocks_layout_tells =
      tests_tell in_blocks (BlocksLayout keys blocks) total (λ k. k * block_size) indexed (block_test keys blocks)
      (λ k l.
      test_tells_at in_blocks (BlocksLayout keys blocks) total (λ k. k * block_size) indexed k 17 (block_ok keys blocks k)
      (λ good n h. true≢false (sym good ∙ broken_at k n (k * block_size) h refl)) (block_broken k l) only)
