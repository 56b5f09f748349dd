-- The stores that fill a block, one after another, leave the block of the code.
use Prim.Native.Nat.{ℕ, ◌/◌, ◌≤◌}
use native.Mathlib.Omega.{arith}
use mathlib.Core.Path.{◌≡◌, refl, ◌∙◌, ap}
use mathlib.Core.List.{List, ◌++◌}
use lib.ListN.{length, take}
use lib.Seq.{sets, length-sets}
use Rattle.paper.specs.Numbers.{big_endian}
use Rattle.paper.specs.Blocks.{sealed}
use Rattle.blocks.specs.Written.{padded, coded_block}
use Rattle.blocks.proofs.Stores.{padded_length, stored_after}

module _ (b code : List ℕ) (k total keys : ℕ) (size : length b ≡ 512) (few : length code ≤ 500) where
  abbrev count : ℕ
  count = length code / 20

  abbrev numbered : List ℕ
  numbered = sets b 0 (big_endian 2 k)

  abbrev counted : List ℕ
  counted = sets numbered 2 (big_endian 2 count)

  abbrev coded : List ℕ
  coded = sets counted 4 (padded code)

  abbrev totalled : List ℕ
  totalled = sets coded 504 (big_endian 2 total)

  abbrev filled : List ℕ
  filled = sets totalled 506 (big_endian 2 keys)

  numbered_size : length numbered ≡ 512
  numbered_size = length-sets b 0 (big_endian 2 k) ∙ size

  counted_size : length counted ≡ 512
  counted_size = length-sets numbered 2 (big_endian 2 count) ∙ numbered_size

  coded_size : length coded ≡ 512
  coded_size = length-sets counted 4 (padded code) ∙ counted_size

  totalled_size : length totalled ≡ 512
  totalled_size = length-sets coded 504 (big_endian 2 total) ∙ coded_size

  filled_front : take 508 filled ≡ big_endian 2 k ++ big_endian 2 count ++ padded code ++ big_endian 2 total ++ big_endian 2 keys
  filled_front =
      stored_after totalled 506 2 (big_endian 2 keys) refl (omega (arith, totalled_size)) _
      (stored_after coded 504 2 (big_endian 2 total) refl (omega (arith, coded_size)) _
      (stored_after counted 4 500 (padded code) (padded_length code few) (omega (arith, counted_size)) _
      (stored_after numbered 2 2 (big_endian 2 count) refl (omega (arith, numbered_size)) _
      (stored_after b 0 2 (big_endian 2 k) refl (omega arith) _ refl))))

  pub filled_sealed : sealed (take 508 filled) ≡ coded_block total keys k code
  filled_sealed = ap sealed filled_front
