-- A block's check and counts, and the way past refusal 16.
use Prim.Native.Nat.{ℕ, suc, ◌+◌, ◌*◌, ◌-◌, ◌/◌, ◌%◌, ◌≤◌, ◌<◌}
use native.Mathlib.Nat.{div-one}
use native.Mathlib.Omega.{arith}
use mathlib.Core.Path.{◌≡◌, refl, sym, ◌∙◌, ap, ap₂}
use mathlib.Core.Bool.{Bool, true, false, cond, ◌&&◌}
use mathlib.Core.List.{List, [], ◌∷◌, ◌++◌, append-nil}
use borrow.Rule.Slice.PartMut.{put_mid}
use lib.ListN.{length, take, drop, length-drop, drop_of_length-le}
use lib.Pointwise.{pointwise}
use lib.Dec.{eqb}
use borrow.Author.Tests.{eq-eqb, ne_eqb, lt-ltb, le-ltb, le-leb, lt-leb}
use Rattle.paper.specs.Answers.{Answer, ok, refused, ◌>>=◌, in_turn, in_blocks}
use Rattle.paper.specs.Numbers.{bytes_at}
use Rattle.paper.specs.Tokens.{same_bytes}
use Rattle.paper.specs.Blocks as P
use Rattle.paper.specs.Blocks.{block_size, most_blocks, sums_of, check_of, sealed, count_ok, count_at, counts_from, blocks_in, total_of, block_ok, block_test, layout}
use Rattle.paper.specs.Keys.{all_zero}
use Rattle.blocks.specs.declared.fields.Block.{Block}
use Rattle.blocks.specs.Fields.{BlockOf}
use Rattle.blocks.specs.Layout.{laid_out, block_right}
use Rattle.blocks.specs.declared.sums.Sums.{Sums}
use Rattle.blocks.specs.Sealed.{sums_meant, check_spelled}

-- the four bytes of the check, as they must be
pub check_due : (b : List ℕ) →
    check_of b
    ≡ ((sums_of b).second / 256 % 256) ∷ ((sums_of b).second % 256) ∷ ((sums_of b).first / 256 % 256) ∷ ((sums_of b).first % 256) ∷ []
check_due b = rw (div-one (sums_of b).second, div-one (sums_of b).first)

module _ (blocks : List ℕ) (k n : ℕ) where
  pub counts_on : k < n → counts_from blocks k (n - k) ≡ count_at blocks k + counts_from blocks (k + 1) (n - (k + 1))
  counts_on h = let e : n - k ≡ suc (n - (k + 1)) = omega arith in rw e

-- two lists of bytes are compared byte by byte
both_and : (p q r : Bool) → q ≡ r → (p && q) ≡ cond p r false
both_and true q r e = e
both_and false q r e = refl

pub bytes_compared : (a b : List ℕ) → pointwise eqb a b ≡ same_bytes a b
bytes_compared [] [] = refl
bytes_compared [] (y ∷ b) = refl
bytes_compared (x ∷ a) [] = refl
bytes_compared (x ∷ a) (y ∷ b) = both_and (eqb x y) (pointwise eqb a b) (same_bytes a b) (bytes_compared a b)

-- the check of a block, as it is spelled
module _ (b check : List ℕ) (s : Sums) (size : length b ≡ 512) (sums : sums_meant s ≡ sums_of (take 508 b)) (spelled : check ≡ check_spelled s) where
  due : check ≡ check_of (take 508 b)
  due = spelled ∙ ap (λ (p : P.Sums). (p.second / 256 % 256) ∷ (p.second % 256) ∷ (p.first / 256 % 256) ∷ (p.first % 256) ∷ []) sums ∙ sym (check_due (take 508 b))

  pub check_compared : pointwise eqb (take (length b - 508) (drop 508 b)) check ≡ same_bytes (bytes_at b 508 4) (check_of (take 508 b))
  check_compared =
      let n : length b - 508 ≡ 4 = omega arith in
      bytes_compared (take (length b - 508) (drop 508 b)) check ∙ ap₂ (λ (n : ℕ) (c : List ℕ). same_bytes (take n (drop 508 b)) c) n due

  pub check_stored : put_mid 508 (length b - 508) b check ≡ sealed (take 508 b)
  check_stored =
      let n : length (drop 508 b) ≤ length b - 508 = omega (arith, length-drop 508 b) in
      ap (λ (r : List ℕ). take 508 b ++ (check ++ r)) (drop_of_length-le (drop 508 b) n)
      ∙ ap (λ (c : List ℕ). take 508 b ++ c) (append-nil check ∙ due)

-- the tests on a block, in the order of the code
in_order : (n c z t y h : Bool) → (n && c && z && t && y && h) ≡ ((n && t && y) && (c && z) && h)
in_order true true true true true h = refl
in_order true true true true false h = refl
in_order true true true false y h = refl
in_order true true false true true h = refl
in_order true true false true false h = refl
in_order true true false false y h = refl
in_order true false z true true h = refl
in_order true false z true false h = refl
in_order true false z false y h = refl
in_order false c z t y h = refl

-- a block by the numbers that were read from it
pub right_by : (keys total k later : ℕ) (b : List ℕ) (r : Block) → BlockOf b r →
    block_right keys total k later b
    ≡ ((eqb r.number k && eqb r.total total && eqb r.keys keys)
    && (count_ok later r.count && all_zero (bytes_at b (4 + 20 * r.count) (500 - 20 * r.count)))
    && same_bytes (bytes_at b 508 4) (check_of (take 508 b)))
right_by keys total k later b r says =
    let zeros = all_zero (bytes_at b (4 + 20 * r.count) (500 - 20 * r.count)) in
    let check = same_bytes (bytes_at b 508 4) (check_of (take 508 b)) in
    rw (← says.number, ← says.count, ← says.total, ← says.keys)
    (in_order (eqb r.number k) (count_ok later r.count) zeros (eqb r.total total) (eqb r.keys keys) check)

-- refusal 16, and the way past it
module _ (keys : ℕ) (blocks : List ℕ) where
  pub laid_empty : length blocks ≡ 0 → laid_out keys blocks ≡ refused 16 in_blocks (length blocks)
  unfolding layout
  laid_empty e = rw (le-ltb 0 (length blocks) (omega arith))

  pub laid_broken : (length blocks % 512 ≡ 0 → ⊥) → 0 < length blocks → laid_out keys blocks ≡ refused 16 in_blocks (length blocks)
  unfolding layout
  laid_broken e h = rw (lt-ltb 0 (length blocks) h, ne_eqb (length blocks % 512) 0 e)

  pub laid_long : most_blocks * block_size < length blocks → length blocks % 512 ≡ 0 → laid_out keys blocks ≡ refused 16 in_blocks (length blocks)
  unfolding layout
  laid_long h e =
      let p : 0 < length blocks = omega arith in
      rw (lt-ltb 0 (length blocks) p, eq-eqb (length blocks % 512) 0 e, lt-leb (length blocks) (most_blocks * block_size) h)

  -- what the tests from some block on say is the answer
  pub laid_from : 0 < length blocks → length blocks % 512 ≡ 0 → length blocks ≤ most_blocks * block_size → (left : ℕ) {a : Answer (Unit {0})} →
      let n = blocks_in blocks in
      in_turn (block_test keys blocks) left (n - left) ≡ in_turn (block_test keys blocks) 0 n → in_turn (block_test keys blocks) left (n - left) ≡ a →
      laid_out keys blocks ≡ (a >>= λ _. ok (total_of blocks))
  unfolding layout
  laid_from p e h left passed says =
      rw (lt-ltb 0 (length blocks) p, eq-eqb (length blocks % 512) 0 e, le-leb (length blocks) (most_blocks * block_size) h)
      (ap (λ (a : Answer (Unit {0})). a >>= λ _. ok (total_of blocks)) (sym passed ∙ says))

  -- a block of the blocks is right as the block by itself is
  pub block_there : (k total from : ℕ) → total ≡ total_of blocks → from ≡ k * 512 →
      block_ok keys blocks k ≡ block_right keys total k (blocks_in blocks - (k + 1)) (take (from + 512 - from) (drop from blocks))
  block_there k total from e f =
      let s : from + 512 - from ≡ 512 = omega arith in
      rw (s, e, f)
