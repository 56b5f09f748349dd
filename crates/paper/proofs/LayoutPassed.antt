-- What is known of blocks whose layout passes, and of those where a block does not.
use Prim.Native.Nat.{ℕ, zero, suc, ◌+◌, ◌*◌, ◌-◌, ◌%◌, ◌≤◌, ◌<◌}
use native.Mathlib.Nat.{add_assoc}
use native.Mathlib.Omega.{arith}
use mathlib.Core.Logic.{◌≢◌}
use mathlib.Core.Path.{◌≡◌, refl, sym, ap, ◌∙◌}
use mathlib.Core.Bool.{Bool, true, false, ◌&&◌, and-eq-true_iff, true≢false}
use mathlib.Core.List.{List}
use lib.ListN.{length, take, drop}
use lib.Seq.{get_or-take, get_or-drop}
use lib.Dec.{eqb, ltb, leb}
use borrow.Author.Tests.{eqb-true, leb-true, ltb-true, eq-eqb, le-leb, lt-ltb}
use Rattle.paper.specs.Answers.{Answer, ok, refused, ◌>>=◌, require, in_turn, in_blocks}
use Rattle.paper.specs.Numbers.{byte_at, bytes_at, number_at}
use Rattle.paper.specs.Tokens.{same_bytes}
use Rattle.paper.specs.Keys.{all_zero, keys}
use Rattle.paper.specs.Code.{instruction_size}
use Rattle.paper.specs.Blocks.{block_size, in_block, most_blocks, check_of, count_at, counts_from, blocks_in, total_of, count_ok, block_ok, block_test, layout}
use Rattle.paper.proofs.Basics.{and_false}
use Rattle.paper.proofs.Stages.{bind_ok, require_ok}
use Rattle.paper.proofs.InTurn.{each_passes}
use Rattle.paper.proofs.Digits.{number_same}

-- a block that passes

abbrev pub block_at : List ℕ → ℕ → List ℕ
block_at blocks k = bytes_at blocks (k * block_size) block_size

abbrev pub check_right : List ℕ → Bool
check_right b = same_bytes (bytes_at b 508 4) (check_of (take 508 b))

pub record Fields (blocks : List ℕ) (k : ℕ) : Type 0 where
  pub count : count_ok (blocks_in blocks - (k + 1)) (number_at (block_at blocks k) 2 2) ≡ true
  pub total : number_at (block_at blocks k) 504 2 ≡ total_of blocks
  pub check : check_right (block_at blocks k) ≡ true

pub fields : (keys : ℕ) (blocks : List ℕ) (k : ℕ) → block_ok keys blocks k ≡ true → Fields blocks k
fields keys blocks k h =
    let b = block_at blocks k in
    let count = number_at b 2 2 in
    let a1 = eqb (number_at b 0 2) k in
    let a2 = count_ok (blocks_in blocks - (k + 1)) count in
    let a3 = all_zero (bytes_at b (4 + instruction_size * count) (500 - instruction_size * count)) in
    let a4 = eqb (number_at b 504 2) (total_of blocks) in
    let a5 = eqb (number_at b 506 2) keys in
    let r = (and-eq-true_iff (a1 && a2 && a3 && a4 && a5) (check_right b)).0 h in
    let r4 = (and-eq-true_iff (a1 && a2 && a3) a4).0 ((and-eq-true_iff (a1 && a2 && a3 && a4) a5).0 r.0).0 in
    record {
      count = ((and-eq-true_iff a1 a2).0 ((and-eq-true_iff (a1 && a2) a3).0 r4.0).0).1;
      total = eqb-true (number_at b 504 2) (total_of blocks) r4.1;
      check = r.1;
    }

-- the count of a block is read alike from it and from all of them
count_here : (blocks : List ℕ) (k : ℕ) → number_at (block_at blocks k) 2 2 ≡ count_at blocks k
count_here blocks k =
    number_same (block_at blocks k) blocks 2 (k * block_size + 2) 2
    (λ i l.
    get_or-take block_size (drop (k * block_size) blocks) (2 + i) 0 (omega arith) ∙ get_or-drop (k * block_size) blocks (2 + i) 0
    ∙ ap (byte_at blocks) (sym (add_assoc (k * block_size) 2 i)))

some_counted : (later c : ℕ) → count_ok later c ≡ true → 1 ≤ c
some_counted zero c h = leb-true 1 c ((and-eq-true_iff (leb 1 c) (leb c in_block)).0 h).0
some_counted (suc later) c h = omega (arith, eqb-true c in_block h)

pub few_counted : (later c : ℕ) → count_ok later c ≡ true → c ≤ in_block
few_counted zero c h = leb-true c in_block ((and-eq-true_iff (leb 1 c) (leb c in_block)).0 h).1
few_counted (suc later) c h = omega (arith, eqb-true c in_block h)

counted_here : (keys : ℕ) (blocks : List ℕ) (k : ℕ) → block_ok keys blocks k ≡ true → (1 ≤ count_at blocks k) × (count_at blocks k ≤ in_block)
counted_here keys blocks k h =
    let later = blocks_in blocks - (k + 1) in
    let c = number_at (block_at blocks k) 2 2 in
    let good = (fields keys blocks k h).count in
    (omega (arith, count_here blocks k, some_counted later c good), omega (arith, count_here blocks k, few_counted later c good))

-- blocks that all pass

module _ (keys : ℕ) (blocks : List ℕ) where
  abbrev pub EachPasses : Type 0
  EachPasses = (k : ℕ) → k < blocks_in blocks → block_ok keys blocks k ≡ true

  pub each_block : in_turn (block_test keys blocks) 0 (blocks_in blocks) ≡ ok tt → EachPasses
  each_block h k l =
      require_ok (block_ok keys blocks k) 17 in_blocks (k * block_size) tt (each_passes (block_test keys blocks) (blocks_in blocks) h k l)

  module _ (each : EachPasses) where
    -- fewer blocks count fewer instructions
    fewer_from : (n m k : ℕ) → k + n ≤ blocks_in blocks → m < n → counts_from blocks k m < counts_from blocks k n
    fewer_from zero m k in_all l = absurd (omega arith)
    fewer_from (suc n) zero k in_all l = omega (arith, (counted_here keys blocks k (each k (omega arith))).0)
    fewer_from (suc n) (suc m) k in_all l = omega (arith, fewer_from n m (k + 1) (omega arith) (omega arith))

    pub fewer : (m : ℕ) → m < blocks_in blocks → counts_from blocks 0 m < total_of blocks
    fewer m l = fewer_from (blocks_in blocks) m 0 (omega arith) l

    -- at most 25 in a block
    within_from : (n k : ℕ) → k + n ≤ blocks_in blocks → counts_from blocks k n ≤ in_block * n
    within_from zero k in_all = omega arith
    within_from (suc n) k in_all =
        omega (arith, (counted_here keys blocks k (each k (omega arith))).1, within_from n (k + 1) (omega arith))

    pub counts_within : total_of blocks ≤ in_block * blocks_in blocks
    counts_within = within_from (blocks_in blocks) 0 (omega arith)

-- where a block fails, it or an earlier one is refused
pub record RefusedBy (x : Answer (Unit {0})) (k : ℕ) : Type 0 where
  pub block : ℕ
  pub refuses : x ≡ refused 17 in_blocks (block * block_size)
  pub upto : block ≤ k

pub first_refused : (keys : ℕ) (blocks : List ℕ) (k : ℕ) → block_ok keys blocks k ≡ false → (n a : ℕ) → a ≤ k → k < a + n
    → RefusedBy (in_turn (block_test keys blocks) a n) k
first_refused keys blocks k fails zero a l m = absurd (omega arith)
first_refused keys blocks k fails (suc n) a l m = go (block_ok keys blocks a) refl (first_refused keys blocks k fails n (suc a))
  where
    go : (b : Bool) → block_ok keys blocks a ≡ b → (suc a ≤ k → k < suc a + n → RefusedBy (in_turn (block_test keys blocks) (suc a) n) k)
        → RefusedBy (require b 17 in_blocks (a * block_size) >>= λ _. in_turn (block_test keys blocks) (suc a) n) k
    go false e later = record { block = a; refuses = refl; upto = l }
    go true e later =
        let before : a ≢ k = λ h. true≢false (sym e ∙ ap (block_ok keys blocks) h ∙ fails) in
        later (omega arith) (omega arith)

-- a block that does not pass

pub total_wrong : (keys : ℕ) (blocks : List ℕ) (k : ℕ) → eqb (number_at (block_at blocks k) 504 2) (total_of blocks) ≡ false
    → block_ok keys blocks k ≡ false
total_wrong keys blocks k e = simp (e, and_false)

pub check_wrong : (keys : ℕ) (blocks : List ℕ) (k : ℕ) → check_right (block_at blocks k) ≡ false → block_ok keys blocks k ≡ false
check_wrong keys blocks k e = simp (e, and_false)

-- the layout as a whole

pub record Laid (keys : ℕ) (blocks : List ℕ) : Type 0 where
  pub long : 0 < length blocks
  pub even : length blocks % block_size ≡ 0
  pub most : length blocks ≤ most_blocks * block_size
  pub each : EachPasses keys blocks

pub laid : (keys : ℕ) (blocks : List ℕ) → layout keys blocks ≡ ok tt → Laid keys blocks
unfolding layout
laid keys blocks h =
    let size = length blocks in
    let a1 = ltb 0 size in
    let a2 = eqb (size % block_size) 0 in
    let a3 = leb size (most_blocks * block_size) in
    let b = bind_ok (require (a1 && a2 && a3) 16 in_blocks size) (λ _. in_turn (block_test keys blocks) 0 (blocks_in blocks)) tt h in
    let r = (and-eq-true_iff (a1 && a2) a3).0 (require_ok (a1 && a2 && a3) 16 in_blocks size b.0 b.1) in
    let q = (and-eq-true_iff a1 a2).0 r.0 in
    record {
      long = ltb-true 0 size q.0;
      even = eqb-true (size % block_size) 0 q.1;
      most = leb-true size (most_blocks * block_size) r.1;
      each = each_block keys blocks b.2;
    }

-- of a length that passes, the layout is that of its blocks
pub by_blocks : (keys : ℕ) (blocks : List ℕ) → 0 < length blocks → length blocks % block_size ≡ 0 → length blocks ≤ most_blocks * block_size
    → layout keys blocks ≡ in_turn (block_test keys blocks) 0 (blocks_in blocks)
unfolding layout
by_blocks keys blocks long even most =
    rw (lt-ltb 0 (length blocks) long, eq-eqb (length blocks % block_size) 0 even, le-leb (length blocks) (most_blocks * block_size) most)

-- the first block has an instruction
pub first_counted : (keys : ℕ) (blocks : List ℕ) → Laid keys blocks → 1 ≤ count_at blocks 0
first_counted keys blocks good = (counted_here keys blocks 0 (good.each 0 (omega (arith, good.long, good.even)))).0
