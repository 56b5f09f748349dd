-- Loaded blocks that are cut at a block's end, or have one byte changed, do not load.
use Prim.Native.Nat.{ℕ, zero, suc, ◌+◌, ◌*◌, ◌-◌, ◌/◌, ◌%◌, ◌^◌, ◌≤◌, ◌<◌}
use native.Mathlib.Nat.{lt_irrefl, div-add-mod', add-sub_of_le}
use native.Mathlib.Decide.{dec_lt}
use native.Mathlib.Omega.{arith}
use mathlib.Core.Logic.{◌≢◌}
use mathlib.Core.Path.{◌≡◌, refl, sym, ap, ap₂, subst, ◌∙◌}
use mathlib.Core.Bool.{Bool, true, false}
use mathlib.Core.List.{List}
use lib.ListN.{length, take, drop, set, length-set, length-drop}
use lib.Seq.{get_or-take, get_or-drop, get_or-set_same, take-take, length-take-le, drop-set-add, drop-set-lt, take-set-lt, take-set-le}
use lib.Bits.{bit_xor, xor_lt}
use lib.Pow.{pow-lt}
use lib.Dec.{eqb}
use borrow.Author.Tests.{ne_eqb}
use Rattle.paper.specs.Answers.{ok, refused, ◌>>=◌, in_blocks}
use Rattle.paper.specs.Numbers.{byte_at, bytes_at, number_at}
use Rattle.paper.specs.Keys.{keys, Key}
use Rattle.paper.specs.Blocks.{block_size, check_of, count_at, counts_from, blocks_in, total_of, block_ok, layout}
use Rattle.paper.specs.Loading.{program, types_along, load_check, loaded}
use Rattle.paper.specs.Calls.{load_answer}
use Rattle.paper.specs.DamageDetected.{CutRefused, ByteSeen, BitSeen}
use Rattle.paper.proofs.Words.{same_bytes_lem}
use Rattle.paper.proofs.Stages.{bind_ok}
use Rattle.paper.proofs.Digits.{number_same}
use Rattle.paper.proofs.Bits.{bit_differs}
use Rattle.paper.proofs.Sums.{even_words, check_changes}
use Rattle.paper.proofs.LayoutPassed.{block_at, check_right, fields, fewer, RefusedBy, first_refused, total_wrong, check_wrong, Laid, laid, by_blocks}

-- cut at a block's end

module _ (keys : ℕ) (blocks : List ℕ) (good : Laid keys blocks) (m : ℕ) (inside : suc m * block_size < length blocks) where
  abbrev cut : List ℕ
  cut = take (suc m * block_size) blocks

  cut_length : length cut ≡ suc m * block_size
  cut_length = length-take-le (suc m * block_size) blocks (omega arith)

  count_kept : (k : ℕ) → k < suc m → count_at cut k ≡ count_at blocks k
  count_kept k l =
      number_same cut blocks (k * block_size + 2) (k * block_size + 2) 2
      (λ i h. get_or-take (suc m * block_size) blocks (k * block_size + 2 + i) 0 (omega arith))

  counts_kept : (n k : ℕ) → k + n ≤ suc m → counts_from cut k n ≡ counts_from blocks k n
  counts_kept zero k l = refl
  counts_kept (suc n) k l = ap₂ (λ x y. x + y) (count_kept k (omega arith)) (counts_kept n (k + 1) (omega arith))

  left : length cut / block_size ≡ suc m
  left = rw cut_length (omega arith)

  total_kept : total_of cut ≡ counts_from blocks 0 (suc m)
  total_kept = rw left (counts_kept (suc m) 0 (omega arith))

  first_kept : block_at cut 0 ≡ block_at blocks 0
  first_kept = take-take block_size (suc m * block_size) blocks (omega arith)

  first_total : number_at (block_at blocks 0) 504 2 ≡ total_of blocks
  first_total = (fields keys blocks 0 (good.each 0 (omega arith))).total

  -- if the first block's total were right
  same : number_at (block_at cut 0) 504 2 ≡ total_of cut → total_of blocks ≡ counts_from blocks 0 (suc m)
  same e = sym first_total ∙ ap (λ b. number_at b 504 2) (sym first_kept) ∙ e ∙ total_kept

  cut_fails : layout keys cut ≡ refused 17 in_blocks 0
  cut_fails =
      let less = fewer keys blocks good.each (suc m) (omega arith) in
      let wrong : eqb (number_at (block_at cut 0) 504 2) (total_of cut) ≡ false =
      ne_eqb (number_at (block_at cut 0) 504 2) (total_of cut)
      (λ e. lt_irrefl (counts_from blocks 0 (suc m)) (subst (λ n. counts_from blocks 0 (suc m) < n) (same e) less))
      in
      by_blocks keys cut (omega (arith, cut_length)) (omega (arith, cut_length)) (omega (arith, cut_length, good.most))
      ∙ rw (left, total_wrong keys cut 0 wrong)

-- one byte changed

module _ (b : List ℕ) (whole : length b ≡ block_size) (right : check_right b ≡ true) (j v : ℕ) (inside : j < block_size) (was : byte_at b j < 256)
    (becomes : v < 256) (other : v ≢ byte_at b j) where
  check_was : bytes_at b 508 4 ≡ check_of (take 508 b)
  check_was = same_bytes_lem (bytes_at b 508 4) (check_of (take 508 b)) right

  -- before the check: its first sum is another
  in_body : j < 508 → bytes_at (set b j v) 508 4 ≡ check_of (take 508 (set b j v)) → ⊥
  in_body l e =
      let s = take 508 b in
      let size : length s ≡ 508 = length-take-le 508 b (omega arith) in
      let there : byte_at s j ≡ byte_at b j = get_or-take 508 b j 0 l in
      check_changes s j v (even_words 254 s size) (omega arith) (omega arith) becomes (λ h. other (h ∙ there))
      (ap check_of (sym (take-set-lt 508 b j v l)) ∙ sym e ∙ ap (take 4) (drop-set-lt 508 b j v l) ∙ check_was)

  -- in the check itself
  in_check : 508 ≤ j → bytes_at (set b j v) 508 4 ≡ check_of (take 508 (set b j v)) → ⊥
  in_check l e =
      let d = j - 508 in
      let at : 508 + d ≡ j = add-sub_of_le l in
      let read : (c : List ℕ) → byte_at (bytes_at c 508 4) d ≡ byte_at c j =
      λ c. get_or-take 4 (drop 508 c) d 0 (omega arith) ∙ get_or-drop 508 c d 0 ∙ ap (byte_at c) at
      in
      other
      (sym (get_or-set_same b j v 0 (omega arith)) ∙ sym (read (set b j v))
      ∙ ap (λ c. byte_at c d) (e ∙ ap check_of (take-set-le 508 b j v l) ∙ sym check_was) ∙ read b)

  check_fails : check_right (set b j v) ≡ false
  check_fails = go (check_right (set b j v)) refl
    where
      never : bytes_at (set b j v) 508 4 ≡ check_of (take 508 (set b j v)) → Dec (j < 508) → ⊥
      never e (yes l) = in_body l e
      never e (no l) = in_check (omega arith) e

      go : (c : Bool) → check_right (set b j v) ≡ c → c ≡ false
      go true h = absurd (never (same_bytes_lem (bytes_at (set b j v) 508 4) (check_of (take 508 (set b j v))) h) (dec_lt j 508))
      go false h = refl

module _ (keys : ℕ) (blocks : List ℕ) (good : Laid keys blocks) (i v : ℕ) (within : i < length blocks) (was : byte_at blocks i < 256) (becomes : v < 256)
    (other : v ≢ byte_at blocks i) where
  abbrev k : ℕ
  k = i / block_size

  abbrev j : ℕ
  j = i % block_size

  abbrev changed : List ℕ
  changed = set blocks i v

  split : k * block_size + j ≡ i
  split = div-add-mod' i block_size

  block_changed : block_at changed k ≡ set (block_at blocks k) j v
  block_changed =
      ap (λ n. take block_size (drop (k * block_size) (set blocks n v))) (sym split)
      ∙ ap (take block_size) (drop-set-add (k * block_size) blocks j v)
      ∙ take-set-lt block_size (drop (k * block_size) blocks) j v (omega arith)

  block_length : length (block_at blocks k) ≡ block_size
  block_length =
      length-take-le block_size (drop (k * block_size) blocks) (rw length-drop (omega (arith, good.even)))

  byte_there : byte_at (block_at blocks k) j ≡ byte_at blocks i
  byte_there =
      get_or-take block_size (drop (k * block_size) blocks) j 0 (omega arith) ∙ get_or-drop (k * block_size) blocks j 0 ∙ ap (byte_at blocks) split

  block_fails : block_ok keys changed k ≡ false
  block_fails =
      let passed = (fields keys blocks k (good.each k (omega (arith, good.even)))).check in
      check_wrong keys changed k
      (ap check_right block_changed
      ∙ check_fails (block_at blocks k) block_length passed j v (omega arith) (omega (arith, byte_there)) becomes (λ h. other (h ∙ byte_there)))

  changed_fails : RefusedBy (layout keys changed) k
  changed_fails =
      let size : length changed ≡ length blocks = length-set blocks i v in
      let r = first_refused keys changed k block_fails (blocks_in changed) 0 (omega arith) (omega (arith, size, good.even)) in
      record {
        block = r.block;
        refuses =
            by_blocks keys changed (omega (arith, size)) (omega (arith, size, good.even)) (omega (arith, size, good.most)) ∙ r.refuses;
        upto = r.upto;
      }

-- of a call

pub record Called (list blocks : List ℕ) : Type 0 where
  pub ks : List Key
  pub listed : keys list ≡ ok ks
  pub good : Laid (length ks) blocks

pub called : (list blocks : List ℕ) (n : ℕ) → load_answer list blocks ≡ ok n → Called list blocks
unfolding load_answer
called list blocks n h =
    let a = bind_ok (keys list) (λ ks. loaded ks blocks) n h in
    let b = bind_ok (layout (length a.0) blocks) (λ _. load_check (length blocks) (types_along a.0 (program blocks)) >>= λ _. ok (total_of blocks)) n a.2 in
    record { ks = a.0; listed = a.1; good = laid (length a.0) blocks b.1 }

-- a layout that is refused is the call's answer
refused_call : (list blocks : List ℕ) (ks : List Key) (at : ℕ) → keys list ≡ ok ks → layout (length ks) blocks ≡ refused 17 in_blocks at
    → load_answer list blocks ≡ refused 17 in_blocks at
unfolding load_answer
refused_call list blocks ks at k h = rw (k, h)

pub cut_refused : CutRefused
cut_refused list blocks n h zero some_left inside = absurd (omega arith)
cut_refused list blocks n h (suc m) some_left inside =
    let c = called list blocks n h in
    refused_call list (take (suc m * block_size) blocks) c.ks 0 c.listed (cut_fails (length c.ks) blocks c.good m inside)

pub byte_seen : ByteSeen
byte_seen list blocks n h i v inside was becomes other =
    let c = called list blocks n h in
    let r = changed_fails (length c.ks) blocks c.good i v inside was becomes other in
    record {
      block = r.block;
      refuses = refused_call list (set blocks i v) c.ks (r.block * block_size) c.listed r.refuses;
      before = omega (arith, r.upto);
    }

pub bit_seen : BitSeen
bit_seen list blocks n h i b inside was bit =
    byte_seen list blocks n h i (bit_xor (byte_at blocks i) (2 ^ b)) inside was (xor_lt 8 (byte_at blocks i) (2 ^ b) was (pow-lt bit))
    (bit_differs b (byte_at blocks i))
