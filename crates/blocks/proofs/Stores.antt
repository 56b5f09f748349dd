-- A run of bytes stored in a slice: what stands before its end, and runs stored one after the other.
use Prim.Native.Nat.{ℕ, min, ◌+◌, ◌-◌, ◌≤◌}
use native.Mathlib.Omega.{arith}
use mathlib.Core.Path.{◌≡◌, refl, sym, ◌∙◌, ap, ap₂}
use mathlib.Core.List.{List, ◌++◌, append_assoc}
use borrow.Rule.Slice.PartMut.{put_mid}
use Rattle.std.proofs.lemmas.List.{take_min, drop_at}
use lib.ListN.{length, take, drop, replicate, length-append, length-drop, length-replicate}
use lib.Seq.{length-take-le, take_at, drop-drop, sets, sets-eq}
use Rattle.paper.specs.Numbers.{bytes_at}
use Rattle.blocks.specs.Written.{padded}

module _ (l : List ℕ) (i n : ℕ) (vs : List ℕ) (size : length vs ≡ n) (room : i + n ≤ length l) where
  pub stored : sets l i vs ≡ take i l ++ vs ++ drop (i + n) l
  stored = sets-eq vs l i (omega arith) ∙ ap (λ (m : ℕ). take i l ++ vs ++ drop (i + m) l) size

  -- after what stood before it
  pub stored_after : (front : List ℕ) → take i l ≡ front → take (i + n) (sets l i vs) ≡ front ++ vs
  stored_after front e =
      let long : length (take i l ++ vs) ≡ i + n = length-append (take i l) vs ∙ omega (arith, length-take-le i l (omega arith)) in
      ap (take (i + n)) stored ∙ take_at (take i l ++ vs) (drop (i + n) l) (i + n) long ∙ ap (λ (p : List ℕ). p ++ vs) e

  -- as a part that was lent comes back
  pub put_back : take i l ++ (vs ++ drop n (drop i l)) ≡ sets l i vs
  put_back =
      ap (λ (r : List ℕ). take i l ++ (vs ++ r)) (drop-drop n i l) ∙ sym (append_assoc (take i l) vs (drop (i + n) l)) ∙ sym stored

-- a part of n elements, or as many as there are
pub part_up_to : (s : List ℕ) (from n to : ℕ) → to ≡ min (length s) (from + n) → take (to - from) (drop from s) ≡ bytes_at s from n
part_up_to s from n to e =
    let size : to - from ≡ min n (length (drop from s)) = omega (arith, length-drop from s) in
    ap (λ (m : ℕ). take m (drop from s)) size ∙ take_min n (drop from s)

module _ (code : List ℕ) (few : length code ≤ 500) where
  pub padded_length : length (padded code) ≡ 500
  padded_length = length-append code (replicate (500 - length code) 0) ∙ rw length-replicate (omega arith)

  -- the code is copied, and then the zeros are stored after it
  pub code_then_zeros : (b zeros : List ℕ) → length b ≡ 512 → zeros ≡ replicate (500 - length code) 0
      → put_mid (4 + length code) (504 - (4 + length code)) (sets b 4 code) zeros ≡ sets b 4 (padded code)
  code_then_zeros b zeros size e =
      let n = length code in
      let front = take 4 b ++ code in
      let room : 4 + n ≤ length b = omega arith in
      let up : 4 + n + (504 - (4 + n)) ≡ 504 = omega arith in
      let long : length front ≡ 4 + n = length-append (take 4 b) code ∙ omega (arith, length-take-le 4 b (omega arith)) in
      let rest : drop (504 - (4 + n)) (drop (4 + n) (sets b 4 code)) ≡ drop 504 b =
      ap (λ (s : List ℕ). drop (504 - (4 + n)) (drop (4 + n) s)) (stored b 4 n code refl room)
      ∙ ap (drop (504 - (4 + n))) (drop_at front (drop (4 + n) b) (4 + n) long)
      ∙ drop-drop (504 - (4 + n)) (4 + n) b ∙ ap (λ (m : ℕ). drop m b) up
      in
      ap₂ (λ (a r : List ℕ). a ++ (zeros ++ r)) (stored_after b 4 n code refl room (take 4 b) refl) rest
      ∙ sym (append_assoc front zeros (drop 504 b))
      ∙ ap (λ (z : List ℕ). take 4 b ++ code ++ z ++ drop 504 b) e
      ∙ ap (λ (s : List ℕ). s ++ drop 504 b) (append_assoc (take 4 b) code (replicate (500 - n) 0))
      ∙ sym (stored b 4 500 (padded code) padded_length (omega arith))
