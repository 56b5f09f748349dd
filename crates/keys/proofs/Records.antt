-- The records of a key list, good or not; and what a good one keeps.
use Prim.Native.Nat.{ℕ, zero, suc, ◌+◌, ◌*◌, ◌/◌, ◌≤◌, ◌<◌}
use mathlib.Core.Path.{◌≡◌, refl, sym, ap, ◌∙◌}
use mathlib.Core.Bool.{Bool, true, false, ◌&&◌}
use mathlib.Core.Option.{some}
use mathlib.Core.List.{List}
use native.Mathlib.Nat.{add-zero}
use native.Mathlib.Omega.{arith}
use lib.Dec.{leb}
use lib.ListN.{length, drop, get_elem?, length-drop}
use lib.Seq.{length-take-le}
use borrow.Author.Tests.{leb-true}
use Rattle.paper.specs.Numbers.{byte_at}
use Rattle.paper.specs.Keys.{record_size, record_at, record_ok, name_of, key_of, keys_from}
use Rattle.keys.proofs.Answering.{never}

-- the records as keys

pub keys_length : (list : List ℕ) (k n : ℕ) → length (keys_from list k n) ≡ n
keys_length list k zero = refl
keys_length list k (suc n) = ap suc (keys_length list (suc k) n)

key_from : (list : List ℕ) (j n k : ℕ) → k < n → get_elem? (keys_from list j n) k ≡ some (key_of (record_at list (j + k)))
key_from list j zero k h = absurd (omega arith)
key_from list j (suc n) zero h = rw add-zero
key_from list j (suc n) (suc k) h =
    let e : suc j + k ≡ j + suc k = omega arith in
    key_from list (suc j) n k (omega arith) ∙ rw e

pub key_at : (list : List ℕ) (n k : ℕ) → k < n → get_elem? (keys_from list 0 n) k ≡ some (key_of (record_at list k))
key_at list n k h =
    let e : 0 + k ≡ k = omega arith in
    key_from list 0 n k h ∙ rw e

pub record_length : (list : List ℕ) (k : ℕ) → k < length list / record_size → length (record_at list k) ≡ record_size
record_length list k h = length-take-le 80 (drop (k * 80) list) (omega (arith, length-drop (k * 80) list))

-- a record that keeps its layout

and_false : (b : Bool) → (b && false) ≡ false
and_false true = refl
and_false false = refl

held : (b : Bool) → (b ≡ false → ⊥) → b ≡ true
held true f = refl
held false f = absurd (f refl)

module _ (r : List ℕ) (good : record_ok r ≡ true) where
  kept : (a b : ℕ) → (leb a b ≡ false → record_ok r ≡ false) → a ≤ b
  kept a b f = leb-true a b (held (leb a b) (λ e. never (sym (f e) ∙ good)))

  pub name_some : 1 ≤ byte_at r 0
  name_some = kept 1 (byte_at r 0) (λ e. simp e)

  pub name_most : byte_at r 0 ≤ 64
  name_most = kept (byte_at r 0) 64 (λ e. simp (e, and_false))

  pub kind_most : byte_at r 1 ≤ 4
  kind_most = kept (byte_at r 1) 4 (λ e. simp (e, and_false))

  pub width_some : 1 ≤ byte_at r 2
  width_some = kept 1 (byte_at r 2) (λ e. simp (e, and_false))

  pub width_most : byte_at r 2 ≤ 128
  width_most = kept (byte_at r 2) 128 (λ e. simp (e, and_false))

  pub name_length : length r ≡ record_size → length (name_of r) ≡ byte_at r 0
  name_length h = length-take-le (byte_at r 0) (drop 16 r) (omega (arith, length-drop 16 r, name_most))
