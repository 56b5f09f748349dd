-- A writing from the start came either to the end of all its bytes, which then stand first in the slice, or past the room.
use Prim.Native.Nat.{ℕ, ◌≤◌, ◌<◌}
use native.Mathlib.Nat.{zero-add}
use native.Mathlib.Omega.{arith}
use mathlib.Core.Path.{◌≡◌, refl}
use mathlib.Core.List.{List}
use lib.ListN.{length, take}
use lib.Seq.{sets, sets-eq, take_at}
use Rattle.paper.specs.Calls.{over}
use Rattle.printing.specs.Writing.{Wrote}

-- bytes copied to the start stand before those that stood after them
pub copied_first : (l s : List ℕ) → length s ≤ length l → sets l 0 s ≡ over s l
copied_first l s h = rw zero-add at (sets-eq s l 0 (omega arith))

pub record Whole (a s b : List ℕ) (n : ℕ) : Type 0 where
  pub count : n ≡ length s
  pub room : length s ≤ length a
  pub bytes : take n b ≡ s

module _ {a b s : List ℕ} {n : ℕ} (w : Wrote a 0 s b n) where
  pub came_to_the_end : n ≤ length a → Whole a s b n
  came_to_the_end h =
      let count : n ≡ length s = omega (arith, w.ends) in
      let room : length s ≤ length a = omega arith in
      record { count = count; room = room; bytes = rw (count, w.stored (omega arith), copied_first a s room) (take_at s _ (length s) refl) }

  pub came_past_the_room : length a < n → length a < length s
  came_past_the_room h = omega (arith, w.ends)
