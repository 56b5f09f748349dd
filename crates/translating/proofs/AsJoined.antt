-- A part as it is joined, in the order in which it is written: its own code behind a place that is left free, the join after it, and then the skip
-- in its place.
use Prim.Native.Nat.{ℕ, ◌+◌}
use native.Mathlib.Omega.{arith}
use mathlib.Core.Path.{◌≡◌}
use mathlib.Core.List.{List, [], ◌∷◌}
use lib.ListN.{length, length-append}
use Rattle.paper.specs.Meaning.{both}
use Rattle.paper.specs.Code.{Instruction, connects, skip}
use Rattle.paper.specs.Translating.{skip_for}
use Rattle.paper.specs.Comparing.{as_joined}
use Rattle.translating.specs.Writing.{Wrote}
use Rattle.translating.proofs.Rows.{wrote_on, wrote_before}

pub joined_length : (c : List Instruction) → length (as_joined c) ≡ length c + 2
joined_length c = omega (arith, length-append c (connects both ∷ []))

pub joined_written : {s t u v : List ℕ} {i end after next : ℕ} {c : List Instruction} → Wrote s (i + 1) c t end → Wrote t end (connects both ∷ []) u after
    → Wrote u i (skip (skip_for both (length c)) ∷ []) v next → Wrote s i (as_joined c) v after
joined_written own join first = wrote_before (omega arith) (wrote_on own join) first
