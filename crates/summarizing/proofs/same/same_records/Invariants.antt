-- `summarizing::same_records` meets its contract. The invariant of its loop: the bits that are left are those of the keys from k on
-- (`next_bits`), and whether the named records from k on are the same decides, since those before are. A turn looks at the lowest bit
-- (`named_here`) and, where it is set, at the record of key k.
use Prim.Native.Nat.{ℕ}
use mathlib.Core.Path.{◌≡◌}
use mathlib.Core.Bool.{Bool}
use Rattle.paper.specs.Named.{set_of}
use Rattle.paper.specs.Rechecking.{same_from}
use Rattle.summarizing.proofs.KeyByKey.{bits_from, same_on}
use Rattle.summarizing.proofs.same.same_records.Given as goal

abbrev pub invariant-loop-k : goal.invariant-loop-k
invariant-loop-k l =
    (p : ℕ → Bool) → l.named ≡ set_of p → (l.rest ≡ bits_from p l.k) × (same_on p l.old l.new l.n l.k ≡ same_from p l.old l.new 0 l.n)
