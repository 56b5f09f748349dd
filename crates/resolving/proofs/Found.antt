-- The index of a key that is found.
use Prim.Native.Nat.{ℕ, suc, ◌+◌, ◌<◌, ◌≤◌, ◌/◌}
use native.Mathlib.Omega.{arith}
use mathlib.Core.Path.{◌≡◌}
use mathlib.Core.Bool.{Bool, true, false, cond}
use mathlib.Core.Option.{some, none-ne-some, some-injective}
use mathlib.Core.List.{List, [], ◌∷◌}
use lib.ListN.{length}
use Rattle.paper.specs.Tokens.{same_bytes}
use Rattle.paper.specs.Keys.{Key, find_from, find}
use Rattle.keys.specs.Says.{keys_in}
use Rattle.keys.proofs.Records.{keys_length}

found_below : (ks : List Key) (w : List ℕ) (m k : ℕ) → find_from m ks w ≡ some k → k < m + length ks
found_below [] w m k h = absurd (none-ne-some k h)
found_below (x ∷ ks) w m k h = go (same_bytes x.name w) h (found_below ks w (suc m) k)
  where
    go : (b : Bool) → cond b (some m) (find_from (suc m) ks w) ≡ some k → (find_from (suc m) ks w ≡ some k → k < suc m + length ks)
        → k < m + length (x ∷ ks)
    go true h later = omega (arith, some-injective m k h)
    go false h later = omega (arith, later h)

-- a list that is no longer than a good one has at most 32 keys
pub few_keys : (list w : List ℕ) (k : ℕ) → length list ≤ 2560 → find (keys_in list) w ≡ some k → k < 32
few_keys list w k short h = omega (arith, found_below (keys_in list) w 0 k h, keys_length list 0 (length list / 80))
