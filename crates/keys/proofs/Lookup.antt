-- The key of a name, a record at a time: k records are passed, of n.
use Prim.Native.Nat.{ℕ, ◌+◌, ◌-◌, ◌<◌}
use mathlib.Core.Path.{◌≡◌}
use mathlib.Core.Bool.{true, false}
use mathlib.Core.Option.{Option, some}
use mathlib.Core.List.{List}
use native.Mathlib.Numerals.{add-one}
use Rattle.paper.specs.Tokens.{same_bytes}
use Rattle.paper.specs.Keys.{record_at, name_of, keys_from, find_from}
use Rattle.spelling.proofs.Steps.{one_less}

-- what the search from k on finds
abbrev pub find_on : List ℕ → List ℕ → ℕ → ℕ → Option ℕ
find_on list word n k = find_from k (keys_from list k (n - k)) word

module _ (list word : List ℕ) (n k : ℕ) (h : k < n) {r name : List ℕ} (at : r ≡ record_at list k) (is : name ≡ name_of r) where
  pub find_here : same_bytes name word ≡ true → find_on list word n k ≡ some k
  find_here e = rw (one_less n k h, ← at, ← is, e)

  pub find_on_lem : same_bytes name word ≡ false → find_on list word n k ≡ find_on list word n (k + 1)
  find_on_lem e = rw (one_less n k h, ← at, ← is, e, add-one k)
