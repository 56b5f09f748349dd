-- Summaries of no key, of one, and of what either of two names.
use Prim.Native.Nat.{ℕ, zero, suc, ◌+◌, ◌≤◌}
use native.Mathlib.Omega.{arith}
use mathlib.Core.Path.{◌≡◌, refl, sym, ap, ◌∙◌, fun_ext}
use mathlib.Core.Bool.{Bool}
use lib.Dec.{eqb}
use borrow.Author.Tests.{ne_eqb}
use Rattle.paper.specs.Keys.{most_keys}
use Rattle.paper.specs.Named.{set_from, set_of}
use Rattle.paper.specs.declared.Summary.{Summary}
use Rattle.summarizing.specs.Sums.{Sums}

-- what is summed up may be said in other words
pub sums_as : {p q : ℕ → Bool} {m n : Bool} {s : Summary} → ((j : ℕ) → p j ≡ q j) → m ≡ n → Sums p m s → Sums q n s
sums_as same e h = record { keys = h.keys ∙ ap set_of (fun_ext same); priority = h.priority ∙ e }

-- a key that no list has is in no set

none_before : (i n k : ℕ) → k + n ≤ i → set_from (λ j. eqb i j) k n ≡ 0
none_before i zero k h = refl
none_before i (suc n) k h = rw (ne_eqb i k (λ e. omega (arith, e, h)), none_before i n (suc k) (omega (arith, h)))

pub past_set : (i : ℕ) → most_keys ≤ i → 0 ≡ set_of (λ j. eqb i j)
unfolding set_of
past_set i h = sym (none_before i most_keys 0 (omega (arith, h)))
