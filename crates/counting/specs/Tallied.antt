-- What counting makes of the numbers that stand, and the totals that it hands back.
use Rattle.std.specs.Prelude.{ℕ, zero, suc, ◌+◌, ◌^◌, ◌≤◌, ◌<◌, ◌≡◌, Bool, true, ◌&&◌, List, length, get_or}
use Rattle.paper.specs.Keys.{Key}
use Rattle.paper.specs.Grammar.{Tree}
use Rattle.paper.specs.Calls.{over}
use Rattle.paper.specs.Parts.{Part}
use Rattle.paper.specs.Counting.{judged, is_accepted, is_violated, is_refused, count_if, false_of, Counts}
use Rattle.paper.specs.CountedRight.{sums}
use Rattle.counting.specs.declared.total.Totals.{Totals}

-- the first numbers grow by so many each, and the later ones stay
abbrev pub raised : List ℕ → List ℕ → List ℕ
raised more numbers = over (sums more numbers) numbers

-- there are n numbers, and each can grow by so many
pub record Spare (n more : ℕ) (numbers : List ℕ) : Type 0 where
  pub there : n ≤ length numbers
  pub below : (k : ℕ) → k < n → get_or numbers k 0 + more < 2 ^ 64

-- the numbers of the parts are added to those before, and the totals are handed back
pub record Tells (c : Counts) (before after : List ℕ) (r : Totals) : Type 0 where
  pub numbers : after ≡ raised c.parts before
  pub accepted : r.accepted ≡ c.accepted
  pub violated : r.violated ≡ c.violated
  pub refused : r.refused ≡ c.refused

-- The same number by number, for the stages

-- the first n numbers grow, each by its own
pub record Grew (n : ℕ) (by : ℕ → ℕ) (before after : List ℕ) : Type 0 where
  pub many : length after ≡ length before
  pub grown : (k : ℕ) → k < n → get_or after k 0 ≡ get_or before k 0 + by k
  pub stays : (k : ℕ) → n ≤ k → get_or after k 0 ≡ get_or before k 0

-- of some entries, by n parts and the tree of them all
pub record Adds (ks : List Key) (t : Tree) (n : ℕ) (part : ℕ → Part) (es : List (List ℕ)) (before after : List ℕ) (r : Totals) : Type 0 where
  pub numbers : Grew n (λ k. false_of ks es (part k)) before after
  pub accepted : r.accepted ≡ count_if (λ e. is_accepted (judged ks t e)) es
  pub violated : r.violated ≡ count_if (λ e. is_violated (judged ks t e)) es
  pub refused : r.refused ≡ count_if (λ e. is_refused (judged ks t e)) es

-- a test holds of each number below n
abbrev pub all_below : (ℕ → Bool) → ℕ → Bool
all_below test zero = true
all_below test (suc k) = all_below test k && test k
