-- A point on the way, with what is held there in an array up to a height.
use Rattle.std.proofs.Common.{◌≡◌, ℕ, ◌+◌, ◌-◌, ◌<◌, ◌≤◌, List, [], length, get_or, set, refl, ◌∙◌, arith, length-set}
use mathlib.Core.Option.{Option, none, some}
use Rattle.paper.specs.Code.{Action, leaves, act, most_held, fails, ends, walk}
use Rattle.machine.specs.Acting.{takes_of, gives}
use Rattle.machine.proofs.Along.{along, along_next, along_fails}
use Rattle.machine.proofs.Stack.{down, too_few, no_room, nothing_given, one_left}

pub record Standing {A B : Type 0} (g : A → B) (d : A) (x : ℕ → Action B) (n : ℕ) (cells : List A) (height i : ℕ) : Type 0 where
  pub few : height ≤ most_held
  pub full : length cells ≡ most_held
  pub upto : i ≤ n
  pub there : along x 0 i [] ≡ ends (down g d cells height)

pub standing_first : {A B : Type 0} (g : A → B) (d : A) (x : ℕ → Action B) (n : ℕ) (cells : List A) → length cells ≡ most_held
    → Standing g d x n cells 0 0
unfolding walk
standing_first g d x n cells e = record { few = omega arith; full = e; upto = omega arith; there = refl }

-- what stands there is no instruction
pub no_action : {A B : Type 0} {g : A → B} {d : A} {x : ℕ → Action B} {n : ℕ} {cells : List A} {height i : ℕ}
    → Standing g d x n cells height i → i < n → x i ≡ leaves none → along x 0 n [] ≡ fails i
no_action {g = g} {d = d} {x = x} {n = n} {cells = cells} {height = height} {i = i} at more e =
    along_fails x i (down g d cells height) at.there n more (rw e)

-- and there is an instruction more, which takes t operands
pub record Turn {A B : Type 0} (g : A → B) (d : A) (x : ℕ → Action B) (n : ℕ) (cells : List A) (height i t : ℕ) : Type 0 where
  pub at : Standing g d x n cells height i
  pub more : i < n
  pub needs : t ≡ takes_of (x i)

module _ {A B : Type 0} {g : A → B} {d : A} {x : ℕ → Action B} {n : ℕ} {cells : List A} {height i t : ℕ}
    (turn : Turn g d x n cells height i t) where
  -- what it gives
  abbrev pub made : Option B
  made = gives (x i) (g (get_or cells (height - t) d)) (g (get_or cells (height - 1) d))

  -- it fails: an operand is missing, there is no room, or it gives nothing

  fails_here : act (x i) (down g d cells height) ≡ none → along x 0 n [] ≡ fails i
  fails_here = along_fails x i (down g d cells height) turn.at.there n turn.more

  pub fails_few : height < t → along x 0 n [] ≡ fails i
  fails_few l = fails_here (too_few g d cells (x i) height (omega arith))

  pub fails_full : t ≤ height → most_held ≤ height - t → along x 0 n [] ≡ fails i
  fails_full l r = fails_here (no_room g d cells (x i) height (omega arith) (omega arith))

  pub fails_wrong : t ≤ height → made ≡ none → along x 0 n [] ≡ fails i
  fails_wrong l m = fails_here (nothing_given g d cells (x i) height (omega arith) (rw (← turn.needs) m))

  -- it leaves what it gives in the place of its lowest operand
  pub standing_next : (v : A) → t ≤ height → height - t < most_held → made ≡ some (g v)
      → Standing g d x n (set cells (height - t) v) (height - t + 1) (i + 1)
  standing_next v l r m =
      let k = one_left g d cells (x i) height v (omega arith) (omega arith) turn.at.full (rw (← turn.needs) m) in
      record {
        few = omega arith;
        full = length-set cells (height - t) v ∙ turn.at.full;
        upto = omega (arith, turn.more);
        there = along_next x i (down g d cells height) turn.at.there _ (rw turn.needs k);
      }
