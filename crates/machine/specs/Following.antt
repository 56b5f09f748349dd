-- What the load check writes down: a mark of the types that are held after each instruction, in which equal marks at a skip and at its
-- landing tell equal types. (`proofs/Marks` has the reason.)
use Rattle.std.specs.Prelude.{◌≡◌, ℕ, suc, ◌+◌, ◌*◌, ◌<◌, ◌≤◌, cond, List, [], ◌∷◌, map, length, take, ◌==◌, slice_index, slice_index_or}
use Rattle.std.proofs.Math.Option.{Option, none, some}
use Rattle.paper.specs.Keys.{Key}
use Rattle.paper.specs.Types.{Ty, bool, int, of}
use Rattle.paper.specs.Code.{Skip, Parts, most_held, Walk, fails, ends, walk, type_action, action_of}
use Rattle.paper.specs.Loading.{instructions_from, types_along}

-- how many are held below the bools on top
abbrev pub floor : List Ty → ℕ
floor [] = 0
floor (bool ∷ s) = floor s
floor (int ∷ s) = suc (length s)
floor (of k w ∷ s) = suc (length s)

-- more than the highest floor, 384
abbrev pub floors : ℕ
floors = 512

abbrev pub mark : List Ty → ℕ
mark s = length s * floors + floor s

-- how many instructions a skip passes over; no skip, none
abbrev pub over_of : Option Skip → ℕ
over_of none = 0
over_of (some s) = s.over

-- the same, of an instruction that has these parts
abbrev pub over_in : Parts → ℕ
over_in p = cond (p.operation == 13) p.operand 0

-- the types after the first k of n instructions, whatever the landings are
abbrev pub types_after : List Key → List ℕ → ℕ → ℕ → Walk Ty
types_after ks blocks n k = walk 0 (map (action_of (type_action ks)) (take k (instructions_from blocks 0 n))) []

-- the types at a point of the way, and its mark
pub record MarkedAt (ks : List Key) (blocks : List ℕ) (n : ℕ) (marks : List ℕ) (k : ℕ) : Type 0 where
  pub held : List Ty
  pub few : length held ≤ most_held
  pub there : types_after ks blocks n k ≡ ends held
  pub told : slice_index_or marks k 0 ≡ mark held

-- each instruction up to one acts, and is marked; that one fails by itself, where it is not the end
pub record Followed (ks : List Key) (blocks : List ℕ) (n : ℕ) (marks : List ℕ) (upto : ℕ) : Type 0 where
  pub within : upto ≤ n
  pub marked : (k : ℕ) → k ≤ upto → MarkedAt ks blocks n marks k
  pub stops : upto < n → types_after ks blocks n n ≡ fails upto

-- where the load check ends, by what was marked
pub record Fitted (ks : List Key) (blocks : List ℕ) (n : ℕ) (marks : List ℕ) (r : ℕ) : Type 0 where
  pub within : r ≤ n
  pub stops : r < n → types_along ks (instructions_from blocks 0 n) ≡ fails r
  pub passes : r ≡ n → (held : List Ty) × (types_along ks (instructions_from blocks 0 n) ≡ ends held) × (slice_index marks n ≡ mark held)
