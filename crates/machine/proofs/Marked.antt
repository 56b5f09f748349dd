-- Types that are followed in an array: in each place stands the floor of what is held up to it, so that the next floor is one step
-- (`floored_next`), and each point of the way gets its mark (`Point`).
use Rattle.std.proofs.Common.{◌≡◌, ℕ, zero, suc, ◌+◌, ◌-◌, ◌*◌, ◌<◌, ◌≤◌, Bool, true, false, cond, eqb, List, [], ◌∷◌, length, get_or, set, sym, refl, ap, ◌∙◌, ap₂, add-one, arith, length-set, get_or-set_other, get_or-set_same, ne_eqb}
use native.Mathlib.Decide.{ℕ_discrete}
use mathlib.Core.Option.{some}
use Rattle.paper.specs.Types.{Ty, bool, int, of, same_ty}
use Rattle.paper.specs.Code.{Action, most_held, ends, walk}
use Rattle.machine.specs.Following.{floors, floor, mark}
use Rattle.machine.specs.Packed.{ty_in, floor_in}
use Rattle.machine.proofs.Along.{along}
use Rattle.machine.proofs.Stack.{down, down_length, down_set, down_put}
use Rattle.machine.proofs.Standing.{Standing, standing_first, Turn, made, standing_next}

pub floor_most : (s : List Ty) → floor s ≤ length s
floor_most [] = omega arith
floor_most (bool ∷ s) = omega (arith, floor_most s)
floor_most (int ∷ s) = omega arith
floor_most (of k w ∷ s) = omega arith

-- the types that an array holds up to a height
abbrev upto : List ℕ → ℕ → List Ty
upto stack h = down ty_in 0 stack h

-- in each place stands the floor of what is held up to it
abbrev Floored : List ℕ → ℕ → Type 0
Floored stack h = (p : ℕ) → p < h → floor_in (get_or stack p 0) ≡ floor (upto stack (p + 1))

-- the floor of what lies under a place, as the code finds it
abbrev pub floor_under : List ℕ → ℕ → ℕ
floor_under stack b = cond (eqb b 0) 0 (floor_in (get_or stack (b - 1) 0))

-- and that of what is held with a type on it
abbrev pub floor_with : Ty → ℕ → ℕ → ℕ
floor_with a b under = cond (same_ty a bool) under (b + 1)

under_so : (stack : List ℕ) (h b : ℕ) → Floored stack h → b ≤ h → floor_under stack b ≡ floor (upto stack b)
under_so stack h zero f l = refl
under_so stack h (suc b) f l =
    let e : suc b - 1 ≡ b = omega arith in
    rw (ne_eqb (suc b) 0 (λ z. omega arith), e) (f b (omega arith) ∙ ap (λ n. floor (upto stack n)) (add-one b))

with_so : (a : Ty) (s : List Ty) → floor (a ∷ s) ≡ floor_with a (length s) (floor s)
with_so bool s = refl
with_so int s = sym (add-one (length s))
with_so (of k w) s = sym (add-one (length s))

-- a cell that is put on what lies under a place
module _ (stack : List ℕ) (h b cell : ℕ) (floored : Floored stack h) (l : b ≤ h) (room : b < length stack)
    (right : floor_in cell ≡ floor_with (ty_in cell) b (floor_under stack b)) where
  cell_floor : floor_in cell ≡ floor (upto (set stack b cell) (b + 1))
  cell_floor =
      right
      ∙ ap₂ (floor_with (ty_in cell)) (sym (down_length ty_in 0 stack b)) (under_so stack h b floored l)
      ∙ sym (with_so (ty_in cell) (upto stack b))
      ∙ ap floor (sym (down_put ty_in 0 stack b cell room))

  floored_next : Floored (set stack b cell) (b + 1)
  floored_next p q = go (ℕ_discrete p b)
    where
      go : Dec (p ≡ b) → floor_in (get_or (set stack b cell) p 0) ≡ floor (upto (set stack b cell) (p + 1))
      go (yes e) = rw e (ap floor_in (get_or-set_same stack b cell 0 room) ∙ cell_floor)
      go (no e) =
          ap floor_in (get_or-set_other stack b p cell 0 e) ∙ floored p (omega arith)
          ∙ ap floor (sym (down_set ty_in 0 stack (p + 1) b cell (omega arith)))

-- a point of the way: the types that are held, with their floors, and the marks so far

pub record MarkedAlong (x : ℕ → Action Ty) (marks : List ℕ) (k : ℕ) : Type 0 where
  pub held : List Ty
  pub few : length held ≤ most_held
  pub there : along x 0 k [] ≡ ends held
  pub told : get_or marks k 0 ≡ mark held

pub record Point (x : ℕ → Action Ty) (n size : ℕ) (marks stack : List ℕ) (height i : ℕ) : Type 0 where
  pub at : Standing ty_in 0 x n stack height i
  pub floored : Floored stack height
  pub room : n < size
  pub sized : length marks ≡ size
  pub marked : (k : ℕ) → k ≤ i → MarkedAlong x marks k

pub point_first : (x : ℕ → Action Ty) (n : ℕ) (marks stack : List ℕ) → n < length marks → length stack ≡ most_held
    → Point x n (length (set marks 0 0)) (set marks 0 0) stack 0 0
unfolding walk
point_first x n marks stack l e =
    record {
      at = standing_first ty_in 0 x n stack e;
      floored = λ p q. absurd (omega arith);
      room = omega (arith, length-set marks 0 0);
      sized = refl;
      marked =
          λ k q.
          let first : k ≡ 0 = omega arith in
          rw first (record { held = []; few = omega arith; there = refl; told = get_or-set_same marks 0 0 0 (omega arith) });
    }

module _ {x : ℕ → Action Ty} {n size : ℕ} {marks stack : List ℕ} {height i t : ℕ} (here : Point x n size marks stack height i)
    (turn : Turn ty_in 0 x n stack height i t) where
  -- a floor is at most 384
  pub floor_fits : (truth : Bool) (b : ℕ) → b ≤ height → b < most_held → cond truth (floor_under stack b) (b + 1) ≤ most_held
  floor_fits true b l m =
      omega (arith, under_so stack height b here.floored l, floor_most (upto stack b), down_length ty_in 0 stack b)
  floor_fits false b l m = omega arith

  -- the next point, where the cell is put on what lies under it
  pub point_next : (cell m : ℕ) → t ≤ height → height - t < most_held → made turn ≡ some (ty_in cell)
      → floor_in cell ≡ floor_with (ty_in cell) (height - t) (floor_under stack (height - t)) → m ≡ (height - t + 1) * floors + floor_in cell
      → Point x n size (set marks (i + 1) m) (set stack (height - t) cell) (height - t + 1) (i + 1)
  point_next cell m l r Made-so floor_so m-so =
      record {
        at = next;
        floored = floored_next stack height (height - t) cell here.floored (omega arith) in_array floor_so;
        room = here.room;
        sized = length-set marks (i + 1) m ∙ here.sized;
        marked = λ k q. go k q (ℕ_discrete k (i + 1));
      }
    where
      in_array : height - t < length stack
      in_array = omega (arith, here.at.full)

      next : Standing ty_in 0 x n (set stack (height - t) cell) (height - t + 1) (i + 1)
      next = standing_next turn cell l r Made-so

      as_many : length (upto (set stack (height - t) cell) (height - t + 1)) ≡ height - t + 1
      as_many = down_length ty_in 0 (set stack (height - t) cell) (height - t + 1)

      mark_so : m ≡ mark (upto (set stack (height - t) cell) (height - t + 1))
      mark_so =
          m-so
          ∙ ap₂ (λ h f. h * floors + f) (sym as_many)
          (cell_floor stack height (height - t) cell here.floored (omega arith) in_array floor_so)

      go : (k : ℕ) → k ≤ i + 1 → Dec (k ≡ i + 1) → MarkedAlong x (set marks (i + 1) m) k
      go k q (yes e) =
          rw e
          (record {
            held = upto (set stack (height - t) cell) (height - t + 1);
            few = omega (arith, as_many, next.few);
            there = next.there;
            told = get_or-set_same marks (i + 1) m 0 (omega (arith, here.room, here.sized, turn.more)) ∙ mark_so;
          })
      go k q (no d) =
          let before = here.marked k (omega arith) in
          record {
            held = before.held;
            few = before.few;
            there = before.there;
            told = get_or-set_other marks (i + 1) k m 0 d ∙ before.told;
          }
