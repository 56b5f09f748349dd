-- A skip as it is read from its parts: how many instructions it passes over, and that so many are left.
use Rattle.std.proofs.Common.{◌≡◌, ℕ, ◌≤◌, Bool, true, false, cond, leb, refl, ap, ◌∙◌, arith, leb-true}
use mathlib.Core.Bool.{beq, and-eq-true_iff}
use mathlib.Core.Option.{Option, none, some, none-ne-some}
use Rattle.paper.specs.Meaning.{both, either, if_then}
use Rattle.paper.specs.Code.{Skip, Instruction, push_bool, push_int, push_key, push_field, push_priority, invert, negate, convert, compare, connects, skip, Parts, parts_of, decode, skip_of}
use Rattle.paper.proofs.InstructionsRoundTrip.{read_test, parts_again}
use Rattle.machine.specs.Following.{over_of, over_in}

pub is_skip : (o : Option Instruction) (s : Skip) → skip_of o ≡ some s → o ≡ some (skip s)
is_skip none s h = absurd (none-ne-some s h)
is_skip (some (push_bool b)) s h = absurd (none-ne-some s h)
is_skip (some (push_int n)) s h = absurd (none-ne-some s h)
is_skip (some (push_key k)) s h = absurd (none-ne-some s h)
is_skip (some (push_field f k)) s h = absurd (none-ne-some s h)
is_skip (some push_priority) s h = absurd (none-ne-some s h)
is_skip (some invert) s h = absurd (none-ne-some s h)
is_skip (some negate) s h = absurd (none-ne-some s h)
is_skip (some (convert k w)) s h = absurd (none-ne-some s h)
is_skip (some (compare c)) s h = absurd (none-ne-some s h)
is_skip (some (connects o)) s h = absurd (none-ne-some s h)
is_skip (some (skip k)) s h =
    let same : k ≡ s = cc in
    rw same

-- it lands inside the code, or at its end
pub over_within : (left : ℕ) (p : Parts) → over_of (skip_of (decode left p)) ≤ left
over_within left p = go (skip_of (decode left p)) refl
  where
    go : (o : Option Skip) → skip_of (decode left p) ≡ o → over_of o ≤ left
    go none e = omega arith
    go (some s) e =
        let ranged = (read_test left p (skip s) (is_skip (decode left p) s e)).0 in
        leb-true s.over left ((and-eq-true_iff (leb 1 s.over) (leb s.over left)).0 ranged).1

-- how many instructions the run passes over after one, by whether the uppermost of what is held before it is true
abbrev pub passed_by : Option Skip → Bool → ℕ
passed_by none b = 0
passed_by (some s) b = cond (beq b s.on) s.over 0

-- where it passes over some, they are those
pub passed_within : (o : Option Skip) (top : Bool) → passed_by o top ≤ over_of o
passed_within none top = omega arith
passed_within (some s) top = go (beq top s.on)
  where
    go : (taken : Bool) → cond taken s.over 0 ≤ s.over
    go true = omega arith
    go false = omega arith

-- what is read as an instruction passes over as many as its parts say

over_spelled : (i : Instruction) → over_of (skip_of (some i)) ≡ over_in (parts_of i)
over_spelled (push_bool b) = refl
over_spelled (push_int n) = refl
over_spelled (push_key k) = refl
over_spelled (push_field f k) = refl
over_spelled push_priority = refl
over_spelled invert = refl
over_spelled negate = refl
over_spelled (convert k w) = refl
over_spelled (compare c) = refl
over_spelled (connects both) = refl
over_spelled (connects either) = refl
over_spelled (connects if_then) = refl
over_spelled (skip s) = refl

pub over_told : (left : ℕ) (p : Parts) (i : Instruction) → decode left p ≡ some i → over_of (skip_of (decode left p)) ≡ over_in p
over_told left p i e = ap (λ o. over_of (skip_of o)) e ∙ over_spelled i ∙ ap over_in (parts_again left p i e)
