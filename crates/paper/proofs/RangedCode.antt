-- Code in range: more instructions left after one do it no harm, so codes in range are in range in a row, and so is each of their
-- instructions by itself.
use Prim.Native.Nat.{ℕ, zero, suc, ◌+◌, ◌^◌, ◌≤◌, ◌<◌}
use native.Mathlib.Omega.{arith}
use mathlib.Core.Path.{◌≡◌}
use mathlib.Core.List.{List, [], ◌∷◌, ◌++◌}
use lib.ListN.{length, get_or, length-append}
use Rattle.paper.specs.Meaning.{Connective}
use Rattle.paper.specs.Code.{Instruction, push_bool, push_int, push_key, push_field, push_priority, invert, negate, convert, compare, connects, skip}
use Rattle.paper.specs.Translating.{skip_for}
use Rattle.paper.specs.BlocksRoundTrip.{InRange, Ranged}

-- more left after it
wider : (left more : ℕ) (i : Instruction) → left ≤ more → InRange left i → InRange more i
wider left more (push_bool b) l h = tt
wider left more (push_int n) l h = h
wider left more (push_key k) l h = h
wider left more (push_field f k) l h = h
wider left more push_priority l h = tt
wider left more invert l h = tt
wider left more negate l h = tt
wider left more (convert k w) l h = h
wider left more (compare c) l h = tt
wider left more (connects o) l h = tt
wider left more (skip s) l h = (h.0, omega (arith, h.1), h.2)

pub ranged_append : (xs ys : List Instruction) → Ranged xs → Ranged ys → Ranged (xs ++ ys)
ranged_append [] ys h k = k
ranged_append (x ∷ xs) ys h k =
    (wider (length xs) (length (xs ++ ys)) x (omega (arith, length-append xs ys)) h.0, ranged_append xs ys h.1 k)

-- the instruction of an index, with so many left after it
pub ranged_at : (code : List Instruction) (d : Instruction) → Ranged code → (j left : ℕ) → j + 1 + left ≡ length code → InRange left (get_or code j d)
ranged_at [] d h j left e = absurd (omega arith)
ranged_at (i ∷ code) d h zero left e =
    let all : left ≡ length code = omega arith in
    rw all h.0
ranged_at (i ∷ code) d h (suc j) left e = ranged_at code d h.1 j left (omega arith)

-- a join: its skip lands after it

abbrev pub join_code : Connective → List Instruction → List Instruction → List Instruction
join_code o l r = l ++ (skip (skip_for o (length r)) ∷ (r ++ (connects o ∷ [])))

pub join_size : (o : Connective) (l r : List Instruction) → length (join_code o l r) ≡ length l + (length r + 2)
join_size o l r =
    let rest = r ++ (connects o ∷ []) in
    omega (arith, length-append l (skip (skip_for o (length r)) ∷ rest), length-append r (connects o ∷ []))

pub join_ranged : (o : Connective) (l r : List Instruction) → length r + 1 < 2 ^ 16 → Ranged l → Ranged r → Ranged (join_code o l r)
join_ranged o l r few h k =
    let lands : length r + 1 ≤ length (r ++ (connects o ∷ [])) = omega (arith, length-append r (connects o ∷ [])) in
    ranged_append l _ h ((omega arith, lands, few), ranged_append r (connects o ∷ []) k (tt, tt))
