-- What the proofs of loops and tests share: a list a byte at a time, and a count of what is left.
use Prim.Native.Nat.{ℕ, zero, suc, ◌+◌, ◌-◌, ◌≤◌, ◌<◌}
use mathlib.Core.Path.{◌≡◌, refl, sym, ap, ◌∙◌}
use mathlib.Core.Bool.{Bool, true, false, cond, ◌&&◌, and-true}
use mathlib.Core.List.{List, [], ◌∷◌}
use native.Mathlib.Omega.{arith}
use lib.Bits.{bit_or, or_add_and, and_le_r}
use lib.Dec.{eqb}
use lib.ListN.{length, get_or, take, drop, length-drop}
use lib.Seq.{take_all, drop-cons}
use borrow.Author.Tests.{ne_eqb}
use Rattle.std.specs.List.{fold}
use Rattle.std.specs.Str.{bytes_eq}
use Rattle.paper.specs.Tokens.{same_bytes}
use Rattle.paper.specs.Keys.{all_zero}

-- k are passed, of n
pub one_less : (n k : ℕ) → k < n → n - k ≡ suc (n - (k + 1))
one_less n k h = omega arith

pub none_left : (n k : ℕ) → n ≤ k → n - k ≡ 0
none_left n k h = omega arith

pub cut : (s : List ℕ) (i : ℕ) → i < length s → drop i s ≡ get_or s i 0 ∷ drop (i + 1) s
cut s i h =
    let e : i + 1 ≡ suc i = omega arith in
    rw (e, drop-cons s i 0 h)

-- a part up to the end
pub to_end : (s : List ℕ) (i : ℕ) → take (length s - i) (drop i s) ≡ drop i s
to_end s i = take_all (length s - i) (drop i s) (omega (arith, length-drop i s))

-- bytes gathered by "or" are 0 exactly where each of them is

none_set : (a b : ℕ) → eqb (bit_or a b) 0 ≡ (eqb a 0 && eqb b 0)
none_set zero b = refl
none_set (suc a) b =
    rw (ne_eqb (suc a) 0 (λ e. omega arith)) (ne_eqb (bit_or (suc a) b) 0 (λ e. omega (arith, or_add_and (suc a) b, and_le_r (suc a) b)))

each_zero : (x y rest : Bool) → ((x && y) && rest) ≡ (x && cond y rest false)
each_zero true true rest = refl
each_zero true false rest = refl
each_zero false y rest = refl

pub gathered_zero : (s : List ℕ) (any : ℕ) → eqb (fold bit_or any s) 0 ≡ (eqb any 0 && all_zero s)
gathered_zero [] any = sym (and-true (eqb any 0))
gathered_zero (b ∷ s) any =
    gathered_zero s (bit_or any b) ∙ ap (λ t. t && all_zero s) (none_set any b) ∙ each_zero (eqb any 0) (eqb b 0) (all_zero s)

-- `==` of slices goes head by head, as the paper's test does
pub same_bytes_eq : (a b : List ℕ) → bytes_eq a b ≡ same_bytes a b
same_bytes_eq [] [] = refl
same_bytes_eq [] (y ∷ b) = refl
same_bytes_eq (x ∷ a) [] = refl
same_bytes_eq (x ∷ a) (y ∷ b) = rw (same_bytes_eq a b) (go (eqb x y))
  where
    go : (t : Bool) → (t && same_bytes a b) ≡ cond t (same_bytes a b) false
    go true = refl
    go false = refl
