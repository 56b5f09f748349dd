-- What follows of a cell that holds what an operation gives.
-- Assumes nothing.
use Prim.Native.Nat.{ℕ, ◌^◌}
use mathlib.Core.Path.{◌≡◌, refl, subst}
use mathlib.Core.Bool.{Bool, true, false, not, ◌&&◌, and-false, and-eq-true_iff, false≢true}
use mathlib.Core.Option.{Option, none, some}
use lib.Dec.{eqb}
use lib.IntN.{pos, neg_ℤ}
use borrow.Author.Tests.{eqb-true}
use Rattle.paper.specs.Numbers.{modulo}
use Rattle.paper.specs.Tokens.{Comparison}
use Rattle.paper.specs.Keys.{Kind, exact, ternary, lpm, range, optional, kind_no}
use Rattle.paper.specs.Entry.{Match, is_exact}
use Rattle.paper.specs.Types.{of, same_ty, takes, suits, when, and_then}
use Rattle.paper.specs.Meaning.{Value, truth, whole, matched, ty_of, one_value, not_value, negate_value, Connective, connect, join_value, in_type, convert_value, holds, compare_value, is_true}
use Rattle.values.specs.Held.{Is, as_number}

pub is_when : (t : Bool) (v w : Value) → v ≡ w → Is (when t w) v
is_when true v w e = e
is_when false v w e = tt

-- an operation after another
pub is_then : (o : Option Value) (f : Value → Option Value) (u v : Value) → Is o u → Is (f u) v → Is (and_then o f) v
is_then none f u v i j = tt
is_then (some w) f u v i j = subst (λ (x : Value). Is (f x) v) i j

pub is_not : (a v : Value) → v ≡ truth (not (is_true (some a))) → Is (not_value a) v
is_not (truth b) v e = e
is_not (whole z) v e = tt
is_not (matched k w m) v e = tt

pub is_join : (o : Connective) (a b v : Value) → v ≡ truth (connect o (is_true (some a)) (is_true (some b)))
    → Is (join_value o a b) v
is_join o (truth a) (truth b) v e = e
is_join o (truth a) (whole z) v e = tt
is_join o (truth a) (matched k w m) v e = tt
is_join o (whole y) b v e = tt
is_join o (matched k w m) b v e = tt

pub is_negated : (k : Kind) (w : ℕ) (m : Match) (v : Value)
    → v ≡ matched k w (one_value k w (modulo (neg_ℤ (pos m.first)) (2 ^ w))) → Is (negate_value (matched k w m)) v
is_negated k w m v e = is_when (is_exact k) v (matched k w (one_value k w (modulo (neg_ℤ (pos m.first)) (2 ^ w)))) e

-- a match is converted to another kind only
other_kind : (k l : Kind) (w x : ℕ) → takes (of k w) (of l x) ≡ true → eqb (kind_no k) (kind_no l) ≡ false
other_kind exact l w x h = absurd (false≢true h)
other_kind ternary l w x h = rw (eqb-true (kind_no l) 0 ((and-eq-true_iff (eqb (kind_no l) 0) (eqb x w)).0 h).0)
other_kind lpm l w x h = rw (eqb-true (kind_no l) 0 ((and-eq-true_iff (eqb (kind_no l) 0) (eqb x w)).0 h).0)
other_kind range l w x h = rw (eqb-true (kind_no l) 0 ((and-eq-true_iff (eqb (kind_no l) 0) (eqb x w)).0 h).0)
other_kind optional l w x h = rw (eqb-true (kind_no l) 0 ((and-eq-true_iff (eqb (kind_no l) 0) (eqb x w)).0 h).0)

pub is_converted : (k : Kind) (w : ℕ) (a v : Value) → v ≡ matched k w (one_value k w (as_number w a))
    → Is (convert_value k w a) v
is_converted k w (truth b) v e = rw (and-false (not (is_exact k))) tt
is_converted k w (whole z) v e = e
is_converted k w (matched l x m) v e = go (takes (of k w) (of l x)) refl
  where
    go : (t : Bool) → takes (of k w) (of l x) ≡ t → Is (when t (in_type (of k w) (matched l x m))) v
    go true h = rw (other_kind k l w x h) e
    go false h = tt

pub is_compared : (c : Comparison) (a b v : Value) → v ≡ truth (holds c a b) → Is (compare_value c a b) v
is_compared c a b v e = is_when (same_ty (ty_of a) (ty_of b) && suits c (ty_of a)) v (truth (holds c a b)) e
