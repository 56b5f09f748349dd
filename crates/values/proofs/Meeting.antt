-- Two operands that meet: in the type of both, or in the right one's, where that takes the left one, else in the left one's.
-- Assumes nothing.
use Prim.Native.Nat.{ℕ}
use mathlib.Core.Path.{◌≡◌, refl, sym, ◌∙◌}
use mathlib.Core.Logic.{inl, inr}
use mathlib.Core.Bool.{Bool, true, false, cond, or-true, false≢true}
use mathlib.Core.Option.{some}
use Rattle.paper.specs.Tokens.{Comparison}
use Rattle.paper.specs.Keys.{Kind, exact, ternary, lpm, range, optional}
use Rattle.paper.specs.Types.{Ty, bool, int, of, same_ty, takes, meet, when, and_then}
use Rattle.paper.specs.Meaning.{Value, ty_of, in_type, convert_value, compare_value, comparison_value}
use Rattle.paper.proofs.TypeSoundness.{Comes, stays, meets, compared_there}
use Rattle.paper.proofs.MeetingTypes.{same_types_lem, same_self, meets_by_converting}
use Rattle.values.specs.Held.{like_value, Is}

pub in_same : (t : Ty) (a : Value) → same_ty (ty_of a) t ≡ true → like_value t a ≡ some a
in_same t a e = rw (e, stays t a e)

pub in_other : (k : Kind) (w : ℕ) (a : Value) → same_ty (ty_of a) (of k w) ≡ false → like_value (of k w) a ≡ convert_value k w a
in_other k w a e = rw e

-- an operand in the type that is met
in_met : (m : Ty) (a : Value) → Comes m a → like_value m a ≡ some (in_type m a)
in_met m a (inl h) = rw h
in_met m a (inr h) = rw (h, or-true (same_ty (ty_of a) m))

takes_own : (t : Ty) → takes t t ≡ false
takes_own bool = refl
takes_own int = refl
takes_own (of exact w) = refl
takes_own (of ternary w) = refl
takes_own (of lpm w) = refl
takes_own (of range w) = refl
takes_own (of optional w) = refl

takes_other : (a b : Ty) → takes b a ≡ true → same_ty a b ≡ false
takes_other a b e = go (same_ty a b) refl
  where
    go : (s : Bool) → same_ty a b ≡ s → s ≡ false
    go true q = absurd (false≢true (sym (takes_own b) ∙ (rw (same_types_lem a b q) at e)))
    go false q = refl

module _ (c : Comparison) (a b v : Value) where
  in_right : meet (ty_of a) (ty_of b) ≡ some (ty_of b) → Is (and_then (like_value (ty_of b) a) (λ x. compare_value c x b)) v
      → Is (comparison_value c a b) v
  in_right e h =
      rw (compared_there c a b (ty_of b) e, stays (ty_of b) b (same_self (ty_of b)))
      (rw (in_met (ty_of b) a (meets a b (ty_of b) e).0) at h)

  in_left : meet (ty_of a) (ty_of b) ≡ some (ty_of a) → Is (and_then (like_value (ty_of a) b) (compare_value c a)) v → Is (comparison_value c a b) v
  in_left e h =
      rw (compared_there c a b (ty_of a) e, stays (ty_of a) a (same_self (ty_of a)))
      (rw (in_met (ty_of a) b (meets a b (ty_of a) e).1) at h)

  pub meet_same : same_ty (ty_of a) (ty_of b) ≡ true → Is (compare_value c a b) v → Is (comparison_value c a b) v
  meet_same e h =
      let there : same_ty (ty_of b) (ty_of a) ≡ true = rw (same_types_lem (ty_of a) (ty_of b) e) (same_self (ty_of b)) in
      in_left (rw (meets_by_converting (ty_of a) (ty_of b), e)) (rw (in_same (ty_of a) b there) h)

  pub meet_right : takes (ty_of b) (ty_of a) ≡ true → Is (and_then (like_value (ty_of b) a) (λ x. compare_value c x b)) v
      → Is (comparison_value c a b) v
  meet_right e = in_right (rw (meets_by_converting (ty_of a) (ty_of b), takes_other (ty_of a) (ty_of b) e, e))

  pub meet_left : takes (ty_of b) (ty_of a) ≡ false → Is (and_then (like_value (ty_of a) b) (compare_value c a)) v → Is (comparison_value c a b) v
  meet_left e h = go (same_ty (ty_of a) (ty_of b)) (takes (ty_of a) (ty_of b)) refl refl
    where
      met : (s t : Bool) → same_ty (ty_of a) (ty_of b) ≡ s → takes (ty_of a) (ty_of b) ≡ t
          → meet (ty_of a) (ty_of b) ≡ cond s (some (ty_of a)) (when t (ty_of a))
      met s t p q = rw (meets_by_converting (ty_of a) (ty_of b), e, p, q)

      go : (s t : Bool) → same_ty (ty_of a) (ty_of b) ≡ s → takes (ty_of a) (ty_of b) ≡ t → Is (comparison_value c a b) v
      go true t p q = in_left (met true t p q) h
      go false true p q = in_left (met false true p q) h
      go false false p q = rw (met false false p q) tt
