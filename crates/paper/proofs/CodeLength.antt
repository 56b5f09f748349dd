-- How long the code of a tree is: its nodes, its conversions, of which there is at most one to a comparison, and a skip for each join.
use Prim.Native.Nat.{ℕ, ◌+◌, ◌≤◌}
use native.Mathlib.Omega.{arith}
use mathlib.Core.Path.{◌≡◌, refl}
use mathlib.Core.Bool.{Bool, true, false, cond}
use mathlib.Core.Option.{Option, none, some}
use mathlib.Core.List.{[]}
use lib.ListN.{length, length-append}
use Rattle.paper.specs.Answers.{ok, ◌>>=◌}
use Rattle.paper.specs.Keys.{find}
use Rattle.paper.specs.Grammar.{truth, number, key, field, attribute, prefixed, joined, compared}
use Rattle.paper.specs.Types.{Ty, bool, int, of, same_ty, when, and_then, Field, field_named, takes, meet, field_type, prefix_type, join_type, operator_type, compared_type, known, named_type, type_of}
use Rattle.paper.specs.Code.{push_key, push_field}
use Rattle.paper.specs.Translating.{has_type, changed, convert_to, pushing, code_of, conversions}
use Rattle.paper.specs.CodeCorrect.{CodeCounted, FewBesideNodes, CodeFits}
use Rattle.paper.proofs.Stages.{never_ok, bind_ok}
use Rattle.paper.proofs.MeetingTypes.{same_self, meets_by_converting}

-- the code of a key and of a field that have a type is one instruction

key_counted : (at : ℕ) (o : Option ℕ) (f : ℕ → Option Ty) (a : Ty) → known at (and_then o f) ≡ ok a
    → length (pushing (and_then o (λ k. some (push_key k)))) ≡ 1
key_counted at none f a h = absurd (never_ok h)
key_counted at (some k) f a h = refl

field_counted : (at to : ℕ) (o : Option ℕ) (p : Option Field) (f : ℕ → Field → Option Ty) (a : Ty)
    → (known at o >>= λ k. named_type to (and_then p (f k))) ≡ ok a
    → length (pushing (and_then o (λ k. and_then p (λ g. some (push_field g k))))) ≡ 1
field_counted at to none p f a h = absurd (never_ok h)
field_counted at to (some k) none f a h = absurd (never_ok h)
field_counted at to (some k) (some g) f a h = refl

pub code_counted : CodeCounted
unfolding code_of conversions type_of
code_counted ks (truth at b) a h = refl
code_counted ks (number at n) a h = refl
code_counted ks (key at w) a h = key_counted at (find ks w) _ a h
code_counted ks (field at w to f) a h = field_counted at to (find ks w) (field_named f) (λ k g. field_type ks g k) a h
code_counted ks (attribute at to f) a h = refl
code_counted ks (prefixed at o t) a h =
    let x = bind_ok (type_of ks t) (λ a. operator_type at (prefix_type o a)) a h in
    rw length-append (omega (arith, code_counted ks t x.0 x.1))
code_counted ks (joined at o l r) a h =
    let x = bind_ok (type_of ks l) (λ a. type_of ks r >>= λ b. operator_type at (join_type a b)) a h in
    let y = bind_ok (type_of ks r) (λ b. operator_type at (join_type x.0 b)) a x.2 in
    simp length-append (omega (arith, code_counted ks l x.0 x.1, code_counted ks r y.0 y.1))
code_counted ks (compared at c l r) a h =
    let x = bind_ok (type_of ks l) (λ a. type_of ks r >>= λ b. compared_type at c l r a b) a h in
    let y = bind_ok (type_of ks r) (compared_type at c l r x.0) a x.2 in
    simp length-append (omega (arith, code_counted ks l x.0 x.1, code_counted ks r y.0 y.1))

-- one of the operands has the type that is met

at_most_one : (m : Ty) → length (convert_to m) ≤ 1
at_most_one bool = omega arith
at_most_one int = omega arith
at_most_one (of k w) = omega arith

changes : (a : Option Ty) (m : Ty) → length (changed a (some m)) ≤ 1
changes none m = omega arith
changes (some a) m = go (same_ty a m)
  where
    go : (b : Bool) → length (cond b [] (convert_to m)) ≤ 1
    go true = omega arith
    go false = at_most_one m

unchanged : (m : Ty) → length (changed (some m) (some m)) ≡ 0
unchanged m = rw (same_self m)

abbrev both : Option Ty → Option Ty → Option Ty → ℕ
both ta tb m = length (changed ta m) + length (changed tb m)

one_changes : (ta tb : Option Ty) → both ta tb (and_then ta (λ a. and_then tb (meet a))) ≤ 1
one_changes none none = omega arith
one_changes none (some b) = omega arith
one_changes (some a) none = omega arith
one_changes (some a) (some b) = rw (meets_by_converting a b) (go (same_ty a b) (takes b a) (takes a b))
  where
    go : (s t u : Bool) → both (some a) (some b) (cond s (some a) (cond t (some b) (when u a))) ≤ 1
    go true t u = omega (arith, unchanged a, changes (some b) a)
    go false true u = omega (arith, unchanged b, changes (some a) b)
    go false false true = omega (arith, unchanged a, changes (some b) a)
    go false false false = omega arith

pub few_beside_nodes : FewBesideNodes
unfolding conversions
few_beside_nodes ks (truth at b) = omega arith
few_beside_nodes ks (number at n) = omega arith
few_beside_nodes ks (key at w) = omega arith
few_beside_nodes ks (field at w to f) = omega arith
few_beside_nodes ks (attribute at to f) = omega arith
few_beside_nodes ks (prefixed at o t) = omega (arith, few_beside_nodes ks t)
few_beside_nodes ks (joined at o l r) = omega (arith, few_beside_nodes ks l, few_beside_nodes ks r)
few_beside_nodes ks (compared at c l r) =
    omega (arith, few_beside_nodes ks l, few_beside_nodes ks r, one_changes (has_type (type_of ks l)) (has_type (type_of ks r)))

pub code_fits : CodeFits
code_fits ks t a h few = omega (arith, code_counted ks t a h, few_beside_nodes ks t)
