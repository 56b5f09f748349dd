-- A tree has a value on an entry exactly where it has a type, and it is of that type.
use Prim.Native.Nat.{ℕ}
use native.Mathlib.Omega.{arith}
use mathlib.Core.Path.{◌≡◌, refl, sym, ap, ◌∙◌}
use mathlib.Core.Logic.{◌⊎◌, inl, inr}
use mathlib.Core.Bool.{Bool, true, false, not, cond, ◌&&◌, and-false, false≢true}
use mathlib.Core.Option.{Option, none, some, map, some-injective, none-ne-some, some-ne-none}
use mathlib.Core.List.{List}
use borrow.Author.Tests.{eq-eqb}
use Rattle.paper.specs.Answers.{Answer, ok, refused, ◌>>=◌, require, in_text}
use Rattle.paper.specs.Tokens.{bytes, same_bytes, Prefix, not_sign, minus_sign, Comparison}
use Rattle.paper.specs.Keys.{kind_no, Key, find}
use Rattle.paper.specs.Entry.{Entry, is_exact}
use Rattle.paper.specs.Grammar as G
use Rattle.paper.specs.Grammar.{Tree, place_of}
use Rattle.paper.specs.Types.{Ty, bool, int, of, same_ty, when, and_then, Field, field_named, field_type, bare_type, prefix_type, join_type, meet, compares, comparison_type, takes, suits, compare_type, keeps_bits, operator_type, compared_type, known, named_type, type_of, root_type, typed}
use Rattle.paper.specs.Meaning.{Value, truth, whole, matched, ty_of, bare_value, field_value, prefix_value, connective, in_type, holds, compare_value, comparison_value, value_of}
use Rattle.paper.specs.Translating.{has_type}
use Rattle.paper.specs.LoadedBlocksRun.{Covers}
use Rattle.paper.specs.TypeSoundness.{ValuesHaveTypes, TypedMeant, Judged}
use Rattle.paper.proofs.Basics.{map_when}
use Rattle.paper.proofs.Stages.{never_ok, bind_ok}
use Rattle.paper.proofs.MeetingTypes.{same_types_lem, same_self, meets_by_converting, compares_where_met}
use Rattle.paper.proofs.LoadedBlocksRun.{not_follows, negate_follows, join_follows, key_follows, field_value_follows}

-- an operand of the type that is met stays, and the other is converted to it

abbrev pub Comes : Ty → Value → Type 0
Comes m a = (same_ty (ty_of a) m ≡ true) ⊎ (takes m (ty_of a) ≡ true)

pub stays : (m : Ty) (a : Value) → same_ty (ty_of a) m ≡ true → in_type m a ≡ a
stays bool a h = refl
stays int a h = refl
stays (of k w) (truth b) h = refl
stays (of k w) (whole z) h = absurd (false≢true h)
stays (of k w) (matched l x n) h =
    let same : of l x ≡ of k w = same_types_lem (of l x) (of k w) h in
    let kinds : l ≡ k = cc in
    let widths : x ≡ w = cc in
    rw (← kinds, ← widths, eq-eqb (kind_no l) (kind_no l) refl)

pub in_type_lem : (m : Ty) (a : Value) → Comes m a → ty_of (in_type m a) ≡ m
in_type_lem m a (inl h) = rw (stays m a h) (same_types_lem (ty_of a) m h)
in_type_lem bool a (inr h) = absurd (false≢true h)
in_type_lem int a (inr h) = absurd (false≢true h)
in_type_lem (of k w) (truth b) (inr h) = absurd (false≢true (rw (and-false (not (is_exact k))) at h))
in_type_lem (of k w) (whole z) (inr h) = refl
in_type_lem (of k w) (matched l x n) (inr h) = refl

pub meets : (a b : Value) (m : Ty) → meet (ty_of a) (ty_of b) ≡ some m → Comes m a × Comes m b
meets a b m h =
    go (same_ty (ty_of a) (ty_of b)) (takes (ty_of b) (ty_of a)) (takes (ty_of a) (ty_of b)) refl refl refl
    (sym (meets_by_converting (ty_of a) (ty_of b)) ∙ h)
  where
    of_own : (v : Value) → ty_of v ≡ m → Comes m v
    of_own v at = inl (rw at (same_self m))

    go : (s t u : Bool) → same_ty (ty_of a) (ty_of b) ≡ s → takes (ty_of b) (ty_of a) ≡ t → takes (ty_of a) (ty_of b) ≡ u
        → cond s (some (ty_of a)) (cond t (some (ty_of b)) (when u (ty_of a))) ≡ some m → Comes m a × Comes m b
    go true t u same _ _ e =
        let at : ty_of a ≡ m = some-injective _ _ e in
        (of_own a at, of_own b (sym (same_types_lem _ _ same) ∙ at))
    go false true u _ left _ e =
        let at : ty_of b ≡ m = some-injective _ _ e in
        (inr (rw (← at) left), of_own b at)
    go false false true _ _ right e =
        let at : ty_of a ≡ m = some-injective _ _ e in
        (of_own a at, inr (rw (← at) right))
    go false false false _ _ _ e = absurd (none-ne-some m e)

-- so the comparison is that of two values of one type

when_same : (s t : Bool) → when s bool ≡ when t bool → s ≡ t
when_same true true h = refl
when_same true false h = absurd (some-ne-none bool h)
when_same false true h = absurd (none-ne-some bool h)
when_same false false h = refl

pub compared_there : (c : Comparison) (a b : Value) (m : Ty) → meet (ty_of a) (ty_of b) ≡ some m
    → comparison_value c a b ≡ compare_value c (in_type m a) (in_type m b)
compared_there c a b m e =
    let both = meets a b m e in
    let told : comparison_type c (ty_of a) (ty_of b) ≡ compare_type c m m = compares_where_met c (ty_of a) (ty_of b) ∙ ap (λ o. and_then o (λ t. compare_type c t t)) e in
    let suited : compares c (ty_of a) (ty_of b) ≡ same_ty m m && suits c m = when_same _ _ told in
    rw (e, in_type_lem m a both.0, in_type_lem m b both.1, suited)

-- operators

prefix_follows : (o : Prefix) (a : Value) → prefix_type o (ty_of a) ≡ map ty_of (prefix_value o a)
prefix_follows not_sign a = not_follows a
prefix_follows minus_sign a = negate_follows a

comparison_follows : (c : Comparison) (a b : Value) → comparison_type c (ty_of a) (ty_of b) ≡ map ty_of (comparison_value c a b)
comparison_follows c a b = go (meet (ty_of a) (ty_of b)) refl
  where
    go : (o : Option Ty) → meet (ty_of a) (ty_of b) ≡ o
        → comparison_type c (ty_of a) (ty_of b)
        ≡ map ty_of (and_then o (λ m. when (compares c (ty_of a) (ty_of b)) (truth (holds c (in_type m a) (in_type m b)))))
    go none e = compares_where_met c (ty_of a) (ty_of b) ∙ ap (λ o. and_then o (λ m. compare_type c m m)) e
    go (some m) e = map_when ty_of (compares c (ty_of a) (ty_of b)) (truth (holds c (in_type m a) (in_type m b)))

-- trees

has_known : (at : ℕ) (o : Option Ty) → has_type (known at o) ≡ o
has_known at none = refl
has_known at (some a) = refl

has_named : (at : ℕ) (o : Option Ty) → has_type (named_type at o) ≡ o
has_named at none = refl
has_named at (some a) = refl

has_operator : (at : ℕ) (o : Option Ty) → has_type (operator_type at o) ≡ o
has_operator at none = refl
has_operator at (some a) = refl

key_typed : (at : ℕ) (o : Option ℕ) (f : ℕ → Option Ty) (g : ℕ → Option Value) → ((k : ℕ) → f k ≡ map ty_of (g k))
    → has_type (known at (and_then o f)) ≡ map ty_of (and_then o g)
key_typed at none f g same = refl
key_typed at (some k) f g same = has_known at (f k) ∙ same k

field_typed : (at to : ℕ) (o : Option ℕ) (f : ℕ → Option Ty) (g : ℕ → Option Value) → ((k : ℕ) → f k ≡ map ty_of (g k))
    → has_type (known at o >>= λ k. named_type to (f k)) ≡ map ty_of (and_then o g)
field_typed at to none f g same = refl
field_typed at to (some k) f g same = has_named to (f k) ∙ same k

-- what is made of an operand
operand_typed : (x : Answer Ty) (o : Option Value) (f : Ty → Answer Ty) (g : Value → Option Value)
    → ((a : Value) → has_type (f (ty_of a)) ≡ map ty_of (g a)) → has_type x ≡ map ty_of o
    → has_type (x >>= f) ≡ map ty_of (and_then o g)
operand_typed (ok a) none f g same h = absurd (some-ne-none a h)
operand_typed (ok a) (some v) f g same h = rw (some-injective a (ty_of v) h) (same v)
operand_typed (refused n i at) none f g same h = refl
operand_typed (refused n i at) (some v) f g same h = absurd (none-ne-some (ty_of v) h)

-- a comparison has a type where its operands' types suit it and both operands keep their bits
has_compared : (at p q : ℕ) (o : Option Ty) (x y : Bool)
    → has_type (operator_type at o >>= λ t. require x 23 in_text p >>= λ _. require y 23 in_text q >>= λ _. ok t) ≡ and_then o (when (x && y))
has_compared at p q none x y = refl
has_compared at p q (some a) true true = refl
has_compared at p q (some a) true false = refl
has_compared at p q (some a) false y = refl

kept_typed : (o : Option Value) (b : Bool) → and_then (map ty_of o) (when b) ≡ map ty_of (and_then o (when b))
kept_typed none b = refl
kept_typed (some v) b = map_when ty_of b v

compared_typed : (at : ℕ) (c : Comparison) (l r : Tree) (a b : Value)
    → has_type (compared_type at c l r (ty_of a) (ty_of b))
    ≡ map ty_of (and_then (comparison_value c a b) (when (keeps_bits l (ty_of b) && keeps_bits r (ty_of a))))
compared_typed at c l r a b =
    let left = keeps_bits l (ty_of b) in
    let right = keeps_bits r (ty_of a) in
    has_compared at (place_of l) (place_of r) (comparison_type c (ty_of a) (ty_of b)) left right
    ∙ ap (λ o. and_then o (when (left && right))) (comparison_follows c a b)
    ∙ kept_typed (comparison_value c a b) (left && right)

pub values_have_types : ValuesHaveTypes
unfolding type_of value_of
values_have_types ks e covers (G.truth at b) = refl
values_have_types ks e covers (G.number at n) = refl
values_have_types ks e covers (G.key at w) = key_typed at (find ks w) (bare_type ks) (bare_value ks e) (key_follows ks e covers)
values_have_types ks e covers (G.field at w to f) =
    field_typed at to (find ks w) (λ k. and_then (field_named f) (λ g. field_type ks g k)) (λ k. and_then (field_named f) (λ g. field_value ks e g k))
    (λ k. go k (field_named f))
  where
    go : (k : ℕ) (o : Option Field) → and_then o (λ g. field_type ks g k) ≡ map ty_of (and_then o (λ g. field_value ks e g k))
    go k none = refl
    go k (some g) = field_value_follows ks e covers g k
values_have_types ks e covers (G.attribute at to f) =
    has_named to (when (same_bytes f (bytes "priority")) int) ∙ map_when ty_of (same_bytes f (bytes "priority")) (whole _)
values_have_types ks e covers (G.prefixed at o t) =
    operand_typed (type_of ks t) (value_of ks e t) _ (prefix_value o) (λ a. has_operator at (prefix_type o (ty_of a)) ∙ prefix_follows o a)
    (values_have_types ks e covers t)
values_have_types ks e covers (G.joined at o l r) =
    operand_typed (type_of ks l) (value_of ks e l) _ _
    (λ a.
    operand_typed (type_of ks r) (value_of ks e r) _ _
    (λ b. has_operator at (join_type (ty_of a) (ty_of b)) ∙ join_follows (connective o) a b)
    (values_have_types ks e covers r))
    (values_have_types ks e covers l)
values_have_types ks e covers (G.compared at c l r) =
    operand_typed (type_of ks l) (value_of ks e l) _ _
    (λ a.
    operand_typed (type_of ks r) (value_of ks e r) _ _
    (λ b. compared_typed at c l r a b)
    (values_have_types ks e covers r))
    (values_have_types ks e covers l)

-- a value of the type

of_type : (o : Option Value) (a : Ty) → some a ≡ map ty_of o → (v : Value) × (o ≡ some v) × (ty_of v ≡ a)
of_type none a h = absurd (some-ne-none a h)
of_type (some v) a h = (v, refl, sym (some-injective a (ty_of v) h))

pub typed_meant : TypedMeant
typed_meant ks e covers t a h =
    let v = of_type (value_of ks e t) a (sym (ap has_type h) ∙ values_have_types ks e covers t) in
    record { worth = v.0; there = v.1; type = v.2 }

pub bool_root : (t : Tree) (a : Ty) (u : Unit {0}) → root_type t a ≡ ok u → a ≡ bool
bool_root t bool u h = refl
bool_root t int u h = absurd (never_ok h)
bool_root t (of k w) u h = absurd (never_ok h)

a_truth : (v : Value) → ty_of v ≡ bool → (b : Bool) × (v ≡ truth b)
a_truth (truth b) h = (b, refl)
a_truth (whole z) h = absurd (let z : ◌≡◌ {A = ℕ} 0 1 = cc in omega arith)
a_truth (matched k w m) h = absurd (let z : ◌≡◌ {A = ℕ} 0 1 = cc in omega arith)

pub judged : Judged
unfolding typed
judged ks e covers t h =
    let root = bind_ok (type_of ks t) (root_type t) tt h in
    let v = typed_meant ks e covers t root.0 root.1 in
    let b = a_truth v.worth (v.type ∙ bool_root t root.0 tt root.2) in
    (b.0, v.there ∙ ap (λ x. some x) b.1)

-- a tree that is worth a bool on some entry is typed

has_type_lem : (x : Answer Ty) (a : Ty) → has_type x ≡ some a → x ≡ ok a
has_type_lem (ok b) a e = ap (λ (c : Ty). ok c) (some-injective b a e)
has_type_lem (refused n i at) a e = absurd (none-ne-some a e)

pub bool_typed : (ks : List Key) (e : Entry) → Covers ks e → (t : Tree) (b : Bool) → value_of ks e t ≡ some (truth b) → typed ks t ≡ ok tt
unfolding typed
bool_typed ks e covers t b worth =
    let is : type_of ks t ≡ ok bool = has_type_lem (type_of ks t) bool (values_have_types ks e covers t ∙ ap (map ty_of) worth) in
    rw is
