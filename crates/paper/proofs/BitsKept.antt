-- A comparison asks of its numbers after all that it asked before, so a tree has a type exactly when it had that type and no comparison in it
-- loses bits; else the first that loses some refuses with 23. A tree that has a type has its value of before, since the types of the operands
-- are those of their values, and what is asked of these is then true.
use Prim.Native.Nat.{ℕ, zero, suc, ◌+◌, ◌-◌, ◌%◌, ◌^◌, ◌≤◌, ◌<◌}
use native.Mathlib.Nat.{mod-eq_of_lt}
use native.Mathlib.Numerals.{unary_clauses}
use native.Mathlib.Omega.{arith}
use mathlib.Core.Path.{◌≡◌, refl, sym, ap, ◌∙◌}
use mathlib.Core.Logic.{◌↔◌, ◌⊎◌, inl, inr}
use mathlib.Core.Bool.{Bool, true, false, ◌&&◌}
use mathlib.Core.Option.{Option, none, some}
use mathlib.Core.List.{List}
use lib.IntN.{pos, negsuc}
use borrow.Author.Tests.{ltb-true}
use Rattle.paper.specs.Answers.{Answer, ok, refused, ◌>>=◌, require, in_text}
use Rattle.paper.specs.Numbers.{modulo}
use Rattle.paper.specs.Tokens.{Comparison}
use Rattle.paper.specs.Keys.{Key, keys}
use Rattle.paper.specs.Entry.{Entry, entry_of}
use Rattle.paper.specs.Grammar as G
use Rattle.paper.specs.Grammar.{Tree, place_of}
use Rattle.paper.specs.Types.{Ty, bool, int, when, and_then, prefix_type, join_type, compares, comparison_type, fits_in, keeps_bits, bits_kept, operator_type, compared_type, type_of, root_type, typed}
use Rattle.paper.specs.Meaning.{Value, ty_of, comparison_value, is_true, value_of}
use Rattle.paper.specs.Calls.{sized, tree, Restriction, restriction, judge_answer}
use Rattle.paper.specs.LoadedBlocksRun.{Covers}
use Rattle.paper.specs.BitsKept.{ComparisonRule, type_by, restriction_by, rule_before, value_before, judge_before, LosesNone, OnlyLostBits, BitsStand}
use Rattle.paper.proofs.Stages.{never_ok, ok_same, bind_ok, bind_again, require_ok}
use Rattle.paper.proofs.LoadedBlocksRun.{conforming}
use Rattle.paper.proofs.TypeSoundness.{typed_meant, bool_root}

-- a comparison

-- has no type but bool
is_bool : (at : ℕ) (c : Comparison) (a b x : Ty) → operator_type at (comparison_type c a b) ≡ ok x → comparison_type c a b ≡ some bool
is_bool at c a b x h = go (compares c a b) h
  where
    go : (s : Bool) → operator_type at (when s bool) ≡ ok x → when s bool ≡ some bool
    go true e = refl
    go false e = absurd (never_ok e)

module _ (at : ℕ) (c : Comparison) (l r : Tree) (a b : Ty) where
  record Kept (x : Ty) : Type 0 where
    suits : rule_before at c l r a b ≡ ok x
    left : keeps_bits l b ≡ true
    right : keeps_bits r a ≡ true

  kept_both : (x : Ty) → compared_type at c l r a b ≡ ok x → Kept x
  kept_both x h =
      let (y, suits, asks) = bind_ok (operator_type at (comparison_type c a b)) (λ t. bits_kept l b >>= λ _. bits_kept r a >>= λ _. ok t) x h in
      let (u, left, rest) = bind_ok (bits_kept l b) (λ _. bits_kept r a >>= λ _. ok y) x asks in
      let (v, right, same) = bind_ok (bits_kept r a) (λ _. ok y) x rest in
      record {
        suits = suits ∙ same;
        left = require_ok (keeps_bits l b) 23 in_text (place_of l) u left;
        right = require_ok (keeps_bits r a) 23 in_text (place_of r) v right;
      }

  compared_kept : (x : Ty) → Kept x → compared_type at c l r a b ≡ ok x
  compared_kept x k = rw (k.suits, k.left, k.right)

-- a tree: where it has the type that it had, and what it loses

-- an answer passes exactly when another does and something holds
abbrev ExactlyWith : {A : Type 0} → Type 0 → Answer A → Answer A → Type 0
ExactlyWith {A} Holds x y = (a : A) → (x ≡ ok a) ↔ ((y ≡ ok a) × Holds)

-- and so on, stage by stage
then_with : {A B : Type 0} (H K : Type 0) (x y : Answer A) (f g : A → Answer B) → ExactlyWith H x y
    → ((a : A) → y ≡ ok a → ExactlyWith K (f a) (g a)) → ExactlyWith (H × K) (x >>= f) (y >>= g)
then_with H K x y f g first next b = (there, back)
  where
    there : (x >>= f) ≡ ok b → ((y >>= g) ≡ ok b) × (H × K)
    there e =
        let (a, passed, rest) = bind_ok x f b e in
        let (before, h) = (first a).0 passed in
        let (later, k) = (next a before b).0 rest in
        (rw before later, (h, k))

    back : ((y >>= g) ≡ ok b) × (H × K) → (x >>= f) ≡ ok b
    back (e, (h, k)) =
        let (a, before, rest) = bind_ok y g b e in
        rw ((first a).1 (before, h)) ((next a before b).1 (rest, k))

then_same : {A B : Type 0} (H : Type 0) (x y : Answer A) (f : A → Answer B) → ExactlyWith H x y → ExactlyWith H (x >>= f) (y >>= f)
then_same H x y f first b = (there, back)
  where
    there : (x >>= f) ≡ ok b → ((y >>= f) ≡ ok b) × H
    there e =
        let (a, passed, rest) = bind_ok x f b e in
        let (before, h) = (first a).0 passed in
        (rw before rest, h)

    back : ((y >>= f) ≡ ok b) × H → (x >>= f) ≡ ok b
    back (e, h) =
        let (a, before, rest) = bind_ok y f b e in
        rw ((first a).1 (before, h)) rest

-- three things that hold are one and two
as_three : {A : Type 0} (H K M : Type 0) (x y : Answer A) → ExactlyWith (H × (K × M)) x y → ExactlyWith (H × K × M) x y
as_three H K M x y both a =
    let (there, back) = both a in
    (λ e. let (before, (h, (k, m))) = there e in (before, (h, k, m)), λ (before, (h, k, m)). back (before, (h, (k, m))))

always : {A : Type 0} (x : Answer A) → ExactlyWith (Unit {0}) x x
always x a = (λ e. (e, tt), λ h. h.0)

module _ (ks : List Key) where
  abbrev before : Tree → Answer Ty
  before t = type_by rule_before ks t

  -- what a comparison may lose
  abbrev KeepsBoth : Comparison → Tree → Tree → Type 0
  KeepsBoth c l r =
      (a b : Ty) → before l ≡ ok a → before r ≡ ok b → comparison_type c a b ≡ some bool
      → (keeps_bits l b ≡ true) × (keeps_bits r a ≡ true)

  comparison_with : (at : ℕ) (c : Comparison) (l r : Tree) (a b : Ty) → before l ≡ ok a → before r ≡ ok b
      → ExactlyWith (KeepsBoth c l r) (compared_type at c l r a b) (rule_before at c l r a b)
  comparison_with at c l r a b left right x = (there, back)
    where
      there : compared_type at c l r a b ≡ ok x → (rule_before at c l r a b ≡ ok x) × KeepsBoth c l r
      there e =
          let k = kept_both at c l r a b x e in (
            k.suits,
            λ a' b' left' right' _.
                (rw (ok_same b' b (sym right' ∙ right)) k.left, rw (ok_same a' a (sym left' ∙ left)) k.right),
          )

      back : (rule_before at c l r a b ≡ ok x) × KeepsBoth c l r → compared_type at c l r a b ≡ ok x
      back (suits, keeps) =
          let (l-keeps, r-keeps) = keeps a b left right (is_bool at c a b x suits) in
          compared_kept at c l r a b x (record { suits = suits; left = l-keeps; right = r-keeps })

  types_with : (t : Tree) → ExactlyWith (LosesNone ks t) (type_of ks t) (before t)
  unfolding type_of type_by
  types_with (G.truth at b) = always (ok bool)
  types_with (G.number at n) = always (ok int)
  types_with (G.key at w) = always (type_of ks (G.key at w))
  types_with (G.field at w to f) = always (type_of ks (G.field at w to f))
  types_with (G.attribute at to f) = always (type_of ks (G.attribute at to f))
  types_with (G.prefixed at o t) =
      then_same (LosesNone ks t) (type_of ks t) (before t) (λ a. operator_type at (prefix_type o a)) (types_with t)
  types_with (G.joined at o l r) =
      then_with (LosesNone ks l) (LosesNone ks r) (type_of ks l) (before l) _ _ (types_with l)
      (λ a _. then_same (LosesNone ks r) (type_of ks r) (before r) (λ b. operator_type at (join_type a b)) (types_with r))
  types_with (G.compared at c l r) =
      as_three (LosesNone ks l) (LosesNone ks r) (KeepsBoth c l r) _ _
      (then_with (LosesNone ks l) (LosesNone ks r × KeepsBoth c l r) (type_of ks l) (before l) _ _ (types_with l)
      (λ a left.
      then_with (LosesNone ks r) (KeepsBoth c l r) (type_of ks r) (before r) (compared_type at c l r a) (rule_before at c l r a) (types_with r)
      (λ b right. comparison_with at c l r a b left right)))

-- what is answered for a tree that had a type: it, or 23

abbrev Or23 : {A : Type 0} → Answer A → Answer A → Type 0
Or23 {A} x y = (a : A) → y ≡ ok a → (x ≡ ok a) ⊎ ((at : ℕ) × (x ≡ refused 23 in_text at))

then_or : {A B : Type 0} (x y : Answer A) (f g : A → Answer B) → Or23 x y → ((a : A) → Or23 (f a) (g a)) → Or23 (x >>= f) (y >>= g)
then_or {A} {B} x y f g first next b e =
    let (a, passed, rest) = bind_ok y g b e in
    go a rest (first a passed)
  where
    go : (a : A) → g a ≡ ok b → (x ≡ ok a) ⊎ ((at : ℕ) × (x ≡ refused 23 in_text at))
        → ((x >>= f) ≡ ok b) ⊎ ((at : ℕ) × ((x >>= f) ≡ refused 23 in_text at))
    go a rest (inl same) = rw same (next a b rest)
    go a rest (inr (at, lost)) = inr (at, rw lost)

itself : {A : Type 0} (x : Answer A) → Or23 x x
itself x a e = inl e

comparison_or : (at : ℕ) (c : Comparison) (l r : Tree) (a b : Ty) → Or23 (compared_type at c l r a b) (rule_before at c l r a b)
comparison_or at c l r a b x e = rw e (go (keeps_bits l b) (keeps_bits r a))
  where
    go : (s t : Bool)
        → ((require s 23 in_text (place_of l) >>= λ _. require t 23 in_text (place_of r) >>= λ _. ok x) ≡ ok x)
        ⊎ ((at : ℕ) × ((require s 23 in_text (place_of l) >>= λ _. require t 23 in_text (place_of r) >>= λ _. ok x) ≡ refused 23 in_text at))
    go true true = inl refl
    go true false = inr (place_of r, refl)
    go false t = inr (place_of l, refl)

module _ (ks : List Key) where
  types_or : (t : Tree) → Or23 (type_of ks t) (type_by rule_before ks t)
  unfolding type_of type_by
  types_or (G.truth at b) = itself (ok bool)
  types_or (G.number at n) = itself (ok int)
  types_or (G.key at w) = itself (type_of ks (G.key at w))
  types_or (G.field at w to f) = itself (type_of ks (G.field at w to f))
  types_or (G.attribute at to f) = itself (type_of ks (G.attribute at to f))
  types_or (G.prefixed at o t) = then_or _ _ _ _ (types_or t) (λ a. itself (operator_type at (prefix_type o a)))
  types_or (G.joined at o l r) =
      then_or _ _ _ _ (types_or l) (λ a. then_or _ _ _ _ (types_or r) (λ b. itself (operator_type at (join_type a b))))
  types_or (G.compared at c l r) = then_or _ _ _ _ (types_or l) (λ a. then_or _ _ _ _ (types_or r) (λ b. comparison_or at c l r a b))

-- the stages of a text and a list, with a way to type trees

abbrev Typing : Type 0
Typing = List Key → Tree → Answer Ty

-- what they pass with
abbrev both : List Key → Tree → Restriction
both ks t = record { keys = ks; root = t }

abbrev stages : Typing → List ℕ → List ℕ → Answer Restriction
stages type text list =
    sized text
    >>= λ _. keys list
    >>= λ ks. tree text
    >>= λ t. type ks t
    >>= λ a. root_type t a
    >>= λ _. ok (both ks t)

now : (text list : List ℕ) → restriction text list ≡ stages type_of text list
unfolding restriction typed
now text list = go (sized text) (keys list) (tree text)
  where
    one : (ks : List Key) (t : Tree)
        → (typed ks t >>= λ _. ok (both ks t)) ≡ (type_of ks t >>= λ a. root_type t a >>= λ _. ok (both ks t))
    one ks t = bind_again (type_of ks t) (root_type t) (λ _. ok (both ks t))

    go : (u : Answer (Unit {0})) (x : Answer (List Key)) (y : Answer Tree)
        → (u >>= λ _. x >>= λ ks. y >>= λ t. typed ks t >>= λ _. ok (both ks t))
        ≡ (u >>= λ _. x >>= λ ks. y >>= λ t. type_of ks t >>= λ a. root_type t a >>= λ _. ok (both ks t))
    go (refused n i at) x y = refl
    go (ok _) (refused n i at) y = refl
    go (ok _) (ok ks) (refused n i at) = refl
    go (ok _) (ok ks) (ok t) = one ks t

by_rule : (rule : ComparisonRule) (text list : List ℕ) → restriction_by rule text list ≡ stages (type_by rule) text list
unfolding restriction_by
by_rule rule text list = refl

record Passed (type : Typing) (text list : List ℕ) (r : Restriction) : Type 0 where
  short : sized text ≡ ok tt
  listed : keys list ≡ ok r.keys
  read : tree text ≡ ok r.root
  a_bool : type r.keys r.root ≡ ok bool

module _ (type : Typing) (text list : List ℕ) (r : Restriction) where
  passed : stages type text list ≡ ok r → Passed type text list r
  passed h = go (sized text) (keys list) (tree text) refl refl refl h
    where
      typed_too : (ks : List Key) (t : Tree) (a : Ty) → sized text ≡ ok tt → keys list ≡ ok ks → tree text ≡ ok t → type ks t ≡ ok a
          → (root_type t a >>= λ _. ok (both ks t)) ≡ ok r → Passed type text list r
      typed_too ks t a s k p q e =
          let (u, root, same) = bind_ok (root_type t a) (λ _. ok (both ks t)) r e in
          let is = ok_same (both ks t) r same in
          rw (← is) (record { short = s; listed = k; read = p; a_bool = q ∙ ap ok (bool_root t a u root) })

      go : (u : Answer (Unit {0})) (x : Answer (List Key)) (y : Answer Tree) → sized text ≡ u → keys list ≡ x → tree text ≡ y
          → (u >>= λ _. x >>= λ ks. y >>= λ t. type ks t >>= λ a. root_type t a >>= λ _. ok (both ks t)) ≡ ok r
          → Passed type text list r
      go (refused n i at) x y s k p e = absurd (never_ok e)
      go (ok _) (refused n i at) y s k p e = absurd (never_ok e)
      go (ok _) (ok ks) (refused n i at) s k p e = absurd (never_ok e)
      go (ok _) (ok ks) (ok t) s k p e =
          let (a, q, rest) = bind_ok (type ks t) (λ a. root_type t a >>= λ _. ok (both ks t)) r e in
          typed_too ks t a s k p q rest

  passed_back : Passed type text list r → stages type text list ≡ ok r
  passed_back p = rw (p.short, p.listed, p.read, p.a_bool)

-- a text

passes : (text list : List ℕ) (r : Restriction)
    → (restriction text list ≡ ok r) ↔ ((restriction_by rule_before text list ≡ ok r) × LosesNone r.keys r.root)
passes text list r = (there, back)
  where
    type : (type_of r.keys r.root ≡ ok bool) ↔ ((type_by rule_before r.keys r.root ≡ ok bool) × LosesNone r.keys r.root)
    type = types_with r.keys r.root bool

    there : restriction text list ≡ ok r → (restriction_by rule_before text list ≡ ok r) × LosesNone r.keys r.root
    there h =
        let p = passed type_of text list r (sym (now text list) ∙ h) in
        let (a_bool, none_lost) = type.0 p.a_bool in
        let q : Passed (type_by rule_before) text list r = record { short = p.short; listed = p.listed; read = p.read; a_bool = a_bool } in
        (by_rule rule_before text list ∙ passed_back (type_by rule_before) text list r q, none_lost)

    back : (restriction_by rule_before text list ≡ ok r) × LosesNone r.keys r.root → restriction text list ≡ ok r
    back (h, none_lost) =
        let p = passed (type_by rule_before) text list r (sym (by_rule rule_before text list) ∙ h) in
        let q : Passed type_of text list r =
        record { short = p.short; listed = p.listed; read = p.read; a_bool = type.1 (p.a_bool, none_lost) }
        in
        now text list ∙ passed_back type_of text list r q

refuses : (text list : List ℕ) (r : Restriction) → restriction_by rule_before text list ≡ ok r
    → (restriction text list ≡ ok r) ⊎ ((at : ℕ) × (restriction text list ≡ refused 23 in_text at))
refuses text list r h = go (types_or r.keys r.root bool p.a_bool)
  where
    p : Passed (type_by rule_before) text list r
    p = passed (type_by rule_before) text list r (sym (by_rule rule_before text list) ∙ h)

    go : (type_of r.keys r.root ≡ ok bool) ⊎ ((at : ℕ) × (type_of r.keys r.root ≡ refused 23 in_text at))
        → (restriction text list ≡ ok r) ⊎ ((at : ℕ) × (restriction text list ≡ refused 23 in_text at))
    go (inl e) = inl (now text list ∙ rw (p.short, p.listed, p.read, e))
    go (inr (at, e)) = inr (at, now text list ∙ rw (p.short, p.listed, p.read, e))

-- values

kept_stays : (o : Option Value) (s t : Bool) → s ≡ true → t ≡ true → and_then o (when (s && t)) ≡ o
kept_stays none s t left right = refl
kept_stays (some v) s t left right = rw (left, right)

module _ (ks : List Key) (e : Entry) (covers : Covers ks e) where
  same_value : (t : Tree) (x : Ty) → type_of ks t ≡ ok x → value_of ks e t ≡ value_before ks e t
  unfolding type_of value_of value_before
  same_value (G.truth at b) x h = refl
  same_value (G.number at n) x h = refl
  same_value (G.key at w) x h = refl
  same_value (G.field at w to f) x h = refl
  same_value (G.attribute at to f) x h = refl
  same_value (G.prefixed at o t) x h =
      let (a, typed, _) = bind_ok (type_of ks t) (λ a. operator_type at (prefix_type o a)) x h in
      rw (same_value t a typed)
  same_value (G.joined at o l r) x h =
      let (a, left, rest) = bind_ok (type_of ks l) (λ a. type_of ks r >>= λ b. operator_type at (join_type a b)) x h in
      let (b, right, _) = bind_ok (type_of ks r) (λ b. operator_type at (join_type a b)) x rest in
      rw (same_value l a left, same_value r b right)
  same_value (G.compared at c l r) x h =
      let (a, left, rest) = bind_ok (type_of ks l) (λ a. type_of ks r >>= λ b. compared_type at c l r a b) x h in
      let (b, right, told) = bind_ok (type_of ks r) (λ b. compared_type at c l r a b) x rest in
      let kept = kept_both at c l r a b x told in
      let v = typed_meant ks e covers l a left in
      let w = typed_meant ks e covers r b right in
      let holds-left : keeps_bits l (ty_of w.worth) ≡ true = rw w.type kept.left in
      let holds-right : keeps_bits r (ty_of v.worth) ≡ true = rw v.type kept.right in
      rw (← same_value l a left, ← same_value r b right, v.there, w.there)
      (kept_stays (comparison_value c v.worth w.worth) _ _ holds-left holds-right)

module _ (text list entry : List ℕ) (r : Restriction) (h : restriction text list ≡ ok r) where
  -- what an entry is answered, with a way to value trees
  abbrev verdict : (List Key → Entry → Tree → Option Value) → Restriction → Answer Bool
  verdict value s = entry_of s.keys entry >>= λ e. ok (is_true (value s.keys e s.root))

  same_verdict : verdict value_of r ≡ verdict value_before r
  same_verdict = go (entry_of r.keys entry) refl
    where
      type : type_of r.keys r.root ≡ ok bool
      type = (passed type_of text list r (sym (now text list) ∙ h)).a_bool

      go : (a : Answer Entry) → entry_of r.keys entry ≡ a
          → (a >>= λ e. ok (is_true (value_of r.keys e r.root))) ≡ (a >>= λ e. ok (is_true (value_before r.keys e r.root)))
      go (ok e) conforms = rw (same_value r.keys e (conforming r.keys entry e conforms) r.root bool type)
      go (refused n i at) conforms = refl

  judged : judge_answer text list entry ≡ judge_before text list entry
  unfolding judge_answer judge_before
  judged =
      ap (λ (a : Answer Restriction). a >>= verdict value_of) h
      ∙ same_verdict
      ∙ ap (λ (a : Answer Restriction). a >>= verdict value_before) (sym ((passes text list r).0 h).0)

pub only_lost_bits : OnlyLostBits
only_lost_bits = record { types = types_with; passes = passes; refuses = refuses; judged = judged }

-- the range

itself_stands : (w n : ℕ) → fits_in w (pos n) ≡ true → modulo (pos n) (2 ^ w) ≡ n
itself_stands w n h = mod-eq_of_lt (ltb-true n (2 ^ w) h)

-- of a half, and the whole that is twice that
from_whole : (half whole n : ℕ) → whole ≡ half + half → n < half
    → (modulo (negsuc n) whole + suc n ≡ whole) × (half ≤ modulo (negsuc n) whole)
from_whole half whole n twice l =
    let below : suc n % whole ≡ suc n = mod-eq_of_lt (omega arith) in
    let rest : modulo (negsuc n) whole ≡ whole - suc n = rw below (mod-eq_of_lt (omega arith)) in
    rw rest (omega arith, omega arith)

doubled : (w : ℕ) → 1 ≤ w → 2 ^ w ≡ 2 ^ (w - 1) + 2 ^ (w - 1)
doubled zero least = absurd (omega arith)
doubled (suc w) least = simp unary_clauses (omega arith)

below_zero_stands : (w n : ℕ) → 1 ≤ w → fits_in w (negsuc n) ≡ true
    → (modulo (negsuc n) (2 ^ w) + suc n ≡ 2 ^ w) × (2 ^ (w - 1) ≤ modulo (negsuc n) (2 ^ w))
below_zero_stands w n least h = from_whole (2 ^ (w - 1)) (2 ^ w) n (doubled w least) (ltb-true n (2 ^ (w - 1)) h)

pub bits_stand : BitsStand
bits_stand = record { itself = itself_stands; below_zero = below_zero_stands }
