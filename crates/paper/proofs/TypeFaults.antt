-- Refusals 11 to 14 and 23 by the table. "Operands are typed left, right, then the operator": so the earliest place wins. Number 23 stands
-- at an operand, but only where both operands have types: then no other fault lies inside them, and the left one's place comes first.
use Prim.Native.Nat.{ℕ, suc, ◌+◌, ◌<◌}
use native.Mathlib.Nat.{add-zero}
use native.Mathlib.Omega.{arith}
use mathlib.Core.Path.{◌≡◌, refl, sym, ap, subst, ◌∙◌}
use mathlib.Core.Logic.{◌≢◌, ◌⊎◌, inl, inr}
use mathlib.Core.Bool.{Bool, true, false, cond, true≢false}
use mathlib.Core.Option.{Option, none, some, map, none-ne-some, some-injective}
use mathlib.Core.List.{List, [], ◌∷◌}
use lib.ListN.{get_elem?}
use Rattle.paper.specs.Answers.{Input, in_text, Answer, ok, refused, ◌>>=◌, require}
use Rattle.paper.specs.Tokens.{bytes, same_bytes, Join, Comparison}
use Rattle.paper.specs.Keys.{Kind, Key, find_from, find, keys}
use Rattle.paper.specs.Grammar.{Tree, truth, number, key, field, attribute, prefixed, joined, compared, place_of}
use Rattle.paper.specs.Places.{Everywhere}
use Rattle.paper.specs.Types.{Ty, bool, int, of, when, and_then, field_named, field_type, bare_type, prefix_type, join_type, compares, comparison_type, keeps_bits, operator_type, compared_type, known, named_type, type_of, root_type, typed}
use Rattle.paper.specs.Calls.{tree}
use Rattle.paper.specs.Faults.{Faults, TreeTypes, key_unknown, key_of_field_unknown, field_unknown, attribute_unknown, prefix_wrong, join_wrong, comparison_wrong, left_loses_bits, right_loses_bits, in_operand, join_left, join_right, comparison_left, comparison_right, RootType, not_bool}
use Rattle.paper.specs.Table.{Sooner, Wins, Free, stage, Given, type_stages}
use Rattle.paper.proofs.Stages.{never_ok, ok_same}
use Rattle.paper.proofs.Words.{same_bytes_lem, not_bytes}
use Rattle.paper.proofs.StagesInOrder.{only_wins, Tells, given_tells, Follows, follows_one, follows_then}
use Rattle.paper.proofs.InOrder.{InOrder, root_place, text_in_order}

-- a key that is found has a type

record FoundAt (ks : List Key) (w : List ℕ) (m k : ℕ) : Type 0 where
  index : ℕ
  it : Key
  far : k ≡ m + index
  there : get_elem? ks index ≡ some it
  named : it.name ≡ w

found_there : (ks : List Key) (w : List ℕ) (m k : ℕ) → find_from m ks w ≡ some k → FoundAt ks w m k
found_there [] w m k h = absurd (none-ne-some k h)
found_there (x ∷ ks) w m k h = go (same_bytes x.name w) refl h (found_there ks w (suc m) k)
  where
    go : (b : Bool) → same_bytes x.name w ≡ b → cond b (some m) (find_from (suc m) ks w) ≡ some k
        → (find_from (suc m) ks w ≡ some k → FoundAt ks w (suc m) k) → FoundAt (x ∷ ks) w m k
    go true e h later =
        record {
          index = 0;
          it = x;
          far = sym (some-injective m k h) ∙ sym (add-zero m);
          there = refl;
          named = same_bytes_lem x.name w e;
        }
    go false e h later =
        let f = later h in
        record { index = suc f.index; it = f.it; far = omega (arith, f.far); there = f.there; named = f.named }

pub key_found : (ks : List Key) (w : List ℕ) (k : ℕ) → find ks w ≡ some k → (x : Key) × (get_elem? ks k ≡ some x) × (x.name ≡ w)
key_found ks w k h =
    let f = found_there ks w 0 k h in
    let same : k ≡ f.index = omega (arith, f.far) in
    (f.it, ap (get_elem? ks) same ∙ f.there, f.named)

pub bare_found : (ks : List Key) (w : List ℕ) (k : ℕ) → find ks w ≡ some k → (a : Ty) × (bare_type ks k ≡ some a)
bare_found ks w k h =
    let (x, there, _) = key_found ks w k h in
    (of x.kind x.width, ap (map (λ (x : Key). of x.kind x.width)) there)

-- what is known of a tree with a fault

-- the faults of an operator itself, by the types of its operands
data JoinFaults (at : ℕ) (a b : Ty) : ℕ → ℕ → Type 0 where
  unjoined : join_type a b ≡ none → JoinFaults at a b 13 at

data ComparisonFaults (at : ℕ) (c : Comparison) (l r : Tree) (a b : Ty) : ℕ → ℕ → Type 0 where
  unsuited : comparison_type c a b ≡ none → ComparisonFaults at c l r a b 13 at
  left_loses : comparison_type c a b ≡ some bool → keeps_bits l b ≡ false → ComparisonFaults at c l r a b 23 (place_of l)
  right_loses : comparison_type c a b ≡ some bool → keeps_bits r a ≡ false → ComparisonFaults at c l r a b 23 (place_of r)

-- "An operator is judged only when its operands have types."
abbrev Operator : (Ty → Ty → Faults) → Answer Ty → Answer Ty → Faults
Operator Own x y n to = (a b : Ty) × (x ≡ ok a) × (y ≡ ok b) × Own a b n to

module _ (ks : List Key) where
  abbrev FaultTells : Tree → ℕ → ℕ → Type 0
  FaultTells (truth at b) n to = ⊥
  FaultTells (number at m) n to = ⊥
  FaultTells (key at w) n to = (n ≡ 11) × (to ≡ at) × (find ks w ≡ none)
  FaultTells (field at w past f) n to =
      ((n ≡ 11) × (to ≡ at) × (find ks w ≡ none))
      ⊎ ((k : ℕ) × (n ≡ 12) × (to ≡ past) × (find ks w ≡ some k) × (and_then (field_named f) (λ g. field_type ks g k) ≡ none))
  FaultTells (attribute at past f) n to = (n ≡ 12) × (to ≡ past) × (f ≢ bytes "priority")
  FaultTells (prefixed at o t) n to =
      ((a : Ty) × (n ≡ 13) × (to ≡ at) × (type_of ks t ≡ ok a) × (prefix_type o a ≡ none)) ⊎ TreeTypes ks t n to
  FaultTells (joined at o l r) n to = Operator (JoinFaults at) (type_of ks l) (type_of ks r) n to ⊎ (TreeTypes ks l n to ⊎ TreeTypes ks r n to)
  FaultTells (compared at c l r) n to =
      Operator (ComparisonFaults at c l r) (type_of ks l) (type_of ks r) n to ⊎ (TreeTypes ks l n to ⊎ TreeTypes ks r n to)

  fault_tells : (t : Tree) (n to : ℕ) → TreeTypes ks t n to → FaultTells t n to
  fault_tells t n to (key_unknown at e) = (refl, refl, e)
  fault_tells t n to (key_of_field_unknown at past e) = inl (refl, refl, e)
  fault_tells t n to (field_unknown at past k e h) = inr (k, refl, refl, e, h)
  fault_tells t n to (attribute_unknown at past d) = (refl, refl, d)
  fault_tells t n to (prefix_wrong at o a e h) = inl (a, refl, refl, e, h)
  fault_tells t n to (join_wrong at o a b d e h) = inl (a, b, d, e, unjoined h)
  fault_tells t n to (comparison_wrong at c a b d e h) = inl (a, b, d, e, unsuited h)
  fault_tells t n to (left_loses_bits at c a b d e h k) = inl (a, b, d, e, left_loses h k)
  fault_tells t n to (right_loses_bits at c a b d e h k) = inl (a, b, d, e, right_loses h k)
  fault_tells t n to (in_operand at o h) = inr h
  fault_tells t n to (join_left at o h) = inr (inl h)
  fault_tells t n to (join_right at o h) = inr (inr h)
  fault_tells t n to (comparison_left at c h) = inr (inl h)
  fault_tells t n to (comparison_right at c h) = inr (inr h)

  -- a fault stands at one of the tree's places
  pub placed : (P : ℕ → Type 0) (t : Tree) (n to : ℕ) → TreeTypes ks t n to → Everywhere P t → P to
  placed P t n to (key_unknown at e) p = p
  placed P t n to (key_of_field_unknown at past e) p = p.0
  placed P t n to (field_unknown at past k e h) p = p.1
  placed P t n to (attribute_unknown at past d) p = p.1
  placed P t n to (prefix_wrong at o a e h) p = p.0
  placed P t n to (join_wrong at o a b d e h) p = p.0
  placed P t n to (comparison_wrong at c a b d e h) p = p.0
  placed P t n to (left_loses_bits {l = l} at c a b d e h k) p = root_place P l p.1
  placed P t n to (right_loses_bits {r = r} at c a b d e h k) p = root_place P r p.2
  placed P t n to (in_operand {t = s} at o h) p = placed P s n to h p.1
  placed P t n to (join_left {l = l} at o h) p = placed P l n to h p.1
  placed P t n to (join_right {r = r} at o h) p = placed P r n to h p.2
  placed P t n to (comparison_left {l = l} at c h) p = placed P l n to h p.1
  placed P t n to (comparison_right {r = r} at c h) p = placed P r n to h p.2

  apart : (l r : Tree) → Everywhere (λ p. Everywhere (λ q. p < q) r) l → (n p m q : ℕ) → TreeTypes ks l n p → TreeTypes ks r m q → p < q
  apart l r h n p m q a b = placed (λ q. p < q) r m q b (placed (λ p. Everywhere (λ q. p < q) r) l n p a h)

-- an operator over two operands

same_ok : {A : Type 0} (x : Answer A) (a b : A) → x ≡ ok a → x ≡ ok b → a ≡ b
same_ok x a b d e = ok_same a b (sym d ∙ e)

-- `say` answers for it where both have types, and tells of its own faults
module _ (L R F : Faults) (Own : Ty → Ty → Faults) (say : Ty → Ty → Answer Ty) (x y : Answer Ty)
    (itself : (a b : Ty) → Tells in_text (Own a b) (say a b)) (own : (a b : Ty) (n to : ℕ) → x ≡ ok a → y ≡ ok b → Own a b n to → F n to)
    (left : (n to : ℕ) → L n to → F n to) (right : (n to : ℕ) → R n to → F n to)
    (whence : (n to : ℕ) → F n to → Operator Own x y n to ⊎ (L n to ⊎ R n to)) (order : (n p m q : ℕ) → L n p → R m q → p < q) where
  left_wins : (n : ℕ) (j : Input) (p : ℕ) → x ≡ refused n j p → Wins L n p → Wins F n p
  left_wins n j p e h = record { fault = left n p h.fault; first = λ m q f. go m q (whence m q f) }
    where
      go : (m q : ℕ) → Operator Own x y m q ⊎ (L m q ⊎ R m q) → Sooner n p m q
      go m q (inl (a, b, passed, _, _)) = absurd (never_ok (sym e ∙ passed))
      go m q (inr (inl f)) = h.first m q f
      go m q (inr (inr f)) = inl (order n p m q h.fault f)

  right_wins : (n : ℕ) (j : Input) (p : ℕ) → Free L → y ≡ refused n j p → Wins R n p → Wins F n p
  right_wins n j p none_left e h = record { fault = right n p h.fault; first = λ m q f. go m q (whence m q f) }
    where
      go : (m q : ℕ) → Operator Own x y m q ⊎ (L m q ⊎ R m q) → Sooner n p m q
      go m q (inl (a, b, _, passed, _)) = absurd (never_ok (sym e ∙ passed))
      go m q (inr (inl f)) = absurd (none_left m q f)
      go m q (inr (inr f)) = h.first m q f

  -- where neither operand has a fault, all are the operator's own
  module _ (a b : Ty) (d : x ≡ ok a) (e : y ≡ ok b) (none_left : Free L) (none_right : Free R) where
    own_only : (m q : ℕ) → F m q → Own a b m q
    own_only m q f = go (whence m q f)
      where
        go : Operator Own x y m q ⊎ (L m q ⊎ R m q) → Own a b m q
        go (inl (a', b', d', e', h)) =
            subst (λ t. Own t b m q) (same_ok x a' a d' d) (subst (λ t. Own a' t m q) (same_ok y b' b e' e) h)
        go (inr (inl h)) = absurd (none_left m q h)
        go (inr (inr h)) = absurd (none_right m q h)

    own_tells : (v : Answer Ty) → Tells in_text (Own a b) v → Tells in_text F v
    own_tells (ok t) free = λ m q f. free m q (own_only m q f)
    own_tells (refused n j p) (same, wins) =
        (same, record { fault = own a b n p d e wins.fault; first = λ m q f. wins.first m q (own_only m q f) })

  operator_tells : Tells in_text L x → Tells in_text R y → Tells in_text F (x >>= λ a. y >>= λ b. say a b)
  operator_tells l r = first x refl l
    where
      second : (a : Ty) → x ≡ ok a → Free L → (v : Answer Ty) → y ≡ v → Tells in_text R v → Tells in_text F (v >>= λ b. say a b)
      second a d none_left (ok b) e h = own_tells a b d e none_left h (say a b) (itself a b)
      second a d none_left (refused n j p) e h = (h.0, right_wins n j p none_left e h.1)

      first : (v : Answer Ty) → x ≡ v → Tells in_text L v → Tells in_text F (v >>= λ a. y >>= λ b. say a b)
      first (ok a) e h = second a e h y refl r
      first (refused n j p) e h = (h.0, left_wins n j p e h.1)

-- a join itself
join_tells : (at : ℕ) (a b : Ty) → Tells in_text (JoinFaults at a b) (operator_type at (join_type a b))
join_tells at a b = go (join_type a b) refl
  where
    only : (m q : ℕ) → JoinFaults at a b m q → (m ≡ 13) × (q ≡ at)
    only m q (unjoined h) = (refl, refl)

    free : (t : Ty) → join_type a b ≡ some t → (m q : ℕ) → JoinFaults at a b m q → ⊥
    free t there m q (unjoined h) = none-ne-some t (sym h ∙ there)

    go : (o : Option Ty) → join_type a b ≡ o → Tells in_text (JoinFaults at a b) (operator_type at o)
    go none h = (refl, only_wins (unjoined h) only)
    go (some t) h = free t h

-- a comparison itself: the left operand is looked at first, and its place comes first
module _ (at : ℕ) (c : Comparison) (l r : Tree) (before : place_of l < place_of r) (a b : Ty) where
  abbrev Own : Faults
  Own = ComparisonFaults at c l r a b

  has_type_lem : {s : Bool} → compares c a b ≡ s → comparison_type c a b ≡ when s bool
  has_type_lem h = ap (λ u. when u bool) h

  unsuited_only : compares c a b ≡ false → (m q : ℕ) → Own m q → (m ≡ 13) × (q ≡ at)
  unsuited_only unlike m q (unsuited h) = (refl, refl)
  unsuited_only unlike m q (left_loses h k) = absurd (none-ne-some bool (sym (has_type_lem unlike) ∙ h))
  unsuited_only unlike m q (right_loses h k) = absurd (none-ne-some bool (sym (has_type_lem unlike) ∙ h))

  left_first : compares c a b ≡ true → (m q : ℕ) → Own m q → Sooner 23 (place_of l) m q
  left_first suits m q (unsuited h) = absurd (none-ne-some bool (sym h ∙ has_type_lem suits))
  left_first suits m q (left_loses h k) = inr (refl, omega arith)
  left_first suits m q (right_loses h k) = inl before

  right_only : compares c a b ≡ true → keeps_bits l b ≡ true → (m q : ℕ) → Own m q → (m ≡ 23) × (q ≡ place_of r)
  right_only suits kept m q (unsuited h) = absurd (none-ne-some bool (sym h ∙ has_type_lem suits))
  right_only suits kept m q (left_loses h k) = absurd (true≢false (sym kept ∙ k))
  right_only suits kept m q (right_loses h k) = (refl, refl)

  none_lost : compares c a b ≡ true → keeps_bits l b ≡ true → keeps_bits r a ≡ true → Free Own
  none_lost suits kept too m q (unsuited h) = none-ne-some bool (sym h ∙ has_type_lem suits)
  none_lost suits kept too m q (left_loses h k) = true≢false (sym kept ∙ k)
  none_lost suits kept too m q (right_loses h k) = true≢false (sym too ∙ k)

  comparison_tells : Tells in_text Own (compared_type at c l r a b)
  comparison_tells = go (compares c a b) refl (keeps_bits l b) refl (keeps_bits r a) refl
    where
      go : (s : Bool) → compares c a b ≡ s → (x : Bool) → keeps_bits l b ≡ x → (y : Bool) → keeps_bits r a ≡ y
          → Tells in_text Own
          (operator_type at (when s bool) >>= λ t. require x 23 in_text (place_of l) >>= λ _. require y 23 in_text (place_of r) >>= λ _. ok t)
      go false h x d y e = (refl, only_wins (unsuited (has_type_lem h)) (unsuited_only h))
      go true h false d y e = (refl, record { fault = left_loses (has_type_lem h) d; first = left_first h })
      go true h true d false e = (refl, only_wins (right_loses (has_type_lem h) e) (right_only h d))
      go true h true d true e = none_lost h d e

-- an operator over one operand
module _ (L F : Faults) (at : ℕ) (op : Ty → Option Ty) (x : Answer Ty) (wrong : (a : Ty) → x ≡ ok a → op a ≡ none → F 13 at)
    (inner : (n to : ℕ) → L n to → F n to)
    (whence : (n to : ℕ) → F n to → ((a : Ty) × (n ≡ 13) × (to ≡ at) × (x ≡ ok a) × (op a ≡ none)) ⊎ L n to) where
  abbrev Whence : ℕ → ℕ → Type 0
  Whence n to = ((a : Ty) × (n ≡ 13) × (to ≡ at) × (x ≡ ok a) × (op a ≡ none)) ⊎ L n to

  inner_wins : (n : ℕ) (j : Input) (p : ℕ) → x ≡ refused n j p → Wins L n p → Wins F n p
  inner_wins n j p e h = record { fault = inner n p h.fault; first = λ m q f. go m q (whence m q f) }
    where
      go : (m q : ℕ) → Whence m q → Sooner n p m q
      go m q (inl (a, _, _, passed, _)) = absurd (never_ok (sym e ∙ passed))
      go m q (inr f) = h.first m q f

  outer_only : Free L → (m q : ℕ) → Whence m q → (m ≡ 13) × (q ≡ at)
  outer_only none_inside m q (inl (a, d, e, _, _)) = (d, e)
  outer_only none_inside m q (inr f) = absurd (none_inside m q f)

  outer_free : (a c : Ty) → x ≡ ok a → op a ≡ some c → Free L → (m q : ℕ) → Whence m q → ⊥
  outer_free a c d h none_inside m q (inl (b, _, _, e, g)) = none-ne-some c (sym g ∙ ap op (same_ok x b a e d) ∙ h)
  outer_free a c d h none_inside m q (inr f) = none_inside m q f

  prefix_tells : Tells in_text L x → Tells in_text F (x >>= λ a. operator_type at (op a))
  prefix_tells l = first x refl l
    where
      second : (a : Ty) → x ≡ ok a → Free L → (o : Option Ty) → op a ≡ o → Tells in_text F (operator_type at o)
      second a d none_inside none h = (refl, only_wins (wrong a d h) (λ m q f. outer_only none_inside m q (whence m q f)))
      second a d none_inside (some c) h = λ m q f. outer_free a c d h none_inside m q (whence m q f)

      first : (v : Answer Ty) → x ≡ v → Tells in_text L v → Tells in_text F (v >>= λ a. operator_type at (op a))
      first (ok a) e h = second a e h (op a) refl
      first (refused n j p) e h = (h.0, inner_wins n j p e h.1)

-- trees

module _ (ks : List Key) where
  key_tells : (at : ℕ) (w : List ℕ) (o : Option ℕ) → find ks w ≡ o
      → Tells in_text (TreeTypes ks (key at w)) (known at (and_then o (bare_type ks)))
  key_tells at w none e =
      (refl, only_wins (key_unknown at e) (λ m q f. let (d, h, _) = fault_tells ks (key at w) m q f in (d, h)))
  key_tells at w (some k) e =
      let (a, there) = bare_found ks w k e in
      subst (λ o. Tells in_text (TreeTypes ks (key at w)) (known at o)) (sym there)
      (λ m q f. let (_, _, missing) = fault_tells ks (key at w) m q f in none-ne-some k (sym missing ∙ e))

  module _ (at : ℕ) (w : List ℕ) (past : ℕ) (f : List ℕ) where
    abbrev F : Faults
    F = TreeTypes ks (field at w past f)

    abbrev field_has : ℕ → Option Ty
    field_has k = and_then (field_named f) (λ g. field_type ks g k)

    unknown_only : find ks w ≡ none → (m q : ℕ) → FaultTells ks (field at w past f) m q → (m ≡ 11) × (q ≡ at)
    unknown_only e m q (inl (d, h, _)) = (d, h)
    unknown_only e m q (inr (k, _, _, found, _)) = absurd (none-ne-some k (sym e ∙ found))

    field_only : (k : ℕ) → find ks w ≡ some k → (m q : ℕ) → FaultTells ks (field at w past f) m q → (m ≡ 12) × (q ≡ past)
    field_only k e m q (inl (_, _, missing)) = absurd (none-ne-some k (sym missing ∙ e))
    field_only k e m q (inr (j, d, h, _, _)) = (d, h)

    field_free : (k : ℕ) (a : Ty) → find ks w ≡ some k → field_has k ≡ some a → (m q : ℕ) → FaultTells ks (field at w past f) m q → ⊥
    field_free k a e there m q (inl (_, _, missing)) = none-ne-some k (sym missing ∙ e)
    field_free k a e there m q (inr (j, _, _, found, nothing)) =
        let same : j ≡ k = some-injective j k (sym found ∙ e) in
        none-ne-some a (sym nothing ∙ ap field_has same ∙ there)

    field_tells : (o : Option ℕ) → find ks w ≡ o → Tells in_text F (known at o >>= λ k. named_type past (field_has k))
    field_tells none e =
        (refl, only_wins (key_of_field_unknown at past e) (λ m q h. unknown_only e m q (fault_tells ks (field at w past f) m q h)))
    field_tells (some k) e = go (field_has k) refl
      where
        go : (o : Option Ty) → field_has k ≡ o → Tells in_text F (named_type past o)
        go none h = (refl, only_wins (field_unknown at past k e h) (λ m q g. field_only k e m q (fault_tells ks (field at w past f) m q g)))
        go (some a) h = λ m q g. field_free k a e h m q (fault_tells ks (field at w past f) m q g)

  attribute_tells : (at past : ℕ) (f : List ℕ) (b : Bool) → same_bytes f (bytes "priority") ≡ b
      → Tells in_text (TreeTypes ks (attribute at past f)) (named_type past (when b int))
  attribute_tells at past f true e =
      λ m q h. let (_, _, other) = fault_tells ks (attribute at past f) m q h in other (same_bytes_lem f (bytes "priority") e)
  attribute_tells at past f false e =
      let other = attribute_unknown at past (not_bytes f (bytes "priority") e) in
      (refl, only_wins other (λ m q h. let (d, g, _) = fault_tells ks (attribute at past f) m q h in (d, g)))

  join_fault : (at : ℕ) (o : Join) (l r : Tree) (a b : Ty) (n to : ℕ) → type_of ks l ≡ ok a → type_of ks r ≡ ok b → JoinFaults at a b n to
      → TreeTypes ks (joined at o l r) n to
  join_fault at o l r a b n to d e (unjoined h) = join_wrong at o a b d e h

  comparison_fault : (at : ℕ) (c : Comparison) (l r : Tree) (a b : Ty) (n to : ℕ) → type_of ks l ≡ ok a → type_of ks r ≡ ok b
      → ComparisonFaults at c l r a b n to → TreeTypes ks (compared at c l r) n to
  comparison_fault at c l r a b n to d e (unsuited h) = comparison_wrong at c a b d e h
  comparison_fault at c l r a b n to d e (left_loses h k) = left_loses_bits at c a b d e h k
  comparison_fault at c l r a b n to d e (right_loses h k) = right_loses_bits at c a b d e h k

  roots_apart : (l r : Tree) → Everywhere (λ p. Everywhere (λ q. p < q) r) l → place_of l < place_of r
  roots_apart l r h = root_place (λ q. place_of l < q) r (root_place (λ p. Everywhere (λ q. p < q) r) l h)

  types_tell : (t : Tree) → InOrder t → Tells in_text (TreeTypes ks t) (type_of ks t)
  unfolding type_of
  types_tell (truth at b) o = λ m q h. fault_tells ks (truth at b) m q h
  types_tell (number at n) o = λ m q h. fault_tells ks (number at n) m q h
  types_tell (key at w) o = key_tells at w (find ks w) refl
  types_tell (field at w to f) o = field_tells at w to f (find ks w) refl
  types_tell (attribute at to f) o = attribute_tells at to f (same_bytes f (bytes "priority")) refl
  types_tell (prefixed at o t) h =
      prefix_tells (TreeTypes ks t) (TreeTypes ks (prefixed at o t)) at (prefix_type o) (type_of ks t)
      (prefix_wrong at o) (λ n to. in_operand at o) (fault_tells ks (prefixed at o t)) (types_tell t h)
  types_tell (joined at o l r) h =
      operator_tells (TreeTypes ks l) (TreeTypes ks r) (TreeTypes ks (joined at o l r)) (JoinFaults at)
      (λ a b. operator_type at (join_type a b)) (type_of ks l) (type_of ks r) (join_tells at) (join_fault at o l r)
      (λ n to. join_left at o) (λ n to. join_right at o) (fault_tells ks (joined at o l r))
      (apart ks l r h.0) (types_tell l h.1) (types_tell r h.2)
  types_tell (compared at c l r) h =
      operator_tells (TreeTypes ks l) (TreeTypes ks r) (TreeTypes ks (compared at c l r)) (ComparisonFaults at c l r)
      (compared_type at c l r) (type_of ks l) (type_of ks r) (comparison_tells at c l r (roots_apart l r h.0)) (comparison_fault at c l r)
      (λ n to. comparison_left at c) (λ n to. comparison_right at c) (fault_tells ks (compared at c l r))
      (apart ks l r h.0) (types_tell l h.1) (types_tell r h.2)

  -- 14

  not_number : bool ≢ int
  not_number d = let z : ◌≡◌ {A = ℕ} 0 1 = cc in omega (arith, z)

  not_match : (k : Kind) (w : ℕ) → bool ≢ of k w
  not_match k w d = let z : ◌≡◌ {A = ℕ} 0 1 = cc in omega (arith, z)

  root_free : (t : Tree) → type_of ks t ≡ ok bool → Free (RootType ks t)
  root_free t e n to (not_bool a d other) = other (same_ok (type_of ks t) a bool d e)

  root_only : (t : Tree) (m q : ℕ) → RootType ks t m q → (m ≡ 14) × (q ≡ place_of t)
  root_only t m q (not_bool a d other) = (refl, refl)

  root_tells : (t : Tree) (a : Ty) → type_of ks t ≡ ok a → Tells in_text (RootType ks t) (root_type t a)
  root_tells t bool e = root_free t e
  root_tells t int e = (refl, only_wins (not_bool int e (λ d. not_number (sym d))) (root_only t))
  root_tells t (of k w) e = (refl, only_wins (not_bool (of k w) e (λ d. not_match k w (sym d))) (root_only t))

-- of the keys of a list and the tree of a text
pub types_follow : (text list : List ℕ) (ks : List Key) (t : Tree) → keys list ≡ ok ks → tree text ≡ ok t
    → Follows (type_stages text list) (typed ks t)
unfolding typed
types_follow text list ks t listed read =
    let types : List Key → Faults = λ ks. Given (tree text) (TreeTypes ks) in
    let root : List Key → Faults = λ ks. Given (tree text) (RootType ks) in
    let last = stage in_text (Given (keys list) root) ∷ [] in
    follows_then (stage in_text (Given (keys list) types) ∷ []) last (type_of ks t) (root_type t)
    (follows_one in_text (Given (keys list) types) (type_of ks t)
    (given_tells (keys list) ks listed types in_text (type_of ks t)
    (given_tells (tree text) t read (TreeTypes ks) in_text (type_of ks t) (types_tell ks t (text_in_order text t read)))))
    (λ a e.
    follows_one in_text (Given (keys list) root) (root_type t a)
    (given_tells (keys list) ks listed root in_text (root_type t a)
    (given_tells (tree text) t read (RootType ks) in_text (root_type t a) (root_tells ks t a e))))
