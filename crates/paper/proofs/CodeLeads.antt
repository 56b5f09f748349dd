-- The code of a tree leads to the tree's value, on every way through code that steps, goes on and skips. The run is such a way, and so is
-- the load check.
use Prim.Native.Nat.{ℕ, ◌+◌, ◌≤◌, ◌<◌}
use native.Mathlib.Omega.{arith}
use mathlib.Core.Path.{◌≡◌, refl, sym, subst, ◌∙◌}
use mathlib.Core.Logic.{inl, inr}
use mathlib.Core.Bool.{Bool, true, false, cond, ◌&&◌, beq, false≢true}
use mathlib.Core.Option.{Option, none, some, map}
use mathlib.Core.List.{List, [], ◌∷◌, ◌++◌}
use lib.ListN.{length, length-append}
use borrow.Author.Tests.{lt-ltb}
use lib.IntN.{pos}
use Rattle.paper.specs.Tokens.{bytes, same_bytes, Prefix, not_sign, minus_sign, Comparison}
use Rattle.paper.specs.Keys.{Key, find}
use Rattle.paper.specs.Entry.{Entry}
use Rattle.paper.specs.Grammar as G
use Rattle.paper.specs.Grammar.{Tree}
use Rattle.paper.specs.Types.{Ty, bool, int, of, same_ty, when, and_then, Field, field_named, meet, takes, keeps_bits, type_of}
use Rattle.paper.specs.Meaning.{Value, truth, whole, matched, ty_of, bare_value, field_value, prefix_value, Connective, both, either, if_then, connective, connect, join_value, in_type, compare_value, comparison_value, is_true, value_of}
use Rattle.paper.specs.Code.{Skip, Instruction, push_bool, push_int, push_key, push_field, push_priority, convert, compare, connects, skip, most_held, put, act, value_action, skip_of}
use Rattle.paper.specs.Translating.{has_type, changed, convert_to, pushing, operation, settled_by, settled_to, skip_for, code_of, steps_of}
use Rattle.paper.specs.LoadedBlocksRun.{Covers}
use Rattle.paper.specs.CodeCorrect.{needs}
use Rattle.paper.proofs.TypeSoundness.{Comes, stays, meets, compared_there, values_have_types}

-- A way through code: which sequences lead from what is held to what is held, and in how many steps. An instruction that is no skip is one
-- step; a skip is one, and is all where it is taken, over a sequence that keeps what lies below the bool on top.
pub record Way (ks : List Key) (e : Entry) : Type 1 where
  pub Leads : List Instruction → ℕ → List Value → List Value → Type 0
  pub stands : (s : List Value) → Leads [] 0 s s
  pub steps : (x : Instruction) (s t : List Value) → skip_of (some x) ≡ none → act (value_action ks e x) s ≡ some t → Leads (x ∷ []) 1 s t
  pub goes : (xs ys : List Instruction) (n m : ℕ) (s t u : List Value) → Leads xs n s t → Leads ys m t u → Leads (xs ++ ys) (n + m) s u
  pub skips : (k : Skip) (zs : List Instruction) (n : ℕ) (a b : Bool) (s : List Value) → length s < most_held → k.over ≡ length zs
      → Leads zs n (truth a ∷ s) (truth b ∷ s)
      → Leads (skip k ∷ zs) (cond (beq a k.on) 1 (1 + n)) (truth a ∷ s) (truth (cond (beq a k.on) k.to b) ∷ s)

-- a join is worth what its left operand settles it to, where it does
settles : (o : Connective) (a b : Bool) → cond (beq a (settled_by o)) (settled_to o) (connect o a b) ≡ connect o a b
settles both false b = refl
settles both true b = refl
settles either false b = refl
settles either true b = refl
settles if_then false b = refl
settles if_then true b = refl

needs_some : (t : Tree) → 1 ≤ needs t
needs_some (G.truth at b) = omega arith
needs_some (G.number at n) = omega arith
needs_some (G.key at w) = omega arith
needs_some (G.field at w to f) = omega arith
needs_some (G.attribute at to f) = omega arith
needs_some (G.prefixed at o t) = needs_some t
needs_some (G.joined at o l r) = omega (arith, needs_some l)
needs_some (G.compared at c l r) = omega (arith, needs_some l)

module _ (ks : List Key) (e : Entry) (way : Way ks e) where
  abbrev Leads : List Instruction → ℕ → List Value → List Value → Type 0
  Leads = way.Leads

  -- where a value is given, it is left on top of what is to stay
  abbrev Gives : List Instruction → ℕ → List Value → List Value → Option Value → Type 0
  Gives code n from stay none = Unit {0}
  Gives code n from stay (some a) = Leads code n from (a ∷ stay)

  gives_one : (x : Instruction) (s t : List Value) (o : Option Value) → skip_of (some x) ≡ none → act (value_action ks e x) s ≡ put o t
      → length t < most_held → Gives (x ∷ []) 1 s t o
  gives_one x s t none plain h room = tt
  gives_one x s t (some a) plain h room = way.steps x s (a ∷ t) plain (h ∙ rw (lt-ltb (length t) most_held room))

  leads_gives : (xs ys : List Instruction) (n m : ℕ) (s t u : List Value) (o : Option Value) → Leads xs n s t → Gives ys m t u o
      → Gives (xs ++ ys) (n + m) s u o
  leads_gives xs ys n m s t u none h k = tt
  leads_gives xs ys n m s t u (some a) h k = way.goes xs ys n m s t (a ∷ u) h k

  gives_then : (xs ys : List Instruction) (n m : ℕ) (s t u : List Value) (o : Option Value) (g : Value → Option Value) → Gives xs n s t o
      → ((a : Value) → Gives ys m (a ∷ t) u (g a)) → Gives (xs ++ ys) (n + m) s u (and_then o g)
  gives_then xs ys n m s t u none g h k = tt
  gives_then xs ys n m s t u (some a) g h k = leads_gives xs ys n m s (a ∷ t) u (g a) h (k a)

  -- a value that a test takes away leaves nothing to show
  gives_when : (xs : List Instruction) (n : ℕ) (s t : List Value) (o : Option Value) (b : Bool) → Gives xs n s t o
      → Gives xs n s t (and_then o (when b))
  gives_when xs n s t none b h = tt
  gives_when xs n s t (some a) true h = h
  gives_when xs n s t (some a) false h = tt

  -- a value is converted where its type is not the one that is met

  converts_to : (m : Ty) (a : Value) (s : List Value) → length s < most_held → takes m (ty_of a) ≡ true
      → Leads (convert_to m) (length (convert_to m)) (a ∷ s) (in_type m a ∷ s)
  converts_to bool a s room h = absurd (false≢true h)
  converts_to int a s room h = absurd (false≢true h)
  converts_to (of k w) a s room h = gives_one (convert k w) (a ∷ s) s (some (in_type (of k w) a)) refl (rw h) room

  converts : (m : Ty) (a : Value) (s : List Value) → length s < most_held → Comes m a
      → Leads (changed (some (ty_of a)) (some m)) (length (changed (some (ty_of a)) (some m))) (a ∷ s) (in_type m a ∷ s)
  converts m a s room comes = go (same_ty (ty_of a) m) refl comes
    where
      go : (b : Bool) → same_ty (ty_of a) m ≡ b → Comes m a
          → Leads (cond b [] (convert_to m)) (length (cond b [] (convert_to m))) (a ∷ s) (in_type m a ∷ s)
      go true q h = rw (stays m a q) (way.stands (a ∷ s))
      go false q (inl h) = absurd (false≢true (sym q ∙ h))
      go false q (inr h) = converts_to m a s room h

  -- an operand on each side, and its conversion after it
  compared_gives : (c : Comparison) (xs ys : List Instruction) (n k : ℕ) (a b : Value) (s : List Value) → length s + 1 < most_held
      → Leads xs n s (a ∷ s) → ((t : List Value) → length t ≡ length s + 1 → Leads ys k t (b ∷ t)) → (o : Option Ty) → meet (ty_of a) (ty_of b) ≡ o
      → Gives (xs ++ changed (some (ty_of a)) o ++ ys ++ changed (some (ty_of b)) o ++ (compare c ∷ []))
      (n + length (changed (some (ty_of a)) o) + k + length (changed (some (ty_of b)) o) + 1) s s (comparison_value c a b)
  compared_gives c xs ys n k a b s room left right none q = rw q tt
  compared_gives c xs ys n k a b s room left right (some m) q =
      let both = meets a b m q in
      let x = in_type m a in
      let y = in_type m b in
      let first = changed (some (ty_of a)) (some m) in
      let second = changed (some (ty_of b)) (some m) in
      let i = length first in
      let j = length second in
      rw (compared_there c a b m q)
      (leads_gives (xs ++ first ++ ys ++ second) (compare c ∷ []) (n + i + k + j) 1 s (y ∷ x ∷ s) s (compare_value c x y)
      (way.goes (xs ++ first ++ ys) second (n + i + k) j s (b ∷ x ∷ s) (y ∷ x ∷ s)
      (way.goes (xs ++ first) ys (n + i) k s (x ∷ s) (b ∷ x ∷ s)
      (way.goes xs first n i s (a ∷ s) (x ∷ s) left (converts m a s (omega arith) both.0))
      (right (x ∷ s) (omega arith)))
      (converts m b (x ∷ s) (omega arith) both.1))
      (gives_one (compare c) (y ∷ x ∷ s) s (compare_value c x y) refl refl (omega arith)))

  comparison_gives : (c : Comparison) (xs ys : List Instruction) (n k : ℕ) (keeps : Value → Value → Bool)
      → (ta tb : Option Ty) (va vb : Option Value)
      → ta ≡ map ty_of va → tb ≡ map ty_of vb → (s : List Value) → length s + 1 < most_held
      → Gives xs n s s va → ((t : List Value) → length t ≡ length s + 1 → Gives ys k t t vb)
      → let m = and_then ta (λ a. and_then tb (meet a)) in
      Gives (xs ++ changed ta m ++ ys ++ changed tb m ++ (compare c ∷ [])) (n + length (changed ta m) + k + length (changed tb m) + 1) s s
      (and_then va (λ a. and_then vb (λ b. and_then (comparison_value c a b) (when (keeps a b)))))
  comparison_gives c xs ys n k keeps ta tb none vb p q s room left right = tt
  comparison_gives c xs ys n k keeps ta tb (some a) none p q s room left right = tt
  comparison_gives c xs ys n k keeps ta tb (some a) (some b) p q s room left right =
      rw (p, q)
      (gives_when _ _ s s (comparison_value c a b) (keeps a b)
      (compared_gives c xs ys n k a b s room left right (meet (ty_of a) (ty_of b)) refl))

  -- a bool on each side, the skip after the left one, over the right one and the join

  join_leads : (o : Connective) (ys : List Instruction) (k : ℕ) (a b : Bool) (s : List Value) → length s + 1 < most_held
      → Leads ys k (truth a ∷ s) (truth b ∷ truth a ∷ s)
      → Leads (skip (skip_for o (length ys)) ∷ (ys ++ (connects o ∷ []))) (cond (beq a (settled_by o)) 1 (1 + k + 1)) (truth a ∷ s)
      (truth (connect o a b) ∷ s)
  join_leads o ys k a b s room right =
      let join : Leads (connects o ∷ []) 1 (truth b ∷ truth a ∷ s) (truth (connect o a b) ∷ s) =
      gives_one (connects o) (truth b ∷ truth a ∷ s) s (join_value o (truth a) (truth b)) refl refl (omega arith) in
      let count : 1 + k + 1 ≡ 1 + (k + 1) = omega arith in
      rw (← settles o a b, count)
      (way.skips (skip_for o (length ys)) (ys ++ (connects o ∷ [])) (k + 1) a (connect o a b) s (omega arith)
      (sym (length-append ys (connects o ∷ [])))
      (way.goes ys (connects o ∷ []) k 1 (truth a ∷ s) (truth b ∷ truth a ∷ s) (truth (connect o a b) ∷ s) right join))

  joined_gives : (o : Connective) (xs ys : List Instruction) (n k : ℕ) (va vb : Option Value) (s : List Value) → length s + 1 < most_held
      → Gives xs n s s va → ((t : List Value) → length t ≡ length s + 1 → Gives ys k t t vb)
      → Gives (xs ++ (skip (skip_for o (length ys)) ∷ (ys ++ (connects o ∷ [])))) (n + cond (beq (is_true va) (settled_by o)) 1 (1 + k + 1)) s s
      (and_then va (λ a. and_then vb (join_value o a)))
  joined_gives o xs ys n k none vb s room left right = tt
  joined_gives o xs ys n k (some a) none s room left right = tt
  joined_gives o xs ys n k (some (truth a)) (some (truth b)) s room left right =
      way.goes xs (skip (skip_for o (length ys)) ∷ (ys ++ (connects o ∷ []))) n (cond (beq a (settled_by o)) 1 (1 + k + 1)) s (truth a ∷ s)
      (truth (connect o a b) ∷ s) left (join_leads o ys k a b s room (right (truth a ∷ s) (omega arith)))
  joined_gives o xs ys n k (some (truth a)) (some (whole z)) s room left right = tt
  joined_gives o xs ys n k (some (truth a)) (some (matched l w m)) s room left right = tt
  joined_gives o xs ys n k (some (whole z)) (some b) s room left right = tt
  joined_gives o xs ys n k (some (matched l w m)) (some b) s room left right = tt

  -- leaves

  key_gives : (o : Option ℕ) (s : List Value) → length s < most_held
      → Gives (pushing (and_then o (λ k. some (push_key k)))) 1 s s (and_then o (bare_value ks e))
  key_gives none s room = tt
  key_gives (some k) s room = gives_one (push_key k) s s (bare_value ks e k) refl refl room

  field_gives : (o : Option ℕ) (p : Option Field) (s : List Value) → length s < most_held
      → Gives (pushing (and_then o (λ k. and_then p (λ g. some (push_field g k))))) 1 s s (and_then o (λ k. and_then p (λ g. field_value ks e g k)))
  field_gives none p s room = tt
  field_gives (some k) none s room = tt
  field_gives (some k) (some g) s room = gives_one (push_field g k) s s (field_value ks e g k) refl refl room

  priority_gives : (b : Bool) (s : List Value) → length s < most_held → Gives (push_priority ∷ []) 1 s s (when b (whole (pos e.priority)))
  priority_gives true s room = gives_one push_priority s s (some (whole (pos e.priority))) refl refl room
  priority_gives false s room = tt

  prefix_gives : (o : Prefix) (a : Value) (s : List Value) → length s < most_held → Gives (operation o ∷ []) 1 (a ∷ s) s (prefix_value o a)
  prefix_gives not_sign a s room = gives_one (operation not_sign) (a ∷ s) s (prefix_value not_sign a) refl refl room
  prefix_gives minus_sign a s room = gives_one (operation minus_sign) (a ∷ s) s (prefix_value minus_sign a) refl refl room

  module _ (covers : Covers ks e) where
    code_gives : (t : Tree) (s : List Value) → length s + needs t ≤ most_held → Gives (code_of ks t) (steps_of ks e t) s s (value_of ks e t)
    unfolding code_of steps_of value_of
    code_gives (G.truth at b) s room = gives_one (push_bool b) s s (some (truth b)) refl refl (omega arith)
    code_gives (G.number at n) s room = gives_one (push_int n.value) s s (some (whole (pos n.value))) refl refl (omega arith)
    code_gives (G.key at w) s room = key_gives (find ks w) s (omega arith)
    code_gives (G.field at w to f) s room = field_gives (find ks w) (field_named f) s (omega arith)
    code_gives (G.attribute at to f) s room = priority_gives (same_bytes f (bytes "priority")) s (omega arith)
    code_gives (G.prefixed at o t) s room =
        gives_then (code_of ks t) (operation o ∷ []) (steps_of ks e t) 1 s s s (value_of ks e t) (prefix_value o) (code_gives t s room)
        (λ a. prefix_gives o a s (omega (arith, needs_some t)))
    code_gives (G.joined at o l r) s room =
        joined_gives (connective o) (code_of ks l) (code_of ks r) (steps_of ks e l) (steps_of ks e r) (value_of ks e l) (value_of ks e r) s
        (omega (arith, needs_some r)) (code_gives l s (omega arith)) (λ t h. code_gives r t (omega arith))
    code_gives (G.compared at c l r) s room =
        comparison_gives c (code_of ks l) (code_of ks r) (steps_of ks e l) (steps_of ks e r)
        (λ a b. keeps_bits l (ty_of b) && keeps_bits r (ty_of a)) (has_type (type_of ks l)) (has_type (type_of ks r)) (value_of ks e l) (value_of ks e r)
        (values_have_types ks e covers l) (values_have_types ks e covers r) s (omega (arith, needs_some r))
        (code_gives l s (omega arith)) (λ t h. code_gives r t (omega arith))

    pub code_leads : (t : Tree) (v : Value) → value_of ks e t ≡ some v → (s : List Value) → length s + needs t ≤ most_held
        → Leads (code_of ks t) (steps_of ks e t) s (v ∷ s)
    code_leads t v h s room = subst (Gives (code_of ks t) (steps_of ks e t) s s) h (code_gives t s room)
