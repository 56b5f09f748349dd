-- Where a text has the right types, so has each of its parts: the trees that are joined into its own are bools, since a ";" takes two bools.
-- And there is at least one of them.
use Prim.Native.Nat.{ℕ, ◌≤◌}
use native.Mathlib.Omega.{arith}
use mathlib.Core.Path.{◌≡◌, refl, sym, ap, subst, ◌∙◌}
use mathlib.Core.List.{List, [], ◌∷◌}
use lib.ListN.{length, length-append, length-map}
use Rattle.paper.specs.Answers.{ok, ◌>>=◌}
use Rattle.paper.specs.Tokens.{sequel}
use Rattle.paper.specs.Keys.{Key}
use Rattle.paper.specs.Grammar.{Tree, joined}
use Rattle.paper.specs.Types.{Ty, bool, int, of, join_type, operator_type, type_of, root_type, typed}
use Rattle.paper.specs.Calls.{tree}
use Rattle.paper.specs.BlocksRoundTrip.{All}
use Rattle.paper.specs.Parts.{Part, parts}
use Rattle.paper.specs.PartsDecide.{JoinedLeft, alone, then, roots, PartsTyped, SomePart}
use Rattle.paper.proofs.Basics.{all_append}
use Rattle.paper.proofs.Stages.{never_ok, ok_same, bind_ok}
use Rattle.paper.proofs.TypeSoundness.{bool_root}
use Rattle.paper.proofs.PartsCut.{text_is_its_parts}

-- the trees of a text's parts are joined into its own
pub roots_joined : (text : List ℕ) (t : Tree) (ps : List Part) → tree text ≡ ok t → parts text ≡ ok ps → JoinedLeft (roots ps) t
roots_joined text t ps read have =
    let (qs, made, joins) = text_is_its_parts text t read in
    subst (λ (us : List Part). JoinedLeft (roots us) t) (ok_same qs ps (sym made ∙ have)) joins

-- a join takes two bools
takes_bools : (at : ℕ) (a b c : Ty) → operator_type at (join_type a b) ≡ ok c → (a ≡ bool) × (b ≡ bool)
takes_bools at bool bool c h = (refl, refl)
takes_bools at bool int c h = absurd (never_ok h)
takes_bools at bool (of k w) c h = absurd (never_ok h)
takes_bools at int b c h = absurd (never_ok h)
takes_bools at (of k w) b c h = absurd (never_ok h)

module _ (ks : List Key) where
  abbrev pub Right : Tree → Type 0
  Right t = typed ks t ≡ ok tt

  -- that is, it is a bool

  pub is_bool : (t : Tree) → Right t → type_of ks t ≡ ok bool
  unfolding typed
  is_bool t h =
      let (a, is, root) = bind_ok (type_of ks t) (root_type t) tt h in
      is ∙ ap ok (bool_root t a tt root)

  pub right : (t : Tree) → type_of ks t ≡ ok bool → Right t
  unfolding typed
  right t e = rw e

  pub sides : (at : ℕ) (l r : Tree) → Right (joined at sequel l r) → Right l × Right r
  unfolding type_of
  sides at l r h =
      let (a, left, rest) = bind_ok (type_of ks l) (λ a. type_of ks r >>= λ b. operator_type at (join_type a b)) bool (is_bool (joined at sequel l r) h) in
      let (b, beside, both) = bind_ok (type_of ks r) (λ b. operator_type at (join_type a b)) bool rest in
      let (x, y) = takes_bools at a b bool both in
      (right l (left ∙ ap ok x), right r (beside ∙ ap ok y))

  joined_typed : {ts : List Tree} {t : Tree} → JoinedLeft ts t → Right t → All Right ts
  joined_typed (alone t) h = (h, tt)
  joined_typed (then {ts = ts} {l = l} j at r) h =
      let (left, beside) = sides at l r h in
      all_append Right ts (r ∷ []) (joined_typed j left) (beside, tt)

  by_roots : (ps : List Part) → All Right (roots ps) → All (λ p. Right p.root) ps
  by_roots [] all = tt
  by_roots (p ∷ ps) all = (all.0, by_roots ps all.1)

pub parts_typed : PartsTyped
parts_typed text t ps read have ks h = by_roots ks ps (joined_typed ks (roots_joined text t ps read have) h)

-- none is joined of no tree

pub some_joined : {ts : List Tree} {t : Tree} → JoinedLeft ts t → 1 ≤ length ts
some_joined (alone t) = omega arith
some_joined (then {ts = ts} j at r) = omega (arith, length-append ts (r ∷ []))

pub some_part : SomePart
some_part text t ps read have =
    omega (arith, some_joined (roots_joined text t ps read have), length-map ps (λ (p : Part). p.root))
