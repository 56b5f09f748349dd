-- A text holds of an entry exactly where each of its parts does: ";" is true exactly where both its sides are, whatever their types.
use mathlib.Core.Path.{◌≡◌, refl, sym, ap, subst, ◌∙◌}
use mathlib.Core.Logic.{◌↔◌}
use mathlib.Core.Bool.{true, false, ◌&&◌, and-eq-true_iff}
use mathlib.Core.Option.{Option, none, some}
use mathlib.Core.List.{List, [], ◌∷◌}
use Rattle.paper.specs.Keys.{Key}
use Rattle.paper.specs.Entry.{Entry}
use Rattle.paper.specs.Grammar.{Tree}
use Rattle.paper.specs.Types.{and_then}
use Rattle.paper.specs.Meaning.{Value, truth, whole, matched, both, join_value, value_of, is_true}
use Rattle.paper.specs.BlocksRoundTrip.{All}
use Rattle.paper.specs.Parts.{Part}
use Rattle.paper.specs.Explained.{holds_on}
use Rattle.paper.specs.PartsDecide.{JoinedLeft, alone, then, roots, PartsDecide}
use Rattle.paper.proofs.Basics.{all_append, all_parts}
use Rattle.paper.proofs.Stages.{ok_same}
use Rattle.paper.proofs.PartsCut.{text_is_its_parts}

both_true : (v w : Option Value) → is_true (and_then v (λ a. and_then w (join_value both a))) ≡ is_true v && is_true w
both_true none w = refl
both_true (some (whole z)) none = refl
both_true (some (whole z)) (some b) = refl
both_true (some (matched k x m)) none = refl
both_true (some (matched k x m)) (some b) = refl
both_true (some (truth true)) none = refl
both_true (some (truth false)) none = refl
both_true (some (truth a)) (some (truth b)) = refl
both_true (some (truth true)) (some (whole z)) = refl
both_true (some (truth false)) (some (whole z)) = refl
both_true (some (truth true)) (some (matched k x m)) = refl
both_true (some (truth false)) (some (matched k x m)) = refl

module _ (ks : List Key) (e : Entry) where
  abbrev pub Holds : Tree → Type 0
  Holds t = is_true (value_of ks e t) ≡ true

  pub joined_holds : {ts : List Tree} {t : Tree} → JoinedLeft ts t → Holds t ↔ All Holds ts
  unfolding value_of
  joined_holds (alone t) = (λ h. (h, tt), λ all. all.0)
  joined_holds (then {ts = ts} {l = l} j at r) =
      let sides = both_true (value_of ks e l) (value_of ks e r) in
      let (left, right) = joined_holds j in
      let (apart, together) = and-eq-true_iff (is_true (value_of ks e l)) (is_true (value_of ks e r)) in (
        λ h. let (a, b) = apart (sym sides ∙ h) in all_append Holds ts (r ∷ []) (left a) (b, tt),
        λ all. let (a, b) = all_parts Holds ts (r ∷ []) all in sides ∙ together (right a, b.0),
      )

  -- of trees and of the parts that have them
  by_roots : (ps : List Part) → All Holds (roots ps) ↔ All (λ p. holds_on ks e p ≡ true) ps
  by_roots [] = (λ h. h, λ h. h)
  by_roots (p ∷ ps) =
      let (there, back) = by_roots ps in
      (λ h. (h.0, there h.1), λ h. (h.0, back h.1))

pub parts_decide : PartsDecide
parts_decide text t ps read have ks e =
    let (qs, made, joins) = text_is_its_parts text t read in
    let same : roots qs ≡ roots ps = ap roots (ok_same qs ps (sym made ∙ have)) in
    let (there, back) = joined_holds ks e (subst (λ (us : List Tree). JoinedLeft us t) same joins) in
    let (to, from) = by_roots ks e ps in
    (λ h. to (there h), λ h. back (from h))
