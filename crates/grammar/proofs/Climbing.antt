-- Climbing the ladder: from the tightest rung up to a goal, each rung's tree is an operand of the next looser one, and whatever is
-- refused at a rung is refused at the goal.
use Prim.Native.Nat.{ℕ, ◌≤◌, ◌<◌}
use mathlib.Core.Path.{◌≡◌, refl, sym, ap, ◌∙◌, subst}
use mathlib.Core.List.{List}
use native.Mathlib.Omega.{arith}
use lib.ListN.{length}
use Rattle.paper.specs.Tokens.{Token}
use Rattle.paper.specs.Grammar.{Parser}
use Rattle.tokens.specs.Tape.{Tape}
use Rattle.grammar.specs.declared.steps.Rung.{Rung}
use Rattle.grammar.specs.declared.steps.Rung.TheVariants as R
use Rattle.grammar.specs.declared.steps.Tighter.{Tighter}
use Rattle.grammar.specs.declared.steps.Tighter.TheVariants as By
use Rattle.grammar.specs.Ladder as L
use Rattle.grammar.specs.Places.{onward}
use Rattle.grammar.specs.Reading.{Took}
use Rattle.grammar.proofs.Outcomes.{Up}
use Rattle.grammar.proofs.Levels.{rung_first}

-- the next tighter rung is lower, and every one is above a prefix operator

abbrev Lower : Tighter → ℕ → Type 0
Lower (By.Rung rung) h = L.height rung < h
Lower By.Prefix h = Unit {0}

lower : (rung : Rung) → Lower (L.tighter rung) (L.height rung)
lower R.Whole = omega arith
lower R.Sequence = omega arith
lower R.Implication = omega arith
lower R.Disjunction = omega arith
lower R.Conjunction = omega arith
lower R.Comparison = tt

pub tighter_lower : (rung next : Rung) → L.tighter rung ≡ By.Rung next → L.height next < L.height rung
tighter_lower rung next e = subst (λ (x : Tighter). Lower x (L.height rung)) e (lower rung)

heights : (rung : Rung) → (0 < L.height rung) × (L.height rung ≤ 5)
heights R.Whole = omega arith
heights R.Sequence = omega arith
heights R.Implication = omega arith
heights R.Disjunction = omega arith
heights R.Conjunction = omega arith
heights R.Comparison = omega arith

pub some_height : (rung : Rung) → 0 < L.height rung
some_height rung = (heights rung).0

pub most_height : (rung : Rung) → L.height rung ≤ 5
most_height rung = (heights rung).1

-- a rung on the way up to a goal: it is the goal, or the next looser one, also on the way, reads its operands by it
pub data Within (goal : Rung) : Rung → Type 0 where
  there : {level : Rung} → level ≡ goal → Within goal level
  below : {level : Rung} → L.tighter (L.looser goal level) ≡ By.Rung level → Within goal (L.looser goal level) → Within goal level

pub from_tightest : (goal : Rung) → Within goal R.Comparison
from_tightest R.Whole = below refl (below refl (below refl (below refl (there refl))))
from_tightest R.Sequence = below refl (below refl (below refl (below refl (there refl))))
from_tightest R.Implication = below refl (below refl (below refl (there refl)))
from_tightest R.Disjunction = below refl (below refl (there refl))
from_tightest R.Conjunction = below refl (there refl)
from_tightest R.Comparison = there refl

pub within_height : {goal level : Rung} → Within goal level → L.height level ≤ L.height goal
within_height (there e) = omega (arith, ap L.height e)
within_height {goal} {level} (below e w) = omega (arith, tighter_lower (L.looser goal level) level e, within_height w)

-- as high as the goal it is the goal, else there is a next one

at_goal : {goal level : Rung} → Within goal level → L.height level ≡ L.height goal → level ≡ goal
at_goal (there e) h = e
at_goal {goal} {level} (below e w) h = absurd (omega (arith, h, tighter_lower (L.looser goal level) level e, within_height w))

pub below_goal : {goal level : Rung} → Within goal level → (L.height level ≡ L.height goal → ⊥)
    → (L.tighter (L.looser goal level) ≡ By.Rung level) × Within goal (L.looser goal level)
below_goal (there e) h = absurd (h (ap L.height e))
below_goal (below e w) h = (e, w)

-- a refusal at a rung on the way is one at the goal
pub climbs_up : (size levels : ℕ) (ts : List Token) {goal level : Rung} → Within goal level
    → Up size (L.rung_of level levels ts) (L.rung_of goal levels ts)
climbs_up size levels ts {goal} {level} (there e) =
    subst (λ (x : Rung). Up size (L.rung_of level levels ts) (L.rung_of x levels ts)) e (λ k i a h. h)
climbs_up size levels ts {goal} {level} (below e w) =
    λ k i a h. climbs_up size levels ts w k i a (next k i a h)
  where
    next : Up size (L.rung_of level levels ts) (L.rung_of (L.looser goal level) levels ts)
    next =
        subst (λ (p : ℕ → Parser). Up size (p levels ts) (L.rung_of (L.looser goal level) levels ts)) (ap L.read_by e)
        (rung_first size (L.looser goal level) levels ts)

-- and so is a refusal of the first operand
pub first_up : (size levels : ℕ) (ts : List Token) (goal : Rung) → Up size (L.operand_of R.Comparison levels ts) (L.rung_of goal levels ts)
first_up size levels ts goal =
    λ k i a h. climbs_up size levels ts (from_tightest goal) k i a (rung_first size R.Comparison levels ts k i a h)

-- what the loop over the rungs keeps, from where it begins: the nodes' number, a rung on the way up to the goal, and that what was
-- read first as an operand of the tightest rung is by now one of this
pub record Climbed (T : Tape) (n levels : ℕ) (goal : Rung) (at b : ℕ) (start : List ℕ) (f₀ i₀ : ℕ) (nodes : List ℕ) (level : Rung) (f i : ℕ)
    : Type 0 where
  pub kept : length nodes ≡ length start
  pub within : Within goal level
  pub reads : (before : List ℕ) → Took T n at b (L.operand_of R.Comparison levels (onward T n at)) before start f₀ i₀
      → Took T n at b (L.operand_of level levels (onward T n at)) before nodes f i

module _ {T : Tape} {n levels : ℕ} {goal : Rung} {at b : ℕ} {start : List ℕ} {f₀ i₀ : ℕ} {nodes : List ℕ} {level : Rung} {f i : ℕ}
    (w : Climbed T n levels goal at b start f₀ i₀ nodes level f i)
  where
    pub climbed_there : L.height level ≡ L.height goal → {before after : List ℕ} {g j : ℕ}
        → Took T n at b (L.rung_of level levels (onward T n at)) before after g j → Took T n at b (L.rung_of goal levels (onward T n at)) before after g j
    climbed_there e {before} {after} {g} {j} h =
        subst (λ (x : Rung). Took T n at b (L.rung_of x levels (onward T n at)) before after g j) (at_goal w.within e) h

    pub climbed_on : (L.tighter (L.looser goal level) ≡ By.Rung level) × Within goal (L.looser goal level)
        → {after : List ℕ} {g j : ℕ} → length after ≡ length nodes
        → ((before : List ℕ) → Took T n at b (L.operand_of level levels (onward T n at)) before nodes f i → Took T n at b (L.rung_of level levels (onward T n at)) before after g j)
        → Climbed T n levels goal at b start f₀ i₀ after (L.looser goal level) g j
    climbed_on next {after} {g} {j} kept read =
        record {
          kept = kept ∙ w.kept;
          within = next.1;
          reads =
              λ before h.
              subst (λ (p : ℕ → Parser). Took T n at b (p levels (onward T n at)) before after g j) (sym (ap L.read_by next.0))
              (read before (w.reads before h));
        }
