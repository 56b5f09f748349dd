-- The pairs of types that 01 lists for comparisons are those that conversions bring to one type, and in that type the instruction takes
-- what the operator takes.
use Prim.Native.Nat.{ℕ}
use mathlib.Core.Path.{◌≡◌, refl, sym, ap, ap₂, ◌∙◌}
use mathlib.Core.Bool.{Bool, true, false, not, cond, ◌&&◌, and-eq-true_iff, and-true, and-false, and_self, false≢true}
use mathlib.Core.Option.{Option, none, some}
use lib.Dec.{eqb}
use borrow.Author.Tests.{eqb-true, eqb-false, eq-eqb, ne_eqb}
use Rattle.paper.specs.Tokens.{equal, unequal, greater, at_least, less, at_most}
use Rattle.paper.specs.Keys.{Kind, exact, ternary, lpm, range, optional, kind_no, kind_of, is_none}
use Rattle.paper.specs.Entry.{is_exact}
use Rattle.paper.specs.Types.{Ty, bool, int, of, same_ty, when, and_then, meet_kind, meet, ordered, takes}
use Rattle.paper.specs.CodeCorrect.{MeetsByConverting, ComparesWhereMet}

-- types that pass for the same are the same

kind_back : (k : Kind) → kind_of (kind_no k) ≡ k
kind_back exact = refl
kind_back ternary = refl
kind_back lpm = refl
kind_back range = refl
kind_back optional = refl

pub same_types_lem : (a b : Ty) → same_ty a b ≡ true → a ≡ b
same_types_lem bool bool h = refl
same_types_lem bool int h = absurd (false≢true h)
same_types_lem bool (of k w) h = absurd (false≢true h)
same_types_lem int bool h = absurd (false≢true h)
same_types_lem int int h = refl
same_types_lem int (of k w) h = absurd (false≢true h)
same_types_lem (of k w) bool h = absurd (false≢true h)
same_types_lem (of k w) int h = absurd (false≢true h)
same_types_lem (of k w) (of l x) h =
    let both = (and-eq-true_iff (eqb (kind_no k) (kind_no l)) (eqb w x)).0 h in
    ap₂ of (sym (kind_back k) ∙ ap kind_of (eqb-true (kind_no k) (kind_no l) both.0) ∙ kind_back l) (eqb-true w x both.1)

pub same_self : (a : Ty) → same_ty a a ≡ true
same_self bool = refl
same_self int = refl
same_self (of k w) = (and-eq-true_iff (eqb (kind_no k) (kind_no k)) (eqb w w)).1 (eq-eqb (kind_no k) (kind_no k) refl, eq-eqb w w refl)

-- kinds meet by conversion at one width, and two kinds meet in exact only where both are exact

abbrev converted : Ty → Ty → Option Ty
converted a b = cond (same_ty a b) (some a) (cond (takes b a) (some b) (when (takes a b) a))

kinds_meet : (k l : Kind) → ((w : ℕ) → meet (of k w) (of l w) ≡ converted (of k w) (of l w))
    × (when (is_exact k && is_exact l) bool ≡ and_then (meet_kind k l) (λ j. when (is_exact j) bool))
kinds_meet exact exact = (λ w. rw (eq-eqb w w refl), refl)
kinds_meet exact ternary = (λ w. rw (eq-eqb w w refl), refl)
kinds_meet exact lpm = (λ w. rw (eq-eqb w w refl), refl)
kinds_meet exact range = (λ w. rw (eq-eqb w w refl), refl)
kinds_meet exact optional = (λ w. rw (eq-eqb w w refl), refl)
kinds_meet ternary exact = (λ w. rw (eq-eqb w w refl), refl)
kinds_meet ternary ternary = (λ w. rw (eq-eqb w w refl), refl)
kinds_meet ternary lpm = (λ w. refl, refl)
kinds_meet ternary range = (λ w. refl, refl)
kinds_meet ternary optional = (λ w. refl, refl)
kinds_meet lpm exact = (λ w. rw (eq-eqb w w refl), refl)
kinds_meet lpm ternary = (λ w. refl, refl)
kinds_meet lpm lpm = (λ w. rw (eq-eqb w w refl), refl)
kinds_meet lpm range = (λ w. refl, refl)
kinds_meet lpm optional = (λ w. refl, refl)
kinds_meet range exact = (λ w. rw (eq-eqb w w refl), refl)
kinds_meet range ternary = (λ w. refl, refl)
kinds_meet range lpm = (λ w. refl, refl)
kinds_meet range range = (λ w. rw (eq-eqb w w refl), refl)
kinds_meet range optional = (λ w. refl, refl)
kinds_meet optional exact = (λ w. rw (eq-eqb w w refl), refl)
kinds_meet optional ternary = (λ w. refl, refl)
kinds_meet optional lpm = (λ w. refl, refl)
kinds_meet optional range = (λ w. refl, refl)
kinds_meet optional optional = (λ w. rw (eq-eqb w w refl), refl)

-- two widths never meet

none_there : (o : Option Kind) → and_then {B = Ty} o (λ j. none) ≡ none
none_there none = refl
none_there (some j) = refl

apart : (k l : Kind) (w x : ℕ) → eqb w x ≡ false → meet (of k w) (of l x) ≡ converted (of k w) (of l x)
apart k l w x e =
    let f : eqb x w ≡ false = ne_eqb x w (λ same. eqb-false w x e (sym same)) in
    simp (
      e,
      f,
      none_there (meet_kind k l),
      and-false (eqb (kind_no k) (kind_no l)),
      and-false (eqb (kind_no k) 0),
      and-false (eqb (kind_no l) 0),
      and-false (not (is_exact k)),
      and-false (not (is_exact l)),
    )

pub meets_by_converting : MeetsByConverting
meets_by_converting bool bool = refl
meets_by_converting bool int = refl
meets_by_converting bool (of k w) = rw (and-false (not (is_exact k)))
meets_by_converting int bool = refl
meets_by_converting int int = refl
meets_by_converting int (of k w) = refl
meets_by_converting (of k w) bool = rw (and-false (not (is_exact k)))
meets_by_converting (of k w) int = refl
meets_by_converting (of k w) (of l x) = go (eqb w x) refl
  where
    go : (b : Bool) → eqb w x ≡ b → meet (of k w) (of l x) ≡ converted (of k w) (of l x)
    go true e = rw (← eqb-true w x e) ((kinds_meet k l).0 w)
    go false e = apart k l w x e

-- what the operator takes, the instruction takes of the type that is met

pub meet_own : (a : Ty) → meet a a ≡ some a
meet_own bool = refl
meet_own int = refl
meet_own (of k w) = rw (eq-eqb (kind_no k) (kind_no k) refl, eq-eqb w w refl)

equal_there : (o : Option Ty) → when (not (is_none o)) bool ≡ and_then o (λ m. when (same_ty m m && not (is_none (meet m m))) bool)
equal_there none = refl
equal_there (some m) = rw (same_self m, meet_own m)

abbrev ordered_in : Ty → Option Ty
ordered_in m = when (same_ty m m && ordered m m) bool

ordered_own : (k : Kind) (w : ℕ) → ordered_in (of k w) ≡ when (is_exact k) bool
ordered_own k w = rw (same_self (of k w), eq-eqb w w refl, and-true (is_exact k && is_exact k), and_self (is_exact k))

kinds_there : (o : Option Kind) (w : ℕ) → and_then (and_then o (λ j. some (of j w))) ordered_in ≡ and_then o (λ j. when (is_exact j) bool)
kinds_there none w = refl
kinds_there (some j) w = ordered_own j w

ordered_there : (a b : Ty) → when (ordered a b) bool ≡ and_then (meet a b) ordered_in
ordered_there bool bool = refl
ordered_there bool int = refl
ordered_there bool (of k w) = refl
ordered_there int bool = refl
ordered_there int int = refl
ordered_there int (of k w) = sym (ordered_own k w)
ordered_there (of k w) bool = refl
ordered_there (of k w) int = sym (ordered_own k w)
ordered_there (of k w) (of l x) = go (eqb w x)
  where
    go : (b : Bool) → when (is_exact k && is_exact l && b) bool ≡ and_then (and_then (meet_kind k l) (λ j. when b (of j w))) ordered_in
    go true = rw (and-true (is_exact k && is_exact l)) ((kinds_meet k l).1 ∙ sym (kinds_there (meet_kind k l) w))
    go false = rw (and-false (is_exact k && is_exact l), none_there (meet_kind k l))

pub compares_where_met : ComparesWhereMet
compares_where_met equal a b = equal_there (meet a b)
compares_where_met unequal a b = equal_there (meet a b)
compares_where_met greater a b = ordered_there a b
compares_where_met at_least a b = ordered_there a b
compares_where_met less a b = ordered_there a b
compares_where_met at_most a b = ordered_there a b
