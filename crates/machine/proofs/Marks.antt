-- The types at a landing are those at the skip exactly where as many are held, and as many of them lie below the bools on top.
--
-- A skip leaves a bool on top. On the way from there to the landing whatever takes that bool takes it together with another one or alone,
-- and leaves a bool: no instruction makes anything else of a bool (`op_keeps`). So what was taken from under it was all bools, and what is
-- under those is untouched (`Kept`). Where then as much is held at the landing, and the floor is the same, the difference is bools too.
use Rattle.std.proofs.Common.{◌≡◌, ℕ, zero, suc, ◌+◌, Bool, true, false, not, ◌&&◌, ltb, List, [], ◌∷◌, ◌++◌, map, length, replicate, sym, refl, ap, ◌∙◌, subst, arith, length-append}
use mathlib.Core.Bool.{and-false, and-eq-true_iff}
use mathlib.Core.Option.{Option, none, some, none-ne-some}
use lib.ListN.{length-replicate}
use Rattle.paper.specs.Keys.{Key}
use Rattle.paper.specs.Entry.{is_exact}
use Rattle.paper.specs.Types.{Ty, bool, int, of, same_ty, when, suits}
use Rattle.paper.specs.Code.{Instruction, push_bool, push_int, push_key, push_field, push_priority, invert, negate, convert, compare, connects, skip, Action, leaves, takes_one, takes_two, most_held, put, act, ends, go_on, walk, type_action, action_of}
use Rattle.paper.proofs.MeetingTypes.{same_types_lem}
use Rattle.paper.proofs.Landings.{ends_same, never_ends}
use Rattle.machine.specs.Following.{floor}
use Rattle.machine.proofs.Marked.{floor_most}

abbrev on_types : List Key → Option Instruction → Action Ty
on_types ks x = action_of (type_action ks) x

-- an instruction that takes a bool leaves one; where the right operand is one, so is the left
abbrev KeepsBool : Action Ty → Type 0
KeepsBool (leaves o) = Unit {0}
KeepsBool (takes_one f) = (c : Ty) → f bool ≡ some c → c ≡ bool
KeepsBool (takes_two f) = ((b c : Ty) → f bool b ≡ some c → c ≡ bool) × ((a c : Ty) → f a bool ≡ some c → (a ≡ bool) × (c ≡ bool))

when_some : {A : Type 0} (b : Bool) (a c : A) → when b a ≡ some c → (b ≡ true) × (c ≡ a)
when_some true a c h = (refl, cc)
when_some false a c h = absurd (none-ne-some c h)

bool_convert : (b : Bool) (t c : Ty) → when (b && false) t ≡ some c → c ≡ bool
bool_convert b t c h = absurd (none-ne-some c (rw (and-false b) at h))

op_keeps : (ks : List Key) (x : Option Instruction) → KeepsBool (on_types ks x)
op_keeps ks none = tt
op_keeps ks (some (push_bool b)) = tt
op_keeps ks (some (push_int n)) = tt
op_keeps ks (some (push_key k)) = tt
op_keeps ks (some (push_field f k)) = tt
op_keeps ks (some push_priority) = tt
op_keeps ks (some invert) = λ c h. cc
op_keeps ks (some negate) = λ c h. absurd (none-ne-some c h)
op_keeps ks (some (convert k w)) = λ c h. bool_convert (not (is_exact k)) (of k w) c h
op_keeps ks (some (compare c)) = (
  (λ b d h. (when_some (same_ty bool b && suits c bool) bool d h).1),
  (λ a d h.
      let p = when_some (same_ty a bool && suits c a) bool d h in
      (same_types_lem a bool ((and-eq-true_iff (same_ty a bool) (suits c a)).0 p.0).0, p.1)),
)
op_keeps ks (some (connects o)) = (
  (λ b d h. (when_some (same_ty b bool) bool d h).1),
  (λ a d h.
      let p = when_some (same_ty a bool && true) bool d h in
      (same_types_lem a bool ((and-eq-true_iff (same_ty a bool) true).0 p.0).0, p.1)),
)
op_keeps ks (some (skip s)) = λ c h. cc

pub put_some : (o : Option Ty) (s t : List Ty) → put o s ≡ some t → (a : Ty) × (o ≡ some a) × (t ≡ a ∷ s)
put_some none s t h = absurd (none-ne-some t h)
put_some (some a) s t h = (a, refl, (when_some (ltb (length s) most_held) (a ∷ s) t h).1)

-- the bool that a way began with, or one below it, is still there; those above it were bools too
pub record Kept (s t : List Ty) : Type 0 where
  pub lost : ℕ
  pub above : List Ty
  pub below : List Ty
  pub was : s ≡ replicate lost bool ++ (bool ∷ below)
  pub is : t ≡ above ++ (bool ∷ below)

kept_first : (s : List Ty) → Kept (bool ∷ s) (bool ∷ s)
kept_first s = record { lost = 0; above = []; below = s; was = refl; is = refl }

bools_more : (n : ℕ) (s : List Ty) → replicate n bool ++ (bool ∷ s) ≡ replicate (suc n) bool ++ s
bools_more zero s = refl
bools_more (suc n) s = ap (λ l. bool ∷ l) (bools_more n s)

module _ (s : List Ty) (lost : ℕ) (below : List Ty) (was : s ≡ replicate lost bool ++ (bool ∷ below)) where
  still : (above t : List Ty) → t ≡ above ++ (bool ∷ below) → Kept s t
  still above t e = record { lost = lost; above = above; below = below; was = was; is = e }

  kept_act : (x : Action Ty) → KeepsBool x → (above t : List Ty) → act x (above ++ (bool ∷ below)) ≡ some t → Kept s t
  kept_act (leaves o) k above t h = let p = put_some o (above ++ (bool ∷ below)) t h in still (p.0 ∷ above) t p.2
  kept_act (takes_one f) k [] t h =
      let p = put_some (f bool) below t h in
      still [] t (p.2 ∙ ap (λ a. a ∷ below) (k p.0 p.1))
  kept_act (takes_one f) k (a ∷ above) t h = let p = put_some (f a) (above ++ (bool ∷ below)) t h in still (p.0 ∷ above) t p.2
  kept_act (takes_two f) k [] t h = deeper below was h
    where
      deeper : (under : List Ty) → s ≡ replicate lost bool ++ (bool ∷ under) → act (takes_two f) (bool ∷ under) ≡ some t → Kept s t
      deeper [] w g = absurd (none-ne-some t g)
      deeper (a ∷ under) w g =
          let p = put_some (f a bool) under t g in
          let q = k.1 a p.0 p.1 in
          record {
            lost = suc lost;
            above = [];
            below = under;
            was = w ∙ ap (λ c. replicate lost bool ++ (bool ∷ c ∷ under)) q.0 ∙ bools_more lost (bool ∷ under);
            is = p.2 ∙ ap (λ c. c ∷ under) q.1;
          }
  kept_act (takes_two f) k (b ∷ []) t h =
      let p = put_some (f bool b) below t h in
      still [] t (p.2 ∙ ap (λ a. a ∷ below) (k.0 b p.0 p.1))
  kept_act (takes_two f) k (b ∷ a ∷ above) t h = let p = put_some (f a b) (above ++ (bool ∷ below)) t h in still (p.0 ∷ above) t p.2

kept_walk : (ks : List Key) (xs : List (Option Instruction)) (i : ℕ) (s t u : List Ty) → Kept s t → walk i (map (on_types ks) xs) t ≡ ends u
    → Kept s u
unfolding walk
kept_walk ks [] i s t u k h = subst (Kept s) (ends_same h) k
kept_walk ks (x ∷ xs) i s t u k h = go (act (on_types ks x) t) refl h (λ t' k'. kept_walk ks xs (i + 1) s t' u k')
  where
    go : (o : Option (List Ty)) → act (on_types ks x) t ≡ o → go_on i o (walk (i + 1) (map (on_types ks) xs)) ≡ ends u
        → ((t' : List Ty) → Kept s t' → walk (i + 1) (map (on_types ks) xs) t' ≡ ends u → Kept s u) → Kept s u
    go none e p more = absurd (never_ends p)
    go (some t') e p more =
        let acts = ap (act (on_types ks x)) (sym k.is) ∙ e in
        more t' (kept_act s k.lost k.below k.was (on_types ks x) (op_keeps ks x) k.above t' acts) p

-- bools above change no floor, anything else does

floor_bools : (n : ℕ) (s : List Ty) → floor (replicate n bool ++ s) ≡ floor s
floor_bools zero s = refl
floor_bools (suc n) s = floor_bools n s

all_bools : (above below : List Ty) → floor (above ++ (bool ∷ below)) ≡ floor below → above ≡ replicate (length above) bool
all_bools [] below h = refl
all_bools (bool ∷ above) below h = ap (λ l. bool ∷ l) (all_bools above below h)
all_bools (int ∷ above) below h = absurd (omega (arith, h, floor_most below, length-append above (bool ∷ below)))
all_bools (of k w ∷ above) below h = absurd (omega (arith, h, floor_most below, length-append above (bool ∷ below)))

kept_same : (s t : List Ty) → Kept s t → length s ≡ length t → floor s ≡ floor t → s ≡ t
kept_same s t k l f =
    let tail = bool ∷ k.below in
    let under : floor (k.above ++ tail) ≡ floor k.below =
    sym (ap floor k.is) ∙ sym f ∙ ap floor k.was ∙ floor_bools k.lost tail
    in
    let bools = all_bools k.above k.below under in
    let a : length s ≡ length (replicate k.lost bool) + length tail =
    ap length k.was ∙ length-append (replicate k.lost bool) tail
    in
    let b : length t ≡ length k.above + length tail = ap length k.is ∙ length-append k.above tail in
    let c : length (replicate k.lost bool) ≡ k.lost = length-replicate k.lost bool in
    let n : k.lost ≡ length k.above = omega arith in
    k.was ∙ ap (λ m. replicate m bool ++ tail) n ∙ ap (λ v. v ++ tail) (sym bools) ∙ sym k.is

-- so two numbers tell what 02 asks
pub marks_tell : (ks : List Key) (xs : List (Option Instruction)) (i : ℕ) (s u : List Ty) → walk i (map (on_types ks) xs) (bool ∷ s) ≡ ends u
    → length (bool ∷ s) ≡ length u → floor (bool ∷ s) ≡ floor u → bool ∷ s ≡ u
marks_tell ks xs i s u h l f = kept_same (bool ∷ s) u (kept_walk ks xs i (bool ∷ s) (bool ∷ s) u (kept_first s) h) l f
