-- Skips whose landing misfits. One that acts leaves what it found, so what is held at its landing is compared with what is held before it.
use mathlib.Core.Path.{◌≡◌, refl, sym, ap, ◌∙◌}
use mathlib.Core.Logic.{◌≢◌}
use mathlib.Core.Bool.{Bool, true, false, true≢false}
use mathlib.Core.Option.{Option, none, some, some-injective, none-ne-some}
use mathlib.Core.List.{List, [], ◌∷◌, map}
use lib.ListN.{length, take}
use lib.Dec.{ltb}
use Rattle.paper.specs.Keys.{Key}
use Rattle.paper.specs.Types.{Ty, bool, int, of, when}
use Rattle.paper.specs.Code.{Skip, Instruction, push_bool, push_int, push_key, push_field, push_priority, invert, negate, convert, compare, connects, skip, most_held, act, Walk, fails, ends, walk, skip_of}
use Rattle.paper.specs.Loading.{same_types, same_at, lands_well}
use Rattle.paper.proofs.Landings.{same_held, held_same, on_types}

when_given : {A : Type 0} (b : Bool) (a c : A) → when b a ≡ some c → a ≡ c
when_given true a c h = some-injective a c h
when_given false a c h = absurd (none-ne-some c h)

pub skip_leaves : (ks : List Key) (s : Skip) (held later : List Ty) → act (on_types ks (some (skip s))) held ≡ some later → held ≡ later
skip_leaves ks s [] later h = absurd (none-ne-some later h)
skip_leaves ks s (bool ∷ held) later h = when_given (ltb (length held) most_held) (bool ∷ held) later h
skip_leaves ks s (int ∷ held) later h = absurd (none-ne-some later h)
skip_leaves ks s (of k w ∷ held) later h = absurd (none-ne-some later h)

pub is_skip : (x : Option Instruction) (s : Skip) → skip_of x ≡ some s → x ≡ some (skip s)
is_skip none s h = absurd (none-ne-some s h)
is_skip (some (push_bool b)) s h = absurd (none-ne-some s h)
is_skip (some (push_int n)) s h = absurd (none-ne-some s h)
is_skip (some (push_key k)) s h = absurd (none-ne-some s h)
is_skip (some (push_field f k)) s h = absurd (none-ne-some s h)
is_skip (some push_priority) s h = absurd (none-ne-some s h)
is_skip (some invert) s h = absurd (none-ne-some s h)
is_skip (some negate) s h = absurd (none-ne-some s h)
is_skip (some (convert k w)) s h = absurd (none-ne-some s h)
is_skip (some (compare c)) s h = absurd (none-ne-some s h)
is_skip (some (connects o)) s h = absurd (none-ne-some s h)
is_skip (some (skip q)) s h = ap (λ x. some (skip x)) (some-injective q s h)

-- the types held where a skip lands, by a walk over what it passes over
abbrev pub held_at : List Key → Skip → List (Option Instruction) → List Ty → Walk Ty
held_at ks s rest held = walk 0 (map (on_types ks) (take s.over rest)) held

pub record Misfit (ks : List Key) (x : Option Instruction) (rest : List (Option Instruction)) (held : List Ty) : Type 0 where
  pub this : Skip
  pub is : x ≡ some (skip this)
  pub there : List Ty
  pub lands : held_at ks this rest held ≡ ends there
  pub differs : held ≢ there

-- what a landing that is not well compares
pub misfit : (ks : List Key) (x : Option Instruction) (rest : List (Option Instruction)) (held : List Ty)
    → lands_well ks (skip_of x) rest held ≡ false → Misfit ks x rest held
misfit ks x rest held h = go (skip_of x) refl h
  where
    at : (s : Skip) → skip_of x ≡ some s → (w : Walk Ty) → held_at ks s rest held ≡ w → same_at held w ≡ false → Misfit ks x rest held
    at s e (fails i) lands f = absurd (true≢false f)
    at s e (ends there) lands f =
        record {
          this = s;
          is = is_skip x s e;
          there = there;
          lands = lands;
          differs = λ d. true≢false (sym (held_same held) ∙ ap (same_types held) d ∙ f);
        }

    go : (o : Option Skip) → skip_of x ≡ o → lands_well ks o rest held ≡ false → Misfit ks x rest held
    go none e f = absurd (true≢false f)
    go (some s) e f = at s e (held_at ks s rest held) refl f

pub told_apart : (s t : List Ty) → s ≢ t → same_types s t ≡ false
told_apart s t d = go (same_types s t) refl
  where
    go : (b : Bool) → same_types s t ≡ b → b ≡ false
    go true e = absurd (d (same_held s t e))
    go false e = refl
