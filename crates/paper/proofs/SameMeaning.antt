-- Trees that are the same, places aside, have the same types, values and code: each of these looks at no place, but to refuse there.
use Prim.Native.Nat.{ℕ}
use mathlib.Core.Path.{◌≡◌, refl, sym, ap, ap₂, ◌∙◌}
use Rattle.paper.specs.Grammar.{Tree, truth, number, key, field, attribute, prefixed, joined, compared}
use Rattle.paper.specs.Print.{bare}
use Rattle.paper.specs.FixedRight.{SameMeaning}
use Rattle.paper.proofs.BasesIgnored.{moved, types_alike, values_alike, code_alike}

abbrev nowhere : ℕ → ℕ
nowhere at = 0

moved_bare : (t : Tree) → moved nowhere (bare t) ≡ moved nowhere t
moved_bare (truth at b) = refl
moved_bare (number at n) = refl
moved_bare (key at w) = refl
moved_bare (field at w to f) = refl
moved_bare (attribute at to f) = refl
moved_bare (prefixed at o t) = ap (prefixed 0 o) (moved_bare t)
moved_bare (joined at o l r) = ap₂ (joined 0 o) (moved_bare l) (moved_bare r)
moved_bare (compared at c l r) = ap₂ (compared 0 c) (moved_bare l) (moved_bare r)

pub same_meaning : SameMeaning
same_meaning t u same =
    let one : moved nowhere u ≡ moved nowhere t = sym (moved_bare u) ∙ ap (moved nowhere) same ∙ moved_bare t in
    record { types = types_alike nowhere u t one; values = values_alike nowhere u t one; code = code_alike nowhere u t one }
