-- Two cuts of one list of tokens: they are the same, or one is after the other.
use mathlib.Core.Path.{◌≡◌, refl, sym, ap₂}
use mathlib.Core.List.{List, [], ◌∷◌, ◌++◌, append_assoc, head-eq_of_cons-eq, tail-eq_of_cons-eq}
use Rattle.paper.specs.Tokens.{Token}
use Rattle.paper.specs.Sentences.{Phrases, Continues}

-- ys goes on from xs with the next token of us
abbrev pub Further : List Token → List Token → List Token → Type 0
Further xs us ys = (u : Token) × (rest : List Token) × (more : List Token) × (us ≡ u ∷ rest) × (ys ≡ xs ++ (u ∷ more))

data Cuts (xs us ys vs : List Token) : Type 0 where
  one_cut : xs ≡ ys → us ≡ vs → Cuts xs us ys vs
  left_first : Further xs us ys → Cuts xs us ys vs
  right_first : Further ys vs xs → Cuts xs us ys vs

cuts : (xs us ys vs : List Token) → xs ++ us ≡ ys ++ vs → Cuts xs us ys vs
cuts [] us [] vs e = one_cut refl e
cuts [] us (y ∷ ys) vs e = left_first (y, ys ++ vs, ys, e, refl)
cuts (x ∷ xs) us [] vs e = right_first (x, xs ++ us, xs, sym e, refl)
cuts (x ∷ xs) us (y ∷ ys) vs e = go (cuts xs us ys vs (tail-eq_of_cons-eq e))
  where
    same : x ≡ y
    same = head-eq_of_cons-eq e

    go : Cuts xs us ys vs → Cuts (x ∷ xs) us (y ∷ ys) vs
    go (one_cut d f) = one_cut (ap₂ ◌∷◌ same d) f
    go (left_first (u, rest, more, d, f)) = left_first (u, rest, more, d, ap₂ ◌∷◌ (sym same) f)
    go (right_first (u, rest, more, d, f)) = right_first (u, rest, more, d, ap₂ ◌∷◌ same f)

pub sole_cut : (xs us ys vs : List Token) → xs ++ us ≡ ys ++ vs → ¬ Further xs us ys → ¬ Further ys vs xs → (xs ≡ ys) × (us ≡ vs)
sole_cut xs us ys vs e left right = go (cuts xs us ys vs e)
  where
    go : Cuts xs us ys vs → (xs ≡ ys) × (us ≡ vs)
    go (one_cut d f) = (d, f)
    go (left_first f) = absurd (left f)
    go (right_first f) = absurd (right f)

-- what begins with more tokens begins with fewer
pub continues_sooner : (S : Phrases) (taken : List Token) (u : Token) (more : List Token)
    → Continues S (taken ++ (u ∷ more)) → Continues S (taken ++ (u ∷ []))
continues_sooner S taken u more (t, rest, h) = (t, more ++ rest, rw append_assoc (rw append_assoc at h))
