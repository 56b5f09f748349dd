-- What is written over the front of bytes stands there, the later ones stay, and one more is written after it.
use Prim.Native.Nat.{ℕ, suc, ◌+◌, ◌-◌, ◌≤◌, ◌<◌}
use native.Mathlib.Numerals.{add-one}
use native.Mathlib.Omega.{arith}
use mathlib.Core.Path.{◌≡◌, refl, sym, ap, ◌∙◌}
use mathlib.Core.List.{List, [], ◌∷◌, ◌++◌, append_assoc, append-nil}
use lib.ListN.{length, drop, get_or, set, length-append, length-drop, get_or-append}
use lib.Seq.{drop-cons, set_at, append_snoc, get_or-append-add, get_or-drop, drop-length, drop-append-add}
use Rattle.paper.specs.Calls.{over}

module _ (new old : List ℕ) where
  pub over_there : (i : ℕ) → i < length new → get_or (over new old) i 0 ≡ get_or new i 0
  over_there i h = get_or-append new (drop (length new) old) 0 i h

  pub over_later : (i : ℕ) → length new ≤ i → get_or (over new old) i 0 ≡ get_or old i 0
  over_later i h =
      let past : length new + (i - length new) ≡ i = omega (arith, h) in
      ap (λ (k : ℕ). get_or (over new old) k 0) (sym past)
      ∙ get_or-append-add new (drop (length new) old) (i - length new) 0
      ∙ get_or-drop (length new) old (i - length new) 0
      ∙ ap (λ (k : ℕ). get_or old k 0) past

  pub over_length : length new ≤ length old → length (over new old) ≡ length old
  over_length h = omega (arith, h, length-append new (drop (length new) old), length-drop (length new) old)

  pub over_next : (v : ℕ) → length new < length old → set (over new old) (length new) v ≡ over (new ++ (v ∷ [])) old
  over_next v inside =
      let k = length new in
      let rest = drop (suc k) old in
      let long : length (new ++ (v ∷ [])) ≡ suc k = length-append new (v ∷ []) ∙ add-one k in
      ap (λ (l : List ℕ). set (new ++ l) k v) (drop-cons old k 0 inside)
      ∙ set_at new (get_or old k 0) rest v k refl
      ∙ sym (append_snoc new v rest)
      ∙ ap (λ (m : ℕ). new ++ (v ∷ []) ++ drop m old) (sym long)

-- two stretches, the first of which is written over wholly
pub over_both : (new more old late : List ℕ) → length old ≡ length new → over (new ++ more) (old ++ late) ≡ over new old ++ over more late
over_both new more old late h =
    let many : length (new ++ more) ≡ length old + length more = omega (arith, h, length-append new more) in
    let none_left : drop (length new) old ≡ [] = ap (λ (k : ℕ). drop k old) (sym h) ∙ drop-length old in
    let rest = drop (length more) late in
    ap (λ (k : ℕ). new ++ more ++ drop k (old ++ late)) many
    ∙ ap (λ (s : List ℕ). new ++ more ++ s) (drop-append-add old late (length more))
    ∙ append_assoc new more rest
    ∙ ap (λ (s : List ℕ). s ++ (more ++ rest)) (sym (append-nil new) ∙ ap (λ (s : List ℕ). new ++ s) (sym none_left))
