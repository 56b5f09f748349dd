-- Of what was answered where the nodes might have been too few all is said that is said where they are enough: of a text's tree, of its root
-- against a list, and of its parts.
use Prim.Native.Nat.{ℕ}
use mathlib.Core.Path.{◌≡◌, subst, ◌∙◌, ap}
use mathlib.Core.List.{List}
use Rattle.std.specs.Prelude.{Result, Ok, Err}
use Rattle.paper.specs.declared.Refusal.{Refusal}
use Rattle.paper.specs.Answers.{refused_by}
use Rattle.paper.specs.Calls.{tree, restriction}
use Rattle.tokens.specs.declared.Stop.{Stop}
use Rattle.tokens.specs.declared.Stop.TheVariants.{Refused}
use Rattle.reading.specs.Grown.{Told, Planted, Grows}
use Rattle.reading.specs.Restricted.{Rooted, Restricts}
use Rattle.reading.specs.Parted.{PassedParts, RestrictsParts}
use Rattle.reading.specs.Tried.{TriesTree, Tries, TriesParts}

module _ (Says : Result ℕ Refusal → Type 0) (r : Result ℕ Stop) (told : Told Says r) where
  answered : {n : ℕ} → r ≡ Ok n → Says (Ok n)
  answered e = subst (Told Says) e told

  turned_down : {s : Stop} {v : Refusal} → r ≡ Err s → s ≡ Refused v → Says (Err v)
  turned_down e f = subst (Told Says) (e ∙ ap Err f) told

module _ (text nodes : List ℕ) (r : Result ℕ Stop) (told : TriesTree text nodes r) where
  pub tree_grown : {m : ℕ} → r ≡ Ok m → Planted text nodes m
  tree_grown = answered (Grows text nodes) r told

  pub tree_refused : {s : Stop} {v : Refusal} → r ≡ Err s → s ≡ Refused v → tree text ≡ refused_by v
  tree_refused = turned_down (Grows text nodes) r told

module _ (text list nodes : List ℕ) (r : Result ℕ Stop) (told : Tries text list nodes r) where
  pub root_found : {k : ℕ} → r ≡ Ok k → Rooted text list nodes k
  root_found = answered (Restricts text list nodes) r told

  pub root_refused : {s : Stop} {v : Refusal} → r ≡ Err s → s ≡ Refused v → restriction text list ≡ refused_by v
  root_refused = turned_down (Restricts text list nodes) r told

module _ (text list nodes rows : List ℕ) (r : Result ℕ Stop) (told : TriesParts text list nodes rows r) where
  pub parts_found : {n : ℕ} → r ≡ Ok n → PassedParts text list nodes rows n
  parts_found = answered (RestrictsParts text list nodes rows) r told

  pub parts_refused : {s : Stop} {v : Refusal} → r ≡ Err s → s ≡ Refused v → restriction text list ≡ refused_by v
  parts_refused = turned_down (RestrictsParts text list nodes rows) r told
