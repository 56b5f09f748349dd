-- 02 c's parts against the text: it means what they mean together, each lies in it, and there are at most 512.
use Rattle.std.specs.Prelude.{ℕ, ◌+◌, ◌*◌, ◌≤◌, ◌<◌, ◌≡◌, ◌↔◌, true, List, [], ◌∷◌, ◌++◌, map, length}
use Rattle.paper.specs.Answers.{ok}
use Rattle.paper.specs.Tokens.{sequel, Token}
use Rattle.paper.specs.Keys.{Key}
use Rattle.paper.specs.Entry.{Entry}
use Rattle.paper.specs.Grammar.{Tree, joined, place_of}
use Rattle.paper.specs.Types.{typed}
use Rattle.paper.specs.Meaning.{value_of, is_true}
use Rattle.paper.specs.Calls.{tree}
use Rattle.paper.specs.BlocksRoundTrip.{All}
use Rattle.paper.specs.Parts.{top_level, Stretch, Part, parts, most_parts}
use Rattle.paper.specs.Explained.{holds_on}

-- a tree that is others joined by ";" from the left
pub data JoinedLeft : List Tree → Tree → Type 0 where
  alone : (t : Tree) → JoinedLeft (t ∷ []) t
  then : {ts : List Tree} {l : Tree} → JoinedLeft ts l → (at : ℕ) (r : Tree) → JoinedLeft (ts ++ (r ∷ [])) (joined at sequel l r)

abbrev pub roots : List Part → List Tree
roots ps = map (λ (p : Part). p.root) ps

-- a text that is read has parts, and its tree is their trees, joined so
abbrev pub TextIsItsParts : Type 0
TextIsItsParts = (text : List ℕ) (t : Tree) → tree text ≡ ok t → (ps : List Part) × (parts text ≡ ok ps) × JoinedLeft (roots ps) t

-- so it holds of an entry exactly where each part does
abbrev pub PartsDecide : Type 0
PartsDecide =
    (text : List ℕ) (t : Tree) (ps : List Part) → tree text ≡ ok t → parts text ≡ ok ps → (ks : List Key) (e : Entry)
    → (is_true (value_of ks e t) ≡ true) ↔ All (λ p. holds_on ks e p ≡ true) ps

-- and where it has the right types, so has each part
abbrev pub PartsTyped : Type 0
PartsTyped =
    (text : List ℕ) (t : Tree) (ps : List Part) → tree text ≡ ok t → parts text ≡ ok ps → (ks : List Key) → typed ks t ≡ ok tt
    → All (λ p. typed ks p.root ≡ ok tt) ps

-- a stretch of some bytes, with at least one of them
pub record StretchIn (s : List ℕ) (r : Stretch) : Type 0 where
  pub some : r.from < r.to
  pub inside : r.to ≤ length s

-- a part's stretch lies in the text, and its root's place in the stretch
pub record PartIn (text : List ℕ) (p : Part) : Type 0 where
  pub stretch : StretchIn text p.stretch
  pub from : p.stretch.from ≤ place_of p.root
  pub to : place_of p.root < p.stretch.to

abbrev pub PartsInText : Type 0
PartsInText = (text : List ℕ) (ps : List Part) → parts text ≡ ok ps → All (PartIn text) ps

-- a text that is read has a part
abbrev pub SomePart : Type 0
SomePart = (text : List ℕ) (t : Tree) (ps : List Part) → tree text ≡ ok t → parts text ≡ ok ps → 1 ≤ length ps

-- each part has a token, and a ";" stands between two

abbrev pub FewParts : Type 0
FewParts = (ts : List Token) → 2 * length (top_level ts) ≤ length ts + 1

abbrev pub AtMostParts : Type 0
AtMostParts = (text : List ℕ) (ps : List Part) → parts text ≡ ok ps → length ps ≤ most_parts
