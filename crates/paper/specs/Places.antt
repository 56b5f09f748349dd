-- What the offsets of tokens and the places of nodes are, and how many nodes a tree has: claims on the texts that are read.
use Rattle.std.specs.Prelude.{ℕ, suc, ◌≤◌, ◌<◌, ◌≡◌, length}
use mathlib.Core.List.{List, [], ◌∷◌, Memᴰ}
use Rattle.paper.specs.Answers.{Input, ok, refused}
use Rattle.paper.specs.Tokens.{Token, tokens}
use Rattle.paper.specs.Grammar.{Tree, truth, number, key, field, attribute, prefixed, joined, compared, nodes, parsed}

-- of every place in a tree, also the second one of a field or an attribute
abbrev pub Everywhere : (ℕ → Type 0) → Tree → Type 0
Everywhere P (truth at b) = P at
Everywhere P (number at n) = P at
Everywhere P (key at w) = P at
Everywhere P (field at w to f) = P at × P to
Everywhere P (attribute at to f) = P at × P to
Everywhere P (prefixed at o t) = P at × Everywhere P t
Everywhere P (joined at o l r) = P at × Everywhere P l × Everywhere P r
Everywhere P (compared at o l r) = P at × Everywhere P l × Everywhere P r

-- the offset of one of the tokens
abbrev pub OffsetIn : List Token → ℕ → Type 0
OffsetIn ts at = (u : Token) × Memᴰ u ts × (u.at ≡ at)

-- offsets that rise, from a first one on and below a last one
abbrev pub Rising : ℕ → ℕ → List Token → Type 0
Rising from below [] = Unit {0}
Rising from below (u ∷ us) = (from ≤ u.at) × (u.at < below) × Rising (suc u.at) below us

-- the claims

-- a tree has no more nodes than its text has tokens, and their places are offsets of tokens

abbrev pub NodesWithinTokens : Type 0
NodesWithinTokens = (size : ℕ) (ts : List Token) (t : Tree) → parsed size ts ≡ ok t → nodes t ≤ length ts

abbrev pub PlacesAreOffsets : Type 0
PlacesAreOffsets = (size : ℕ) (ts : List Token) (t : Tree) → parsed size ts ≡ ok t → Everywhere (OffsetIn ts) t

-- offsets rise, and lie in the text

abbrev pub OffsetsRise : Type 0
OffsetsRise = (text : List ℕ) (ts : List Token) → tokens text ≡ ok ts → Rising 0 (length text) ts

abbrev pub OffsetsInText : Type 0
OffsetsInText = (text : List ℕ) (ts : List Token) → tokens text ≡ ok ts → (at : ℕ) → OffsetIn ts at → at < length text

-- and so do places; that of a refusal may be the text's length

abbrev pub PlacesInText : Type 0
PlacesInText = (text : List ℕ) (ts : List Token) (t : Tree) → tokens text ≡ ok ts → parsed (length text) ts ≡ ok t
    → Everywhere (λ at. at < length text) t

abbrev pub RefusalsInText : Type 0
RefusalsInText = (text : List ℕ) (ts : List Token) (n : ℕ) (i : Input) (at : ℕ) → tokens text ≡ ok ts
    → parsed (length text) ts ≡ refused n i at → at ≤ length text
