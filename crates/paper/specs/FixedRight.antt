-- What the pass of 02 h is to be: it never makes a text longer, leaves one without octal numerals as it is, and what it makes is read by the new
-- rules exactly when the text is by the old ones, as the same tree, places and bases aside; so types, values and code are the same.
use Rattle.std.specs.Prelude.{ℕ, ◌≤◌, ◌≡◌, List, [], ◌∷◌, ◌++◌, map, length, drop}
use Rattle.paper.specs.Answers.{ok}
use Rattle.paper.specs.Tokens.{bytes, Tok, Token, octal_numeral, scan, tokens}
use Rattle.paper.specs.Keys.{Key}
use Rattle.paper.specs.Entry.{Entry}
use Rattle.paper.specs.Grammar.{Tree}
use Rattle.paper.specs.Types.{type_of}
use Rattle.paper.specs.Meaning.{value_of}
use Rattle.paper.specs.Translating.{code_of}
use Rattle.paper.specs.Print.{numeral_in, bare}
use Rattle.paper.specs.Calls.{tree}
use Rattle.paper.specs.BasesIgnored.{placed}
use Rattle.paper.specs.Fixing.{old_tokens, old_tree, fixed}

-- "the result is never longer than the text"
abbrev pub NeverLonger : Type 0
NeverLonger = (text : List ℕ) → length (fixed text) ≤ length text

-- a text that passes 5 to 7 and 22 has no octal numeral: "all other bytes as they stood"
abbrev pub OthersStay : Type 0
OthersStay = (text : List ℕ) (ts : List Token) → tokens text ≡ ok ts → fixed text ≡ text

-- and of any text: every byte stands as it stood, in its order, but for the bytes of an octal numeral, which stand in hex
pub data StandsAs : List ℕ → List ℕ → Type 0 where
  at_end : StandsAs [] []
  a_byte : {s t : List ℕ} (b : ℕ) → StandsAs s t → StandsAs (b ∷ s) (b ∷ t)
  in_hex : {s t : List ℕ} (b v n : ℕ) → scan b s ≡ octal_numeral v n → StandsAs (drop n s) t
      → StandsAs (b ∷ s) (bytes "0x" ++ numeral_in 16 v ++ t)

abbrev pub InOrder : Type 0
InOrder = (text : List ℕ) → StandsAs text (fixed text)

-- tokens, places aside
abbrev pub toks_of : List Token → List Tok
toks_of ts = map (λ (t : Token). t.tok) ts

-- the result has the tokens of the text, an octal numeral in hex
abbrev pub SameTokens : Type 0
SameTokens =
    (text : List ℕ) (ts : List Token) → old_tokens text ≡ ok ts → (us : List Token) × (tokens (fixed text) ≡ ok us) × (toks_of us ≡ toks_of ts)

-- it is read exactly when the text was, as the same tree
pub record ReadAlike (text : List ℕ) : Type 0 where
  pub forth : (t : Tree) → old_tree text ≡ ok t → (u : Tree) × (tree (fixed text) ≡ ok u) × (bare u ≡ bare t)
  pub back : (u : Tree) → tree (fixed text) ≡ ok u → (t : Tree) × (old_tree text ≡ ok t) × (bare u ≡ bare t)

abbrev pub SameTree : Type 0
SameTree = (text : List ℕ) (ts : List Token) → old_tokens text ≡ ok ts → ReadAlike text

-- trees that are equal so have the same types, but for the place of a refusal, the same values and the same code
pub record MeantAlike (t u : Tree) : Type 0 where
  pub types : (ks : List Key) → placed (λ at. 0) (type_of ks u) ≡ placed (λ at. 0) (type_of ks t)
  pub values : (ks : List Key) (e : Entry) → value_of ks e u ≡ value_of ks e t
  pub code : (ks : List Key) → code_of ks u ≡ code_of ks t

abbrev pub SameMeaning : Type 0
SameMeaning = (t u : Tree) → bare u ≡ bare t → MeantAlike t u
