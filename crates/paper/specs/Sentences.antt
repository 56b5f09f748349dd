-- 01, "Tokens and grammar", second paragraph, once more: as a grammar, with nothing of how a text is read. And the places of
-- refusals 8, 9 and 10 by what can follow: "first token that no sentence could continue with, or text ends too soon (level
-- limit and contents of address strings aside)", "a 65th level opens", "bad address string". In a stage "the earliest place
-- wins; at one place the lower number wins".
use Rattle.std.specs.Prelude.{ℕ, zero, suc, ◌≡◌, ◌≢◌, ◌↔◌, true, false, List, [], ◌∷◌, ◌++◌}
use Rattle.std.proofs.Math.Option.{Option, none, some}
use Rattle.paper.specs.Answers.{Input, in_text, Answer, ok, refused}
use Rattle.paper.specs.Tokens.{Literal, plain, bytes, undotted, Prefix, Join, sequel, implies, or_else, and_also, Comparison, Sign, join, comparison, prefix, opening, closing, colons, Tok, word, numeral, string, sign, Token}
use Rattle.paper.specs.Addresses.{Scheme, scheme_of, address}
use Rattle.paper.specs.Grammar.{Tree, truth, number, key, field, attribute, prefixed, joined, compared, Make, stuck, ends, Reader, whole, most_levels, parsed}

-- a kind of phrase: which tokens are one, and with which tree
abbrev pub Phrases : Type 1
Phrases = Tree → List Token → Type 0

abbrev pub token_at : ℕ → Tok → Token
token_at at k = record { at = at; tok = k }

abbrev pub sign_at : ℕ → Sign → Token
sign_at at g = token_at at (sign g)

-- operators: the tokens of one, each with what it makes of the trees on its two sides

abbrev pub Operator : Type 1
Operator = Token → Make → Type 0

pub data Joining (o : Join) : Token → Make → Type 0 where
  joining : (at : ℕ) → Joining o (sign_at at (join o)) (joined at o)

pub data Comparing : Token → Make → Type 0 where
  comparing : (at : ℕ) (c : Comparison) → Comparing (sign_at at (comparison c)) (compared at c)

-- "at most once", "one .. at most"
pub data Once (op : Operator) (S : Phrases) : Tree → List Token → Type 0 where
  none_of : {t : Tree} {ts : List Token} → S t ts → Once op S t ts
  one_of : {l r : Tree} {ls rs : List Token} {u : Token} {make : Make}
      → S l ls → op u make → S r rs → Once op S (make l r) (ls ++ (u ∷ rs))

-- "left"
pub data Chain (op : Operator) (S : Phrases) : Tree → List Token → Type 0 where
  first : {t : Tree} {ts : List Token} → S t ts → Chain op S t ts
  further : {l r : Tree} {ls rs : List Token} {u : Token} {make : Make}
      → Chain op S l ls → op u make → S r rs → Chain op S (make l r) (ls ++ (u ∷ rs))

-- "";" left, "->" at most once, "||" left, "&&" left, one comparison at most", over what S holds

abbrev pub Implication : Phrases → Phrases
Implication S = Once (Joining implies) (Chain (Joining or_else) (Chain (Joining and_also) (Once Comparing S)))

abbrev pub Sequence : Phrases → Phrases
Sequence S = Chain (Joining sequel) (Implication S)

-- a word that may name a key
abbrev pub Name : List ℕ → Type 0
Name w = (w ≢ bytes "true") × (w ≢ bytes "false")

-- prefix operators and atoms, where Inner has what may stand after a prefix operator and Outer what a parenthesis may hold
pub data Operand (read : Reader) (Inner Outer : Phrases) : Tree → List Token → Type 0 where
  a_true : (at : ℕ) → Operand read Inner Outer (truth at true) (token_at at (word (bytes "true")) ∷ [])
  a_false : (at : ℕ) → Operand read Inner Outer (truth at false) (token_at at (word (bytes "false")) ∷ [])
  a_numeral : (at : ℕ) (n : Literal) → Operand read Inner Outer (number at n) (token_at at (numeral n) ∷ [])
  an_address : (at : ℕ) (w : List ℕ) (s : Scheme) (a b c : ℕ) (q : List ℕ) (n : ℕ) → scheme_of w ≡ some s → read s q ≡ some n
      → Operand read Inner Outer (number at (plain n))
      (token_at at (word w) ∷ sign_at a opening ∷ token_at b (string q) ∷ sign_at c closing ∷ [])
  a_key : (at : ℕ) (w : List ℕ) → Name w → Operand read Inner Outer (key at w) (token_at at (word w) ∷ [])
  a_field : (at : ℕ) (w : List ℕ) (a to : ℕ) (f : List ℕ) → Name w → undotted f ≡ true
      → Operand read Inner Outer (field at w to f) (token_at at (word w) ∷ sign_at a colons ∷ token_at to (word f) ∷ [])
  an_attribute : (at to : ℕ) (f : List ℕ) → undotted f ≡ true
      → Operand read Inner Outer (attribute at to f) (sign_at at colons ∷ token_at to (word f) ∷ [])
  a_prefixed : {t : Tree} {ts : List Token} (at : ℕ) (o : Prefix)
      → Inner t ts → Operand read Inner Outer (prefixed at o t) (sign_at at (prefix o) ∷ ts)
  a_parenthesis : {t : Tree} {ts : List Token} (at to : ℕ)
      → Outer t ts → Operand read Inner Outer t (sign_at at opening ∷ (ts ++ (sign_at to closing ∷ [])))

-- with at most so many levels: "A level is opened by each prefix operator and each parenthesis (not an address's)"
unfoldable pub Prefixed : Reader → ℕ → Phrases
Prefixed read zero = Operand read (λ t ts. ⊥) (λ t ts. ⊥)
Prefixed read (suc levels) = Operand read (Prefixed read levels) (Sequence (Prefixed read levels))

-- "One trailing ";" is allowed, at top level only"

pub data Trailing (op : Operator) (S : Phrases) : Tree → List Token → Type 0 where
  without : {t : Tree} {ts : List Token} → Chain op S t ts → Trailing op S t ts
  trailing : {t : Tree} {ts : List Token} {u : Token} {make : Make}
      → Chain op S t ts → op u make → Trailing op S t (ts ++ (u ∷ []))

abbrev pub Whole : Phrases → Phrases
Whole S = Trailing (Joining sequel) (Implication S)

-- "contents of address strings aside": a bad one reads as 0
abbrev pub or_zero : Option ℕ → Option ℕ
or_zero none = some 0
or_zero (some n) = some n

unfoldable pub lenient : Reader
lenient s q = or_zero (address s q)

-- "level limit and contents of address strings aside"
abbrev pub Sentence : Phrases
Sentence t ts = (levels : ℕ) × Whole (Prefixed lenient levels) t ts

-- with at most 64 levels, contents of address strings aside
abbrev pub Bounded : Phrases
Bounded = Whole (Prefixed lenient most_levels)

-- with at most one level more
abbrev pub OneDeeper : Phrases
OneDeeper = Whole (Prefixed lenient (suc most_levels))

-- with good address strings, level limit aside
abbrev pub WellSpelled : Phrases
WellSpelled t ts = (levels : ℕ) × Whole (Prefixed address levels) t ts

-- with at most 64 levels and good address strings
abbrev pub Valid : Phrases
Valid = Whole (Prefixed address most_levels)

-- some S begins with these tokens
abbrev pub Continues : Phrases → List Token → Type 0
Continues S taken = (t : Tree) × (rest : List Token) × S t (taken ++ rest)

-- where a text goes wrong

-- `us` begins with the first token of `ts` that no sentence could continue with; or it is empty, and the text ends too soon
pub record FirstBad (ts us : List Token) : Type 0 where
  pub taken : List Token
  pub split : ts ≡ taken ++ us
  pub before : Continues Sentence taken
  pub after : (u : Token) (rest : List Token) → us ≡ u ∷ rest → ¬ Continues Sentence (taken ++ (u ∷ []))
  pub short : us ≡ [] → (t : Tree) → ¬ Sentence t ts

-- a token that opens a level, and one that may hold an address

pub data OpensLevel : Token → Type 0 where
  by_prefix : (at : ℕ) (o : Prefix) → OpensLevel (sign_at at (prefix o))
  by_parenthesis : (at : ℕ) → OpensLevel (sign_at at opening)

pub data IsString : Token → Type 0 where
  a_string : (at : ℕ) (q : List ℕ) → IsString (token_at at (string q))

-- the number of the refusal after tokens that some valid text begins with: 8 where the text ends, or no sentence continues
-- with the next token; 9 where one of 65 levels does, and none of 64, whatever its address strings; 10 where one of 64 levels
-- does, and none with good address strings, whatever its levels
pub data Number (ts taken : List Token) : List Token → ℕ → Type 0 where
  text_ends : ((t : Tree) → ¬ Sentence t ts) → Number ts taken [] 8
  no_sentence : {u : Token} {us : List Token} → ¬ Continues Sentence (taken ++ (u ∷ [])) → Number ts taken (u ∷ us) 8
  too_deep : {u : Token} {us : List Token} → OpensLevel u → Continues OneDeeper (taken ++ (u ∷ []))
      → ¬ Continues Bounded (taken ++ (u ∷ [])) → Number ts taken (u ∷ us) 9
  bad_string : {u : Token} {us : List Token} → IsString u → Continues Bounded (taken ++ (u ∷ []))
      → ¬ Continues WellSpelled (taken ++ (u ∷ [])) → Number ts taken (u ∷ us) 10

pub record Stops (ts us : List Token) (n : ℕ) : Type 0 where
  pub taken : List Token
  pub split : ts ≡ taken ++ us
  pub before : Continues Valid taken
  pub number : Number ts taken us n

-- the token, or the text's length
abbrev pub place_from : ℕ → List Token → ℕ
place_from size [] = size
place_from size (u ∷ us) = u.at

-- what the stage of refusals 8 to 10 is to answer on the tokens of a text of a given length
abbrev pub Right : ℕ → List Token → Answer Tree → Type 0
Right size ts (ok t) = Valid t ts
Right size ts (refused n i at) = (us : List Token) × Stops ts us n × (i ≡ in_text) × (at ≡ place_from size us)

-- the claims

-- it answers that, and nothing else
abbrev pub ParsedIsRight : Type 0
ParsedIsRight = (size : ℕ) (ts : List Token) (a : Answer Tree) → (parsed size ts ≡ a) ↔ Right size ts a

-- so a text is read to a tree exactly when it is valid with that tree; then it is a sentence with it, and has no other

abbrev pub ReadIsValid : Type 0
ReadIsValid = (size : ℕ) (ts : List Token) (t : Tree) → (parsed size ts ≡ ok t) ↔ Valid t ts

abbrev pub ValidIsSentence : Type 0
ValidIsSentence = (t : Tree) (ts : List Token) → Valid t ts → Sentence t ts

abbrev pub OneTree : Type 0
OneTree = (t r : Tree) (ts : List Token) → Sentence t ts → Sentence r ts → t ≡ r

-- the reading is stuck at the first bad token, whatever the number of levels; so 8 stands there

abbrev pub StuckIsFirstBad : Type 0
StuckIsFirstBad = (levels : ℕ) (ts us : List Token) → whole address levels ts ≡ ends stuck us → FirstBad ts us

abbrev pub EightIsFirstBad : Type 0
EightIsFirstBad = (size : ℕ) (ts : List Token) (at : ℕ) → parsed size ts ≡ refused 8 in_text at
    → (us : List Token) × FirstBad ts us × (at ≡ place_from size us)

-- and it is given there, where neither 9 nor 10 is given
abbrev pub FirstBadIsEight : Type 0
FirstBadIsEight = (size : ℕ) (ts us : List Token) → FirstBad ts us → ((i : Input) (at : ℕ) → parsed size ts ≢ refused 9 i at)
    → ((i : Input) (at : ℕ) → parsed size ts ≢ refused 10 i at) → parsed size ts ≡ refused 8 in_text (place_from size us)
