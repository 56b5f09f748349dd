-- What the parser's functions ask of the tape and of the nodes, and what they say of their answers.
use Rattle.std.specs.Prelude.{ℕ, ◌+◌, ◌*◌, ◌-◌, ◌≤◌, ◌<◌, ◌≡◌, Bool, cond, ◌&&◌, ◌⊎◌, List, [], ◌∷◌, length, get_or, eqb, ltb, Result, Ok, Err, Option, Some, None}
use Rattle.paper.specs.declared.Refusal.{Refusal}
use Rattle.std.proofs.lemmas.List.Edits.{sets}
use Rattle.std.proofs.Math.Seq.{slice}
use Rattle.paper.specs.declared.Place.{Place}
use Rattle.paper.specs.declared.Place.TheVariants.{Text}
use Rattle.paper.specs.Answers.{ok, refused_by}
use Rattle.paper.specs.Tokens.{closing, undotted}
use Rattle.paper.specs.Grammar as G
use Rattle.paper.specs.Grammar.{Out, got, Parser, outcome, parsed}
use Rattle.tokens.specs.Tape.{Tape, tokens_on, kind_at, start_at, end_at, word_no, sign_no}
use Rattle.tokens.specs.Tokenized.{Sound}
use Rattle.grammar.specs.Places.{onward, node_words, node_at}
use Rattle.grammar.specs.declared.steps.Taken.{Taken}
use Rattle.trees.specs.Words.{words, Spelled}

-- where a reading starts: how many tokens there are, how many levels may still be opened, the next token, and the next free node
pub record Start : Type 0 where
  pub count : ℕ
  pub levels : ℕ
  pub token : ℕ
  pub node : ℕ

-- as the four numbers that are lent
abbrev pub start_of : List ℕ → Start
start_of numbers = record { count = get_or numbers 0 0; levels = get_or numbers 1 0; token = get_or numbers 2 0; node = get_or numbers 3 0 }

abbrev pub numbers_of : Start → List ℕ
numbers_of from = from.count ∷ from.levels ∷ from.token ∷ from.node ∷ []

-- on from another token and node, and after a token that opens a level

abbrev pub moved_to : Start → ℕ → ℕ → Start
moved_to from token node = record { count = from.count; levels = from.levels; token = token; node = node }

abbrev pub within : Start → Start
within from = record { count = from.count; levels = from.levels - 1; token = from.token + 1; node = from.node }

-- to read from a start on: as many nodes are used as tokens at most
pub record Ready (T : Tape) (room : ℕ) (from : Start) : Type 0 where
  pub sound : Sound T from.count
  pub have_room : from.count * node_words ≤ room
  pub used : from.node ≤ from.token
  pub here : from.token ≤ from.count

-- where there is a token
pub record Leads (T : Tape) (room : ℕ) (from : Start) : Type 0 where
  pub ready : Ready T room from
  pub some : from.token < from.count

-- and it is a word
pub record Worded (T : Tape) (room : ℕ) (from : Start) : Type 0 where
  pub leads : Leads T room from
  pub word : kind_at T.rows from.token ≡ word_no

-- a tree that was stored in the nodes from b up to f, of the tokens from `at` up to i
pub record Built (n at b : ℕ) (before after : List ℕ) (t : G.Tree) (f i : ℕ) : Type 0 where
  pub next : f ≡ b + G.nodes t
  pub stored : after ≡ sets before (node_at b) (words b t)
  pub grown : b < f
  pub moved : f + at ≤ i + b
  pub inside : i ≤ n

pub record Took (T : Tape) (n at b : ℕ) (o : Out) (before after : List ℕ) (f i : ℕ) : Type 0 where
  pub tree : G.Tree
  pub out : o ≡ G.ends (got tree) (onward T n i)
  pub spelled : Spelled T.text tree
  pub built : Built n at b before after tree f i

-- a tree up to a free node and a next token
abbrev pub taken : ℕ → ℕ → Result Taken Refusal
taken node token = Ok (record { node = node; token = token })

-- an answer to what the definition gives: a refusal says nothing of the nodes
abbrev pub Meets : Tape → ℕ → ℕ → ℕ → Out → List ℕ → List ℕ → Result Taken Refusal → Type 0
Meets T n at b o before after (Ok r) = Took T n at b o before after r.node r.token
Meets T n at b o before after (Err v) = outcome (length T.text) o ≡ refused_by v

-- an answer from a start on: to what the token there, of so many, begins; and to what a level reads, by how many levels may still
-- be opened

abbrev pub Begins : (Tape → ℕ → ℕ → Out) → Tape → Start → List ℕ → List ℕ → Result Taken Refusal → Type 0
Begins o T from before after r = Meets T from.count from.token from.node (o T from.count from.token) before after r

abbrev pub Reads : (ℕ → Parser) → Tape → Start → List ℕ → List ℕ → Result Taken Refusal → Type 0
Reads p T from before after r = Begins (λ T n at. p from.levels (onward T n at)) T from before after r

-- an answer from a start on to which p has read a tree: to what q makes of all of it
abbrev pub Continues : (ℕ → Parser) → (ℕ → Parser) → Tape → Start → List ℕ → List ℕ → Result Taken Refusal → Type 0
Continues p q T from before after r =
    (at b : ℕ) (first : List ℕ)
    → Took T from.count at b (p from.levels (onward T from.count at)) first before from.node from.token
    → Meets T from.count at b (q from.levels (onward T from.count at)) first after r

-- an undotted word stands at `at`
abbrev pub is_name : Tape → ℕ → ℕ → Bool
is_name T n at = ltb at n && eqb (kind_at T.rows at) word_no && undotted (slice (start_at T.rows at) (end_at T.rows at) T.text)

-- what a look at the token of index `at` finds
pub record Seen (rows : List ℕ) (n at lowest highest k : ℕ) : Type 0 where
  pub here : at < n
  pub told : k ≡ kind_at rows at
  pub low : lowest ≤ k
  pub high : k ≤ highest

abbrev pub Finds : List ℕ → ℕ → ℕ → ℕ → ℕ → Option ℕ → Type 0
Finds rows n at lowest highest (Some k) = Seen rows n at lowest highest k
Finds rows n at lowest highest None = at < n → (kind_at rows at < lowest) ⊎ (highest < kind_at rows at)

-- the place of the first of the tokens from `at` on, or the text's end
abbrev pub place_from : ℕ → List ℕ → ℕ → ℕ → Place
place_from size rows n at = Text (cond (ltb at n) (start_at rows at) size)

-- what looking for a ")" after a tree answers
pub record Closed (rows : List ℕ) (n free at f i : ℕ) : Type 0 where
  pub here : at < n
  pub told : kind_at rows at ≡ sign_no closing
  pub same : f ≡ free
  pub next : i ≡ at + 1

pub record Unclosed (size : ℕ) (rows : List ℕ) (n at k : ℕ) (p : Place) : Type 0 where
  pub missing : at < n → kind_at rows at ≡ sign_no closing → ⊥
  pub number : k ≡ 8
  pub place : p ≡ place_from size rows n at

abbrev pub Closes : ℕ → List ℕ → ℕ → ℕ → ℕ → Result Taken Refusal → Type 0
Closes size rows n free at (Ok r) = Closed rows n free at r.node r.token
Closes size rows n free at (Err v) = Unclosed size rows n at v.number v.place

-- the whole text
pub record WholeTree (T : Tape) (n : ℕ) (before after : List ℕ) (m : ℕ) : Type 0 where
  pub tree : G.Tree
  pub out : parsed (length T.text) (tokens_on T 0 n) ≡ ok tree
  pub spelled : Spelled T.text tree
  pub count : m ≡ G.nodes tree
  pub stored : after ≡ sets before 0 (words 0 tree)
  pub few : m ≤ n

abbrev pub Parses : Tape → ℕ → List ℕ → List ℕ → Result ℕ Refusal → Type 0
Parses T n before after (Ok m) = WholeTree T n before after m
Parses T n before after (Err v) = parsed (length T.text) (tokens_on T 0 n) ≡ refused_by v
