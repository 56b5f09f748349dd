-- What `restrict` answers, read with the nodes as it leaves them.
use Rattle.std.specs.Prelude.{ℕ, ◌+◌, ◌*◌, ◌≤◌, ◌<◌, ◌≡◌, List, length, Result, Ok, Err}
use Rattle.paper.specs.declared.Refusal.{Refusal}
use Rattle.paper.specs.Answers.{ok, ◌>>=◌, refused_by}
use Rattle.paper.specs.Tokens.{most_tokens}
use Rattle.paper.specs.Keys.{keys}
use Rattle.paper.specs.Grammar as G
use Rattle.paper.specs.Types.{typed}
use Rattle.paper.specs.Calls.{tree, restriction}
use Rattle.keys.specs.Says.{keys_in}
use Rattle.trees.specs.Standing.{tree_at}
use Rattle.trees.specs.Marks.{Marked}

-- the tree at node k is the text's, has the right types by the list's keys, and the marks of its names
pub record Typed (text list nodes : List ℕ) (k : ℕ) : Type 0 where
  pub read : tree text ≡ ok (tree_at text nodes k)
  pub checked : typed (keys_in list) (tree_at text nodes k) ≡ ok tt
  pub count : G.nodes (tree_at text nodes k) ≡ k + 1
  pub few : k < most_tokens
  pub short : k < length text
  pub has : k * 8 + 8 ≤ length nodes
  pub marked : Marked (keys_in list) text nodes (k + 1)

-- and text and list pass
pub record Rooted (text list nodes : List ℕ) (k : ℕ) : Type 0 where
  pub passed : restriction text list ≡ ok (record { keys = keys_in list; root = tree_at text nodes k })
  pub listed : keys list ≡ ok (keys_in list)
  pub typed : Typed text list nodes k

abbrev pub Types : List ℕ → List ℕ → List ℕ → Result ℕ Refusal → Type 0
Types text list nodes (Ok k) = Typed text list nodes k
Types text list nodes (Err v) = (tree text >>= typed (keys_in list)) ≡ refused_by v

abbrev pub Restricts : List ℕ → List ℕ → List ℕ → Result ℕ Refusal → Type 0
Restricts text list nodes (Ok k) = Rooted text list nodes k
Restricts text list nodes (Err v) = restriction text list ≡ refused_by v
