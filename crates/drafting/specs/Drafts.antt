-- What a draft says of a contract: its fault, that its text would be over a limit, or where its tree stands.
use Rattle.std.specs.Prelude.{ℕ, ◌<◌, ◌≡◌, Bool, true, false, ◌&&◌, List, leb, Result, Ok, Err}
use Rattle.paper.specs.Answers.{Answer, ok}
use Rattle.paper.specs.Tokens.{most_tokens}
use Rattle.paper.specs.Grammar.{Tree, most_levels}
use Rattle.paper.specs.Sized.{levels, count}
use Rattle.paper.specs.Pact.{Clause}
use Rattle.paper.specs.Contract.{fault}
use Rattle.paper.specs.Drafting.{contract_tree}
use Rattle.trees.specs.Standing.{tree_at}
use Rattle.drafting.specs.declared.contracts.Undrafted.{Undrafted}
use Rattle.drafting.specs.declared.contracts.Undrafted.TheVariants as D
use Rattle.drafting.specs.Assertions.{names_in}

-- within 01's limits of a text's tokens and levels
abbrev pub within_limits : Tree → Bool
within_limits t = leb (count t) most_tokens && leb (levels t) most_levels

pub record Planted (list ns : List ℕ) (t : Tree) (root : ℕ) : Type 0 where
  pub within : within_limits t ≡ true
  pub few : root < most_tokens
  pub stands : tree_at list ns root ≡ t

abbrev pub Measured : List ℕ → List ℕ → Tree → Result ℕ Undrafted → Type 0
Measured list ns t (Err (D.Fault at)) = ⊥
Measured list ns t (Err D.Over) = within_limits t ≡ false
Measured list ns t (Ok root) = Planted list ns t root

-- a contract's clauses, and the tree of them
abbrev pub Drafts : List ℕ → List ℕ → List ℕ → Answer (List Clause) → Result ℕ Undrafted → Type 0
Drafts list table ns a (Err (D.Fault at)) = a ≡ fault at
Drafts list table ns a (Err D.Over) = (cs : List Clause) × ((a ≡ ok cs) × Measured list ns (contract_tree (names_in list) table cs) (Err D.Over))
Drafts list table ns a (Ok root) = (cs : List Clause) × ((a ≡ ok cs) × Measured list ns (contract_tree (names_in list) table cs) (Ok root))
