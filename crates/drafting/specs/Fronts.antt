-- What stands before a byte, held by value, in the words of Contract: the trees of the clauses, and what waits.
use Rattle.std.specs.Prelude.{ℕ, ◌*◌, ◌≤◌, ◌≡◌, List, [], ◌∷◌, length}
use Rattle.std.specs.Prelude as S
use Rattle.std.specs.Prelude.{Some, None}
use Rattle.std.proofs.Math.Option.{Option, none, some}
use Rattle.paper.specs.Answers.{Answer, ok}
use Rattle.paper.specs.Tokens.{sequel}
use Rattle.paper.specs.Grammar.{Tree, joined}
use Rattle.paper.specs.Pact.{Comparator, Conjunction, Clause}
use Rattle.paper.specs.Contract as P
use Rattle.paper.specs.Drafting.{clause_tree, sequel_of}
use Rattle.drafting.specs.declared.pieces.Piece.{Piece}
use Rattle.drafting.specs.declared.opcodes.Comparator as O
use Rattle.drafting.specs.declared.opcodes.Conjunction as J
use Rattle.drafting.specs.declared.fronts.Front.{Front}
use Rattle.drafting.specs.Opcodes.{conjunction_meant, comparator_meant}
use Rattle.drafting.specs.Pieces.{Holds, Operands}
use Rattle.drafting.specs.Assertions.{names_in}

-- what waits

abbrev pub link_meant : S.Option J.Conjunction → Option Conjunction
link_meant None = none
link_meant (Some j) = some (conjunction_meant j)

abbrev pub opened_meant : S.Option O.Comparator → Option Comparator
opened_meant None = none
opened_meant (Some o) = some (comparator_meant o)

-- the tree of the closed clauses, and of the one that may go on

module _ (list table : List ℕ) where
  abbrev pub all_of : List Clause → Option Tree
  all_of [] = none
  all_of (c ∷ cs) = some (sequel_of (names_in list) table (clause_tree (names_in list) table c) cs)

  abbrev pub clause_of : Option Clause → Option Tree
  clause_of none = none
  clause_of (some c) = some (clause_tree (names_in list) table c)

-- a clause behind those that are closed
abbrev pub sequel_on : Option Tree → Tree → Tree
sequel_on none t = t
sequel_on (some a) t = joined 0 sequel a t

-- where they stand in the nodes, each from its first node on

abbrev pub end_of : S.Option Piece → ℕ
end_of None = 0
end_of (Some p) = p.end

abbrev pub PartIs : List ℕ → List ℕ → ℕ → S.Option Piece → Option Tree → Type 0
PartIs list ns start None none = Unit {0}
PartIs list ns start None (some t) = ⊥
PartIs list ns start (Some p) none = ⊥
PartIs list ns start (Some p) (some t) = Holds list ns start p t

-- the closed clauses from the first node on, then the other; one that may go on is there once any is closed
pub record Represents (list table ns : List ℕ) (x : Front) (f : P.Front) : Type 0 where
  pub closed : PartIs list ns 0 x.closed (all_of list table f.closed)
  pub clause : PartIs list ns (end_of x.closed) x.clause (clause_of list table f.clause)
  pub link : link_meant x.link ≡ f.conjunction
  pub opened : opened_meant x.opened ≡ f.comparator
  pub first : f.clause ≡ none → f.closed ≡ []

-- two trees within the limit of tokens, an assertion and its link
abbrev pub most_nodes : ℕ
most_nodes = 2056

pub record Ready (list table ns : List ℕ) (x : Front) : Type 0 where
  pub room : most_nodes * 8 ≤ length ns
  pub front : P.Front
  pub stands : Represents list table ns x front

-- what is asked where a clause is to be closed
abbrev pub Closable : S.Option Piece → Piece → List ℕ → Type 0
Closable None c ns = Unit {0}
Closable (Some p) c ns = Operands p c ns

-- an answer to a byte
abbrev pub Steps : List ℕ → List ℕ → List ℕ → ℕ → Answer P.Front → S.Option Front → Type 0
Steps list table ns at a (Some x) = (f : P.Front) × ((a ≡ ok f) × Represents list table ns x f)
Steps list table ns at a None = a ≡ P.fault at
