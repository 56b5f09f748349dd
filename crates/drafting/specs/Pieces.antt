-- Where a tree stands in the nodes, and what of the nodes stays where another is put behind it.
use Rattle.std.specs.Prelude.{ℕ, ◌+◌, ◌*◌, ◌-◌, ◌≤◌, ◌<◌, ◌≡◌, List, length, take}
use Rattle.paper.specs.Tokens.{most_tokens}
use Rattle.paper.specs.Grammar.{Tree}
use Rattle.paper.specs.Sized.{count}
use Rattle.trees.specs.Standing.{tree_at}
use Rattle.drafting.specs.declared.pieces.Piece.{Piece}
use Rattle.drafting.specs.Sizes.{Small, Sized}

-- a tree stands from the node `start` on, unless it is over the limit of tokens. It has no more nodes than tokens
pub record Holds (list ns : List ℕ) (start : ℕ) (p : Piece) (t : Tree) : Type 0 where
  pub sized : Sized p.size t
  pub begun : start < p.end
  pub room : p.end ≤ start + most_tokens
  pub few : p.end ≤ start + count t
  pub built : count t ≤ most_tokens → tree_at list ns (p.end - 1) ≡ t

-- it was put there, and what stood before stays
pub record Grown (list before after : List ℕ) (start : ℕ) (p : Piece) (t : Tree) : Type 0 where
  pub kept : length after ≡ length before
  pub stays : take (start * 8) after ≡ take (start * 8) before
  pub holds : Holds list after start p t

-- what is asked of a tree that an operator is to be put behind

pub record Operand (p : Piece) (ns : List ℕ) : Type 0 where
  pub small : Small p.size
  pub some : 0 < p.end
  pub most : p.end < 65536
  pub fits : p.end * 8 + 8 ≤ length ns

pub record Operands (l r : Piece) (ns : List ℕ) : Type 0 where
  pub left : Small l.size
  pub some : 0 < l.end
  pub behind : l.end ≤ r.end
  pub right : Operand r ns

-- and what is known of the tree with it, whichever it is: it ends there, or a node further
pub record Near (last : ℕ) (p : Piece) : Type 0 where
  pub small : Small p.size
  pub some : 0 < p.end
  pub close : p.end ≤ last + 1
