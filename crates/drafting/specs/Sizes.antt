-- What a size tells of a tree.
use Rattle.std.specs.Prelude.{ℕ, ◌+◌, ◌≤◌, min, ◌≡◌, ltb}
use Rattle.paper.specs.Tokens.{most_tokens}
use Rattle.paper.specs.Grammar.{Tree, most_levels}
use Rattle.paper.specs.Print.{rung}
use Rattle.paper.specs.Sized.{wider, deeper, levels, count}
use Rattle.printing.specs.Writing.{rung_meant}
use Rattle.drafting.specs.declared.sizes.Size.{Size}
use Rattle.drafting.specs.declared.sizes.Extent.{Extent}

-- numbers over a limit are all told alike
pub record Small (s : Size) : Type 0 where
  pub tokens : s.tokens ≤ most_tokens + 1
  pub levels : s.levels ≤ most_levels + 1

pub record Sized (s : Size) (t : Tree) : Type 0 where
  pub tokens : s.tokens ≡ min (count t) (most_tokens + 1)
  pub levels : s.levels ≡ min (levels t) (most_levels + 1)
  pub rung : rung_meant s.rung ≡ rung t

-- what is told of an operand where a rung is asked for
pub record Stood (s : Size) (k : ℕ) (r : Extent) : Type 0 where
  pub tokens : r.tokens ≡ wider (ltb (rung_meant s.rung) k) s.tokens
  pub levels : r.levels ≡ deeper (ltb (rung_meant s.rung) k) s.levels
  pub few_tokens : r.tokens ≤ s.tokens + 2
  pub few_levels : r.levels ≤ s.levels + 1
