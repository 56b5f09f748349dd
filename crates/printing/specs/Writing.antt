-- Bytes written one piece after the other into a lent slice, as far as all of a piece fits; and the signs and rungs of operators.
use Rattle.std.specs.Prelude.{ℕ, ◌+◌, ◌≤◌, min, max, ◌≡◌, Bool, cond, List, [], length}
use Rattle.std.proofs.lemmas.List.Edits.{sets}
use Rattle.paper.specs.Tokens.{bytes}
use Rattle.paper.specs.Print.{join_bytes, comparison_bytes, spaced, comparison_rung, tightest, rung_of, left_of, right_of}
use Rattle.trees.specs.declared.node.Operator.{Operator}
use Rattle.trees.specs.declared.node.Operator.TheVariants.{Joins, Compares}
use Rattle.trees.specs.Standing.{join_meant, comparison_meant}
use Rattle.printing.specs.declared.signs.Rung.{Rung}
use Rattle.printing.specs.declared.signs.Rung.TheVariants as R

-- where so many bytes more end, in a room of so many: at most one past it, and what is past it stays
abbrev pub further : ℕ → ℕ → ℕ → ℕ
further room from n = min (from + n) (max from (room + 1))

-- s was written from there, if it fits, and r is how far that came
pub record Wrote (before : List ℕ) (from : ℕ) (s : List ℕ) (after : List ℕ) (r : ℕ) : Type 0 where
  pub kept : length after ≡ length before
  pub ends : r ≡ further (length before) from (length s)
  pub stored : from + length s ≤ length before → after ≡ sets before from s

-- rungs by name
abbrev pub rung_meant : Rung → ℕ
rung_meant R.Sequel = 0
rung_meant R.Implies = 1
rung_meant R.Or = 2
rung_meant R.And = 3
rung_meant R.Comparison = comparison_rung
rung_meant R.Tightest = tightest

-- an operator between two operands: its sign, the rung of what it makes, and the rungs that it asks for

abbrev pub operator_bytes : Operator → List ℕ
operator_bytes (Joins o) = spaced (join_bytes (join_meant o))
operator_bytes (Compares c) = spaced (comparison_bytes (comparison_meant c))

abbrev pub rung_between : Operator → ℕ
rung_between (Joins o) = rung_of (join_meant o)
rung_between (Compares c) = comparison_rung

abbrev pub left_between : Operator → ℕ
left_between (Joins o) = left_of (join_meant o)
left_between (Compares c) = tightest

abbrev pub right_between : Operator → ℕ
right_between (Joins o) = right_of (join_meant o)
right_between (Compares c) = tightest

-- the two halves of `enclosed`

abbrev pub open_bytes : Bool → List ℕ
open_bytes needed = cond needed (bytes "(") []

abbrev pub close_bytes : Bool → List ℕ
close_bytes needed = cond needed (bytes ")") []
