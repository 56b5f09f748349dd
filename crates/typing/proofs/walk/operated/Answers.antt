-- `typing::operated` meets its contract: each arm says what is said of the node that was read (`as_read`).
use Prim.Native.Nat.{ℕ}
use mathlib.Core.Path.{sym, ◌∙◌}
use mathlib.Core.List.{List}
use Rattle.trees.specs.declared.node.Node.TheVariants.{Between}
use Rattle.trees.proofs.Walks.{below}
use Rattle.typing.proofs.walk.operated.Goals as goal

abbrev nodes : goal.In-Between → List ℕ
nodes c = c.args.nodes.now

abbrev at : goal.In-Between → ℕ
at c = c.args.at

pub between-requires : goal.between-requires
between-requires c =
    (c.requires, below (nodes c) (at c) (Between c.in-Between.o c.in-Between.left) (sym c.in-Between.is ∙ c.read-n.ensures))
