-- `drafting::assertions::put_assertion` meets its contract: the two operands, the comparison behind them and "!" behind that, each put where the
-- one before ended.
use Prim.Native.Nat.{ℕ}
use mathlib.Core.List.{List}
use Rattle.paper.specs.Keys.{record_at, name_of}
use Rattle.paper.specs.Grammar as G
use Rattle.paper.specs.Grammar.{Tree}
use Rattle.paper.specs.Drafting.{comparison_of, operand_tree}
use Rattle.drafting.specs.Opcodes.{load_meant, relation_meant}
use Rattle.drafting.specs.Pieces.{Grown}
use Rattle.drafting.specs.Assertions.{names_in}
use Rattle.drafting.proofs.Growing.{grown_behind, grown_then}
use Rattle.drafting.proofs.Naming.{name_in, left_named}
use Rattle.drafting.proofs.assertions.put_assertion.Goals as goal

abbrev list_of : goal.After-slice_known-5-1 → List ℕ
list_of s = s.args.names.now

-- the operands as the definition has them
abbrev left_tree : goal.After-slice_known-5-1 → Tree
left_tree s = G.key 0 (name_of (record_at (list_of s) s.args.a.left))

abbrev right_tree : goal.After-slice_known-5-1 → Tree
right_tree s = operand_tree (names_in (list_of s)) s.args.table.now (load_meant s.args.a.comparator.load) s.args.a.right

-- the left operand stays where it was put
left_stands : (c : goal.After-slice_known-5-1) → Grown (list_of c) c.args.nodes.now c.put_right-right.new.nodes c.args.at c.put_input-left.result (left_tree c)
left_stands c = grown_behind (list_of c) c.put_input-left.ensures c.put_right-right.ensures

compared_stands : (c : goal.After-slice_known-5-1) → Grown (list_of c) c.args.nodes.now c.joined-compared.new.nodes c.args.at c.joined-compared.result
    (G.compared 0 (comparison_of (relation_meant c.args.a.comparator.relation)) (left_tree c) (right_tree c))
compared_stands c =
    grown_then (list_of c) (left_stands c)
    (rw (← c.comparison_of.ensures)
    (c.joined-compared.ensures.grown (list_of c) c.args.at (left_tree c) (right_tree c) (left_stands c).holds c.put_right-right.ensures.holds))

pub returns : goal.returns
returns c =
    let whole = grown_then (list_of c) (compared_stands c) (c.inverted.ensures.grown (list_of c) c.args.at _ (compared_stands c).holds) in
    rw (name_in (list_of c) c.args.a.left (left_named (list_of c) c.args.table.now c.args.a c.requires.fits)) whole
