-- The code of a node itself, without that of its operands: the instruction after them, and a join's skip, which stands between them.
use Rattle.std.specs.Prelude.{ℕ, List, [], ◌∷◌}
use Rattle.paper.specs.Meaning.{Connective, connective}
use Rattle.paper.specs.Code.{Instruction, push_bool, push_int, push_key, push_field, push_priority, connects, compare, Skip, skip, field_of}
use Rattle.paper.specs.Translating.{operation, settled_by, settled_to}
use Rattle.number.specs.Values.{nested}
use Rattle.trees.specs.declared.marks.Operand.{Operand}
use Rattle.trees.specs.declared.marks.Operand.TheVariants.{Truth, Number, Key, Field, Attribute, UnknownKey, UnknownField}
use Rattle.trees.specs.declared.node.Node.{Node}
use Rattle.trees.specs.declared.node.Node.TheVariants.{Without, Before, Between}
use Rattle.trees.specs.declared.node.Operator.{Operator}
use Rattle.trees.specs.declared.node.Operator.TheVariants.{Joins, Compares}
use Rattle.trees.specs.Nodes.{node_at}
use Rattle.trees.specs.Standing.{prefix_meant, join_meant, comparison_meant}
use Rattle.trees.specs.Marks.{operand_at}

abbrev pub operand_code : Operand → List Instruction
operand_code (Truth b) = push_bool b ∷ []
operand_code (Number a b c d) = push_int (nested a b c d) ∷ []
operand_code (Key k) = push_key k ∷ []
operand_code (Field k f) = push_field (field_of f) k ∷ []
operand_code (Attribute b) = push_priority ∷ []
operand_code UnknownKey = []
operand_code UnknownField = []

abbrev pub operator : Operator → Instruction
operator (Joins o) = connects (connective (join_meant o))
operator (Compares c) = compare (comparison_meant c)

abbrev pub own_code : Node → Operand → List Instruction
own_code Without x = operand_code x
own_code (Before o) x = operation (prefix_meant o) ∷ []
own_code (Between o left) x = operator o ∷ []

abbrev pub own_at : List ℕ → ℕ → List Instruction
own_at nodes i = own_code (node_at nodes i) (operand_at nodes i)

-- where the left operand settles the join, over so many instructions
abbrev pub settled : Connective → ℕ → Skip
settled o over = record { on = settled_by o; to = settled_to o; over = over }

abbrev pub operator_skips : Operator → ℕ → List Instruction
operator_skips (Joins o) over = skip (settled (connective (join_meant o)) over) ∷ []
operator_skips (Compares c) over = []

abbrev pub node_skips : Node → ℕ → List Instruction
node_skips Without over = []
node_skips (Before o) over = []
node_skips (Between o left) over = operator_skips o over

abbrev pub skips_at : List ℕ → ℕ → ℕ → List Instruction
skips_at nodes i over = node_skips (node_at nodes i) over
