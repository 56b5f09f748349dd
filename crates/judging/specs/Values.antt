-- The value of a node with no operand by what its names name, and what an operator between two operands makes of their values.
use Rattle.std.proofs.Math.Option.{Option, none, some}
use Rattle.std.specs.Prelude.{List, pos}
use Rattle.paper.specs.Keys as P
use Rattle.paper.specs.Entry.{Entry}
use Rattle.paper.specs.Types.{when}
use Rattle.paper.specs.Code.{field_of}
use Rattle.paper.specs.Meaning.{Value, truth, whole, bare_value, field_value, connective, join_value, comparison_value}
use Rattle.number.specs.Values.{nested}
use Rattle.trees.specs.declared.marks.Operand.{Operand}
use Rattle.trees.specs.declared.marks.Operand.TheVariants.{Truth, Number, Key, Field, Attribute, UnknownKey, UnknownField}
use Rattle.trees.specs.declared.node.Operator.{Operator}
use Rattle.trees.specs.declared.node.Operator.TheVariants.{Joins, Compares}
use Rattle.trees.specs.Standing.{join_meant, comparison_meant}

abbrev pub operand_value : List P.Key → Entry → Operand → Option Value
operand_value ks e (Truth b) = some (truth b)
operand_value ks e (Number a b c d) = some (whole (pos (nested a b c d)))
operand_value ks e (Key k) = bare_value ks e k
operand_value ks e (Field k f) = field_value ks e (field_of f) k
operand_value ks e (Attribute b) = when b (whole (pos e.priority))
operand_value ks e UnknownKey = none
operand_value ks e UnknownField = none

abbrev pub operator_value : Operator → Value → Value → Option Value
operator_value (Joins o) a b = join_value (connective (join_meant o)) a b
operator_value (Compares c) a b = comparison_value (comparison_meant c) a b
