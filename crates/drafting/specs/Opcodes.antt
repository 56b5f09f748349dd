-- The opcodes of this crate in the words of 000.
use Rattle.std.specs.Prelude as S
use Rattle.std.specs.Prelude.{Some, None}
use Rattle.std.proofs.Math.Option.{Option, none, some}
use Rattle.paper.specs.Pact as P
use Rattle.drafting.specs.declared.opcodes.Relation.{Relation}
use Rattle.drafting.specs.declared.opcodes.Relation.TheVariants.{Equal, Greater, AtLeast}
use Rattle.drafting.specs.declared.opcodes.Load.{Load}
use Rattle.drafting.specs.declared.opcodes.Load.TheVariants.{User, Input}
use Rattle.drafting.specs.declared.opcodes.Linking.{Linking}
use Rattle.drafting.specs.declared.opcodes.Linking.TheVariants.{And, Or, Xor}
use Rattle.drafting.specs.declared.opcodes.Comparator.{Comparator}
use Rattle.drafting.specs.declared.opcodes.Conjunction.{Conjunction}
use Rattle.drafting.specs.declared.opcodes.Opcode.{Opcode}
use Rattle.drafting.specs.declared.opcodes.Opcode.TheVariants.{Compares, Conjoins}

abbrev pub relation_meant : Relation → P.Relation
relation_meant Equal = P.eq
relation_meant Greater = P.gt
relation_meant AtLeast = P.gte

abbrev pub load_meant : Load → P.Load
load_meant User = P.user
load_meant Input = P.input

abbrev pub linking_meant : Linking → P.Linking
linking_meant And = P.and
linking_meant Or = P.or
linking_meant Xor = P.xor

abbrev pub comparator_meant : Comparator → P.Comparator
comparator_meant c = record { inverted = c.inverted; load = load_meant c.load; relation = relation_meant c.relation }

abbrev pub conjunction_meant : Conjunction → P.Conjunction
conjunction_meant j = record { inverted = j.inverted; linking = linking_meant j.linking }

abbrev pub opcode_meant : Opcode → P.Opcode
opcode_meant (Compares c) = P.compares (comparator_meant c)
opcode_meant (Conjoins j) = P.conjoins (conjunction_meant j)

-- what was read, if it is anything

abbrev pub relation_read : S.Option Relation → Option P.Relation
relation_read None = none
relation_read (Some r) = some (relation_meant r)

abbrev pub linking_read : S.Option Linking → Option P.Linking
linking_read None = none
linking_read (Some l) = some (linking_meant l)

abbrev pub opcode_read : S.Option Opcode → P.Opcode
opcode_read None = P.wrong
opcode_read (Some o) = opcode_meant o
