-- What the crate's instructions stand for.
use Rattle.std.specs.Prelude as S
use Rattle.std.specs.Prelude.{min, Some, None}
use Rattle.std.proofs.Math.Option.{Option, none, some}
use Rattle.paper.specs.Keys.{kind_of}
use Rattle.paper.specs.Code as P
use Rattle.paper.specs.Code.{field_of, comparison_of, push_bool, push_int, push_key, push_field, push_priority, invert, negate, convert, compare, connects, skip}
use Rattle.number.specs.Values.{value}
use Rattle.values.specs.Held.{connective_of}
use Rattle.machine.specs.declared.instruction.Instruction.{Instruction}
use Rattle.machine.specs.declared.instruction.Instruction.TheVariants.{PushBool, PushInt, PushKey, PushField, PushPriority, Not, Negate, Convert, Compare, Connect, Skip}
use Rattle.machine.specs.declared.decoding.Parts.{Parts}

abbrev pub instruction_meant : Instruction → P.Instruction
instruction_meant (PushBool b) = push_bool b
instruction_meant (PushInt n) = push_int (value n)
instruction_meant (PushKey k) = push_key k
instruction_meant (PushField f k) = push_field (field_of f) k
instruction_meant PushPriority = push_priority
instruction_meant Not = invert
instruction_meant Negate = negate
instruction_meant (Convert k w) = convert (kind_of k) (min w 128)
instruction_meant (Compare c) = compare (comparison_of c)
instruction_meant (Connect o) = connects (connective_of o)
instruction_meant (Skip on to over) = skip (record { on = on; to = to; over = over })

-- what was read, if it is an instruction
abbrev pub read_meant : S.Option Instruction → Option P.Instruction
read_meant None = none
read_meant (Some i) = some (instruction_meant i)

abbrev pub parts_meant : Parts → P.Parts
parts_meant p = record { operation = p.operation; detail = p.detail; operand = p.operand; constant = value p.constant }
