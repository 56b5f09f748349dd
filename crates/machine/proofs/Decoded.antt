-- What operations are read as: the code's test of the other parts is that they spell the instruction.
use Rattle.std.proofs.Common.{◌≡◌, ℕ, ◌≤◌, Bool, true, false, ◌&&◌, ◌||◌, eqb, leb, [], ◌∷◌, refl, arith, lit≤, eq-eqb}
use mathlib.Core.Bool.{and-true}
use mathlib.Core.Option.{Option, none, some, none-ne-some}
use Rattle.paper.specs.Types.{when, and_then}
use Rattle.paper.specs.Meaning.{both, either, if_then}
use Rattle.paper.specs.Code.{Instruction, push_bool, push_int, push_key, push_field, push_priority, invert, negate, convert, compare, connects, skip, first_byte, Parts, parts_of, instruction_named, same_parts, in_range, decode}
use Rattle.number.specs.Values.{value}
use Rattle.number.specs.declared.magnitude.Magnitude.{Magnitude}
use Rattle.machine.specs.declared.instruction.Instruction as C
use Rattle.machine.specs.Decoded.{instruction_meant, read_meant}
use Rattle.std.specs.Bool.{then_some}
use Rattle.paper.proofs.ByNumber.{bit_spelled, first_spelled}
use Rattle.paper.proofs.InstructionsRoundTrip.{parts_again}

-- a constant as the code holds one
pub first_byte_lem : (m : Magnitude) {b : Bool} → b ≡ eqb (value m) (value (record { limbs = 0 ∷ 0 ∷ 0 ∷ 16777216 ∷ [] }))
    → b ≡ eqb (value m) first_byte
unfolding value
first_byte_lem m e = e

-- an instruction that is read where a test holds
pub meant_when : (right : Bool) (i : C.Instruction) → read_meant (then_some right i) ≡ when right (instruction_meant i)
meant_when true i = refl
meant_when false i = refl

-- by the detail, the operand and the constant, where `zero` says whether the constant is zero, and so many instructions are left
module _ (left d n c : ℕ) (zero : Bool) (told : zero ≡ eqb c 0) where
  abbrev parts : ℕ → Parts
  parts operation = record { operation = operation; detail = d; operand = n; constant = c }

  pub reads_skip : (one : Bool) → one ≡ eqb c first_byte
      → decode left (parts 13)
      ≡ when (leb 1 n && leb n left && (leb d 1 && (one || zero))) (skip (record { on = eqb d 1; to = one; over = n }))
  reads_skip one first = rw (bit_spelled d, eq-eqb n n refl, and-true (leb d 1), first_spelled c, ← first, ← told)

-- no instruction has another operation

operation_known : (i : Instruction) → (1 ≤ (parts_of i).operation) × ((parts_of i).operation ≤ 13)
operation_known (push_bool b) = (lit≤ tt, lit≤ tt)
operation_known (push_int n) = (lit≤ tt, lit≤ tt)
operation_known (push_key k) = (lit≤ tt, lit≤ tt)
operation_known (push_field f k) = (lit≤ tt, lit≤ tt)
operation_known push_priority = (lit≤ tt, lit≤ tt)
operation_known invert = (lit≤ tt, lit≤ tt)
operation_known negate = (lit≤ tt, lit≤ tt)
operation_known (convert k w) = (lit≤ tt, lit≤ tt)
operation_known (compare c) = (lit≤ tt, lit≤ tt)
operation_known (connects both) = (lit≤ tt, lit≤ tt)
operation_known (connects either) = (lit≤ tt, lit≤ tt)
operation_known (connects if_then) = (lit≤ tt, lit≤ tt)
operation_known (skip s) = (lit≤ tt, lit≤ tt)

-- what is read as an instruction is the one that its operation names

pub named_so : (left : ℕ) (p : Parts) (i : Instruction) → decode left p ≡ some i → instruction_named p ≡ some i
named_so left p i e = go (instruction_named p) e
  where
    kept : (right : Bool) (j : Instruction) → when right j ≡ some i → some j ≡ some i
    kept true j h = h
    kept false j h = absurd (none-ne-some i h)

    go : (o : Option Instruction) → and_then o (λ j. when (in_range left j && same_parts p (parts_of j)) j) ≡ some i → o ≡ some i
    go none h = absurd (none-ne-some i h)
    go (some j) h = kept (in_range left j && same_parts p (parts_of j)) j h

-- the last operation is that of a skip
pub named_skip : (left : ℕ) (p : Parts) (i : Instruction) → decode left p ≡ some i → (1 ≤ p.operation → 13 ≤ p.operation)
    → skip (record { on = eqb p.detail 1; to = eqb p.constant first_byte; over = p.operand }) ≡ i
named_skip left p i e last =
    let known = rw (parts_again left p i e) at (operation_known i) in
    let thirteen : p.operation ≡ 13 = omega (arith, known.1, last known.0) in
    let named = rw thirteen at (named_so left p i e) in
    cc
