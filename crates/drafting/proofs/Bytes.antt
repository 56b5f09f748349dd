-- What a byte makes of what stands before it: an opcode where nothing waits, and the indices of a comparator that waits, which must have their
-- names and numbers.
use Prim.Native.Nat.{ℕ}
use mathlib.Core.Path.{◌≡◌, ap, sym, subst, ◌∙◌}
use mathlib.Core.Bool.{true, false, ◌&&◌}
use mathlib.Core.Option.{Option, none, some}
use mathlib.Core.List.{List}
use lib.Dec.{ltb}
use Rattle.paper.specs.Answers.{Answer, ok}
use Rattle.paper.specs.Pact as P
use Rattle.paper.specs.Pact.{indices_of, left_index, right_index, opcode_of}
use Rattle.paper.specs.Contract.{Front, fault, continued, with_opcode, index_fits, with_byte}
use Rattle.drafting.specs.declared.opcodes.Comparator.{Comparator}
use Rattle.drafting.specs.declared.assertions.Assertion.{Assertion}
use Rattle.std.specs.Prelude as S
use Rattle.drafting.specs.declared.fronts.Front as R
use Rattle.drafting.specs.Opcodes.{comparator_meant}
use Rattle.drafting.specs.Assertions.{assertion_meant, indexed}
use Rattle.drafting.specs.Fronts.{Steps}

-- an assertion of a comparator and a byte
abbrev with_indices : Comparator → ℕ → P.Assertion
with_indices o b = record { comparator = comparator_meant o; left = left_index b; right = right_index b }

module _ (names users : ℕ) (o : Comparator) (b : ℕ) (a : Assertion) (e : assertion_meant a ≡ with_indices o b) where
  pub indices_fit : indexed names users a ≡ index_fits names users (comparator_meant o) b
  indices_fit = ap (λ (y : P.Assertion). ltb y.left names && ltb y.right (indices_of names users y.comparator.load)) e

  module _ (at : ℕ) (f : Front) (w : Option P.Comparator) (waits : w ≡ some (comparator_meant o)) where
    pub index_missing : indexed names users a ≡ false → with_byte names users at f w b ≡ fault at
    index_missing h = rw (waits, sym indices_fit ∙ h)

    pub index_there : indexed names users a ≡ true
        → with_byte names users at f w b ≡ ok (continued f.closed f.clause f.conjunction (assertion_meant a))
    index_there h = rw (waits, sym indices_fit ∙ h, e)

-- an opcode
pub byte_opcode : (names users at b : ℕ) (f : Front) (w : Option P.Comparator) {o : P.Opcode} → w ≡ none → o ≡ opcode_of b
    → with_opcode at f o ≡ with_byte names users at f w b
byte_opcode names users at b f w e h = rw (e, h)

pub steps_as : (list table ns : List ℕ) (at : ℕ) {a b : Answer Front} (r : S.Option R.Front) → a ≡ b → Steps list table ns at a r → Steps list table ns at b r
steps_as list table ns at r e h = subst (λ (x : Answer Front). Steps list table ns at x r) e h
