-- When a summary is that of some keys, and of the priority or not; and what a node with no operand names, by its marks.
use Rattle.std.specs.Prelude.{ℕ, ◌≡◌, Bool, true, false, eqb}
use Rattle.paper.specs.Named.{set_of}
use Rattle.trees.specs.declared.marks.Operand.{Operand}
use Rattle.trees.specs.declared.marks.Operand.TheVariants.{Truth, Number, Key, Field, Attribute, UnknownKey, UnknownField}
use Rattle.paper.specs.declared.Summary.{Summary}

pub record Sums (p : ℕ → Bool) (mark : Bool) (s : Summary) : Type 0 where
  pub keys : s.keys ≡ set_of p
  pub priority : s.priority ≡ mark

abbrev pub operand_names : Operand → ℕ → Bool
operand_names (Truth b) j = false
operand_names (Number a b c d) j = false
operand_names (Key k) j = eqb k j
operand_names (Field k f) j = eqb k j
operand_names (Attribute b) j = false
operand_names UnknownKey j = false
operand_names UnknownField j = false

-- no other attribute than the priority has a type
abbrev pub operand_marked : Operand → Bool
operand_marked (Truth b) = false
operand_marked (Number a b c d) = false
operand_marked (Key k) = false
operand_marked (Field k f) = false
operand_marked (Attribute b) = true
operand_marked UnknownKey = false
operand_marked UnknownField = false
