-- The bases of numerals, as the paper has them and as a word holds them.
use Rattle.std.specs.Prelude.{ℕ, cond, ◌==◌}
use Rattle.paper.specs.Tokens as P
use Rattle.number.specs.Values.{value}
use Rattle.number.specs.declared.base.Base.{Base}
use Rattle.number.specs.declared.base.Base.TheVariants.{Decimal, Binary, Hex}
use Rattle.number.specs.declared.base.Literal.{Literal}

abbrev pub base_meant : Base → P.Base
base_meant Decimal = P.decimal
base_meant Binary = P.binary
base_meant Hex = P.hex

-- a word holds the radix of a base; of any other number it is decimal
abbrev pub of_radix : ℕ → Base
of_radix n = cond (n == 2) Binary (cond (n == 16) Hex Decimal)

abbrev pub literal_meant : Literal → P.Literal
literal_meant l = P.literal_in (base_meant l.base) (value l.number)
