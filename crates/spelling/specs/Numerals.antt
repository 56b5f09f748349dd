-- What the functions on numerals say, in the paper's words.
use Rattle.std.specs.Prelude.{ℕ, ◌≤◌, ◌^◌, ◌≡◌, true, false, List, length, drop, ltb, Option, Some, None, Result, Ok, Err}
use Rattle.std.proofs.Math.Option as maybe
use Rattle.paper.specs.Tokens.{spelling, spelled, is_numeral, numeral_value}
use Rattle.paper.specs.Tokens as P
use Rattle.number.specs.Values.{value}
use Rattle.number.specs.Bases.{base_meant}
use Rattle.spelling.specs.declared.numerals.Notation.{Notation}
use Rattle.spelling.specs.declared.numerals.Notation.TheVariants.{Based, Octal}
use Rattle.spelling.specs.declared.numerals.Numeral.{Numeral}
use Rattle.spelling.specs.declared.numerals.NumeralError.{NumeralError}
use Rattle.spelling.specs.declared.numerals.NumeralError.TheVariants.{NoNumeral, TooLarge}

abbrev pub notation_meant : Notation → P.Notation
notation_meant (Based base) = P.based (base_meant base)
notation_meant Octal = P.octal

abbrev pub announced : Option Notation → maybe.Option P.Notation
announced (Some notation) = maybe.some (notation_meant notation)
announced None = maybe.none

-- a run that announces a notation has a 0 and a letter
abbrev pub Long : List ℕ → Option Notation → Type 0
Long run (Some notation) = 2 ≤ length run
Long run None = Unit {0}

pub record Announces (run : List ℕ) (r : Option Notation) : Type 0 where
  pub says : spelling run ≡ spelled (announced r) run (drop 2 run)
  pub long : Long run r

abbrev pub written_in : P.Notation → List ℕ → P.Numeral
written_in notation digits = record { notation = notation; digits = digits }

-- a numeral that fits has its notation and its number, one that is too large its notation
abbrev pub Spells : P.Numeral → Result Numeral NumeralError → Type 0
Spells n (Ok r) =
    (is_numeral n ≡ true) × (ltb (numeral_value n) (2 ^ 128) ≡ true) × (notation_meant r.notation ≡ n.notation) × (value r.number ≡ numeral_value n)
Spells n (Err (TooLarge notation)) = (is_numeral n ≡ true) × (ltb (numeral_value n) (2 ^ 128) ≡ false) × (notation_meant notation ≡ n.notation)
Spells n (Err NoNumeral) = is_numeral n ≡ false
