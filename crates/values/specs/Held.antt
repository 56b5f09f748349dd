-- The value that a cell holds.
use Rattle.std.specs.Prelude.{ℕ, ◌^◌, min, ◌≡◌, cond, ◌||◌, eqb}
use Rattle.std.proofs.Math.Option.{Option, none, some}
use Rattle.paper.specs.Numbers.{modulo}
use Rattle.paper.specs.Keys.{kind_of}
use Rattle.paper.specs.Entry.{Match}
use Rattle.paper.specs.Types.{Ty, same_ty, when, takes}
use Rattle.paper.specs.Meaning.{Value, truth, whole, matched, ty_of, in_type, Connective, both, either, if_then}
use Rattle.number.specs.Values.{value, signed}
use Rattle.number.specs.declared.magnitude.Magnitude.{Magnitude}
use Rattle.values.specs.declared.cell.Cell.{Cell}
use Rattle.values.specs.declared.cell.Sort as S
use Rattle.values.specs.declared.cell.Sort.TheVariants.{Truth, Whole, Match as Matches}

abbrev pub match_from : Magnitude → Magnitude → ℕ → Match
match_from first second length = record { first = value first; second = value second; length = length }

abbrev pub held_as : S.«Sort» → Cell → Value
held_as (Truth b) c = truth b
held_as (Whole negative) c = whole (signed negative (value c.first))
held_as (Matches kind) c = matched (kind_of kind) (min c.width 128) (match_from c.first c.second c.length)

abbrev pub held : Cell → Value
held c = held_as c.sort c

-- what an operation gives, where the paper gives a value
abbrev pub Is : Option Value → Value → Type 0
Is none v = Unit {0}
Is (some w) v = v ≡ w

-- the number that a value is converted from: an int "is reduced modulo 2^W first", and a match has its first number. (A bool is never
-- converted.)
abbrev pub as_number : ℕ → Value → ℕ
as_number w (truth b) = 0
as_number w (whole z) = modulo z (2 ^ w)
as_number w (matched k x m) = m.first

-- a value in a type that it has or converts to
abbrev pub like_value : Ty → Value → Option Value
like_value t a = when (same_ty (ty_of a) t || takes t (ty_of a)) (in_type t a)

-- of a number up to 2
abbrev pub connective_of : ℕ → Connective
connective_of n = cond (eqb n 0) both (cond (eqb n 1) either if_then)
