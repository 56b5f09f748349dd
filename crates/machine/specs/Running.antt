-- What the run tells of an entry.
use Rattle.std.specs.Prelude.{◌≡◌, ℕ, List, Bool, true, false, cond}
use Rattle.paper.specs.Keys.{Key}
use Rattle.paper.specs.RunAll.{ran_on, verdict_byte, steps_on}
use Rattle.paper.specs.Answers.{Answer, ok, refused}

-- whether a stage passes
abbrev pub passes : {A : Type 0} → Answer A → Bool
passes (ok a) = true
passes (refused n i at) = false

-- the byte of an entry: whether it conforms, and what its run left
abbrev pub byte_of : Bool → Bool → ℕ
byte_of enters left = cond enters (cond left 1 2) 0

-- what is told of one entry
pub record TellsOf (ks : List Key) (blocks entry : List ℕ) (byte steps : ℕ) : Type 0 where
  pub byte_so : byte ≡ verdict_byte (ran_on ks blocks entry)
  pub steps_so : steps ≡ steps_on (ran_on ks blocks entry)
