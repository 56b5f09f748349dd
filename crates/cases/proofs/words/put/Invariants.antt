-- What is put so far, and what is spelled from here on, are all that is spelled.
use Rattle.std.proofs.Common.{◌≡◌, ℕ, ◌-◌, List, ◌++◌, length}
use Rattle.cases.specs.Words.{spelled, Put}
use Rattle.cases.proofs.words.put.Given as goal

abbrev pub invariant-loop-i : goal.invariant-loop-i
invariant-loop-i g l =
    (length l.room ≡ length l.initial.room)
    × ((done : List ℕ) × Put l.initial.room l.at done l.room l.end × (done ++ spelled l.width l.s l.i l.to ≡ spelled l.width l.s l.from l.to))

abbrev pub decreases-loop-i : goal.decreases-loop-i
decreases-loop-i g l = l.to - l.i
