-- As many copies are put as turns were taken.
use Rattle.std.proofs.Common.{◌≡◌, ◌+◌, ◌-◌, length}
use Rattle.cases.specs.Words.{spelled, copies, Put}
use Rattle.cases.proofs.words.put_times.Given as goal

abbrev pub invariant-loop-turn : goal.invariant-loop-turn
invariant-loop-turn g l =
    (length l.room ≡ length l.initial.room)
    × Put l.initial.room l.at (copies l._turn (spelled (2 - l.quotes) l.word.s.now (l.from + l.quotes) l.to)) l.room l.end
