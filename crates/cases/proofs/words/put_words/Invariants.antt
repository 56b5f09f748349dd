-- What is put so far, and the words from here on, are all the words. The measure is how many bytes are left.
use Rattle.std.proofs.Common.{◌≡◌, ℕ, ◌-◌, List, ◌++◌, length}
use Rattle.cases.specs.Words.{line_bytes, Put}
use Rattle.cases.proofs.words.put_words.Given as goal

abbrev pub invariant-loop-i : goal.invariant-loop-i
invariant-loop-i g l =
    (length l.room ≡ length l.initial.room)
    × ((done : List ℕ) × Put l.initial.room l.at done l.room l.end × (done ++ line_bytes l.s l.i ≡ line_bytes l.s l.from))

abbrev pub decreases-loop-i : goal.decreases-loop-i
decreases-loop-i g l = length l.s - l.i
