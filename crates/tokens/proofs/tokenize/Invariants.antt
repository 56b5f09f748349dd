-- `tokens::tokenize` meets its contract. The invariant of its loop (`Going`): the tokens on the tape, and those from the next byte
-- on, are the text's; and there are no more than the tape has room for. A blank is passed over at once; a word or a sign (`plain_here`) is stored
-- at once. What is scanned at another byte is a comment, which the loop passes over, a token, which it stores in the next row, or a refusal.
-- Where there is no row for a token, it is one more than a text may have, or there is no `Room` (`going_no_row`). The measure is the number of
-- bytes that are left: each turn takes one at least.
use Prim.Native.Nat.{◌-◌, ◌≤◌}
use mathlib.Core.Path.{◌≡◌}
use lib.ListN.{length}
use Rattle.tokens.specs.Tape.{tape_of}
use Rattle.tokens.proofs.Going.{Going}
use Rattle.tokens.proofs.tokenize.Given as goal

abbrev pub invariant-loop-at : goal.invariant-loop-at
invariant-loop-at l = (length l.tape ≡ length l.initial.tape) × (l.n ≤ l.room) × Going (tape_of l.text l.tape) l.n l.at

abbrev pub decreases-loop-at : goal.decreases-loop-at
decreases-loop-at l = length l.text - l.at
