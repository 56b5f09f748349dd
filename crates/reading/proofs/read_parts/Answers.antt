-- `reading::read_parts` meets its contract: nodes with room for the text have it for what is cut from it, whatever the tape.
use Rattle.reading.proofs.read_parts.Goals as goal

pub read_on-requires-in-Long-clause-tape_fits : goal.read_on-requires-in-Long-clause-tape_fits
read_on-requires-in-Long-clause-tape_fits c = λ n few short has. (rw c.in-Long.is at c.requires.room_for) n few short
