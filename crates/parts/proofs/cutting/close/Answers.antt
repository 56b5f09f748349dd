-- `parts::close` meets its contract: a part without a token is none (`closed_none`), any other is stored after those that are there
-- (`closed_one`). There is room for it, since the parts before it had a token each, and a ";".
use native.Mathlib.Omega.{arith}
use Rattle.parts.proofs.Going.{closed_one}
use Rattle.parts.proofs.cutting.close.Goals as goal

pub returns : goal.returns
returns c =
    closed_one c.args.tape.now c.args.parts.now _ c.args.first c.args.past c.args.n c.if-first-past.false c.requires.taped.1 c.requires.room.1
    (omega (arith, c.requires.taped.0.few, c.requires.room.0)) (rw (← c.start_at-start.ensures, ← c.end_at-end.ensures) c.put_stretch.ensures)
