-- `number::Magnitude::put_bytes` meets its contract: the four words, each stored into the bytes that came back from the one before it, are
-- the sixteen bytes of the number (`four_put`).
use Rattle.std.proofs.Common.{rules}
use Rattle.number.proofs.BigEndian.{four_put}
use Rattle.number.proofs.Limbs.{Held}
use Rattle.number.proofs.magnitude.Magnitude.put_bytes.Goals as goal

-- the limbs of the number given fit
held : (s : goal.After-slice_known-5-1) → Held s.args.self
held s = search rules

-- the places: where each word was stored, from the fourth to the first; between two of them the bytes come back
pub returns : goal.returns
returns c =
    let a = c.args in
    rw (c.put_word-4.ensures, c.put_word-3.ensures, c.put_word-2.ensures, c.put_word.ensures)
    (four_put a.out.now a.at a.self (held c))
