-- Sixteen bytes are four words of four, the highest first (`four_words`).
use Rattle.number.specs.Values.{value}
use Rattle.number.proofs.BigEndian.{four_words}
use Rattle.number.proofs.magnitude.Magnitude.from_bytes.Goals as goal

pub returns : goal.returns
unfolding value
returns c =
    let a = c.args in
    rw (c.word.ensures, c.word-2.ensures, c.word-3.ensures, c.word-4.ensures) (four_words a.s.now a.at)
