-- `reading::read_on` meets its contract: what was cut stands on a tape of `WORDS` words and fits the nodes (`tape_fit`), and where these words are
-- enough for the text, the tape has room for it.
use native.Mathlib.Omega.{arith}
use Rattle.reading.specs.Grown.{CutOn}
use Rattle.reading.proofs.Rooms.{tape_fit}
use Rattle.reading.proofs.read_on.Goals as goal

pub grow-requires-clause-cut_fits : goal.grow-requires-clause-cut_fits
grow-requires-clause-cut_fits g c =
    let t = c.tokenize-tokenized in
    let on : CutOn c.args.text.now _ t.result = record { says = t.ensures.says; placed = t.ensures.placed } in
    tape_fit g.row.WORDS _ _ _ (omega arith) c.requires.tape_fits t.result on

pub returns-clause-settled : goal.returns-clause-settled
returns-clause-settled g c =
    let grown = c.grow.ensures.settled in
    (λ enough. grown.0 (λ n few short. omega (arith, enough n few short)), grown.1)
