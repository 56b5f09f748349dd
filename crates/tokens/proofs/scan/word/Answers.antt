-- `tokens::word` meets its contract: the bytes that `word_more` counts follow the first (`word_stands`).
use native.Mathlib.Omega.{arith}
use borrow.Author.Rules.{rules}
use Rattle.tokens.proofs.Scans.{word_inside, word_stands}
use Rattle.tokens.proofs.scan.word.Goals as goal

pub overflow_add-result : goal.overflow_add-result
overflow_add-result c = omega (arith, c.word_more.ensures, word_inside c.args.text.now c.args.at (search rules))

pub returns : goal.returns
returns c =
    let a = c.args in
    rw c.word_more.ensures (word_stands a.text.now a.at (search rules))
