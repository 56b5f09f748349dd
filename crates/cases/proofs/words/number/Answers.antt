-- The digits from here on, after the number so far, are the number that all of them are.
use Rattle.std.proofs.Common.{◌∙◌, rules}
use Rattle.cases.proofs.Lists.{digits_on}
use Rattle.cases.proofs.words.number.Goals as goal

pub loop-byte-preserved : goal.loop-byte-preserved
loop-byte-preserved g c =
    let l = c.loop-byte in
    rw c.in_ok-n.ensures.0 (digits_on _ l.n l.byte-index (search rules) ∙ l.invariant)
