-- Before each turn the first i bytes stand at the offset and nothing else has changed; a turn adds
-- one (`copied_more`).
use lib.ListN.{length-set}
use borrow.Author.Rules.{rules}
use Rattle.spelling.proofs.Copies.{copied_more}
use Rattle.spelling.proofs.bytes.copy.Goals as goal

pub loop-i-preserved : goal.loop-i-preserved
loop-i-preserved c =
    let given = c.args in
    let l = c.loop-i in (
      simp length-set l.invariant.0,
      rw l.invariant.1 (copied_more given.out.now given.s.now given.at l.i (search rules)),
    )
