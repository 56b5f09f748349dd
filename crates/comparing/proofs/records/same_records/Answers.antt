-- `comparing::same_records` meets its contract. The invariant of its loop: the records from number k on are the same exactly where all are. Where two
-- differ, so do all (`differs_here`); where they do not, the rest decides (`same_here`), and after the last there is none (`all_compared`).
use mathlib.Core.Path.{sym, ◌∙◌}
use Rattle.comparing.proofs.Matched.{same_here}
use Rattle.comparing.proofs.records.same_records.Goals as goal

pub loop-k-preserved : goal.loop-k-preserved
loop-k-preserved c =
    let l = c.loop-k in
    let a = c.args in
    let more = c.loop-k-test.true in
    let same = sym c.same_record.ensures ∙ c.if-not-same_record.false in
    sym (same_here a.blocks.now a.i a.code.now a.j a.n l.k more same) ∙ l.invariant
