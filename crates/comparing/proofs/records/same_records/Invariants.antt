-- `comparing::same_records` meets its contract. The invariant of its loop: the records from number k on are the same exactly where all are. Where two
-- differ, so do all (`differs_here`); where they do not, the rest decides (`same_here`), and after the last there is none (`all_compared`).
use mathlib.Core.Path.{◌≡◌}
use Rattle.paper.specs.Comparing.{records_from, same_records}
use Rattle.comparing.specs.Scratch.{code_from}
use Rattle.comparing.proofs.Matched.{same_from}
use Rattle.comparing.proofs.records.same_records.Given as goal

abbrev pub invariant-loop-k : goal.invariant-loop-k
invariant-loop-k l = (same_from l.blocks l.i l.code l.j l.n l.k ≡ same_records (records_from l.blocks l.i l.n) (code_from l.code l.j l.n))
