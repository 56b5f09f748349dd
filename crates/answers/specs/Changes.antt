-- The byte for the earlier answer in a request to recheck.
use Rattle.std.specs.Prelude.{ℕ, Bool, true, false, cond, eqb}
use Rattle.paper.specs.Answers.{Answer, ok, refused, in_entry}

-- 1 accepted, 2 violated, any other refused with 20 at entry 0
abbrev pub earlier_answer : ℕ → Answer Bool
earlier_answer byte = cond (eqb byte 1) (ok true) (cond (eqb byte 2) (ok false) (refused 20 in_entry 0))
