-- What is found of a new entry beside an old one, whose earlier answer plays no part in it.
use Rattle.std.specs.Prelude.{ℕ, ◌≡◌, Bool, List, Option, None, Some}
use Rattle.paper.specs.Answers.{Answer, Judgement, judgement_says}
use Rattle.paper.specs.Calls.{restriction}
use Rattle.paper.specs.Rechecking.{Rechecked, reused, judged, reuses_by, recheck_answer}

abbrev pub beside_says : Answer Bool → Option Judgement → Rechecked
beside_says earlier None = reused earlier
beside_says earlier (Some j) = judged (judgement_says j)

-- whichever answer it was
abbrev pub Compared : List ℕ → List ℕ → List ℕ → List ℕ → Option Judgement → Type 0
Compared text list old new r = (earlier : Answer Bool) → beside_says earlier r ≡ recheck_answer text list old earlier new

abbrev pub same_in : List ℕ → List ℕ → List ℕ → List ℕ → Bool
same_in text list old new = reuses_by (restriction text list) old new
