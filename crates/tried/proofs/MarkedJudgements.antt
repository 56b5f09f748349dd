-- The sixteen marked judgements follow from the definitions.
use mathlib.Core.Path.{refl}
use Rattle.paper.specs.Calls.{judge_answer}
use Rattle.tried.specs.MarkedJudgements.{Marked}

pub marked : Marked
unfolding judge_answer
marked = refl
