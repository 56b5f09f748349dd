-- Four numbers that C hands in for an earlier judgement, which may be any: as the judgement that is told by them (Told) or, if there is none, as
-- refused with 20 at the start of the entry.
use Rattle.std.specs.Prelude.{ℕ, Bool, cond, ◌&&◌, eqb, leb, Ok}
use Rattle.paper.specs.declared.Verdict.TheVariants.{Accepted, Violated}
use Rattle.paper.specs.Answers.{refusal, Judgement}
use Rattle.paper.specs.declared.Place.{Place}
use Rattle.paper.specs.declared.Place.TheVariants as P
use Rattle.abi.specs.declared.answer.PolluxAnswer.{PolluxAnswer}

abbrev pub no_answer : Judgement
no_answer = refusal 20 (P.Entry 0)

abbrev pub place_in : ℕ → ℕ → Place
place_in i at =
    cond (eqb i 1) (P.Text at)
    (cond (eqb i 2) (P.List at)
    (cond (eqb i 3) (P.Entry at)
    (cond (eqb i 4) (P.Blocks at) (cond (eqb i 5) (P.Buffer at) (cond (eqb i 6) (P.Contract at) (P.Table at))))))

-- a number that a byte holds, in one of the seven inputs
abbrev pub refusal_in : PolluxAnswer → Judgement
refusal_in p = cond (leb p.number 255 && leb 1 p.input && leb p.input 7) (refusal p.number (place_in p.input p.value)) no_answer

-- nothing but a verdict
abbrev pub plain : PolluxAnswer → Bool
plain p = eqb p.number 0 && eqb p.input 0 && eqb p.value 0

abbrev pub verdict_in : PolluxAnswer → Judgement
verdict_in p = cond (plain p) (cond (eqb p.says 1) (Ok Accepted) (cond (eqb p.says 2) (Ok Violated) no_answer)) no_answer

abbrev pub heard_as : PolluxAnswer → Judgement
heard_as p = cond (eqb p.says 0) (refusal_in p) (verdict_in p)
