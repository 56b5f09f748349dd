use Rattle.tried.proofs.WrongCounters as Theorem
use Rattle.promises.proofs.accounts.wrong_counters_fail.Goals as goal

pub returns : goal.returns
returns c = Theorem.wrong_counters_fail
