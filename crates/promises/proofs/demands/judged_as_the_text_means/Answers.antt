use Rattle.paper.proofs.DemandTwo as Theorem
use Rattle.promises.proofs.demands.judged_as_the_text_means.Goals as goal

pub returns : goal.returns
returns c = Theorem.demand_two_met
