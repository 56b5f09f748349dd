use Rattle.paper.proofs.DemandOne as Theorem
use Rattle.promises.proofs.demands.every_input_is_answered.Goals as goal

pub returns : goal.returns
returns c = Theorem.demand_one_met
