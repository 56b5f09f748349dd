use Rattle.paper.proofs.DemandThree as Theorem
use Rattle.promises.proofs.demands.blocks_say_what_the_text_says.Goals as goal

pub returns : goal.returns
returns c = Theorem.demand_three_met
