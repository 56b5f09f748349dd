use Rattle.tried.proofs.FaultExamples as Theorem
use Rattle.promises.proofs.rules.examples_of_faults.Goals as goal

pub returns : goal.returns
returns c = Theorem.fault_examples
