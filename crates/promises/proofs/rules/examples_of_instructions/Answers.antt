use Rattle.tried.proofs.InstructionExamples as Theorem
use Rattle.promises.proofs.rules.examples_of_instructions.Goals as goal

pub returns : goal.returns
returns c = Theorem.instruction_examples
