use Rattle.paper.proofs.CodeLength as Theorem
use Rattle.promises.proofs.translations.one_instruction_beside_a_node.Goals as goal

pub returns : goal.returns
returns c = Theorem.few_beside_nodes
