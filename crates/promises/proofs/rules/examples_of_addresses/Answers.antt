use Rattle.tried.proofs.AddressExamples as Theorem
use Rattle.promises.proofs.rules.examples_of_addresses.Goals as goal

pub returns : goal.returns
returns c = Theorem.address_examples
