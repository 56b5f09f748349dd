-- By what is promised of the call's result.
use Rattle.paper.proofs.DemandOne.{read_answered}
use Rattle.paper.proofs.DemandTwo.{read_right}
use Rattle.promises.proofs.calls.read.Goals as goal

pub returns : goal.returns
returns c = record { read_answered = read_answered _ c.read.result c.read.ensures; read_right = read_right _ c.read.result c.read.ensures }
