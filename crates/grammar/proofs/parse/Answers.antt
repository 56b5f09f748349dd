-- `grammar::parse` meets its contract: one sequence of the whole text, and no token after it (`parsed_left`, `parsed_tree`).
use Rattle.paper.proofs.PassedUp.{passed_up}
use Rattle.grammar.proofs.Outcomes.{took, refused_as}
use Rattle.grammar.proofs.Wholes.{parsed_refused, parsed_left, parsed_tree}
use Rattle.grammar.proofs.parse.Goals as goal

pub returns-in_err-read : goal.returns-in_err-read
returns-in_err-read c = rw (passed_up _ c.from_residual.ensures.1) (parsed_refused _ _ _ _ _ (refused_as _ _ _ _ _ _ _ c.chain.ensures c.in_err-read.was))

pub returns-then-read-count : goal.returns-then-read-count
returns-then-read-count c =
    let h = took c.chain.ensures c.in_ok-read.was in
    parsed_left _ _ h c.if-read-count.true c.place_at.result c.place_at.ensures

pub returns : goal.returns
returns c =
    let h = took c.chain.ensures c.in_ok-read.was in
    parsed_tree _ _ h c.if-read-count.false
