-- The measure falls from call to call: sixteen for each token that is left, and how far up the ladder a function is. A rung calls
-- for an operand of the tightest and goes on after its tokens, an operand calls for the next tighter rung, and an atom starts again
-- at the top after a token.
use Rattle.std.proofs.Common.{ℕ, ◌+◌, ◌*◌, ◌-◌, List}
use Rattle.tokens.specs.Tape.{tape_of}
use Rattle.grammar.specs.Ladder as L
use Rattle.grammar.specs.Reading.{start_of}
use Rattle.grammar.proofs.Levels.{Turned}
use Rattle.grammar.proofs.Climbing.{Climbed}
use Rattle.grammar.proofs.ladder.+atom_chain_further_operand_prefix.Given as goal

abbrev left : List ℕ → ℕ
left lent = let from = start_of lent in (from.count - from.token) * 16

abbrev pub decreases-atom : goal.decreases-atom
decreases-atom l = left l.from.now

abbrev pub decreases-prefix : goal.decreases-prefix
decreases-prefix l = left l.from.now + 1

abbrev pub decreases-operand : goal.decreases-operand
decreases-operand l = left l.from.now + 2 * L.height l.rung

abbrev pub decreases-chain : goal.decreases-chain
decreases-chain l = left l.from.now + 2 * L.height l.rung + 1

abbrev pub decreases-further : goal.decreases-further
decreases-further l = left l.from.now

-- what was read first is by now an operand of the level, a rung on the way up to the one that is asked for
abbrev pub invariant-chain-loop-read : goal.invariant-chain-loop-read
invariant-chain-loop-read l =
    let start = start_of l.from in
    Climbed (tape_of l.text l.tape) start.count start.levels l.rung start.token start.node l.initial.nodes l.initial.past l.initial.next l.nodes l.level l.past l.next

-- the rungs up to the goal
abbrev pub decreases-chain-loop-read : goal.decreases-chain-loop-read
decreases-chain-loop-read l = L.height l.rung - L.height l.level

-- whatever the rung comes to from the first operand on, it comes to from the tree of all operands that are read
abbrev pub invariant-further-loop-sign : goal.invariant-further-loop-sign
invariant-further-loop-sign l =
    let start = start_of l.from in
    Turned (tape_of l.text l.tape) start.count (L.at_most_once l.rung) (L.may_end l.rung) (L.operators l.rung) (L.operand_of l.rung start.levels) l.initial.nodes l.initial.past l.initial.next l.nodes l.past l.next

-- the tokens that are left
abbrev pub decreases-further-loop-sign : goal.decreases-further-loop-sign
decreases-further-loop-sign l = (start_of l.from).count - l.next
