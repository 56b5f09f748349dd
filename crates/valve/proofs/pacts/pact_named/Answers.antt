-- `valve::pact_named` meets its contract: a table that is too long is refused, else what is made with nodes of its own.
use Rattle.valve.proofs.Contracts.{table_over}
use Rattle.valve.proofs.pacts.pact_named.Goals as goal

pub returns-then-table-gt-MOST_USERS : goal.returns-then-table-gt-MOST_USERS
returns-then-table-gt-MOST_USERS c = table_over _ _ _ _ c.requires c.if-table-gt-MOST_USERS.true
