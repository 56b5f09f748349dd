-- `drafting::assertions::put_right` meets its contract: the load says whether the operand is a number of the table or a name.
use Prim.Native.Nat.{◌<◌}
use Rattle.paper.specs.Keys.{records_in}
use Rattle.drafting.specs.declared.opcodes.Load.TheVariants.{Input}
use Rattle.drafting.proofs.Naming.{name_in, right_there}
use Rattle.drafting.proofs.assertions.put_right.Goals as goal

pub returns-in-User : goal.returns-in-User
returns-in-User c =
    rw c.in-User.is (c.put_user.ensures c.args.names.now)

input_there : (c : goal.After-slice_known-in-Input-1) → c.args.a.right < records_in c.args.names.now
input_there c =
    right_there c.args.names.now c.args.table.now c.args.a c.requires.fits Input c.in-Input.is

pub returns-in-Input : goal.returns-in-Input
returns-in-Input c =
    rw (c.in-Input.is, name_in c.args.names.now c.args.a.right (input_there c)) c.put_input.ensures
