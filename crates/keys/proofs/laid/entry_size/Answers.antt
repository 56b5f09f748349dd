-- `keys::entry_size` meets its contract: a list has as many keys as records (`keys_length`).
use Prim.Native.Nat.{◌/◌}
use native.Mathlib.Omega.{arith}
use lib.ListN.{length}
use Rattle.paper.specs.Keys.{record_size}
use Rattle.keys.proofs.Records.{keys_length}
use Rattle.keys.proofs.laid.entry_size.Goals as goal

pub returns : goal.returns
returns c =
    let list = c.args.list.now in
    omega (arith, keys_length list 0 (length list / record_size))
