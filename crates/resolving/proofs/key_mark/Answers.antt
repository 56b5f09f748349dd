-- `resolving::key_mark` meets its contract: the index of the key that is found, and one; a list of at most 32 keys has no index that is
-- too large for it (`few_keys`).
use Prim.Native.Nat.{◌<◌}
use native.Mathlib.Omega.{arith}
use mathlib.Core.Path.{sym}
use Rattle.resolving.proofs.Found.{few_keys}
use Rattle.resolving.proofs.key_mark.Goals as goal

index_small : (c : goal.In-Some) → c.in-Some.k < 32
index_small c = few_keys c.args.list.now c.spelled.result.now c.in-Some.k c.requires (sym c.in-Some.ensures)

pub overflow_cast-result : goal.overflow_cast-result
overflow_cast-result c = omega (arith, index_small c)

pub overflow_add-result : goal.overflow_add-result
overflow_add-result c = omega (arith, index_small c)
