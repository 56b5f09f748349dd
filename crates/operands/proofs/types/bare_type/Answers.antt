-- Past the list there is no key and no type (`no_key`); else the record has the kind and the width of the key.
use borrow.Author.Rules.{rules}
use Prim.Native.Nat.{◌/◌}
use lib.ListN.{length}
use Rattle.keys.proofs.Records.{key_at}
use Rattle.operands.proofs.Indexed.{no_key}
use Rattle.operands.proofs.types.bare_type.Goals as goal

pub returns-then-list-k : goal.returns-then-list-k
returns-then-list-k c =
    let a = c.args in
    rw (no_key a.list.now a.k c.if-list-k.true)

pub returns : goal.returns
returns c =
    let a = c.args in
    rw (key_at a.list.now (length a.list.now / 80) a.k (search rules), ← c.read-key.ensures.kind, ← c.read-key.ensures.width)
