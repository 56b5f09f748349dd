-- Past the list any cell is right (`no_key`); else the cell holds the field of the match that the entry has for the key (`readable`).
use Prim.Native.Nat.{◌/◌, ◌<◌}
use borrow.Author.Rules.{rules}
use lib.ListN.{length}
use Rattle.paper.specs.Keys.{kind_of}
use Rattle.paper.specs.Types.{has}
use Rattle.paper.specs.Code.{field_of}
use Rattle.keys.proofs.Records.{key_at}
use Rattle.keys.proofs.Conforming.{match_at_lem}
use Rattle.operands.proofs.Conforming.{readable}
use Rattle.operands.proofs.Indexed.{no_key, is_when}
use Rattle.operands.proofs.cells.field_cell.Goals as goal

pub returns-then-list-k : goal.returns-then-list-k
returns-then-list-k c =
    let a = c.args in
    rw (no_key a.list.now a.k c.if-list-k.true) tt

pub read-m-requires : goal.read-m-requires
read-m-requires c =
    let r = readable c.args.list.now c.args.entry.now c.requires c.args.k (search rules) in
    record { k_in_bounds = r.0; k_bound = r.1.0; match_size_in_bounds = r.1.1 }

pub field-requires : goal.field-requires
field-requires c =
    rw c.read-key.ensures.width (readable c.args.list.now c.args.entry.now c.requires c.args.k (search rules)).1.0

pub returns : goal.returns
returns c =
    let a = c.args in
    let key = c.read-key in
    let n = length a.list.now / 80 in
    let h : a.k < n = search rules in
    rw (key_at a.list.now n a.k h, match_at_lem a.list.now a.entry.now n a.k h, ← c.read-m.ensures, ← key.ensures.kind, ← key.ensures.width) (is_when (has (kind_of key.result.kind) (field_of a.field)) c.field.ensures)
