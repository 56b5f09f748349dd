-- Bytes of which one differs are not the same (`bytes_not`).
use Prim.Native.Nat.{◌-◌}
use mathlib.Core.Path.{sym, ap}
use lib.ListN.{length, get_or}
use Rattle.paper.proofs.Words.{bytes_not}
use Rattle.keys.proofs.find.is_named.Goals as goal

pub returns-then-name-size : goal.returns-then-name-size
returns-then-name-size c =
    let a = c.args in
    sym (bytes_not a.name.now a.word.now (λ e. c.if-name-size.true (ap (λ s. get_or s (length a.word.now - 1) 0) e)))
