-- `keys::find::find_among` meets its contract. The invariant of its loop: the keys before key k have other names, so what is found from key k on
-- is what is found from the start.
use mathlib.Core.Path.{◌≡◌}
use Rattle.paper.specs.Keys.{keys_from, find}
use Rattle.keys.proofs.Lookup.{find_on}
use Rattle.keys.proofs.find.find_among.Given as goal

abbrev pub invariant-loop-k : goal.invariant-loop-k
invariant-loop-k l = find_on l.list l.word l.n l.k ≡ find (keys_from l.list 0 l.n) l.word
