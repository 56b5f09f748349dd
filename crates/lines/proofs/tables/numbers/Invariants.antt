-- Each number is stored behind those before it (`take-suc-set`), as the definition lists them.
use mathlib.Core.Path.{◌≡◌}
use lib.ListN.{length, take}
use Rattle.lines.specs.Tables.{numbers_from}
use Rattle.lines.proofs.tables.numbers.Given as goal

abbrev pub invariant-loop-i : goal.invariant-loop-i
invariant-loop-i l = (length l.table ≡ 17) × (take l.i l.table ≡ numbers_from l.s l.at l.i)
