-- Why every longer number ends with these digits: before each turn as many of them are left as there are bytes from the first one on to i, and
-- with them each longer number is as it is to be. A turn writes the last of them before the others (`cut_more`).
use Rattle.std.proofs.Common.{◌≡◌, ℕ, ◌+◌, ◌-◌, ◌*◌, ◌^◌, ◌<◌, ◌≤◌, length}
use Rattle.number.specs.Numerals.{numeral_with}
use Rattle.number.proofs.numeral.put_cut.Given as goal

abbrev pub invariant-loop-i : goal.invariant-loop-i
invariant-loop-i l =
    (l.end - 7 ≤ l.i) × (length l.bytes ≡ length l.initial.bytes) × (l.left < l.base ^ (l.i - (l.end - 7)))
    × ((high : ℕ) → 0 < high → numeral_with l.base l.i (high * l.base ^ (l.i - (l.end - 7)) + l.left) l.bytes ≡ numeral_with l.base l.end (high * l.base ^ 7 + l.n) l.initial.bytes)
