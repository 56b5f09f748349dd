-- The parts so far are good, `count` says how many they are, and `number` is what they make after the number given (`Read`).
use Rattle.std.proofs.Common.{◌≡◌, length, map}
use Rattle.number.specs.Values.{value}
use Rattle.addresses.specs.Reads.{scheme}
use Rattle.addresses.proofs.Turns.{Read}
use Rattle.addresses.proofs.groups.groups.Given as goal

abbrev pub invariant-loop-part : goal.invariant-loop-part
invariant-loop-part l =
    (l.count ≡ length l.yielded) × Read (scheme l.kind) (value l.initial.number) (map (λ p. p.now) l.yielded) (value l.number)
