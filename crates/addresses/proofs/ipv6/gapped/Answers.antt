-- Both sides of the "::" are read after zero, for what is bad of them and how many groups they have; then the right side is read after the
-- left one and its zeros (`gapped_good`).
use Rattle.std.proofs.Common.{arith}
use Rattle.paper.specs.Addresses.{groups}
use Rattle.addresses.proofs.Wholes.{gapped_good}
use Rattle.addresses.proofs.ipv6.gapped.Goals as goal

pub returns : goal.returns
returns c =
    let first = rw c.zero.ensures at c.in_ok-first.ensures in
    let second = rw c.zero-2.ensures at c.in_ok-second.ensures in
    let all = c.in_ok-all.ensures in
    gapped_good (groups c.args.left.now) (groups c.args.right.now) first.told second.told
    (omega (arith, first.counted, second.counted, c.if-count-gt7.false)) _ _ _ first.grown
    (rw (first.counted, second.counted) at c.with_zeros.ensures) all.grown
