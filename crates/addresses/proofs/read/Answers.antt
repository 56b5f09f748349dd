-- Each scheme reads its string by its own rule.
use Rattle.std.proofs.Common.{◌∙◌}
use Rattle.paper.specs.Addresses.{address}
use Rattle.addresses.proofs.read.Goals as goal

pub returns-in-Ipv4 : goal.returns-in-Ipv4
unfolding address
returns-in-Ipv4 c = c.whole.ensures ∙ rw c.in-Ipv4.is

pub returns-in-Ipv6 : goal.returns-in-Ipv6
unfolding address
returns-in-Ipv6 c = rw c.in-Ipv6.is c.read_ipv6.ensures

pub returns-in-Mac : goal.returns-in-Mac
unfolding address
returns-in-Mac c = c.whole-in-Mac.ensures ∙ rw c.in-Mac.is
