-- No bytes are no groups (`none_grouped`); any others are read as groups (`some_groups`).
use Rattle.std.proofs.Common.{◌≡◌, length, refl, eqb-true, sym, ◌∙◌, rules}
use Rattle.number.proofs.Limbs.{value_lt}
use Rattle.addresses.proofs.Wholes.{none_grouped, no_bytes}
use Rattle.addresses.proofs.ipv6.side.Goals as goal

pub returns-then-is_empty : goal.returns-then-is_empty
returns-then-is_empty c =
    let s = c.args.string.now in
    let none : length s ≡ 0 = eqb-true (length s) 0 (sym c.is_empty.ensures ∙ c.if-is_empty.true) in
    rw (no_bytes s none) (none_grouped _ refl (value_lt c.args.before (search rules)))
