-- A mask is all ones where it is 2^W - 1; over 128 bits no mask is (`too_wide`).
use mathlib.Core.Path.{sym}
use borrow.Author.Tests.{lt-leb}
use Rattle.number.proofs.Limbs.{value_lt}
use Rattle.keys.proofs.Matches.{too_wide}
use borrow.Author.Rules.{rules}
use Rattle.keys.proofs.rules.all_ones.Goals as goal

pub returns-else-width-le-WIDEST : goal.returns-else-width-le-WIDEST
returns-else-width-le-WIDEST c =
    let a = c.args in
    let wide = c.if-width-le-WIDEST.false in
    rw (lt-leb a.width 128 wide) (sym (too_wide _ a.width (value_lt a.mask (search rules)) wide))
