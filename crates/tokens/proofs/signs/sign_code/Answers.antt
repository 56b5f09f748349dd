-- `tokens::sign_code` meets its contract: of the signs that begin with the byte, the longer one where the next byte is its second (`pair_stands`),
-- and else the one of the byte alone (`alone_stands`).
use Prim.Native.Nat.{ℕ, ◌+◌}
use mathlib.Core.Path.{◌≡◌, sym, ◌∙◌}
use mathlib.Core.List.{List}
use borrow.Author.Rules.{rules}
use lib.ListN.{get_or}
use Rattle.tokens.specs.Scanned.{Begins, second_of}
use Rattle.tokens.proofs.SignBytes.{pair_stands, alone_coded, alone_stands}
use Rattle.tokens.proofs.signs.sign_code.Goals as goal

abbrev text : goal.Then-byte_or_zero-signs → List ℕ
text c = c.args.text.now

abbrev at : goal.Then-byte_or_zero-signs → ℕ
at c = c.args.at

abbrev signs : goal.Then-byte_or_zero-signs → ℕ
signs c = c.signs_from-signs.result

begins : (c : goal.Then-byte_or_zero-signs) → Begins (get_or (text c) (at c) 0) (signs c)
begins c = c.signs_from-signs.ensures

pub returns-then-byte_or_zero-signs : goal.returns-then-byte_or_zero-signs
returns-then-byte_or_zero-signs c =
    let same : get_or (text c) (at c + 1) 0 ≡ second_of (signs c) = sym c.byte_or_zero.ensures ∙ c.if-byte_or_zero-signs.true in
    record { stands = pair_stands (text c) (at c) (signs c) (begins c) (search rules) same; coded = (begins c).pair }

abbrev text_2 : goal.Else-byte_or_zero-signs → List ℕ
text_2 c = c.args.text.now

abbrev at_2 : goal.Else-byte_or_zero-signs → ℕ
at_2 c = c.args.at

abbrev signs_2 : goal.Else-byte_or_zero-signs → ℕ
signs_2 c = c.signs_from-signs.result

begins_2 : (c : goal.Else-byte_or_zero-signs) → Begins (get_or (text_2 c) (at_2 c) 0) (signs_2 c)
begins_2 c = c.signs_from-signs.ensures

pub returns : goal.returns
returns c =
    record { stands = alone_stands (text_2 c) (at_2 c) (signs_2 c) (begins_2 c) (search rules) (λ e. c.if-byte_or_zero-signs.false (c.byte_or_zero.ensures ∙ e)); coded = alone_coded (text_2 c) (at_2 c) (signs_2 c) (begins_2 c) (search rules) }
