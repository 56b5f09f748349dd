-- `tokens::code_at` meets its contract: by the class of the byte, a word (`word_stands`), or the sign's code, which is no word's (`plain_sign`).
use mathlib.Core.Path.{refl, sym, ◌∙◌}
use borrow.Author.Rules.{rules}
use Rattle.tokens.proofs.Scans.{stands_as, word_stands}
use Rattle.tokens.proofs.plain.code_at.Goals as goal

pub returns-then-is_id_start : goal.returns-then-is_id_start
returns-then-is_id_start c =
    let given = c.args in
    let letter = sym c.is_id_start.ensures ∙ c.if-is_id_start.true in
    stands_as refl refl (rw letter) (word_stands given.text.now given.at (search rules))
