-- The key is written, and then "::" and the name of the field.
use mathlib.Core.Path.{sym}
use mathlib.Core.List.{append_assoc}
use Rattle.paper.specs.Tokens.{bytes}
use Rattle.trees.specs.Standing.{spelling}
use Rattle.printing.proofs.Rows.{wrote_as, wrote_on}
use Rattle.printing.proofs.leaf.write_field.Goals as goal

pub returns : goal.returns
returns c =
    let given = c.args in
    wrote_as (sym (append_assoc (spelling given.text.now given.key) (bytes "::") (spelling given.text.now given.name)))
    (wrote_on c.write_word-word.ensures c.write_name.ensures)
