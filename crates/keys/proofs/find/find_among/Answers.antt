-- `keys::find::find_among` meets its contract: a turn finds key k (`find_here`) or passes it (`find_on_lem`), and past the last key there is
-- none.
use mathlib.Core.Path.{sym, ◌∙◌}
use borrow.Author.Rules.{rules}
use Rattle.keys.proofs.Lookup.{find_here, find_on_lem}
use Rattle.keys.proofs.find.find_among.Goals as goal

pub returns-then-is_named : goal.returns-then-is_named
returns-then-is_named c =
    sym (find_here c.args.list.now c.args.word.now c.args.n c.loop-k.k (search rules) c.record_at.ensures.result_value c.name_of.ensures
    (sym c.is_named.ensures ∙ c.if-is_named.true)) ∙ c.loop-k.invariant

pub loop-k-preserved : goal.loop-k-preserved
loop-k-preserved c =
    sym (find_on_lem c.args.list.now c.args.word.now c.args.n c.loop-k.k (search rules) c.record_at.ensures.result_value c.name_of.ensures
    (sym c.is_named.ensures ∙ c.if-is_named.false)) ∙ c.loop-k.invariant
