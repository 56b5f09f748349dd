-- `translating::write_operator_skip` meets its contract: a join's skip is one instruction of the parts made for it, a comparison has none.
use mathlib.Core.Path.{◌≡◌, sym, ap}
use Rattle.trees.specs.declared.node.Operator.{Operator}
use Rattle.translating.specs.Own.{operator_skips}
use Rattle.translating.proofs.Rows.{wrote_as}
use Rattle.translating.proofs.skip.write_operator_skip.Goals as goal

-- what is to be written, by which operator it is
as_told : (s : goal.After-slice_known-in-Joins-1) {o : Operator} → s.args.o ≡ o → operator_skips o s.args.over ≡ operator_skips s.args.o s.args.over
as_told s e = ap (λ (o : Operator). operator_skips o s.args.over) (sym e)

pub returns-in-Joins : goal.returns-in-Joins
returns-in-Joins c =
    wrote_as (as_told c c.in-Joins.is) (c.write.ensures _ c.skip_parts.ensures)
