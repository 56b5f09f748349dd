-- `reading::restrict_both` meets its contract: refusal 1 of a text that is too long (`too_long`), those of its list (`not_listed`), then, since a
-- good list is short (`most_bytes`), the answer of `typed_root`, which is that of the whole (`restricts`).
use Rattle.std.specs.Prelude.{Err}
use Rattle.keys.proofs.Checked.{most_bytes}
use Rattle.paper.proofs.PassedUp.{passed_up}
use Rattle.reading.specs.Grown.{of_tree}
use Rattle.reading.proofs.Stages.{settles, too_long, not_listed, good, restricts}
use Rattle.reading.proofs.restrict_both.Goals as goal

pub returns-then-text-gt-MOST_TEXT-clause-settles : goal.returns-then-text-gt-MOST_TEXT-clause-settles
returns-then-text-gt-MOST_TEXT-clause-settles c = (settles c.args.scratch (Err _), too_long _ _ c.if-text-gt-MOST_TEXT.true)

pub returns-in_err-check_list-clause-settles : goal.returns-in_err-check_list-clause-settles
returns-in_err-check_list-clause-settles c =
    rw (passed_up _ c.from_residual.ensures.1)
    (settles c.args.scratch (Err _), not_listed _ _ c.if-text-gt-MOST_TEXT.false c.check_list.result c.check_list.ensures c.in_err-check_list.was)

pub typed_root-requires-clause-list_len_bound : goal.typed_root-requires-clause-list_len_bound
typed_root-requires-clause-list_len_bound c =
    most_bytes c.args.list.now (good c.args.text.now c.args.list.now c.if-text-gt-MOST_TEXT.false c.check_list.result c.check_list.ensures c.in_ok-check_list.was)

pub returns-clause-settles : goal.returns-clause-settles
returns-clause-settles c =
    let t = c.typed_root in (
      t.ensures.settles.0,
      restricts _ _ c.if-text-gt-MOST_TEXT.false c.check_list.result c.check_list.ensures c.in_ok-check_list.was _ (of_tree t.result) t.ensures.settles.1,
    )
