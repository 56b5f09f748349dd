-- `valve::compare_by` meets its contract: the refusal of `load_for` (`blocks_refused`), or whether what it counts agrees (`compared`).
use mathlib.Core.Path.{sym, ap, ◌∙◌}
use Rattle.paper.specs.Answers.{ok, says}
use Rattle.paper.proofs.PassedUp.{passed_up}
use Rattle.keys.specs.Says.{keys_in}
use Rattle.keys.proofs.Records.{keys_length}
use Rattle.machine.proofs.Loaded.{loaded_within}
use Rattle.valve.proofs.Agreements.{blocks_refused, compared}
use Rattle.valve.proofs.comparison.compare_by.Goals as goal

pub load_for-requires : goal.load_for-requires
load_for-requires c = sym (keys_length c.args.list.now 0 _)

pub returns-in_err-count : goal.returns-in_err-count
returns-in_err-count c text d =
    let a = c.args in
    rw (passed_up _ c.from_residual.ensures.1)
    (blocks_refused text a.list.now a.blocks.now a.nodes.now a.rows.now a.n d (sym c.load_for.ensures ∙ ap says c.in_err-count.was))

pub agrees_by-requires : goal.agrees_by-requires
agrees_by-requires c =
    let a = c.args in
    record {
      count_bound = loaded_within (keys_in a.list.now) a.blocks.now _ (sym c.load_for.ensures ∙ ap says c.in_ok-count.was);
      by_index = c.requires;
    }

pub returns : goal.returns
returns c text d =
    let a = c.args in
    ap ok (c.agreement.ensures ∙ c.agrees_by.ensures text d)
    ∙ compared text a.list.now a.blocks.now a.nodes.now a.rows.now a.n d _ (sym c.load_for.ensures ∙ ap says c.in_ok-count.was)
