-- `reading::typed_root` meets its contract: what stopped the tree (`not_grown`), or the text's tree, then its names resolved, which changes no
-- tree (`still_planted`, `still_sown`); then the check of its types, or that one's refusal; and where the types are right, parts that can be
-- judged (`ready`).
use native.Mathlib.Omega.{arith}
use Rattle.std.specs.Prelude.{Ok, Err, ◌-◌}
use Rattle.paper.proofs.PassedUp.{passed_up}
use Rattle.keys.specs.Says.{keys_in}
use Rattle.trees.proofs.Marking.{marked_below}
use Rattle.reading.specs.Restricted.{Typed}
use Rattle.reading.proofs.Stages.{settles, still_stopped, grown, not_grown, still_planted, not_typed, right_types}
use Rattle.reading.proofs.Parted.{sown_told, still_sown, ready}
use Rattle.reading.proofs.typed_root.Goals as goal

pub returns-in_err-grown-clause-settles : goal.returns-in_err-grown-clause-settles
returns-in_err-grown-clause-settles c =
    let t = c.read_parts in
    rw (passed_up _ c.from_residual.ensures.1) (
      still_stopped c.args.scratch t.result _ c.in_err-grown.was t.ensures.settles.0,
      not_grown _ t.new.nodes t.result t.ensures.settles.1 c.args.list.now t.new.nodes _ c.in_err-grown.was,
    )

pub returns-in_err-check_types-clause-settles : goal.returns-in_err-check_types-clause-settles
returns-in_err-check_types-clause-settles c =
    let text = c.args.text.now in
    let list = c.args.list.now in
    let names = c.resolve in
    let u = c.check_types in
    let size = c.in_ok-grown.grown.tree in
    let p = grown _ _ c.read_parts.result c.read_parts.ensures.settles.1 c.in_ok-grown.was in
    let some = p.some in
    rw (passed_up _ c.from_residual-in_err-check_types.ensures.1) (
      settles c.args.scratch (Err _),
      not_typed text list _ size (still_planted text list _ _ size names.ensures p)
          u.result (u.ensures text (marked_below (keys_in list) text _ (omega (arith, some)) names.ensures.marked)) c.in_err-check_types.was,
    )

-- the tree that is left has the right types
typed : (c : goal.In_ok-check_types) → Typed c.args.text.now c.args.list.now c.resolve.new.nodes (c.in_ok-grown.grown.tree - 1)
typed c =
    let text = c.args.text.now in
    let list = c.args.list.now in
    let names = c.resolve in
    let u = c.check_types in
    let size = c.in_ok-grown.grown.tree in
    let p = grown _ _ c.read_parts.result c.read_parts.ensures.settles.1 c.in_ok-grown.was in
    let some = p.some in
    let marked = marked_below (keys_in list) text _ (omega (arith, some)) names.ensures.marked in
    right_types text list _ size (still_planted text list _ _ size names.ensures p) u.result (u.ensures text marked) marked c.in_ok-check_types.was

pub returns-clause-settles : goal.returns-clause-settles
returns-clause-settles c = (settles c.args.scratch (Ok _), typed c)

pub returns-clause-readies : goal.returns-clause-readies
returns-clause-readies c =
    let text = c.args.text.now in
    let list = c.args.list.now in
    let names = c.resolve in
    let t = c.read_parts in
    let p = grown _ _ t.result t.ensures.settles.1 c.in_ok-grown.was in
    λ lent.
    let parts = sown_told _ _ _ t.result t.ensures.sows c.in_ok-grown.was lent in
    ready text list _ _ _ _ (typed c) (omega (arith, names.auto, p.has)) (still_sown text list _ _ _ _ _ names.ensures parts) lent
