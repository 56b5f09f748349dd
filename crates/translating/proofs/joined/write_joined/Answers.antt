-- `translating::write_joined` meets its contract: the code behind the skip's place, the join, and the skip, which passes over both (`joined_written`).
use Prim.Native.Nat.{ℕ, ◌+◌, ◌-◌}
use native.Mathlib.Omega.{arith}
use mathlib.Core.Path.{◌≡◌, ap, ◌∙◌}
use mathlib.Core.Bool.{false}
use lib.ListN.{length}
use Rattle.paper.specs.Meaning.{both}
use Rattle.paper.specs.Code.{parts_of, connects, skip}
use Rattle.paper.specs.Translating.{code_of, skip_for}
use Rattle.keys.specs.Says.{keys_in}
use Rattle.trees.specs.Standing.{tree_at}
use Rattle.translating.proofs.AsJoined.{joined_length, joined_written}
use Rattle.translating.proofs.joined.write_joined.Goals as goal

pub returns : goal.returns
returns c text w =
    let own = code_of (keys_in c.args.list.now) (tree_at text c.args.nodes.now c.args.at) in
    let code = c.write_code-end.ensures text (record { known = w.known; room = omega (arith, w.room, joined_length own) }) in
    -- the skip passes over the code and the join
    let over : c.write_code-end.result - c.args.i ≡ length own + 1 = omega (arith, code.next) in
    joined_written code (c.write-after.ensures (connects both) c.plain.ensures)
    (c.write.ensures (skip (skip_for both (length own)))
    (c.skip.ensures ∙ ap (λ (n : ℕ). parts_of (skip (record { on = false; to = false; over = n }))) over))
