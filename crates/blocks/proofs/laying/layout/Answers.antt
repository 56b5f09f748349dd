-- `blocks::laying::layout` meets its contract. The invariant of its loop: the first k blocks pass, so that the tests from block k on
-- decide. A turn settles the test of block k.
use Prim.Native.Nat.{◌*◌}
use native.Mathlib.Omega.{arith}
use mathlib.Core.Path.{◌≡◌, refl, sym, ◌∙◌, ap}
use Rattle.paper.specs.Answers.{ok}
use Rattle.paper.specs.Blocks.{blocks_in, block_ok, block_test}
use Rattle.paper.proofs.InTurn.{goes_on, stops, is_over}
use Rattle.blocks.proofs.Layouts.{laid_empty, laid_broken, laid_long, laid_from, block_there}
use Rattle.blocks.proofs.laying.layout.Goals.{After-block_right}
use Rattle.blocks.proofs.laying.layout.Goals as goal

-- refusal 16, by the length alone
pub returns-then-size-eq0 : goal.returns-then-size-eq0
returns-then-size-eq0 c = let a = c.args in sym (laid_empty a.keys a.blocks.now c.if-size-eq0.true)

pub returns-then-size-ne0 : goal.returns-then-size-ne0
returns-then-size-ne0 c = let a = c.args in sym (laid_broken a.keys a.blocks.now c.if-size-ne0.true (omega arith))

pub returns-then-size : goal.returns-then-size
returns-then-size c = let a = c.args in sym (laid_long a.keys a.blocks.now c.if-size.true c.if-size-ne0.false)

-- a look at block k says whether it passes
looked : (c : After-block_right) → block_ok c.args.keys c.args.blocks.now c.loop-k.k ≡ c.block_right.result
looked c =
    let total = c.total_of-total in
    block_there c.args.keys c.args.blocks.now c.loop-k.k total.result (c.loop-k.k * 512) total.ensures refl ∙ sym c.block_right.ensures

pub returns-then-not-block_right : goal.returns-then-not-block_right
returns-then-not-block_right c =
    let blocks = c.args.blocks.now in
    let keys = c.args.keys in
    let k = c.loop-k.k in
    let bad = looked (goal.at.returns-then-not-block_right c).After-block_right ∙ c.if-not-block_right.true in
    sym (laid_from keys blocks (omega arith) c.if-size-ne0.false (omega arith) k c.loop-k.invariant
    (stops (block_test keys blocks) (blocks_in blocks) k (omega arith) (rw bad)))

pub loop-k-preserved : goal.loop-k-preserved
loop-k-preserved c =
    let blocks = c.args.blocks.now in
    let keys = c.args.keys in
    let k = c.loop-k.k in
    let good = looked (goal.at.loop-k-preserved c).After-block_right ∙ c.if-not-block_right.false in
    sym (goes_on (block_test keys blocks) (blocks_in blocks) k (omega arith) (rw good)) ∙ c.loop-k.invariant

pub returns : goal.returns
returns c =
    let blocks = c.args.blocks.now in
    let keys = c.args.keys in
    let k = c.loop-k.k in
    sym (laid_from keys blocks (omega arith) c.if-size-ne0.false (omega arith) k c.loop-k.invariant
    (is_over (block_test keys blocks) (blocks_in blocks) k (omega arith)) ∙ ap ok (sym c.total_of-total.ensures))
