-- `parts::name_roots` meets its contract: each turn of its loop stores the root of the last of the parts that are left (`naming_next`), and what is
-- left at the end is the first (`naming_first`).
use Prim.Native.Nat.{◌<◌}
use native.Mathlib.Omega.{arith}
use mathlib.Core.Path.{◌≡◌, refl}
use Rattle.parts.proofs.Roots.{naming_start, naming_next, naming_first, naming_none}
use Rattle.parts.proofs.spine.name_roots.Goals as goal

pub loop-k-init : goal.loop-k-init
loop-k-init c = (refl, naming_start _ _ _ _, λ h. h)

pub loop-k-preserved : goal.loop-k-preserved
loop-k-preserved c =
    let l = c.loop-k in
    let g = l.invariant.1 in
    let more : 1 < l.k = c.loop-k-test.true in (
      omega (arith, c.put_root.auto, l.invariant.0),
      naming_next _ _ c.args.parts.now l.parts _ c.args.n l.at l.k g _ more (omega (arith, c.requires.room, l.invariant.0, g.inside, more))
          (rw (← c.right_of.ensures) c.put_root.ensures) c.left_of-at.ensures,
      λ h. omega (arith, more),
    )

pub returns-then-n-gt0 : goal.returns-then-n-gt0
returns-then-n-gt0 c =
    let l = c.loop-k in
    let one : l.k ≡ 1 = omega (arith, l.invariant.2 c.if-n-gt0.true, c.loop-k-test.false) in
    naming_first _ _ c.args.parts.now l.parts _ c.args.n l.at l.k l.invariant.1 one (omega (arith, c.requires.room, l.invariant.0))
    c.put_root-then-n-gt0.ensures

pub returns-else-n-gt0 : goal.returns-else-n-gt0
returns-else-n-gt0 c =
    let l = c.loop-k in
    naming_none _ _ _ l.parts _ l.at l.k l.invariant.1 (omega (arith, l.invariant.1.inside, c.if-n-gt0.false))
