-- The fours before a byte are added (`Fours`), and the words after it are still to come (`left_on`). A turn adds the next four
-- (`fours_next`).
use native.Mathlib.Omega.{arith}
use mathlib.Core.Path.{◌≡◌, refl, ◌∙◌}
use Prim.Native.Nat.{◌-◌}
use lib.ListN.{length}
use Rattle.blocks.proofs.Steps.{left_on}
use Rattle.blocks.proofs.Fours.{fours_none, fours_next}
use Rattle.blocks.proofs.sums.sums_of_fours.Goals as goal

pub loop-four-init : goal.loop-four-init
loop-four-init c =
    let s = c.args.s.now in
    let none : length s - length s ≡ 0 = omega arith in
    let of_all = c.chunks_exact-four-items.ensures in
    rw (c.into_iter-four-iterator.ensures.into_iter_gives, of_all.rest, none) (of_all.size, refl, fours_none s)

pub loop-four-preserved : goal.loop-four-preserved
loop-four-preserved c =
    let s = c.args.s.now in
    let (eight, left, so_far) = c.loop-four.invariant in
    let (size, (off, long), _) = c.in-Some.ensures.steps in (
      size ∙ eight,
      left_on s _ _ _ left off,
      rw (
        c.with-a.ensures.0,
        c.with-a.ensures.1,
        c.with-b.ensures.0,
        c.with-b.ensures.1,
        c.with-c.ensures.0,
        c.with-c.ensures.1,
        c.with-d.ensures.0,
        c.with-d.ensures.1,
      )
          (fours_next s _ _ _ left off (long ∙ eight) so_far c.requires _ _ _ _ c.turned_word.ensures c.turned_word-in-loop-four.ensures
          c.turned_word-in-loop-four-2.ensures c.turned_word-in-loop-four-3.ensures),
    )
