-- `parts::cut` meets its contract. The invariant of its loop (`Going`): the stretches in the rows, and those from the next token on, are all that
-- the tape has. A token that divides ends a part (`going_divided`), any other is of the part that goes on (`going_on`).
use native.Mathlib.Omega.{arith}
use mathlib.Core.Path.{◌≡◌, refl, sym, ◌∙◌}
use mathlib.Core.Bool.{Bool}
use Rattle.tokens.specs.Tape.{kind_at}
use Rattle.parts.specs.Cutting.{kind_divides}
use Rattle.parts.proofs.Going.{going_start, going_divided, going_on, going_end}
use Rattle.parts.proofs.cutting.cut.Goals as goal
use Rattle.parts.proofs.cutting.cut.Goals.{then-divides, else-divides}

pub loop-i-init : goal.loop-i-init
loop-i-init c = (refl, going_start _ _ _)

-- what is said of the token's kind is said of the token
divided : (c : goal.Joined-divides) {b : Bool} → c.divides.result ≡ b → kind_divides c.loop-i.depth (kind_at c.args.tape.now c.loop-i.i) ≡ b
divided c e = rw (← c.kind_at-kind.ensures) (sym c.divides.ensures ∙ e)

pub loop-i-preserved : goal.loop-i-preserved
loop-i-preserved c =
    let l = c.loop-i in
    let tape = c.args.tape.now in
    let count = c.args.count in
    let long = l.invariant.0 in
    let more = c.loop-i-test.true in
    elim c.if-divides.branch [
      | then-divides w ↦ rw (w.parts-is, w.n-is, w.first-is, w.depth-is) (
        omega (arith, w.close-n.auto.parts, long),
        going_divided tape count l.parts l.n l.first l.depth l.i l.invariant.1 more _ _ (divided c w.if-divides.true) w.close-n.ensures,
      )
      | else-divides w ↦ rw (w.parts-is, w.n-is, w.first-is, w.depth-is, w.open_after-depth.ensures, c.kind_at-kind.ensures)
          (long, going_on tape count l.parts l.n l.first l.depth l.i l.invariant.1 more (divided c w.if-divides.false))
    ]

pub returns : goal.returns
returns c =
    let l = c.loop-i in
    let last = c.close.ensures in
    record { says = going_end c.args.tape.now c.args.count l.parts _ l.n l.first l.depth l.i _ l.invariant.1 c.loop-i-test.false last; few = omega (arith, last.few, c.requires.taped.few) }
