-- Why the first landing that does not fit is found: before each turn the landings of the earlier instructions fit (`Compared`). A landing
-- up to where the types were followed fits exactly where its mark is that after the skip (`next_same`, `stops_here`), and one past it is
-- not compared (`next_past`). An instruction that passes nothing over lands on the next one, whose mark is its own.
use Rattle.std.proofs.Common.{◌≡◌, ◌+◌, ◌-◌, List, get_or, sym, ap, ◌∙◌, arith}
use Rattle.paper.specs.Keys.{Key}
use Rattle.paper.specs.Code.{parts_at}
use Rattle.paper.specs.Loading.{instruction_at}
use Rattle.machine.specs.Following.{Followed}
use Rattle.machine.proofs.Skips.{over_told}
use Rattle.machine.proofs.Fitting.{landing, fits_first, reads, next_past, next_same, stops_here, fits_last}
use Rattle.machine.proofs.checking.misfit.Goals as goal
use Rattle.machine.proofs.checking.misfit.Goals.{After-over_at, else-landing-upto-via-then-landing-upto+else-marks-landing, else-landing-upto-via-else-landing-upto}

-- the types were followed, by the keys of some list
abbrev Follows : After-over_at → List Key → Type 0
Follows c ks = Followed ks c.args.blocks.now c.args.n c.args.marks.now c.args.upto

-- where the instruction that a turn read lands
lands_so : (c : After-over_at) (ks : List Key) → Follows c ks
    → c.loop-i.i + 1 + c.over_at.result ≡ landing ks c.args.blocks.now c.args.n c.loop-i.i
lands_so c ks f =
    let i = c.loop-i.i in
    let a = c.args in
    let (x, e) = reads ks a.blocks.now a.n a.marks.now a.upto f (c.loop-i.invariant.fits ks f) c.loop-i-test.true in
    let told = over_told (a.n - i - 1) (parts_at a.blocks.now (instruction_at i)) x e in
    ap (λ k. i + 1 + k) (c.over_at.ensures.0 ∙ sym told)

pub loop-i-init : goal.loop-i-init
loop-i-init c = record { within = omega arith; fits = λ ks f. fits_first ks _ _ }

pub returns-then-marks-landing : goal.returns-then-marks-landing
returns-then-marks-landing c ks f =
    let a = c.args in
    let lands = lands_so (goal.at.returns-then-marks-landing c).After-over_at ks f in
    stops_here ks a.blocks.now a.n a.marks.now a.upto f (c.loop-i.invariant.fits ks f) c.loop-i-test.true
    (omega (arith, lands, c.if-landing-upto.true)) (λ e. c.if-marks-landing.true (ap (λ k. get_or a.marks.now k 0) lands ∙ e))

pub loop-i-preserved : goal.loop-i-preserved
loop-i-preserved c =
    let a = c.args in
    let more = c.loop-i-test.true in
    record {
      within = omega (arith, more);
      fits =
          λ ks f.
          let lands = lands_so (goal.at.loop-i-preserved c).After-over_at ks f in
          let here = c.loop-i.invariant.fits ks f in
          elim c.else-landing-upto.branch [
            | else-landing-upto-via-then-landing-upto+else-marks-landing w ↦
                next_same ks a.blocks.now a.n a.marks.now a.upto f here more (omega (arith, lands, w.if-landing-upto.true))
                (ap (λ k. get_or a.marks.now k 0) (sym lands) ∙ w.if-marks-landing.false)
            | else-landing-upto-via-else-landing-upto w ↦
                next_past ks a.blocks.now a.n a.marks.now a.upto f here more (omega (arith, lands, w.if-landing-upto.false))
          ];
    }

pub returns : goal.returns
returns c ks f =
    let a = c.args in
    let last : c.loop-i.i ≡ a.upto = omega (arith, c.loop-i-test.false, c.loop-i.invariant.within) in
    fits_last ks a.blocks.now a.n a.marks.now a.upto f (rw last at (c.loop-i.invariant.fits ks f))
