-- `spelling::line_end` meets its contract. The invariant of its loop: the line from here on ends where the whole line ends. Where it goes on
-- through a stride, the stride is passed over (`span_skip`); what is left is a run by itself. The measure is how many bytes are left.
use Prim.Native.Nat.{ℕ, ◌≤◌}
use native.Mathlib.Omega.{arith}
use mathlib.Core.List.{List}
use borrow.Author.Rules.{rules}
use borrow.Author.Tests.{leb-true}
use Rattle.spelling.specs.Runs.{in_run, line_more, stride}
use Rattle.spelling.specs.declared.runs.Run.TheVariants.{Line}
use Rattle.spelling.proofs.Spans.{span_skip}
use mathlib.Core.Path.{sym}
use mathlib.Core.Path.{◌∙◌}
use Rattle.spelling.proofs.runs.line_end.Goals as goal

abbrev text : goal.Else-not-goes_through → List ℕ
text c = c.args.text.now

abbrev i : goal.Else-not-goes_through → ℕ
i c = c.loop-i.i

pub loop-i-preserved : goal.loop-i-preserved
loop-i-preserved c =
    let through : stride ≤ line_more (text c) (i c) = leb-true stride _ (sym c.goes_through.ensures ∙ c.if-not-goes_through.false) in
    (search rules, omega (arith, c.loop-i.invariant.1, span_skip (in_run Line) (text c) (i c) stride through))
