-- The line so far starts at or before the place, and the lines before it are counted (the five facts of the invariant); what is left
-- up to the place falls.
use mathlib.Core.Logic.{inr}
use native.Mathlib.Omega.{arith}
use borrow.Author.Rules.{rules}
use Rattle.wording.proofs.Lines.{breaks_split, line_closed, line_counted}
use Rattle.wording.proofs.caret.line_of.Goals as goal

pub loop-to-preserved : goal.loop-to-preserved
loop-to-preserved c =
    let l = c.loop-to in
    let text = c.args.text.now in (
      search rules,
      inr (line_closed text l.from l.to l.invariant.2 (search rules)),
      c.run_end-to-in-loop-to.ensures,
      search rules,
      omega (arith, line_counted text l.from l.to l.invariant.2 (search rules), l.invariant.4),
    )

pub returns : goal.returns
returns c =
    let l = c.loop-to in
    let i = l.invariant in
    let text = c.args.text.now in
    record {
      starts = i.1;
      ends = i.2;
      before = i.0;
      past = search rules;
      counted = omega (arith, breaks_split l.from text, i.4);
    }
