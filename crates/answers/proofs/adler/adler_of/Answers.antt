-- The two sums of the bytes so far are those that the definition goes on from (`adler_on`), and both stay below 65,521.
use Rattle.std.proofs.Common.{◌∙◌, sym, ◌<◌, ◌≤◌, length, rules}
use Rattle.answers.proofs.Sums.{adler_on, adler_end}
use Rattle.answers.proofs.adler.adler_of.Goals as goal

pub loop-byte-preserved : goal.loop-byte-preserved
loop-byte-preserved c =
    let l = c.loop-byte in
    let s = c.args.s.now in
    let h : l.byte-index < length s = search rules in
    (search rules, search rules, rw c.from.ensures (adler_on s l.a l.b l.byte-index h ∙ l.invariant.2))

pub returns : goal.returns
returns c =
    let l = c.loop-byte in
    let h : length c.args.s.now ≤ l.byte-index = search rules in
    sym (adler_end c.args.s.now l.a l.b l.byte-index h) ∙ l.invariant.2
