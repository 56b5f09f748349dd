-- A turn puts the first of the words that are left behind what is put (`put_more`), and the words after it go on (`line_on`).
use Rattle.std.proofs.Common.{ℕ, List, ◌++◌, sym, ap, ◌∙◌, append_assoc, rules}
use mathlib.Core.Path.{ap₂}
use Rattle.cases.specs.Words.{word_bytes, next_word, line_bytes}
use Rattle.cases.proofs.Lists.{line_on}
use Rattle.cases.proofs.Rooms.{put_more}
use Rattle.cases.proofs.words.put_words.Goals as goal

pub loop-i-preserved : goal.loop-i-preserved
loop-i-preserved g c =
    let l = c.loop-i in
    let s = c.args.s.now in
    let done = l.invariant.1.0 in
    let word = word_bytes s l.i c.scan-to.result in
    let here = c.scan-to.ensures.here in
    let next = c.next_word-i.ensures.0 ∙ ap (next_word s) here in
    let both =
    ap₂ (λ (e n : ℕ). word_bytes s l.i e ++ line_bytes s n) here next ∙ sym (line_on s l.i c.loop-i-test.true) in (
      search rules,
      (done ++ word, put_more l.invariant.1.1 c.in_ok-end.ensures.written, append_assoc done word _ ∙ ap (λ (r : List ℕ). done ++ r) both ∙ l.invariant.1.2),
    )
