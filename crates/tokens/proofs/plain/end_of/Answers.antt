-- `tokens::end_of` meets its contract: a word goes on after its first byte as far as `word_more` counts, and a sign has the bytes of its code.
use native.Mathlib.Omega.{arith}
use Prim.Native.Nat.{ℕ, ◌+◌}
use lib.ListN.{drop, length-drop}
use Rattle.tokens.specs.Scanned.{length_in}
use Rattle.tokens.proofs.Scans.{more_fits}
use Rattle.tokens.proofs.plain.end_of.Goals as goal

abbrev next : goal.After-word_more → ℕ
next c = c.args.at + length_in c.args.code

pub overflow_add-result : goal.overflow_add-result
overflow_add-result c =
    let text = c.args.text.now in
    omega (arith, c.word_more.ensures, c.requires, more_fits (drop (next c) text), length-drop (next c) text)
