-- `cases::inputs::last` meets its contract. The invariant of its loop: the last line of all is the last of those from here on, or the one found
-- before them. A turn takes the line here if it gives the input (`better`); a line past the offset decides nothing (`heads_past`). The measure is
-- how many bytes are left.
use Prim.Native.Nat.{ℕ, ◌+◌, ◌≤◌}
use mathlib.Core.Path.{◌≡◌, sym, ap, ap₂, ◌∙◌}
use mathlib.Core.Bool.{Bool, true, false, cond}
use mathlib.Core.List.{List}
use native.Mathlib.Omega.{arith}
use lib.ListN.{length, drop}
use borrow.Author.Tests.{le-leb}
use Rattle.std.specs.Prelude.{Option, Some}
use Rattle.std.specs.Option.{option_eq}
use Rattle.cases.specs.declared.names.Command.{Command}
use Rattle.cases.specs.Names.{same_command}
use Rattle.cases.specs.Inputs.{heads, last_of, gives}
use Rattle.cases.proofs.Lists.{line_head, heads_past}
use Rattle.cases.proofs.inputs.last.Goals as goal

abbrev file : goal.Then-to-at → List ℕ
file t = t.args.file.now

abbrev at : goal.Then-to-at → ℕ
at t = t.loop-at.at

abbrev so_far : goal.Then-to-at → ℕ
so_far t = t.loop-at.found

pub returns-then-to-at : goal.returns-then-to-at
returns-then-to-at c =
    let none = heads_past (file c) c.args.to c.args.input (drop (at c) (file c)) (at c) true (so_far c) c.if-to-at.true in
    (sym none ∙ c.loop-at.invariant.1, c.loop-at.invariant.0)

either : (b : Bool) (x y n : ℕ) → x ≤ n → y ≤ n → cond b x y ≤ n
either true x y n h l = h
either false x y n h l = l

abbrev file_2 : goal.After-scan-at → List ℕ
file_2 t = t.args.file.now

abbrev test : goal.After-scan-at → ℕ → Bool
test t = gives (file_2 t) t.args.to t.args.input

abbrev at_2 : goal.After-scan-at → ℕ
at_2 t = t.loop-at.at

abbrev so_far_2 : goal.After-scan-at → ℕ
so_far_2 t = t.loop-at.found

better : (c : goal.After-scan-at) → c.picked-found.result ≡ cond (test c (at_2 c)) (at_2 c) (so_far_2 c)
better c =
    c.picked-found.ensures
    ∙ ap (λ (t : Bool). cond t (at_2 c) (so_far_2 c)) c.eq.ensures
    ∙ ap (λ (input : Option Command). cond (option_eq same_command input (Some c.args.input)) (at_2 c) (so_far_2 c)) c.input_at.ensures
    ∙ rw (le-leb (at_2 c) c.args.to c.if-to-at.false)

inside : (c : goal.After-scan-at) → c.picked-found.result ≤ length (file_2 c)
inside c =
    omega (arith, better c, either (test c (at_2 c)) (at_2 c) (so_far_2 c) (length (file_2 c)) (omega arith) c.loop-at.invariant.0)

pub loop-at-preserved : goal.loop-at-preserved
loop-at-preserved c = (
  inside c,
  ap₂ (λ (n e : ℕ). last_of (test c) n (heads (e + 1) true (drop (e + 1) (file_2 c)))) (better c) c.scan-at.ensures.here
      ∙ sym (ap (last_of (test c) (so_far_2 c)) (line_head (file_2 c) (at_2 c) c.loop-at-test.true)) ∙ c.loop-at.invariant.1,
)
