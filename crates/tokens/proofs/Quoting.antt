-- Strings and comments, from the byte that opens them.
use Prim.Native.Nat.{ℕ, suc, ◌+◌, ◌-◌, ◌≤◌, ◌<◌}
use mathlib.Core.Path.{◌≡◌, ap, ap₂, sym, ◌∙◌}
use mathlib.Core.List.{List}
use native.Mathlib.Omega.{arith}
use lib.ListN.{length, get_or, take, drop, drop_of_length-le}
use lib.Seq.{slice, drop-drop}
use borrow.Author.Tests.{eq-eqb, ne_eqb}
use Rattle.paper.specs.Tokens.{span, scan_comment, scan_string, string, token, plain}
use Rattle.spelling.specs.Runs.{in_run, EndsAt}
use Rattle.spelling.specs.declared.runs.Run.TheVariants.{Line, Quoted}
use Rattle.spelling.proofs.Spans.{cut}
use Rattle.tokens.specs.Scanned.{Stands}
use Rattle.tokens.specs.declared.found.Lexeme.TheVariants.{Blank, Token, NoToken}
use Rattle.tokens.proofs.Parts.{part_slice}

module _ (s : List ℕ) (at : ℕ) where
  pub comment_short : length s ≤ at + 1 → Stands s at (plain 0) (scan_comment (drop (at + 1) s)) NoToken
  comment_short h = record { says = rw (drop_of_length-le s h); ends = tt }

  pub comment_other : at + 1 < length s → (get_or s (at + 1) 0 ≡ 47 → ⊥) → Stands s at (plain 0) (scan_comment (drop (at + 1) s)) NoToken
  comment_other h e = record { says = rw (cut s (at + 1) h, ne_eqb _ _ e); ends = tt }

  pub comment_line : (end : ℕ) → at + 1 < length s → get_or s (at + 1) 0 ≡ 47
      → EndsAt s (at + 1 + 1) (span (in_run Line) (drop (at + 1 + 1) s)) end
      → Stands s at (plain 0) (scan_comment (drop (at + 1) s)) (Blank end)
  comment_line end h e f =
      let m : end - (at + 1) ≡ suc (span (in_run Line) (drop (at + 1 + 1) s)) = omega arith in
      record { says = rw (cut s (at + 1) h, eq-eqb _ _ e, m); ends = omega arith }

module _ (s : List ℕ) (at end : ℕ) (f : EndsAt s (at + 1) (span (in_run Quoted) (drop (at + 1) s)) end) where
  after_run : drop (span (in_run Quoted) (drop (at + 1) s)) (drop (at + 1) s) ≡ drop end s
  after_run = drop-drop (span (in_run Quoted) (drop (at + 1) s)) (at + 1) s ∙ ap (λ k. drop k s) (sym f.far)

  pub string_open : length s ≤ end → Stands s at (plain 0) (scan_string (drop (at + 1) s)) NoToken
  string_open h = record { says = rw (after_run, drop_of_length-le s h); ends = tt }

  pub string_broken : end < length s → (get_or s end 0 ≡ 39 → ⊥) → Stands s at (plain 0) (scan_string (drop (at + 1) s)) NoToken
  string_broken h e = record { says = rw (after_run, cut s end h, ne_eqb _ _ e); ends = tt }

  pub string_closed : end < length s → get_or s end 0 ≡ 39 → Stands s at (plain 0) (scan_string (drop (at + 1) s)) (Token 2 (end + 1))
  string_closed h e =
      let n = span (in_run Quoted) (drop (at + 1) s) in
      let m : end + 1 - (at + 1) ≡ suc n = omega arith in
      let k : end + 1 - 1 - (at + 1) ≡ n = omega arith in
      let p : slice (at + 1) (end + 1 - 1) s ≡ take n (drop (at + 1) s) = sym (part_slice (at + 1) (end + 1 - 1) s (omega arith)) ∙ ap (λ i. take i (drop (at + 1) s)) k in
      record { says = rw (after_run, cut s end h, eq-eqb _ _ e) (ap₂ (λ l i. token (string l) i) p m); ends = omega arith }
