-- From the stages' answers to those of `read` and `check`.
use Prim.Native.Nat.{ℕ, ◌≤◌, ◌<◌}
use Rattle.std.specs.Prelude.{Result, Ok, Err}
use Rattle.paper.specs.declared.Refusal.{Refusal}
use mathlib.Core.Path.{◌≡◌, sym, ◌∙◌, ap}
use mathlib.Core.List.{List}
use lib.ListN.{length}
use borrow.Author.Tests.{le-leb, lt-leb}
use Rattle.paper.specs.Answers.{Answer, ok, refused, ◌>>=◌, in_text, refused_by, says}
use Rattle.paper.specs.Tokens.{most_text}
use Rattle.paper.specs.Grammar as G
use Rattle.paper.specs.Calls.{tree, Restriction, restriction, read_answer, check_answer}
use Rattle.reading.specs.Grown.{Grows}

module _ (text : List ℕ) where
  pub too_long : most_text < length text → refused 1 in_text most_text ≡ read_answer text
  unfolding read_answer
  too_long h = rw (lt-leb (length text) most_text h)

  module _ (h : length text ≤ most_text) where
    short : read_answer text ≡ (tree text >>= λ t. ok (G.nodes t))
    unfolding read_answer
    short = rw (le-leb (length text) most_text h)

    -- what was answered of the text's tree is what is to be
    pub read_told : (nodes : List ℕ) (r : Result ℕ Refusal) → Grows text nodes r → says r ≡ read_answer text
    read_told nodes (Ok m) g = sym (short ∙ rw g.read (ap ok (sym g.count)))
    read_told nodes (Err v) e = sym (short ∙ rw e)

module _ (text list : List ℕ) where
  pub not_checked : (v : Refusal) → restriction text list ≡ refused_by v → refused_by v ≡ check_answer text list
  unfolding check_answer
  not_checked v e = sym (ap (λ (x : Answer Restriction). x >>= λ _. ok tt) e)

  pub is_checked : {r : Restriction} → restriction text list ≡ ok r → ok tt ≡ check_answer text list
  unfolding check_answer
  is_checked e = sym (ap (λ (x : Answer Restriction). x >>= λ _. ok tt) e)
