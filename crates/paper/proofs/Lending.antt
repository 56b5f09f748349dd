-- What is lent are the bytes themselves, where they are within the limit and fit in the buffer; and a refusal leaves the buffer as it is.
use Prim.Native.Nat.{ℕ, ◌≤◌}
use mathlib.Core.Path.{◌≡◌, refl, sym, subst}
use mathlib.Core.Bool.{true, ◌&&◌, and-eq-true_iff}
use mathlib.Core.List.{List}
use lib.ListN.{length}
use lib.Dec.{leb}
use borrow.Author.Tests.{le-leb}
use Rattle.paper.specs.Answers.{Input, in_buffer, Answer, ok, refused, ◌>>=◌, require}
use Rattle.paper.specs.Tokens.{most_text}
use Rattle.paper.specs.Calls.{lends, laid}
use Rattle.paper.proofs.Stages.{never_ok, ok_same, bind_ok, require_ok}

module _ (new buffer : List ℕ) where
  pub record LentBytes (s : List ℕ) : Type 0 where
    pub same : new ≡ s
    pub short : leb (length s) most_text ≡ true
    pub room : leb (length s) (length buffer) ≡ true

  pub lends_has : (s : List ℕ) → lends new buffer ≡ ok s → LentBytes s
  lends_has s e =
      let low = leb (length new) most_text in
      let fits = leb (length new) (length buffer) in
      let (u, passed, last) = bind_ok (require (low && fits) 21 in_buffer (length buffer)) (λ _. ok new) s e in
      let same : new ≡ s = ok_same new s last in
      let both : low && fits ≡ true = require_ok (low && fits) 21 in_buffer (length buffer) u passed in
      record {
        same = same;
        short = subst (λ x. leb (length x) most_text ≡ true) same ((and-eq-true_iff low fits).0 both).0;
        room = subst (λ x. leb (length x) (length buffer) ≡ true) same ((and-eq-true_iff low fits).0 both).1;
      }

  pub lends_all : length new ≤ most_text → length new ≤ length buffer → lends new buffer ≡ ok new
  lends_all short room = rw (le-leb (length new) most_text short, le-leb (length new) (length buffer) room)

-- a refusal of the answer is one of the bytes that were to be lent
pub refused_before : (buffer : List ℕ) (x : Answer (List ℕ)) (n : ℕ) (i : Input) (at : ℕ)
    → (x >>= λ s. ok (length s)) ≡ refused n i at → laid x buffer ≡ buffer
refused_before buffer (ok s) n i at e = absurd (never_ok (sym e))
refused_before buffer (refused m j to) n i at e = refl
