-- A result that keeps the promise of `fix_octal` leaves the buffer as it is where it is a refusal; else what the pass makes of the text
-- stands there, exactly where the text is cut into tokens by the old rules and the bytes fit: what the pass makes is no longer than the
-- text, and so within the limit.
use Prim.Native.Nat.{ℕ, ◌≤◌}
use Rattle.std.specs.Prelude.{Ok, Err}
use Rattle.paper.specs.declared.Refusal.{Refusal}
use native.Mathlib.Omega.{arith}
use mathlib.Core.Path.{◌≡◌, refl, sym, ap, ◌∙◌}
use mathlib.Core.List.{List}
use lib.ListN.{length}
use lib.Dec.{leb}
use borrow.Author.Tests.{leb-true, le-leb}
use Rattle.paper.specs.declared.Place.{Place}
use Rattle.paper.specs.Answers.{in_text, ok, ◌>>=◌, input_of, offset_of, says}
use Rattle.paper.specs.Tokens.{most_text}
use Rattle.paper.specs.Calls.{sized, lends, laid}
use Rattle.paper.specs.Fixing.{old_tokens, fixed, fixable, fix_answer, fix_buffer}
use Rattle.paper.specs.Promised.{FixResult, FixPromised}
use Rattle.paper.specs.Demands.{Fixable, FixesRight}
use Rattle.paper.proofs.Stages.{ok_same, bind_ok, require_ok}
use Rattle.paper.proofs.Lending.{lends_has, lends_all, refused_before}
use Rattle.paper.proofs.TokenFaults.{old_tokens_are_cut}
use Rattle.paper.proofs.Promised.{says_same}
use Rattle.paper.proofs.NeverLonger.{never_longer}

module _ (text buffer : List ℕ) where
  answer_is : fix_answer text buffer ≡ (fixable text buffer >>= λ s. ok (length s))
  unfolding fix_answer
  answer_is = refl

  buffer_is : fix_buffer text buffer ≡ laid (fixable text buffer) buffer
  unfolding fix_buffer
  buffer_is = refl

  fixable_is : fixable text buffer ≡ (sized text >>= λ _. old_tokens text >>= λ _. lends (fixed text) buffer)
  unfolding fixable
  fixable_is = refl

  answer_fixable : (n : ℕ) → fix_answer text buffer ≡ ok n → Fixable text buffer n
  answer_fixable n e =
      let (s, passed, last) = bind_ok (fixable text buffer) (λ s. ok (length s)) n (sym answer_is ∙ e) in
      let (u, small, more) = bind_ok (sized text) (λ _. old_tokens text >>= λ _. lends (fixed text) buffer) s (sym fixable_is ∙ passed) in
      let (ts, cut, rest) = bind_ok (old_tokens text) (λ _. lends (fixed text) buffer) s more in
      let l = lends_has (fixed text) buffer s rest in
      let few = require_ok (leb (length text) most_text) 1 in_text most_text u small in
      let same : length s ≡ n = ok_same (length s) n last in
      record {
        short = leb-true (length text) most_text few;
        words = ts;
        cut = (old_tokens_are_cut text ts).0 cut;
        count = sym same ∙ ap length (sym l.same);
        room = rw (← same) (leb-true (length s) (length buffer) l.room);
      }

  fixable_bytes : (n : ℕ) → Fixable text buffer n → fixable text buffer ≡ ok (fixed text)
  fixable_bytes n f =
      let within : length (fixed text) ≤ most_text = omega (arith, never_longer text, f.short) in
      rw (fixable_is, le-leb (length text) most_text f.short, (old_tokens_are_cut text f.words).1 f.cut)
      (lends_all (fixed text) buffer within (rw (← f.count) f.room))

  module _ (r : FixResult) (promised : FixPromised text buffer r) where
    pub fix_unchanged : (v : Refusal) → r.answer ≡ Err v → r.buffer ≡ buffer
    fix_unchanged v e =
        promised.holds ∙ buffer_is
        ∙ refused_before buffer (fixable text buffer) v.number (input_of v.place) (offset_of v.place) (sym answer_is ∙ sym promised.says ∙ ap says e)

    pub fixes_right : FixesRight text buffer r
    fixes_right =
        record {
          fixes = λ n. (
            λ e. answer_fixable n (sym promised.says ∙ ap says e),
            λ f.
                says_same r.answer (Ok n)
                (promised.says ∙ answer_is ∙ ap (λ x. x >>= λ s. ok (length s)) (fixable_bytes n f) ∙ ap (λ m. ok m) (sym f.count)),
          );
          written = λ n f. promised.holds ∙ buffer_is ∙ ap (λ x. laid x buffer) (fixable_bytes n f);
        }
