-- A result that keeps the promise of `print` leaves the buffer as it is where it is a refusal; else the print of a well-formed text stands
-- there, exactly where that may be lent.
use Prim.Native.Nat.{ℕ}
use Rattle.std.specs.Prelude.{Ok, Err}
use Rattle.paper.specs.declared.Refusal.{Refusal}
use mathlib.Core.Path.{◌≡◌, refl, sym, ap, ◌∙◌}
use mathlib.Core.List.{List}
use lib.ListN.{length}
use lib.Dec.{leb}
use borrow.Author.Tests.{leb-true, le-leb}
use Rattle.paper.specs.declared.Place.{Place}
use Rattle.paper.specs.Answers.{in_text, ok, ◌>>=◌, input_of, offset_of, says}
use Rattle.paper.specs.Tokens.{most_text}
use Rattle.paper.specs.Print.{print}
use Rattle.paper.specs.Calls.{printable, print_answer, laid, print_buffer}
use Rattle.paper.specs.Promised.{PrintResult, PrintPromised}
use Rattle.paper.specs.Demands.{Printable, PrintedRight}
use Rattle.paper.proofs.Stages.{ok_same, bind_ok, require_ok}
use Rattle.paper.proofs.Lending.{refused_before}
use Rattle.paper.proofs.Promised.{says_same}
use Rattle.paper.proofs.WellFormed.{formed_tree, tree_formed}
use Rattle.paper.proofs.PrintReadsBack.{printable_is, lent_has}

module _ (text buffer : List ℕ) where
  answer_is : print_answer text buffer ≡ (printable text buffer >>= λ s. ok (length s))
  unfolding print_answer
  answer_is = refl

  buffer_is : print_buffer text buffer ≡ laid (printable text buffer) buffer
  unfolding print_buffer
  buffer_is = refl

  printable_bytes : (n : ℕ) (p : Printable text buffer n) → printable text buffer ≡ ok (print p.root)
  printable_bytes n p =
      let s = print p.root in
      rw (
        printable_is text buffer,
        le-leb (length text) most_text p.formed.short,
        formed_tree text p.root p.formed,
        le-leb (length s) most_text (rw (← p.count) p.short),
        le-leb (length s) (length buffer) (rw (← p.count) p.room),
      )

  answer_printable : (n : ℕ) → print_answer text buffer ≡ ok n → Printable text buffer n
  answer_printable n e =
      let (s, passed, last) = bind_ok (printable text buffer) (λ s. ok (length s)) n (sym answer_is ∙ e) in
      let l = lent_has text buffer s passed in
      let few = require_ok (leb (length text) most_text) 1 in_text most_text tt l.small in
      let same : length s ≡ n = ok_same (length s) n last in
      record {
        root = l.root;
        formed = tree_formed text l.root (leb-true (length text) most_text few) l.read;
        count = sym same ∙ ap length l.lent;
        short = rw (← same) (leb-true (length s) most_text l.short);
        room = rw (← same) (leb-true (length s) (length buffer) l.room);
      }

  module _ (r : PrintResult) (promised : PrintPromised text buffer r) where
    pub print_unchanged : (v : Refusal) → r.answer ≡ Err v → r.buffer ≡ buffer
    print_unchanged v e =
        promised.holds ∙ buffer_is
        ∙ refused_before buffer (printable text buffer) v.number (input_of v.place) (offset_of v.place) (sym answer_is ∙ sym promised.says ∙ ap says e)

    pub printed_right : PrintedRight text buffer r
    printed_right =
        record {
          prints = λ n. (
            λ e. answer_printable n (sym promised.says ∙ ap says e),
            λ p.
                says_same r.answer (Ok n)
                (promised.says ∙ answer_is ∙ ap (λ x. x >>= λ s. ok (length s)) (printable_bytes n p) ∙ ap (λ m. ok m) (sym p.count)),
          );
          written = λ n p. promised.holds ∙ buffer_is ∙ ap (λ x. laid x buffer) (printable_bytes n p);
        }
