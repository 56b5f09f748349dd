-- A result that keeps the promise of `pact` leaves the buffer as it is where it is a refusal; else the text of a contract that has a meaning
-- stands there, exactly where it is within the limits and may be lent; of an empty contract that is "true".
use Prim.Native.Nat.{ℕ, ◌≤◌}
use Rattle.std.specs.Prelude.{Ok, Err}
use Rattle.paper.specs.declared.Refusal.{Refusal}
use native.Mathlib.Omega.{arith}
use mathlib.Core.Path.{◌≡◌, refl, sym, ap, ◌∙◌}
use mathlib.Core.Bool.{true, ◌&&◌, and-eq-true_iff}
use mathlib.Core.List.{List, [], map}
use lib.ListN.{length}
use lib.Dec.{leb}
use borrow.Author.Tests.{leb-true, le-leb}
use Rattle.paper.specs.declared.Place.{Place}
use Rattle.paper.specs.Answers.{in_table, in_buffer, ok, ◌>>=◌, require, input_of, offset_of, says}
use Rattle.paper.specs.Tokens.{bytes, most_text, most_tokens}
use Rattle.paper.specs.Keys.{Key}
use Rattle.paper.specs.Grammar.{Tree, truth, most_levels}
use Rattle.paper.specs.Print.{print}
use Rattle.paper.specs.Sized.{levels, count}
use Rattle.paper.specs.Calls.{lends, laid}
use Rattle.paper.specs.Pact.{most_indices, Clause}
use Rattle.paper.specs.Contract.{clauses_from, clauses}
use Rattle.paper.specs.Drafting.{contract_tree, names_of, table_sized, drafted, lends_text, draftable, draft_answer, draft_buffer}
use Rattle.paper.specs.Promised.{DraftResult, DraftPromised}
use Rattle.paper.specs.Demands.{Draftable, DraftsRight}
use Rattle.paper.specs.DraftedRight.{EmptyGivesTrue}
use Rattle.paper.proofs.Stages.{ok_same, bind_ok, require_ok}
use Rattle.paper.proofs.ContractRead.{contracts_read}
use Rattle.paper.proofs.Lending.{lends_has, lends_all, refused_before}
use Rattle.paper.proofs.Promised.{says_same}

-- the tree that is made of a contract which passes

abbrev pub tree_of : List Key → List ℕ → List Clause → Tree
tree_of ks table cs = contract_tree (map (λ (k : Key). k.name) ks) table cs

pub record Made (contract table list : List ℕ) (t : Tree) : Type 0 where
  pub ks : List Key
  pub named : names_of list ≡ ok ks
  pub few : length table ≤ most_indices
  pub read_as : List Clause
  pub read : clauses (length ks) (length table) contract ≡ ok read_as
  pub made : t ≡ tree_of ks table read_as

module _ (contract table list : List ℕ) where
  drafted_is : drafted contract table list
      ≡ (names_of list >>= λ ks. table_sized table >>= λ _. clauses (length ks) (length table) contract >>= λ cs. ok (tree_of ks table cs))
  unfolding drafted
  drafted_is = refl

  pub drafted_has : (t : Tree) → drafted contract table list ≡ ok t → Made contract table list t
  drafted_has t e =
      let (ks, named, more) = bind_ok (names_of list) _ t (sym drafted_is ∙ e) in
      let (u, sized, rest) = bind_ok (table_sized table) _ t more in
      let (cs, read, last) = bind_ok (clauses (length ks) (length table) contract) _ t rest in
      record {
        ks = ks;
        named = named;
        few = leb-true (length table) most_indices (require_ok (leb (length table) most_indices) 24 in_table most_indices u sized);
        read_as = cs;
        read = read;
        made = sym (ok_same (tree_of ks table cs) t last);
      }

  pub has_drafted : (t : Tree) → Made contract table list t → drafted contract table list ≡ ok t
  has_drafted t m =
      rw (drafted_is, m.named, le-leb (length table) most_indices m.few, m.read) (ap ok (sym m.made))

-- its text, where that is lent

pub record LentText (t : Tree) (buffer s : List ℕ) : Type 0 where
  pub tokens : count t ≤ most_tokens
  pub deep : levels t ≤ most_levels
  pub same : print t ≡ s
  pub short : length s ≤ most_text
  pub room : length s ≤ length buffer

pub text_has : (t : Tree) (buffer s : List ℕ) → lends_text t buffer ≡ ok s → LentText t buffer s
text_has t buffer s e =
    let few = leb (count t) most_tokens in
    let shallow = leb (levels t) most_levels in
    let (u, within, last) = bind_ok (require (few && shallow) 21 in_buffer (length buffer)) (λ _. lends (print t) buffer) s e in
    let (many, deep) = (and-eq-true_iff few shallow).0 (require_ok (few && shallow) 21 in_buffer (length buffer) u within) in
    let l = lends_has (print t) buffer s last in
    record {
      tokens = leb-true (count t) most_tokens many;
      deep = leb-true (levels t) most_levels deep;
      same = l.same;
      short = leb-true (length s) most_text l.short;
      room = leb-true (length s) (length buffer) l.room;
    }

pub has_text : (t : Tree) (buffer s : List ℕ) → LentText t buffer s → lends_text t buffer ≡ ok s
has_text t buffer s l =
    rw (le-leb (count t) most_tokens l.tokens, le-leb (levels t) most_levels l.deep)
    (lends_all (print t) buffer (rw l.same l.short) (rw l.same l.room) ∙ ap ok l.same)

module _ (contract table list buffer : List ℕ) where
  answer_is : draft_answer contract table list buffer ≡ (draftable contract table list buffer >>= λ s. ok (length s))
  unfolding draft_answer
  answer_is = refl

  buffer_is : draft_buffer contract table list buffer ≡ laid (draftable contract table list buffer) buffer
  unfolding draft_buffer
  buffer_is = refl

  pub draftable_is : draftable contract table list buffer ≡ (drafted contract table list >>= λ t. lends_text t buffer)
  unfolding draftable
  draftable_is = refl

  answer_draftable : (n : ℕ) → draft_answer contract table list buffer ≡ ok n → Draftable contract table list buffer n
  answer_draftable n e =
      let (s, passed, last) = bind_ok (draftable contract table list buffer) (λ s. ok (length s)) n (sym answer_is ∙ e) in
      let (t, drafted, lent) = bind_ok (drafted contract table list) (λ t. lends_text t buffer) s (sym draftable_is ∙ passed) in
      let m = drafted_has contract table list t drafted in
      let l = text_has t buffer s lent in
      let same : length s ≡ n = ok_same (length s) n last in
      let (meant, indexed) = (contracts_read (length m.ks) (length table) contract m.read_as).0 m.read in
      record {
        ks = m.ks;
        named = m.named;
        few = m.few;
        clauses = m.read_as;
        meant = meant;
        indexed = indexed;
        root = t;
        made = m.made;
        tokens = l.tokens;
        deep = l.deep;
        size = sym same ∙ ap length (sym l.same);
        short = rw (← same) l.short;
        room = rw (← same) l.room;
      }

  pub draftable_bytes : (n : ℕ) (d : Draftable contract table list buffer n) → draftable contract table list buffer ≡ ok (print d.root)
  draftable_bytes n d =
      let read = (contracts_read (length d.ks) (length table) contract d.clauses).1 (d.meant, d.indexed) in
      let made : Made contract table list d.root =
      record { ks = d.ks; named = d.named; few = d.few; read_as = d.clauses; read = read; made = d.made }
      in
      let lent : LentText d.root buffer (print d.root) =
      record { tokens = d.tokens; deep = d.deep; same = refl; short = rw (← d.size) d.short; room = rw (← d.size) d.room }
      in
      rw (draftable_is, has_drafted contract table list d.root made) (has_text d.root buffer (print d.root) lent)

  module _ (r : DraftResult) (promised : DraftPromised contract table list buffer r) where
    pub draft_unchanged : (v : Refusal) → r.answer ≡ Err v → r.buffer ≡ buffer
    draft_unchanged v e =
        promised.holds ∙ buffer_is
        ∙ refused_before buffer (draftable contract table list buffer) v.number (input_of v.place) (offset_of v.place)
        (sym answer_is ∙ sym promised.says ∙ ap says e)

    pub drafts_right : DraftsRight contract table list buffer r
    drafts_right =
        record {
          drafts = λ n. (
            λ e. answer_draftable n (sym promised.says ∙ ap says e),
            λ d.
                says_same r.answer (Ok n)
                (promised.says ∙ answer_is ∙ ap (λ x. x >>= λ s. ok (length s)) (draftable_bytes n d) ∙ ap (λ m. ok m) (sym d.size)),
          );
          written = λ n d. promised.holds ∙ buffer_is ∙ ap (λ x. laid x buffer) (draftable_bytes n d);
        }

-- "An empty contract gives "true"."

nothing_read : (names users : ℕ) → clauses names users [] ≡ ok []
unfolding clauses clauses_from
nothing_read names users = refl

nothing_made : (ks : List Key) (table : List ℕ) → truth 0 true ≡ tree_of ks table []
unfolding contract_tree
nothing_made ks table = refl

true_printed : print (truth 0 true) ≡ bytes "true"
unfolding print
true_printed = refl

pub empty_gives_true : EmptyGivesTrue
empty_gives_true table list buffer ks named few room =
    let made : Made [] table list (truth 0 true) =
    record { ks = ks; named = named; few = few; read_as = []; read = nothing_read (length ks) (length table); made = nothing_made ks table }
    in
    let lent : LentText (truth 0 true) buffer (bytes "true") =
    record { tokens = omega arith; deep = omega arith; same = true_printed; short = omega arith; room = room }
    in
    rw (draftable_is [] table list buffer, has_drafted [] table list (truth 0 true) made) (has_text (truth 0 true) buffer (bytes "true") lent)
