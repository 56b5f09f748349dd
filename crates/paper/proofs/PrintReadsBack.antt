-- The print of a tree that a text has is read to the same tree, places aside: the tree is clean and within the limits, as the text is,
-- and the print of such a tree is cut into tokens that are a phrase with it.
use Prim.Native.Nat.{ℕ, ◌+◌, ◌≤◌}
use native.Mathlib.Omega.{arith}
use mathlib.Core.Path.{◌≡◌, refl, sym, ap, subst, ◌∙◌}
use mathlib.Core.Bool.{true}
use mathlib.Core.List.{List, [], append-nil}
use lib.ListN.{length}
use lib.Dec.{leb}
use Rattle.paper.specs.Answers.{Answer, ok, ◌>>=◌}
use Rattle.paper.specs.Tokens.{Token, tokens, most_tokens, most_text}
use Rattle.paper.specs.Addresses.{address}
use Rattle.paper.specs.Grammar.{Tree, truth, number, key, field, attribute, prefixed, joined, compared, nodes, parsed, most_levels}
use Rattle.paper.specs.Sentences.{Prefixed, Whole, without, Valid}
use Rattle.paper.specs.Faults.{Cut, at_start}
use Rattle.paper.specs.Calls.{sized, tree, read_answer, lends, printable}
use Rattle.paper.proofs.Stages.{bind_ok, ok_same}
use Rattle.paper.proofs.Lending.{lends_has}
use Rattle.paper.proofs.TokenNumbers.{tokens_within}
use Rattle.paper.proofs.TokenFaults.{tokens_are_cut, few_tokens}
use Rattle.paper.proofs.Sentences.{strict_lenient, valid_is_sentence, one_tree}
use Rattle.paper.proofs.Refusals.{read_is_valid}
use Rattle.paper.specs.Print.{bare, rung, print}
use Rattle.paper.specs.Sized.{levels, count, Clean}
use Rattle.paper.specs.PrintReadsBack.{PrintReadsBack, PrintsTell, NothingToSpare, PrintNoLarger, LentPrintReads, CleanPrintReads}
use Rattle.paper.proofs.Rungs.{looser_rung}
use Rattle.paper.proofs.PrintIsPhrase.{Back, back}
use Rattle.paper.proofs.PrintIsShortest.{whole_fits, at_top}

-- nothing unfolds in what follows, since the checker would go on with the parser

tree_is : (text : List ℕ) → tree text ≡ (tokens text >>= parsed (length text))
unfolding tree
tree_is text = refl

both_ok : {A B : Type 0} (x : Answer A) (f : A → Answer B) (a : A) (b : B) → x ≡ ok a → f a ≡ ok b → (x >>= f) ≡ ok b
both_ok x f a b e h = rw e h

-- what a text's tree has
record Had (ts : List Token) (t : Tree) : Type 0 where
  pub deep : levels t ≤ most_levels
  pub many : count t ≤ most_tokens
  pub fewest : count t ≤ length ts
  pub clean : Clean t
  pub valid : Valid t ts

read_has : (text : List ℕ) (t : Tree) → tree text ≡ ok t → (ts : List Token) × (tokens text ≡ ok ts) × Had ts t
read_has text t h =
    let (ts, cut, read) = bind_ok (tokens text) (parsed (length text)) t (sym (tree_is text) ∙ h) in
    let valid = (read_is_valid (length text) ts t).0 read in
    let f = whole_fits most_levels t ts valid in
    let within = tokens_within text ts cut in
    let fewest : count t ≤ length ts = rw at_top at f.many in (
      ts,
      cut,
      record {
        deep = rw at_top at f.deep;
        many = omega (arith, within.few);
        fewest = fewest;
        clean = f.clean within.good;
        valid = valid;
      },
    )

-- the print of a tree, cut into tokens that are a whole text of at most so many levels
record Printed (l : ℕ) (t : Tree) : Type 0 where
  pub toks : List Token
  pub cut : tokens (print t) ≡ ok toks
  pub many : length toks ≡ count t
  pub root : Tree
  pub whole : Whole (Prefixed address l) root toks
  pub same : bare root ≡ bare t

from_back : (l : ℕ) (t : Tree) → count t ≤ most_tokens → Back (print t) 0 (print t) l (rung t) (count t) t → Printed l t
from_back l t many b =
    let s = print t in
    let cut : Cut s (0 + length s) b.toks = b.lexed [] at_start in
    record {
      toks = b.toks;
      cut = (tokens_are_cut s b.toks).1 (0 + length s, cut, omega arith, omega (arith, b.many));
      many = b.many;
      root = b.tree;
      whole = without (looser_rung (rung t) (rung t) l 0 b.tree b.toks (omega arith) b.phrase);
      same = b.same;
    }

printed : (l : ℕ) (t : Tree) → Clean t → levels t ≤ l → count t ≤ most_tokens → Printed l t
printed l t clean deep many = from_back l t many (back (print t) t clean l 0 [] deep (sym (append-nil (print t))) tt)

is_read : (t : Tree) (p : Printed most_levels t) → tree (print t) ≡ ok p.root
is_read t p =
    let s = print t in
    tree_is s
    ∙ both_ok (tokens s) (parsed (length s)) p.toks p.root p.cut ((read_is_valid (length s) p.toks p.root).1 p.whole)

pub clean_print_reads : CleanPrintReads
clean_print_reads t clean deep many =
    let p = printed most_levels t clean deep many in
    (p.root, is_read t p, p.same)

pub print_reads_back : PrintReadsBack
print_reads_back text t h = let (ts, cut, had) = read_has text t h in clean_print_reads t had.clean had.deep had.many

-- and one whose print is read is within the limits: the print is cut into as many tokens as the tree counts, and these are a phrase of no
-- more levels with one tree alone

same_rung : (t : Tree) → rung (bare t) ≡ rung t
same_rung (truth p b) = refl
same_rung (number p n) = refl
same_rung (key p w) = refl
same_rung (field p w q f) = refl
same_rung (attribute p q f) = refl
same_rung (prefixed p o t) = refl
same_rung (joined p o l r) = refl
same_rung (compared p c l r) = refl

bare_levels : (t : Tree) → levels (bare t) ≡ levels t
bare_levels (truth p b) = refl
bare_levels (number p n) = refl
bare_levels (key p w) = refl
bare_levels (field p w q f) = refl
bare_levels (attribute p q f) = refl
bare_levels (prefixed p o t) = rw (same_rung t, bare_levels t)
bare_levels (joined p o l r) = rw (same_rung l, bare_levels l, same_rung r, bare_levels r)
bare_levels (compared p c l r) = rw (same_rung l, bare_levels l, same_rung r, bare_levels r)

pub read_within : (t r : Tree) → Clean t → tree (print t) ≡ ok r → (count t ≤ most_tokens) × (levels t ≤ most_levels)
read_within t r clean h =
    let s = print t in
    let l = levels t in
    let (ts, cut, had) = read_has s r h in
    let b = back s t clean l 0 [] (omega arith) (sym (append-nil s)) tt in
    let few = few_tokens s (0 + length s) b.toks ts (b.lexed [] at_start) cut in
    let many : count t ≤ most_tokens = omega (arith, few, b.many) in
    let p = from_back l t many b in
    let one : ts ≡ p.toks = ok_same ts p.toks (sym cut ∙ p.cut) in
    let valid = subst (Valid r) one had.valid in
    let same : r ≡ p.root = one_tree r p.root p.toks (valid_is_sentence r p.toks valid) (l, strict_lenient l p.root p.toks p.whole) in
    let deep : levels r ≡ l = sym (bare_levels r) ∙ ap (λ x. levels (bare x)) same ∙ ap levels p.same ∙ bare_levels t in
    (many, rw deep at had.deep)

pub print_no_larger : PrintNoLarger
print_no_larger text t ts l h cut whole =
    let (us, cut-u, had) = read_has text t h in
    let deep : levels t ≤ l = rw at_top at (whole_fits l t ts whole).deep in
    let p = printed l t had.clean deep had.many in
    let one : us ≡ ts = ok_same us ts (sym cut-u ∙ cut) in
    (p.root, p.toks, p.cut, p.whole, p.same, omega (arith, p.many, had.fewest, ap length one))

-- a print tells nothing of places

bare_print : (t : Tree) → print (bare t) ≡ print t
unfolding print
bare_print (truth p b) = refl
bare_print (number p n) = refl
bare_print (key p w) = refl
bare_print (field p w q f) = refl
bare_print (attribute p q f) = refl
bare_print (prefixed p o t) = rw (same_rung t, bare_print t)
bare_print (joined p o l r) = rw (same_rung l, bare_print l, same_rung r, bare_print r)
bare_print (compared p c l r) = rw (same_rung l, bare_print l, same_rung r, bare_print r)

pub prints_tell : PrintsTell
prints_tell v w t r h g = (
  λ e.
      let (x, read-x, same-x) = print_reads_back v t h in
      let (y, read-y, same-y) = print_reads_back w r g in
      sym same-x ∙ ap bare (ok_same x y (sym read-x ∙ ap tree e ∙ read-y)) ∙ same-y,
  λ e. sym (bare_print t) ∙ ap print e ∙ bare_print r,
)

bare_count : (t : Tree) → count (bare t) ≡ count t
bare_count (truth p b) = refl
bare_count (number p n) = refl
bare_count (key p w) = refl
bare_count (field p w q f) = refl
bare_count (attribute p q f) = refl
bare_count (prefixed p o t) = rw (same_rung t, bare_count t)
bare_count (joined p o l r) = rw (same_rung l, bare_count l, same_rung r, bare_count r)
bare_count (compared p c l r) = rw (same_rung l, bare_count l, same_rung r, bare_count r)

pub nothing_to_spare : NothingToSpare
nothing_to_spare v w t r ps ws h cut g cut-w e =
    let (ts, cut-v, had) = read_has v t h in
    let (us, cut-u, had-w) = read_has w r g in
    let p = printed most_levels t had.clean had.deep had.many in
    let one : ps ≡ p.toks = ok_same ps p.toks (sym cut ∙ p.cut) in
    let two : us ≡ ws = ok_same us ws (sym cut-u ∙ cut-w) in
    omega (arith, ap length one, ap length two, p.many, had-w.fewest, sym (bare_count r) ∙ ap count e ∙ bare_count t)

-- a print that is lent

bare_nodes : (t : Tree) → nodes (bare t) ≡ nodes t
bare_nodes (truth p b) = refl
bare_nodes (number p n) = refl
bare_nodes (key p w) = refl
bare_nodes (field p w q f) = refl
bare_nodes (attribute p q f) = refl
bare_nodes (prefixed p o t) = rw (bare_nodes t)
bare_nodes (joined p o l r) = rw (bare_nodes l, bare_nodes r)
bare_nodes (compared p c l r) = rw (bare_nodes l, bare_nodes r)

read_is : (text : List ℕ) → read_answer text ≡ (sized text >>= λ _. tree text >>= λ t. ok (nodes t))
unfolding read_answer
read_is text = refl

pub printable_is : (text buffer : List ℕ) → printable text buffer ≡ (sized text >>= λ _. tree text >>= λ t. lends (print t) buffer)
unfolding printable
printable_is text buffer = refl

-- the stages of a print that passes
pub record LentPrint (text buffer s : List ℕ) : Type 0 where
  pub small : sized text ≡ ok tt
  pub root : Tree
  pub read : tree text ≡ ok root
  pub lent : s ≡ print root
  pub short : leb (length s) most_text ≡ true
  pub room : leb (length s) (length buffer) ≡ true

pub lent_has : (text buffer s : List ℕ) → printable text buffer ≡ ok s → LentPrint text buffer s
lent_has text buffer s h =
    let (u, small, more) = bind_ok (sized text) (λ _. tree text >>= λ t. lends (print t) buffer) s (sym (printable_is text buffer) ∙ h) in
    let (t, read, rest) = bind_ok (tree text) (λ t. lends (print t) buffer) s more in
    let l = lends_has (print t) buffer s rest in
    record { small = small; root = t; read = read; lent = sym l.same; short = l.short; room = l.room }

pub lent_print_reads : LentPrintReads
lent_print_reads text buffer s h =
    let l = lent_has text buffer s h in
    let (r, read, same) = print_reads_back text l.root l.read in
    let again : tree s ≡ ok r = ap tree l.lent ∙ read in
    let as_many : nodes r ≡ nodes l.root = sym (bare_nodes r) ∙ ap nodes same ∙ bare_nodes l.root in
    rw (read_is s, read_is text, l.small, l.short, l.read, again, as_many)
