-- A text that is read is well-formed in the words of the grammar, and the other way round.
use Prim.Native.Nat.{ℕ, ◌≤◌}
use mathlib.Core.Path.{◌≡◌, refl, sym, ◌∙◌}
use mathlib.Core.List.{List}
use lib.ListN.{length}
use lib.Dec.{leb}
use borrow.Author.Tests.{leb-true, le-leb}
use Rattle.paper.specs.Answers.{in_text, ok, ◌>>=◌}
use Rattle.paper.specs.Tokens.{tokens, most_text}
use Rattle.paper.specs.Grammar.{Tree, nodes, parsed}
use Rattle.paper.specs.Calls.{sized, tree, read_answer}
use Rattle.paper.specs.Demands.{WellFormed}
use Rattle.paper.proofs.Stages.{ok_same, bind_ok, require_ok}
use Rattle.paper.proofs.Refusals.{read_is_valid}
use Rattle.paper.proofs.TokenFaults.{tokens_are_cut}

module _ (text : List ℕ) where
  two_stages : tree text ≡ (tokens text >>= parsed (length text))
  unfolding tree
  two_stages = refl

  pub formed_tree : (root : Tree) → WellFormed text root → tree text ≡ ok root
  formed_tree root f =
      two_stages ∙ rw ((tokens_are_cut text f.words).1 f.cut) ((read_is_valid (length text) f.words root).1 f.sentence)

  pub tree_formed : (root : Tree) → length text ≤ most_text → tree text ≡ ok root → WellFormed text root
  tree_formed root short e =
      let (ts, cut, read) = bind_ok (tokens text) (parsed (length text)) root (sym two_stages ∙ e) in
      record { short = short; words = ts; cut = (tokens_are_cut text ts).0 cut; sentence = (read_is_valid (length text) ts root).0 read }

  -- it is read
  pub formed_answer : (root : Tree) → WellFormed text root → read_answer text ≡ ok (nodes root)
  unfolding read_answer
  formed_answer root f = rw (le-leb (length text) most_text f.short, formed_tree root f)

  pub answer_formed : (n : ℕ) → read_answer text ≡ ok n → (root : Tree) × WellFormed text root × (nodes root ≡ n)
  unfolding read_answer
  answer_formed n e =
      let (u, short, rest) = bind_ok (sized text) (λ _. tree text >>= λ t. ok (nodes t)) n e in
      let few = require_ok (leb (length text) most_text) 1 in_text most_text u short in
      let (root, read, same) = bind_ok (tree text) (λ t. ok (nodes t)) n rest in
      (root, tree_formed root (leb-true (length text) most_text few) read, ok_same (nodes root) n same)
