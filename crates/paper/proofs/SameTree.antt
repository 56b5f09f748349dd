-- What the pass makes is read exactly when the text was, as the same tree: its tokens are those of the text, and the grammar looks at no place.
use Prim.Native.Nat.{ℕ}
use mathlib.Core.Path.{◌≡◌, sym, ap, ◌∙◌}
use mathlib.Core.List.{List}
use lib.ListN.{length}
use Rattle.paper.specs.Answers.{Answer, ok, ◌>>=◌}
use Rattle.paper.specs.Tokens.{Token, tokens}
use Rattle.paper.specs.Grammar.{Tree, parsed}
use Rattle.paper.specs.Print.{bare}
use Rattle.paper.specs.Calls.{tree}
use Rattle.paper.specs.Fixing.{old_tokens, old_tree, fixed}
use Rattle.paper.specs.FixedRight.{toks_of, SameTree}
use Rattle.paper.proofs.Refusals.{read_is_valid}
use Rattle.paper.proofs.PhrasesMoved.{valid_moves}
use Rattle.paper.proofs.SameTokens.{same_tokens}

tree_is : (text : List ℕ) (ts : List Token) → tokens text ≡ ok ts → tree text ≡ parsed (length text) ts
unfolding tree
tree_is text ts e = ap (λ (a : Answer (List Token)). a >>= parsed (length text)) e

old_tree_is : (text : List ℕ) (ts : List Token) → old_tokens text ≡ ok ts → old_tree text ≡ parsed (length text) ts
unfolding old_tree
old_tree_is text ts e = ap (λ (a : Answer (List Token)). a >>= parsed (length text)) e

-- tokens that are read, and the same moved
reads_moved : (size more : ℕ) (ts us : List Token) (t : Tree) → toks_of us ≡ toks_of ts → parsed size ts ≡ ok t
    → (r : Tree) × (parsed more us ≡ ok r) × (bare r ≡ bare t)
reads_moved size more ts us t same e =
    let (r, valid, alike) = valid_moves t ts us ((read_is_valid size ts t).0 e) same in
    (r, (read_is_valid more us r).1 valid, alike)

pub same_tree : SameTree
same_tree text ts e =
    let (us, read, same) = same_tokens text ts e in
    let here = old_tree_is text ts e in
    let there = tree_is (fixed text) us read in
    record {
      forth = λ t h.
          let (r, f, alike) = reads_moved (length text) (length (fixed text)) ts us t same (sym here ∙ h) in
          (r, there ∙ f, alike);
      back = λ u h.
          let (r, f, alike) = reads_moved (length (fixed text)) (length text) us ts u (sym same) (sym there ∙ h) in
          (r, here ∙ f, sym alike);
    }
