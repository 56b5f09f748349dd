-- From the answer of a check and a walk over the tree to that of `summarize`.
use Prim.Native.Nat.{ℕ}
use Rattle.paper.specs.declared.Refusal.{Refusal}
use mathlib.Core.Path.{◌≡◌}
use mathlib.Core.List.{List}
use Rattle.paper.specs.Answers.{ok, refused_by}
use Rattle.paper.specs.Named as P
use Rattle.paper.specs.Named.{names, marked, summary_answer}
use Rattle.keys.specs.Says.{keys_in}
use Rattle.trees.specs.Standing.{tree_at}
use Rattle.reading.specs.Restricted.{Rooted}
use Rattle.paper.specs.Calls.{restriction}
use Rattle.paper.specs.declared.Summary.{Summary}
use Rattle.summarizing.specs.Sums.{Sums}

-- in the paper's words
abbrev pub meant : Summary → P.Summary
meant s = record { keys = s.keys; priority = s.priority }

module _ (text list : List ℕ) where
  pub not_passed : (v : Refusal) → restriction text list ≡ refused_by v → refused_by v ≡ summary_answer text list
  unfolding summary_answer
  not_passed v e = rw e

  pub summed_up : (nodes : List ℕ) (k : ℕ) → Rooted text list nodes k → (s : Summary)
      → Sums (names (keys_in list) (tree_at text nodes k)) (marked (tree_at text nodes k)) s → ok (meant s) ≡ summary_answer text list
  unfolding summary_answer
  summed_up nodes k r s h = rw (r.passed, h.keys, h.priority)
