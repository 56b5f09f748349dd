-- From the stages' answers to those of `judge`.
use Prim.Native.Nat.{ℕ}
use Rattle.std.specs.Prelude.{Result, Ok, Err}
use Rattle.paper.specs.declared.Refusal.{Refusal}
use mathlib.Core.Path.{◌≡◌, sym, ◌∙◌, ap}
use mathlib.Core.Bool.{Bool}
use mathlib.Core.List.{List}
use Rattle.paper.specs.Answers.{ok, ◌>>=◌, says, refused_by}
use Rattle.paper.specs.Grammar as G
use Rattle.paper.specs.Entry.{entry_of}
use Rattle.paper.specs.Meaning.{value_of, is_true}
use Rattle.paper.specs.Calls.{restriction, judge_answer}
use Rattle.keys.specs.Says.{keys_in, conforms}
use Rattle.keys.proofs.Conforming as K
use Rattle.operands.specs.Conforming.{Conforming}
use Rattle.trees.specs.Standing.{tree_at}
use Rattle.reading.specs.Restricted.{Rooted}
use Rattle.judging.specs.Holding.{tree_holds}

module _ (text list entry : List ℕ) where
  pub not_passed : (v : Refusal) → restriction text list ≡ refused_by v → refused_by v ≡ judge_answer text list entry
  unfolding judge_answer
  not_passed v e = rw e

  module _ (nodes : List ℕ) (k : ℕ) (r : Rooted text list nodes k) where
    abbrev root : G.Tree
    root = tree_at text nodes k

    by_entry : judge_answer text list entry ≡ (entry_of (keys_in list) entry >>= λ e. ok (is_true (value_of (keys_in list) e root)))
    unfolding judge_answer
    by_entry = rw r.passed

    module _ (x : Result (Unit {0}) Refusal) (said : says x ≡ conforms (keys_in list) entry) where
      pub not_entered : {v : Refusal} → x ≡ Err v → refused_by v ≡ judge_answer text list entry
      not_entered e = sym (by_entry ∙ rw (K.not_entered (keys_in list) entry (sym said ∙ ap says e)))

      pub conforming : x ≡ (Ok tt) → Conforming list entry
      conforming e = record { listed = r.listed; entered = K.entered (keys_in list) entry (sym said ∙ ap says e) }

    -- the judgement is whether the tree is true on an entry that conforms
    pub judged_by : Conforming list entry → (b : Bool) → b ≡ tree_holds text list entry nodes k → ok b ≡ judge_answer text list entry
    judged_by good b told = sym (by_entry ∙ rw (good.entered, told))
