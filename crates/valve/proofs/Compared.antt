-- From the stages' answers to those of `recheck`.
use Prim.Native.Nat.{ℕ}
use Rattle.std.specs.Prelude.{Result, Err, None, Some}
use Rattle.paper.specs.declared.Refusal.{Refusal}
use mathlib.Core.Path.{◌≡◌, refl, sym, ap, ◌∙◌}
use mathlib.Core.Bool.{Bool, true, false, cond, ◌&&◌, and-false}
use mathlib.Core.List.{List}
use lib.ListN.{length}
use Rattle.paper.specs.Answers.{Answer, says, Judgement, refused_by}
use Rattle.paper.specs.Grammar as G
use Rattle.paper.specs.Keys.{Key}
use Rattle.paper.specs.Entry.{entry_of}
use Rattle.paper.specs.Calls.{Restriction, restriction, judge_answer}
use Rattle.paper.specs.Named.{names, marked}
use Rattle.paper.specs.Rechecking.{reused, judged, passes, same_from, same_priority, reuses_by, recheck_answer}
use Rattle.paper.specs.Promised.{JudgePromised}
use Rattle.keys.specs.Says.{keys_in, conforms}
use Rattle.keys.proofs.Conforming as K
use Rattle.operands.specs.Conforming.{Conforming}
use Rattle.trees.specs.Standing.{tree_at}
use Rattle.reading.specs.Restricted.{Rooted}
use Rattle.valve.specs.Beside.{Compared, same_in}
use Rattle.valve.proofs.Verdicts as verdicts

module _ (text list old new : List ℕ) where
  by_test : {b : Bool} → same_in text list old new ≡ b → (earlier : Answer Bool)
      → recheck_answer text list old earlier new ≡ cond b (reused earlier) (judged (judge_answer text list new))
  unfolding recheck_answer
  by_test e earlier = rw e

  pub reused_as_given : same_in text list old new ≡ true → Compared text list old new None
  reused_as_given e earlier = sym (by_test e earlier)

  pub judged_afresh : same_in text list old new ≡ false → (j : Judgement) → JudgePromised text list new j → Compared text list old new (Some j)
  judged_afresh e j right earlier = ap judged right ∙ sym (by_test e earlier)

  -- where text or list are refused, and where an entry is, nothing is reused

  pub not_passed : (v : Refusal) → restriction text list ≡ refused_by v → Compared text list old new (Some (Err v))
  not_passed v e = judged_afresh (ap (λ (x : Answer Restriction). reuses_by x old new) e) (Err v) (verdicts.not_passed text list new v e)

  module _ (nodes : List ℕ) (k : ℕ) (r : Rooted text list nodes k) where
    abbrev ks : List Key
    ks = keys_in list

    abbrev root : G.Tree
    root = tree_at text nodes k

    -- no named record differs and, if marked, the priority is the same
    abbrev pub same_named : Bool
    same_named = same_from (names ks root) old new 0 (length ks) && same_priority (marked root) old new

    tests : (a b : Bool) → passes (entry_of ks old) ≡ a → passes (entry_of ks new) ≡ b → same_in text list old new ≡ (a && b && same_from (names ks root) old new 0 (length ks) && same_priority (marked root) old new)
    tests a b e f = rw (r.passed, e, f)

    pub new_refused : (x : Result (Unit {0}) Refusal) → says x ≡ conforms ks new
        → {v : Refusal} → x ≡ Err v → Compared text list old new (Some (Err v))
    new_refused x said {v} e =
        let stop : passes (entry_of ks new) ≡ false = ap passes (K.not_entered ks new (sym said ∙ ap says e)) in
        judged_afresh (tests _ false refl stop ∙ rw (and-false (passes (entry_of ks old)))) (Err v) (verdicts.not_entered text list new nodes k r x said e)

    pub old_refused : (x : Result (Unit {0}) Refusal) → says x ≡ conforms ks old → {v : Refusal} → x ≡ Err v → false ≡ same_in text list old new
    old_refused x said e = sym (tests false _ (ap passes (K.not_entered ks old (sym said ∙ ap says e))) refl)

    pub both_enter : Conforming list old → Conforming list new → same_named ≡ same_in text list old new
    both_enter was is = sym (tests true true (ap passes was.entered) (ap passes is.entered))
