-- One entry: it is refused or judged, and so it is counted by every part and by the tree of them all.
use Prim.Native.Nat.{ℕ}
use Rattle.std.specs.Prelude.{Result, Ok, Err}
use Rattle.paper.specs.declared.Refusal.{Refusal}
use mathlib.Core.Path.{◌≡◌, refl, sym, ap, ◌∙◌}
use mathlib.Core.Bool.{Bool, true, false, not}
use mathlib.Core.List.{List, [], ◌∷◌}
use Rattle.paper.specs.Answers.{Answer, Input, ok, refused, says, refused_by}
use Rattle.paper.specs.Keys.{keys}
use Rattle.paper.specs.Entry.{entry_of}
use Rattle.paper.specs.Grammar.{Tree}
use Rattle.paper.specs.Meaning.{value_of, is_true}
use Rattle.paper.specs.Counting.{judged, is_accepted, is_violated, is_refused, count_if}
use Rattle.paper.specs.CountedRight.{one}
use Rattle.keys.specs.Says.{keys_in, conforms}
use Rattle.keys.proofs.Conforming.{entered, not_entered}
use Rattle.operands.specs.Conforming.{Conforming, entry_in}
use Rattle.trees.specs.Standing.{tree_at}
use Rattle.judging.specs.Holding.{tree_holds}
use Rattle.parts.specs.Rows.{root_at, part_at}
use Rattle.reading.specs.Parted.{PassedParts}
use Rattle.counting.specs.declared.total.Totals.{Totals}
use Rattle.counting.specs.Tallied.{Grew, Adds, all_below}
use Rattle.counting.proofs.Growing.{grew_zero, grew_by}
use Rattle.counting.proofs.Decided.{parts_decided}
use Rattle.counting.proofs.EntryByEntry.{count_one}

violated_not : (b : Bool) → is_violated (ok b) ≡ not b
violated_not true = refl
violated_not false = refl

module _ (list entry : List ℕ) where
  judged_refused : {n : ℕ} {i : Input} {at : ℕ} → entry_of (keys_in list) entry ≡ refused n i at → (t : Tree) → judged (keys_in list) t entry ≡ refused n i at
  unfolding judged
  judged_refused e t = rw e

  judged_ok : Conforming list entry → (t : Tree) → judged (keys_in list) t entry ≡ ok (is_true (value_of (keys_in list) (entry_in list entry) t))
  unfolding judged
  judged_ok c t = rw c.entered

  counted_as : (is : Answer Bool → Bool) (t : Tree) {a : Answer Bool} → judged (keys_in list) t entry ≡ a
      → count_if (λ e. is (judged (keys_in list) t e)) (entry ∷ []) ≡ one (is a)
  counted_as is t e = count_one (λ x. is (judged (keys_in list) t x)) entry (ap is e)

  module _ (x : Result (Unit {0}) Refusal) (said : says x ≡ conforms (keys_in list) entry) where
    pub conforming : keys list ≡ ok (keys_in list) → x ≡ (Ok tt) → Conforming list entry
    conforming listed e = record { listed = listed; entered = entered (keys_in list) entry (sym said ∙ ap says e) }

    stopped : {v : Refusal} → x ≡ Err v → (t : Tree) → judged (keys_in list) t entry ≡ refused_by v
    stopped e t = judged_refused (not_entered (keys_in list) entry (sym said ∙ ap says e)) t

    pub one_refused : (text nodes rows : List ℕ) (n root : ℕ) (numbers : List ℕ) (r : Totals) {v : Refusal} → x ≡ Err v
        → (r.accepted ≡ 0) × (r.violated ≡ 0) × (r.refused ≡ 1)
        → Adds (keys_in list) (tree_at text nodes root) n (part_at text nodes rows) (entry ∷ []) numbers numbers r
    one_refused text nodes rows n root numbers r e totals =
        let t = tree_at text nodes root in
        record {
          numbers = grew_by (grew_zero n numbers) (λ k h. sym (counted_as is_violated (part_at text nodes rows k).root (stopped e (part_at text nodes rows k).root)));
          accepted = totals.0 ∙ sym (counted_as is_accepted t (stopped e t));
          violated = totals.1 ∙ sym (counted_as is_violated t (stopped e t));
          refused = totals.2 ∙ sym (counted_as is_refused t (stopped e t));
        }

  module _ (c : Conforming list entry) (text nodes rows : List ℕ) (n : ℕ) (p : PassedParts text list nodes rows n) where
    abbrev part : ℕ → Bool
    part k = tree_holds text list entry nodes (root_at rows k)

    pub one_judged : (before after : List ℕ) (all : Bool) (r : Totals) → Grew n (λ k. one (not (part k))) before after → all ≡ all_below part n
        → (r.accepted ≡ one all) × (r.violated ≡ one (not all)) × (r.refused ≡ 0)
        → Adds (keys_in list) (tree_at text nodes p.root) n (part_at text nodes rows) (entry ∷ []) before after r
    one_judged before after all r grew decides totals =
        let t = tree_at text nodes p.root in
        let verdict : judged (keys_in list) t entry ≡ ok all = judged_ok c t ∙ ap ok (sym (decides ∙ parts_decided text list entry nodes rows n p)) in
        record {
          numbers = grew_by grew (λ k h. sym (counted_as is_violated (part_at text nodes rows k).root (judged_ok c (part_at text nodes rows k).root) ∙ ap one (violated_not (part k))));
          accepted = totals.0 ∙ sym (counted_as is_accepted t verdict);
          violated = totals.1 ∙ sym (counted_as is_violated t verdict ∙ ap one (violated_not all));
          refused = totals.2 ∙ sym (counted_as is_refused t verdict);
        }
