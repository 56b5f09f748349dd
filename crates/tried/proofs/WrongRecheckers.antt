-- Each wrong recheck fails at a short text with no key or with one: `true` on equal entries, on another priority or on one that does not
-- conform, `::priority < 10` from 9 to 10, `d::mask == 0` from an absent record to one that spells it out. And each wrong summary:
-- `::priority < 10` names no key, `d::mask == 0` names one.
use Prim.Native.Nat.{ℕ, ◌^◌}
use Rattle.std.specs.Prelude.{Ok}
use Rattle.paper.specs.declared.Verdict.TheVariants.{Accepted}
use native.Mathlib.Omega.{arith}
use mathlib.Core.Path.{◌≡◌, refl, sym, ap, ◌∙◌}
use mathlib.Core.Bool.{Bool, true, false, not, true≢false}
use mathlib.Core.List.{List, [], ◌∷◌, ◌++◌}
use lib.Dec.{lit<}
use Rattle.paper.specs.Answers.{Answer, ok, refused, in_entry, judgement_says}
use Rattle.paper.specs.Numbers.{big_endian}
use Rattle.paper.specs.Tokens.{bytes, plain, equal, less}
use Rattle.paper.specs.Keys.{ternary, key_record}
use Rattle.paper.specs.Entry.{Entry, match_record, priority_of, entry_of}
use Rattle.paper.specs.Grammar.{number, field, attribute, compared}
use Rattle.paper.specs.Calls.{Restriction, restriction}
use Rattle.paper.specs.Named.{names, marked, Summary, summarizing_says}
use Rattle.paper.specs.Rechecking.{reused, judged, rechecking_says, recheck_answer}
use Rattle.paper.specs.RecheckedRight.{bit_at, BothConform}
use Rattle.paper.specs.Promised.{Bytes}
use Rattle.tried.specs.WrongRecheckers.{Rechecker, Lendable, RechecksRight, Reuses, Judges, ForgetsPriority, ComparesReadings, Summarizer, SummarizesRight, HasBit, CountsPriority, MissesFields, WrongRecheckersFail}
use Rattle.paper.proofs.ByteLists.{all_bytes_lem}
use Rattle.paper.proofs.Stages.{ok_same}
use Rattle.paper.proofs.RecheckedRight.{reused_exactly}

-- what a right one says is what the definition says

module _ (x : Rechecker) (right : RechecksRight x) (text list old new : List ℕ) (lendable : Lendable text list old new) where
  told : recheck_answer text list old (judgement_says (Ok Accepted)) new ≡ rechecking_says (x text list old (Ok Accepted) new)
  told = (reused_exactly text list old (ok true) new _).1 (right text list old (Ok Accepted) new lendable)

  not_judged : recheck_answer text list old (ok true) new ≡ reused (ok true) → ¬ Judges x text list old new
  not_judged shown judges =
      let (j, e) = judges (Ok Accepted) in
      let z : ◌≡◌ {A = ℕ} 0 1 = cc (sym shown ∙ told ∙ ap rechecking_says e) in
      omega arith

  not_reused : (a : Answer Bool) → recheck_answer text list old (ok true) new ≡ judged a → ¬ Reuses x text list old new
  not_reused a shown reuses =
      let z : ◌≡◌ {A = ℕ} 0 1 = cc (sym shown ∙ told ∙ ap rechecking_says (reuses (Ok Accepted))) in
      omega arith

module _ (x : Summarizer) (right : SummarizesRight x) (text list : List ℕ) (t : Bytes text) (l : Bytes list) (r : Restriction)
    (passed : restriction text list ≡ ok r) where
  not_with : (k : ℕ) (b : Bool) → names r.keys r.root k ≡ b → ¬ HasBit (x text list) k (not b)
  not_with k b named (keys, priority, e, bit) =
      let (s, there, summarizes) = right text list t l r passed in
      let given : Summary = record { keys = keys; priority = priority } in
      let same = ok_same given s (sym (ap summarizing_says e) ∙ there) in
      differ b (sym bit ∙ ap (λ (u : Summary). bit_at u.keys k) same ∙ summarizes.bits k ∙ named)
    where
      differ : (b : Bool) → ¬ (not b ≡ b)
      differ true h = true≢false (sym h)
      differ false h = true≢false h

-- entries with no keys, by their priority

abbrev low : ℕ → List ℕ
low priority = big_endian 4 priority

-- `true`

abbrev plain_text : List ℕ
plain_text = bytes "true"

plain_bytes : Bytes plain_text
plain_bytes = all_bytes_lem plain_text refl

same_reused : recheck_answer plain_text [] (low 0) (ok true) (low 0) ≡ reused (ok true)
unfolding recheck_answer
same_reused = refl

unmarked_reused : recheck_answer plain_text [] (low 0) (ok true) (low 1) ≡ reused (ok true)
unfolding recheck_answer
unmarked_reused = refl

high_judged : recheck_answer plain_text [] (low 0) (ok true) (low (2 ^ 31)) ≡ judged (refused 20 in_entry 0)
unfolding recheck_answer
high_judged = refl

-- `::priority < 10`

abbrev marking : List ℕ
marking = bytes "::priority < 10"

marking_bytes : Bytes marking
marking_bytes = all_bytes_lem marking refl

abbrev marking_rule : Restriction
marking_rule = record { keys = []; root = compared 11 less (attribute 0 2 (bytes "priority")) (number 13 (plain 10)) }

marking_passes : restriction marking [] ≡ ok marking_rule
unfolding restriction
marking_passes = refl

marking_conform : BothConform marking [] (low 9) (low 10)
unfolding entry_of
marking_conform =
    record {
      rule = marking_rule;
      passes = marking_passes;
      was = record { priority = 9; matches = [] };
      old_conforms = refl;
      is = record { priority = 10; matches = [] };
      new_conforms = refl;
    }

marking_judged : recheck_answer marking [] (low 9) (ok true) (low 10) ≡ judged (ok false)
unfolding recheck_answer
marking_judged = refl

marking_names : (k : ℕ) → names [] marking_rule.root k ≡ false
unfolding names
marking_names k = refl

forgotten : (x : Rechecker) → ForgetsPriority x → Reuses x marking [] (low 9) (low 10)
unfolding marking_conform
forgotten x forgets =
    forgets marking [] (low 9) (low 10) (marking_bytes, tt, all_bytes_lem (low 9) refl, all_bytes_lem (low 10) refl) marking_conform
    (λ k h. absurd (true≢false (sym h ∙ marking_names k)))

marking_counted : (x : Summarizer) → CountsPriority x → HasBit (x marking []) 0 true
unfolding marked
marking_counted x counts = counts marking [] marking_bytes tt marking_rule marking_passes (lit< tt) refl

-- `d::mask == 0`, with d absent and with d spelled out

abbrev masking : List ℕ
masking = bytes "d::mask == 0"

masking_bytes : Bytes masking
masking_bytes = all_bytes_lem masking refl

abbrev one_key : List ℕ
one_key = key_record (bytes "d") 1 8

one_bytes : Bytes one_key
one_bytes = all_bytes_lem one_key refl

abbrev masking_rule : Restriction
masking_rule =
    record {
      keys = record { name = bytes "d"; kind = ternary; width = 8; required = false } ∷ [];
      root = compared 8 equal (field 0 (bytes "d") 3 (bytes "mask")) (number 11 (plain 0));
    }

masking_passes : restriction masking one_key ≡ ok masking_rule
unfolding restriction
masking_passes = refl

abbrev absent : List ℕ
absent = low 0 ++ match_record 0 0 0 0

abbrev spelled : List ℕ
spelled = low 0 ++ match_record 1 0 0 0

abbrev read_as : Entry
read_as = record { priority = 0; matches = record { first = 0; second = 0; length = 0 } ∷ [] }

masking_conform : BothConform masking one_key absent spelled
unfolding entry_of
masking_conform =
    record {
      rule = masking_rule;
      passes = masking_passes;
      was = read_as;
      old_conforms = refl;
      is = read_as;
      new_conforms = refl;
    }

masking_judged : recheck_answer masking one_key absent (ok true) spelled ≡ judged (ok true)
unfolding recheck_answer
masking_judged = refl

masking_lendable : Lendable masking one_key absent spelled
masking_lendable = (masking_bytes, one_bytes, all_bytes_lem absent refl, all_bytes_lem spelled refl)

compared_alike : (x : Rechecker) → ComparesReadings x → Reuses x masking one_key absent spelled
unfolding masking_conform
compared_alike x compares = compares masking one_key absent spelled masking_lendable masking_conform (λ k h. refl) (λ m. refl)

masking_names : names masking_rule.keys masking_rule.root 0 ≡ true
unfolding names
masking_names = refl

masking_missed : (x : Summarizer) → MissesFields x → HasBit (x masking one_key) 0 false
masking_missed x misses = misses masking one_key masking_bytes one_bytes masking_rule masking_passes 0 refl

pub wrong_recheckers_fail : WrongRecheckersFail
wrong_recheckers_fail =
    let zero : Bytes (low 0) = all_bytes_lem (low 0) refl in
    let equal : Lendable plain_text [] (low 0) (low 0) = (plain_bytes, tt, zero, zero) in
    let changed : Lendable plain_text [] (low 0) (low 1) = (plain_bytes, tt, zero, all_bytes_lem (low 1) refl) in
    let raised : Lendable plain_text [] (low 0) (low (2 ^ 31)) = (plain_bytes, tt, zero, all_bytes_lem (low (2 ^ 31)) refl) in
    let ranked : Lendable marking [] (low 9) (low 10) = (marking_bytes, tt, all_bytes_lem (low 9) refl, all_bytes_lem (low 10) refl) in
    record {
      never = λ x never right.
          not_judged x right plain_text [] (low 0) (low 0) equal same_reused (never plain_text [] (low 0) (low 0) equal);
      always = λ x always right.
          not_reused x right plain_text [] (low 0) (low (2 ^ 31)) raised (refused 20 in_entry 0) high_judged
          (always plain_text [] (low 0) (low (2 ^ 31)) raised);
      equal_entries = λ x wants right.
          not_judged x right plain_text [] (low 0) (low 1) changed unmarked_reused
          (wants plain_text [] (low 0) (low 1) changed (λ e. let z : ◌≡◌ {A = ℕ} 0 1 = ap priority_of e in omega arith));
      priority_forgotten = λ x forgets right.
          not_reused x right marking [] (low 9) (low 10) ranked (ok false) marking_judged (forgotten x forgets);
      readings = λ x compares right.
          not_reused x right masking one_key absent spelled masking_lendable (ok true) masking_judged (compared_alike x compares);
      priority_counted = λ x counts right.
          not_with x right marking [] marking_bytes tt marking_rule marking_passes 0 false (marking_names 0) (marking_counted x counts);
      fields_missed = λ x misses right.
          not_with x right masking one_key masking_bytes one_bytes masking_rule masking_passes 0 true masking_names (masking_missed x misses);
    }
