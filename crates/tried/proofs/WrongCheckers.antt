-- Each wrong checker fails at a text with the marked keys, of which v is of 1 bit: `v == 3` and `3 == v`, where the number loses bits, and
-- `v == -1`, where it does not. Each is real: it answers what its rule says.
use Prim.Native.Nat.{ℕ}
use Rattle.std.specs.Prelude.{Ok}
use native.Mathlib.Omega.{arith}
use mathlib.Core.Path.{◌≡◌, refl, sym, ap, ◌∙◌}
use mathlib.Core.List.{List}
use Rattle.paper.specs.Answers.{Answer, ok, refused, ◌>>=◌, in_text, says as said}
use Rattle.paper.specs.Tokens.{bytes}
use Rattle.paper.specs.Calls.{check_answer}
use Rattle.tried.specs.MarkedJudgements.{the_keys}
use Rattle.paper.specs.Promised.{Bytes}
use Rattle.paper.specs.BitsKept.{ComparisonRule, rule_before, restriction_by}
use Rattle.tried.specs.WrongCheckers.{Checker, ChecksAllRight, ChecksAsPromised, TypesBy, ReducesStill, right_alone, LooksRight, at_operator, PlacesAtOperator, above_zero, TakesNoneBelowZero, WrongCheckersFail}
use Rattle.paper.proofs.Stages.{never_ok}
use Rattle.paper.proofs.Promised.{says_same, one_said}
use Rattle.paper.proofs.ByteLists.{all_bytes_lem}
use Rattle.paper.proofs.DemandTwo.{checkable_answer, answer_checkable}

pub keys_bytes : Bytes the_keys
keys_bytes = all_bytes_lem the_keys refl

-- what a rule answers for a text with these keys, and what is right

abbrev says : ComparisonRule → List ℕ → Answer (Unit {0})
says rule text = restriction_by rule text the_keys >>= λ _. ok tt

abbrev right : List ℕ → Answer (Unit {0})
right text = check_answer text the_keys

-- a checker that is right passes a text exactly when it should
module _ (rule : ComparisonRule) (x : Checker) (types : TypesBy rule x) (good : ChecksAllRight x) (text : List ℕ) (t : Bytes text) where
  passes_right : says rule text ≡ ok tt → right text ≡ ok tt
  passes_right e =
      checkable_answer text the_keys
      ((good text the_keys t keys_bytes).0 (says_same (x text the_keys) (Ok tt) (types text the_keys t keys_bytes ∙ e)))

  right_passes : right text ≡ ok tt → says rule text ≡ ok tt
  right_passes e =
      sym (types text the_keys t keys_bytes) ∙ ap said ((good text the_keys t keys_bytes).1 (answer_checkable text the_keys e))

-- the three texts

three_lost : right (bytes "v == 3") ≡ refused 23 in_text 5
unfolding check_answer
three_lost = refl

three_lost_left : right (bytes "3 == v") ≡ refused 23 in_text 0
unfolding check_answer
three_lost_left = refl

one_kept : right (bytes "v == -1") ≡ ok tt
unfolding check_answer
one_kept = refl

-- what the rules answer

still_passes : says rule_before (bytes "v == 3") ≡ ok tt
unfolding restriction_by
still_passes = refl

left_passes : says right_alone (bytes "3 == v") ≡ ok tt
unfolding restriction_by
left_passes = refl

operator_refuses : says at_operator (bytes "v == 3") ≡ refused 23 in_text 2
unfolding restriction_by
operator_refuses = refl

below_refuses : says above_zero (bytes "v == -1") ≡ refused 23 in_text 5
unfolding restriction_by
below_refuses = refl

reducing_fails : (x : Checker) → ReducesStill x → ¬ ChecksAllRight x
reducing_fails x types good =
    let text = bytes "v == 3" in
    never_ok (sym three_lost ∙ passes_right rule_before x types good text (all_bytes_lem text refl) still_passes)

looking_right_fails : (x : Checker) → LooksRight x → ¬ ChecksAllRight x
looking_right_fails x types good =
    let text = bytes "3 == v" in
    never_ok (sym three_lost_left ∙ passes_right right_alone x types good text (all_bytes_lem text refl) left_passes)

above_zero_fails : (x : Checker) → TakesNoneBelowZero x → ¬ ChecksAllRight x
above_zero_fails x types good =
    let text = bytes "v == -1" in
    never_ok (sym below_refuses ∙ right_passes above_zero x types good text (all_bytes_lem text refl) one_kept)

-- two refusals of one text have one place

abbrev place : Answer (Unit {0}) → ℕ
place (ok _) = 0
place (refused n i at) = at

at_operator_fails : (x : Checker) → PlacesAtOperator x → ¬ ChecksAsPromised x
at_operator_fails x types promised =
    let text = bytes "v == 3" in
    let t = all_bytes_lem text refl in
    let same = sym operator_refuses ∙ sym (types text the_keys t keys_bytes) ∙ promised text the_keys t keys_bytes ∙ three_lost in
    let z : ◌≡◌ {A = ℕ} 2 5 = ap place same in
    omega arith

pub wrong_checkers_fail : WrongCheckersFail
wrong_checkers_fail =
    record {
      reducing = reducing_fails;
      looking_right = looking_right_fails;
      at_operator_lem = at_operator_fails;
      above_zero_lem = above_zero_fails;
    }

pub checker_real : (rule : ComparisonRule) → (x : Checker) × TypesBy rule x
checker_real rule =
    let answer : List ℕ → List ℕ → Answer (Unit {0}) = λ text list. restriction_by rule text list >>= λ _. ok tt in
    (λ text list. (one_said (answer text list)).result, λ text list _ _. (one_said (answer text list)).satisfies)
