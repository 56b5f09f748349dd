-- Each wrong explainer fails on a short text: `false;false`, `(true;false);true`, or `true` with a priority of 2^31.
use Prim.Native.Nat.{ℕ, ◌^◌}
use native.Mathlib.Omega.{arith}
use mathlib.Core.Path.{◌≡◌, refl, sym, ◌∙◌}
use mathlib.Core.Bool.{true, false}
use mathlib.Core.List.{List, [], ◌∷◌}
use Rattle.paper.specs.Answers.{in_entry, ok, refused}
use Rattle.paper.specs.Numbers.{big_endian}
use Rattle.paper.specs.Tokens.{bytes, sequel}
use Rattle.paper.specs.Keys.{keys}
use Rattle.paper.specs.Entry.{entry_of}
use Rattle.paper.specs.Grammar.{Tree, truth, joined}
use Rattle.paper.specs.Meaning.{value_of}
use Rattle.paper.specs.Calls.{tree, judge_answer}
use Rattle.paper.specs.Parts.{Stretch, Part, parts}
use Rattle.paper.specs.Explained.{in_part, at_key, nothing_to_show, explain_answer}
use Rattle.tried.specs.WrongExplainers.{Explainer, Lendable, Right, Names, ViolatedEntry, NamesLast, FollowsSpine, WrongExplainersFail}
use Rattle.paper.proofs.ByteLists.{all_bytes_lem}
use Rattle.paper.proofs.ExplainedRight.{is_right, explained_is_right}

-- the entries, with no keys, and what is right of them

abbrev pub low : List ℕ
low = big_endian 4 0

abbrev high : List ℕ
high = big_endian 4 (2 ^ 31)

abbrev pub two_false : List ℕ
two_false = bytes "false;false"

abbrev nested : List ℕ
nested = bytes "(true;false);true"

pub two_shown : explain_answer two_false [] low ≡ in_part 1 0 (record { from = 0; to = 5 })
unfolding explain_answer
two_shown = refl

nested_shown : explain_answer nested [] low ≡ in_part 1 5 (record { from = 0; to = 12 })
unfolding explain_answer
nested_shown = refl

high_shown : explain_answer (bytes "true") [] high ≡ nothing_to_show (refused 20 in_entry 0)
unfolding explain_answer
high_shown = refl

pub two_lendable : Lendable two_false [] low
two_lendable = (all_bytes_lem two_false refl, tt, all_bytes_lem low refl)

nested_lendable : Lendable nested [] low
nested_lendable = (all_bytes_lem nested refl, tt, all_bytes_lem low refl)

high_lendable : Lendable (bytes "true") [] high
high_lendable = (all_bytes_lem (bytes "true") refl, tt, all_bytes_lem high refl)

module _ (x : Explainer) (right : Right x) where
  told : (text list entry : List ℕ) → Lendable text list entry → x text list entry ≡ explain_answer text list entry
  told text list entry lendable = sym ((explained_is_right text list entry (x text list entry)).1 (right text list entry lendable))

  -- where the first part is right, it names no second
  not_second : (text list entry : List ℕ) → Lendable text list entry → (place : ℕ) (s : Stretch)
      → explain_answer text list entry ≡ in_part 1 place s → ¬ Names 2 (x text list entry)
  not_second text list entry lendable place s shown (at, u, e) =
      let z : ◌≡◌ {A = ℕ} 1 2 = cc (sym shown ∙ sym (told text list entry lendable) ∙ e) in
      omega arith

  no_key : (place k : ℕ) (s : Stretch) → ¬ (x (bytes "true") [] high ≡ at_key place k s)
  no_key place k s e =
      let z : ◌≡◌ {A = ℕ} 0 1 = cc (sym high_shown ∙ sym (told (bytes "true") [] high high_lendable) ∙ e) in
      omega arith

-- and what the wrong ones make of them

abbrev both_false : Tree
both_false = joined 5 sequel (truth 0 false) (truth 6 false)

abbrev nested_tree : Tree
nested_tree = joined 12 sequel (joined 5 sequel (truth 1 true) (truth 6 false)) (truth 13 true)

two_violated : ViolatedEntry two_false [] low
unfolding keys entry_of tree judge_answer
two_violated =
    record {
      lendable = two_lendable;
      ks = [];
      listed = refl;
      on = record { priority = 0; matches = [] };
      conforms = refl;
      root = both_false;
      read = refl;
      judged = refl;
    }

nested_violated : ViolatedEntry nested [] low
unfolding keys entry_of tree judge_answer
nested_violated =
    record {
      lendable = nested_lendable;
      ks = [];
      listed = refl;
      on = record { priority = 0; matches = [] };
      conforms = refl;
      root = nested_tree;
      read = refl;
      judged = refl;
    }

abbrev false_part : ℕ → ℕ → ℕ → Part
false_part number from to = record { number = number; root = truth from false; stretch = record { from = from; to = to } }

two_parts : parts two_false ≡ ok (false_part 1 0 5 ∷ false_part 2 6 11 ∷ [])
unfolding parts
two_parts = refl

second_last : (x : Explainer) → NamesLast x → Names 2 (x two_false [] low)
unfolding value_of two_violated
second_last x names = names two_false [] low two_violated (false_part 1 0 5 ∷ []) [] (false_part 2 6 11) two_parts refl tt

second_in_spine : (x : Explainer) → FollowsSpine x → Names 2 (x nested [] low)
unfolding value_of nested_violated
second_in_spine x follows = follows nested [] low nested_violated (truth 1 true ∷ []) (truth 13 true ∷ []) (truth 6 false) refl (refl, tt) refl

high_refused : judge_answer (bytes "true") [] high ≡ refused 20 in_entry 0
unfolding judge_answer
high_refused = refl

pub wrong_explainers_fail : WrongExplainersFail
wrong_explainers_fail =
    record {
      right = λ text list entry _. is_right text list entry;
      last_part = λ x names right. not_second x right two_false [] low two_lendable 0 _ two_shown (second_last x names);
      left_spine = λ x follows right. not_second x right nested [] low nested_lendable 5 _ nested_shown (second_in_spine x follows);
      key_for_priority = λ x shows right.
          let (place, k, s, e) = shows (bytes "true") [] high high_lendable high_refused in no_key x right place k s e;
    }
