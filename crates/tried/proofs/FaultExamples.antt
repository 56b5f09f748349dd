-- Each input has the fault that its row names, and the order is that of the places and numbers; what there is to know of the inputs is
-- computed.
use Prim.Native.Nat.{ℕ}
use mathlib.Core.Path.{◌≡◌, refl, sym, ap, ◌∙◌}
use mathlib.Core.Logic.{◌≢◌, inl, inr}
use mathlib.Core.Bool.{Bool, true, false, true≢false}
use mathlib.Core.List.{List, [], ◌∷◌}
use mathlib.Core.Option.{some}
use lib.ListN.{length}
use lib.Dec.{eqb, lit<, lit≤}
use native.Mathlib.Omega.{arith}
use Rattle.paper.specs.Tokens.{bytes, word, not_sign, sequel, less, scan}
use Rattle.paper.specs.Keys.{exact}
use Rattle.paper.specs.Types.{Ty, bool, int, of, type_of}
use Rattle.paper.specs.Meaning.{both}
use Rattle.paper.specs.Code.{Skip, push_bool, invert, connects}
use Rattle.paper.specs.Blocks.{sums_of}
use Rattle.paper.specs.Translating.{code_of}
use Rattle.paper.specs.LoadedBlocksRun.{types_through}
use Rattle.paper.specs.Faults as F
use Rattle.paper.specs.Faults.{at_start, a_blank, a_token}
use Rattle.paper.specs.Table.{Sooner}
use Rattle.tried.specs.KeyExamples.{a_key}
use Rattle.tried.specs.FaultExamples.{one_of, two_of, Rows, Order, InputsInOrder, FaultExamples}

-- two things of which a test says otherwise
apart : {A : Type 0} (test : A → Bool) {a b : A} → test a ≡ true → test b ≡ false → a ≢ b
apart test p q h = true≢false (sym p ∙ ap test h ∙ q)

abbrev is_int : Ty → Bool
is_int bool = false
is_int int = true
is_int (of k w) = false

abbrev an_int : List Ty → Bool
an_int [] = false
an_int (t ∷ ts) = is_int t

abbrev alone_held : List Ty → Bool
alone_held held = eqb (length held) 1

-- over the next instruction, where the top is false
abbrev skip_one : Skip
skip_one = record { on = false; to = false; over = 1 }

rows : Rows
unfolding scan type_of code_of sums_of types_through
rows =
    record {
      row_1 = F.text_over (lit< tt);
      row_2_uneven = F.list_uneven (apart (λ n. eqb n 79) refl refl);
      row_2_over = F.list_over (lit< tt);
      row_3 = F.record_broken 1 (lit< tt) refl;
      row_4 = F.name_repeated 0 1 (lit< tt) (lit< tt) refl;
      row_5 = F.no_token_lem (a_blank 0 (a_token (word (bytes "a")) 0 at_start (lit< tt) refl) (lit< tt) refl) (lit< tt) refl;
      row_6 = F.numeral_large (a_blank 0 (a_token (word (bytes "a")) 0 at_start (lit< tt) refl) (lit< tt) refl) (lit< tt) refl;
      row_11 = F.key_unknown 5 refl;
      row_11_of_a_field = F.key_of_field_unknown 5 8 refl;
      row_12 = F.field_unknown 5 8 0 refl refl;
      row_12_of_an_attribute = F.attribute_unknown 5 7 (apart (λ w. eqb (length w) 4) refl refl);
      row_13_of_a_prefix = F.prefix_wrong 1 not_sign int refl refl;
      row_13_of_a_join = F.join_wrong 4 sequel bool int refl refl refl;
      row_13_of_a_comparison = F.comparison_wrong 4 less bool int refl refl refl;
      in_an_operand = F.in_operand 1 not_sign (F.key_unknown 5 refl);
      on_the_left_of_a_join = F.join_left 7 sequel (F.key_unknown 5 refl);
      on_the_right_of_a_join = F.join_right 3 sequel (F.key_unknown 5 refl);
      on_the_left_of_a_comparison = F.comparison_left 7 less (F.key_unknown 5 refl);
      on_the_right_of_a_comparison = F.comparison_right 3 less (F.key_unknown 5 refl);
      row_14 = F.not_bool int refl (apart is_int refl refl);
      row_15 = F.buffer_short (lit< tt);
      row_16_none = F.no_blocks refl;
      row_16_uneven = F.blocks_uneven (apart (λ n. eqb n 511) refl refl);
      row_17 = F.block_broken 1 (lit< tt) refl;
      row_18 = F.instruction_fails [] (some invert) [] [] refl refl refl;
      row_18_over_a_push =
          F.skip_misfits (some (push_bool true) ∷ []) skip_one (some (push_bool true) ∷ []) (bool ∷ []) (bool ∷ bool ∷ []) refl refl refl
          (apart alone_held refl refl);
      row_18_before_the_end =
          F.skip_misfits (some (push_bool true) ∷ []) skip_one (some (push_bool true) ∷ some (connects both) ∷ []) (bool ∷ []) (bool ∷ bool ∷ []) refl
          refl refl (apart alone_held refl refl);
      row_18_over_a_join =
          F.skip_misfits (some (push_bool true) ∷ some (push_bool true) ∷ []) skip_one (some (connects both) ∷ []) (bool ∷ bool ∷ []) (bool ∷ []) refl
          refl refl (λ h. apart alone_held refl refl (sym h));
      row_18_at_the_end = F.end_not_bool (int ∷ []) refl (apart an_int refl refl);
      row_19 = F.entry_wrong (apart (λ n. eqb n 3) refl refl);
      row_19_of_many = F.entries_cut (apart (λ n. eqb n 1) refl refl);
      row_15_of_answers = F.answers_few (lit< tt);
      row_20_priority = F.priority_broken (lit≤ tt);
      row_20 = F.match_broken 0 (a_key (bytes "e") exact 8) refl refl;
      row_21_over_the_limit = F.over_limit (lit< tt);
      row_21_over_the_buffer = F.over_buffer (lit< tt);
    }

earliest : (m to : ℕ) → two_of 3 80 4 0 m to → Sooner 4 0 m to
earliest m to (inl h) = inl (omega (arith, h.1))
earliest m to (inr h) = inr (sym h.1, omega (arith, h.0))

lowest : (m to : ℕ) → two_of 4 80 3 80 m to → Sooner 3 80 m to
lowest m to (inl h) = inr (sym h.1, omega (arith, h.0))
lowest m to (inr h) = inr (sym h.1, omega (arith, h.0))

alone : (m to : ℕ) → one_of 4 80 m to → Sooner 4 80 m to
alone m to h = inr (sym h.1, omega (arith, h.0))

order : Order
order =
    record {
      earlier = inl (lit< tt);
      lower = inr (refl, lit≤ tt);
      earliest_wins = record { fault = inr (refl, refl); first = earliest };
      lowest_wins = record { fault = inr (refl, refl); first = lowest };
      decided = inr (λ n at h. h, inl (refl, record { fault = (refl, refl); first = alone }));
      clear = (λ n at h. h, (λ n at h. h, tt));
    }

inputs_in_order : InputsInOrder
inputs_in_order = record { read = refl; check = refl; judge = refl; translate = refl; load = refl; run = refl; print = refl; count = refl; run_all = refl }

pub fault_examples : FaultExamples
fault_examples = record { rows = rows; order = order; inputs_in_order = inputs_in_order }
