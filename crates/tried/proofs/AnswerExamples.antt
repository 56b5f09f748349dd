-- Each example of an answer is computed from the definitions.
use Prim.Native.Nat.{ℕ}
use mathlib.Core.Path.{refl}
use mathlib.Core.List.{List, []}
use Rattle.paper.specs.Calls.{read_answer, check_answer, judge_answer, translate_answer, translate_buffer, load_answer, run_answer}
use Rattle.paper.specs.Explained.{explain_answer}
use Rattle.paper.specs.Named.{summary_answer}
use Rattle.paper.specs.Rechecking.{recheck_answer}
use Rattle.paper.specs.Pieces.{PartOf}
use Rattle.tried.specs.AnswerExamples.{Answers, RunAnswers, lies, PieceAnswers, InOrder, AnswerExamples}

answers : Answers
unfolding read_answer check_answer judge_answer translate_answer translate_buffer load_answer run_answer explain_answer summary_answer recheck_answer
answers =
    record {
      reads = refl;
      read_refuses_text = refl;
      checks = refl;
      check_refuses_text = refl;
      check_refuses_list = refl;
      accepts = refl;
      violates = refl;
      judge_refuses_text = refl;
      judge_refuses_list = refl;
      judge_refuses_entry = refl;
      translates = record { says = refl; holds = refl };
      translate_refuses_text = record { says = refl; holds = refl };
      translate_refuses_list = record { says = refl; holds = refl };
      translate_refuses_buffer = record { says = refl; holds = refl };
      loads = refl;
      load_refuses_list = refl;
      load_refuses_blocks = refl;
      runs_to_accepted = refl;
      runs_to_violated = refl;
      run_refuses_list = refl;
      run_refuses_blocks = refl;
      run_refuses_entry = refl;
      explains_part = refl;
      explains_key = refl;
      explains_accepted = refl;
      explain_refuses_text = refl;
      explain_refuses_list = refl;
      explain_refuses_entry = refl;
      explain_refuses_priority = refl;
      summarizes = refl;
      summarizes_mark = refl;
      summarize_refuses_text = refl;
      summarize_refuses_list = refl;
      reuses = refl;
      reuses_violated = refl;
      reuses_refused = refl;
      rechecks = refl;
      recheck_refuses_text = refl;
      recheck_refuses_list = refl;
      recheck_refuses_entry = refl;
    }

of_runs : RunAnswers
unfolding judge_answer run_answer
of_runs = record { in_steps = refl; violated_in_steps = refl; accepted = refl; violated = refl; refused = refl }

-- an empty piece has no offset to tell
empty : (block offset at : ℕ) (s : List ℕ) → PartOf 0 0 (lies block offset s) (lies block at [])
empty block offset at s = record { bytes = refl; block = refl; offset = λ some. absurd (some refl) }

pieces : PieceAnswers
unfolding explain_answer
pieces =
    record {
      part = record { says = refl; in_text = record { bytes = refl; block = refl; offset = λ _. refl }; in_list = empty 9 1000 0 _ };
      key = record { says = refl; in_text = empty 7 100 0 _; in_list = record { bytes = refl; block = refl; offset = λ _. refl } };
      nothing = record { says = refl; in_text = empty 7 100 0 _; in_list = empty 9 1000 0 _ };
    }

in_order : InOrder
unfolding read_answer check_answer judge_answer translate_answer load_answer run_answer
in_order =
    record {
      read_1_5 = refl;
      read_5_8 = refl;
      check_1_2 = refl;
      check_2_5 = refl;
      check_3_5 = refl;
      check_4_5 = refl;
      check_5_8 = refl;
      check_8_11 = refl;
      check_10_11 = refl;
      check_11_14 = refl;
      check_13_14 = refl;
      judge_14_19 = refl;
      judge_19_20 = refl;
      judge_20 = refl;
      translate_14_15 = refl;
      load_2_16 = refl;
      load_3_16 = refl;
      load_4_16 = refl;
      load_16_17 = refl;
      load_17_18 = refl;
      run_2_16 = refl;
      run_16_19 = refl;
      run_18_19 = refl;
    }

pub answer_examples : AnswerExamples
answer_examples = record { answers = answers; of_runs = of_runs; pieces = pieces; in_order = in_order }
