-- Each example of keys that must be present is computed from the definitions.
use mathlib.Core.Path.{refl}
use Rattle.paper.specs.Calls.{check_answer, judge_answer, translate_answer, translate_buffer, load_answer, run_answer}
use Rattle.paper.specs.Explained.{explain_answer}
use Rattle.paper.specs.Named.{summary_answer}
use Rattle.paper.specs.Rechecking.{recheck_answer}
use Rattle.tried.specs.RequiredExamples.{RequiredExamples}

pub required_examples : RequiredExamples
unfolding check_answer judge_answer translate_answer translate_buffer load_answer run_answer explain_answer summary_answer recheck_answer
required_examples =
    record {
      of_judging = refl;
      of_running = refl;
      of_explaining = refl;
      of_rechecking = refl;
      of_rechecking_absent = refl;
      of_checking = refl;
      of_loading = refl;
      of_translating = refl;
      of_blocks = refl;
      of_summaries = refl;
    }
