-- Each example of what an entry may depend on is computed from the definitions.
use mathlib.Core.Path.{refl}
use Rattle.paper.specs.Print.{print}
use Rattle.paper.specs.Calls.{tree, judge_answer, translate_buffer, run_answer}
use Rattle.paper.specs.Explained.{explain_answer}
use Rattle.paper.specs.Named.{summary_answer}
use Rattle.tried.specs.DependenceExamples.{DependenceExamples}

pub dependence_examples : DependenceExamples
unfolding tree print judge_answer translate_buffer run_answer explain_answer summary_answer
dependence_examples =
    record {
      each_sways = record { named_alone = refl; holds = refl; fails = refl };
      priority_sways = record { named_alone = refl; judged = refl };
      operands_named = refl;
      others_do_not = record { judged = refl; explained = refl; ran = refl };
      spelled_out_does_not = record { judged = refl; explained = refl; ran = refl };
      refused_not_covered = refl;
    }
