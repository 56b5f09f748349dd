-- Each example of summaries and rechecks is computed from the definitions.
use mathlib.Core.Path.{refl}
use Rattle.paper.specs.Calls.{restriction}
use Rattle.paper.specs.Named.{names, count_of, summary_answer}
use Rattle.paper.specs.Rechecking.{recheck_answer}
use Rattle.tried.specs.SummaryExamples.{SummaryExamples}

pub summary_examples : SummaryExamples
unfolding restriction names count_of summary_answer recheck_answer
summary_examples =
    record {
      of_texts = refl;
      keys_counted = refl;
      of_many_keys_lem = refl;
      many_counted_lem = refl;
      of_lists = refl;
      of_unknown_keys = refl;
      of_changes = refl;
      of_marked_changes = refl;
      of_refused_texts = refl;
      of_refused_lists = refl;
    }
