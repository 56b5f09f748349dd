-- Each example of parts and of explanations is computed from the definitions.
use mathlib.Core.Path.{refl}
use Rattle.paper.specs.Print.{print}
use Rattle.paper.specs.Calls.{tree}
use Rattle.paper.specs.Parts.{parts}
use Rattle.paper.specs.Explained.{explain_answer}
use Rattle.tried.specs.PartExamples.{PartExamples}

pub part_examples : PartExamples
unfolding tree print parts explain_answer
part_examples =
    record {
      of_texts = refl;
      parts_counted = refl;
      last_parts = refl;
      of_judgements = refl;
      of_prints = refl;
      of_entries = refl;
      of_long_names_lem = refl;
      of_many_keys_lem = refl;
      of_lists = refl;
    }
