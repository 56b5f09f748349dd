-- Each example of types is computed from the definitions.
use mathlib.Core.Path.{refl}
use Rattle.paper.specs.Calls.{check_answer}
use Rattle.tried.specs.TypeExamples.{TypeExamples}

pub type_examples : TypeExamples
unfolding check_answer
type_examples =
    record {
      equal_types = refl;
      ordered_types = refl;
      joined_types = refl;
      prefixed_types = refl;
      fields_of_kinds = refl;
      names_known = refl;
      in_order = refl;
      of_the_root = refl;
    }
