-- Each example of a print is computed from the definitions.
use mathlib.Core.Path.{refl}
use Rattle.paper.specs.Print.{print}
use Rattle.paper.specs.Calls.{tree, print_answer, print_buffer}
use Rattle.tried.specs.PrintExamples.{PrintExamples}

pub print_examples : PrintExamples
unfolding tree print print_answer print_buffer
print_examples =
    record {
      of_leaves = refl;
      of_bases = refl;
      of_longest = refl;
      of_operators = refl;
      of_parentheses = refl;
      at_limits_lem = refl;
      kept_before_lem = refl;
      kept_after_lem = refl;
      kept_under_lem = refl;
      of_numerals = record { binary = refl; octal = refl; hex = refl; longest = refl; at_most = refl };
      of_bare_trees = refl;
      tokens_counted = refl;
      levels_counted = refl;
      of_answers = refl;
      of_buffers = refl;
      of_cases = refl;
    }
