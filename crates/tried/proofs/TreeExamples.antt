-- Each example of a tree is computed from the definitions.
use mathlib.Core.Path.{refl}
use Rattle.paper.specs.Calls.{tree, read_answer}
use Rattle.tried.specs.TreeExamples.{TreeExamples}

pub tree_examples : TreeExamples
unfolding tree read_answer
tree_examples =
    record {
      of_atoms = refl;
      of_operators = refl;
      of_the_ladder = refl;
      of_no_sentence = refl;
      nodes_counted = refl;
      roots_placed = refl;
    }
