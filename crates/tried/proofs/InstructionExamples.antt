-- Each example of an instruction is computed from the definitions.
use mathlib.Core.Path.{refl}
use Rattle.paper.specs.Keys.{keys}
use Rattle.paper.specs.Entry.{entry_of}
use Rattle.paper.specs.Loading.{types_along, run_along}
use Rattle.tried.specs.InstructionExamples.{InstructionExamples}

pub instruction_examples : InstructionExamples
unfolding keys entry_of types_along run_along
instruction_examples =
    record {
      encoded = refl;
      parted = refl;
      decoded = refl;
      loaded = refl;
      run_on_the_marked_entry = refl;
      run_on_one_value_each = refl;
    }
