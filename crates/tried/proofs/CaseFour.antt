-- Case 4 is translated to its block, byte for byte, which loads and accepts the marked entry.
use mathlib.Core.Path.{refl}
use Rattle.paper.specs.Calls.{translate_answer, translate_buffer, load_answer, run_answer}
use Rattle.tried.specs.CaseFour.{CaseFour}

pub case_four : CaseFour
unfolding translate_answer translate_buffer load_answer run_answer
case_four = record { written = refl; block = refl; loads = refl; runs = refl }
