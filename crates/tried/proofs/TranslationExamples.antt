-- Each example of a translation is computed from the definitions.
use mathlib.Core.Path.{refl}
use Rattle.paper.specs.Entry.{entry_of}
use Rattle.paper.specs.Translating.{code_of, conversions, steps_of}
use Rattle.paper.specs.Calls.{restriction, judge_answer, translate_answer, translate_buffer, run_answer}
use Rattle.paper.specs.TranslationCorrect.{judged_in_steps}
use Rattle.tried.specs.TranslationExamples.{EveryInstruction, Refused, TranslationExamples}

every : EveryInstruction
unfolding translate_answer translate_buffer run_answer judge_answer
every = record { written = refl; block = refl; runs = refl; judged = refl }

refusals : Refused
unfolding translate_answer translate_buffer
refusals = record { short = refl; short_unchanged = refl; one_of_two_blocks = refl; untyped = refl; untyped_unchanged = refl }

pub translation_examples : TranslationExamples
unfolding restriction entry_of code_of conversions steps_of judged_in_steps
translation_examples =
    record {
      of_nodes = refl;
      of_conversions = refl;
      counted = refl;
      joins_counted = refl;
      steps_counted = refl;
      judged_in_steps_lem = refl;
      held_counted = refl;
      most_blocks = refl;
      every_instruction = every;
      refusals = refusals;
    }
