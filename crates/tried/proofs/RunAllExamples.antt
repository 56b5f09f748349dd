-- Each example of a table is computed from the definitions.
use mathlib.Core.Path.{refl}
use Rattle.paper.specs.Blocks.{blocks_of}
use Rattle.paper.specs.Translating.{code_of}
use Rattle.paper.specs.Calls.{restriction, run_answer}
use Rattle.paper.specs.RunAll.{ran_all, run_all_answer, run_all_bytes}
use Rattle.tried.specs.RunAllExamples.{OwnExample, Runs, Told, Lengths, Answers, NoKeys, Steps, InOrder, Stretches, RunAllExamples}

own : OwnExample
unfolding ran_all run_all_answer run_all_bytes
own = record { verdicts = refl; answer = refl; written = refl; later_stay = refl; promised = record { says = refl; holds = refl } }

runs : Runs
unfolding run_answer
runs = record { accepted = refl; violated = refl; refused_record = refl; refused_priority = refl }

told : Told
told =
    record {
      accepted = refl;
      violated = refl;
      refusing = refl;
      steps = refl;
      no_steps = refl;
      summed = refl;
      judged = refl;
      judged_violated = refl;
      judged_refused = refl;
      answer = refl;
      refusal = refl;
    }

lengths : Lengths
unfolding ran_all run_all_answer run_all_bytes
lengths =
    record {
      none = refl;
      none_answered = refl;
      none_written = refl;
      one_byte = refl;
      short = refl;
      whole = refl;
      longer = refl;
      four_over = refl;
      second_short = refl;
      cut_unchanged = refl;
    }

answers : Answers
unfolding ran_all run_all_answer run_all_bytes
answers = record { one_fewer = refl; fewer_unchanged = refl; none = refl; promised = record { says = refl; holds = refl } }

no_keys : NoKeys
unfolding ran_all
no_keys = record { two = refl; short = refl; longer = refl }

steps : Steps
unfolding restriction code_of blocks_of ran_all
steps = record { full = refl; passed_over = refl; all = refl }

in_order : InOrder
unfolding ran_all run_all_answer run_all_bytes
in_order =
    record {
      list_first = refl;
      records_before_blocks = refl;
      sizes_before_blocks = refl;
      blocks_before_code = refl;
      code_before_length = refl;
      length_before_answers = refl;
      blocks_unchanged = refl;
      answered = refl;
    }

stretches : Stretches
unfolding ran_all
stretches = record { first = refl; second = refl; early = refl; late = refl; both = refl; wrapped = refl }

pub run_all_examples : RunAllExamples
run_all_examples =
    record {
      own = own;
      runs = runs;
      told = told;
      lengths = lengths;
      answers = answers;
      no_keys = no_keys;
      steps = steps;
      in_order = in_order;
      stretches = stretches;
    }
