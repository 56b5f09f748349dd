-- Each example of a value is computed from the definitions.
use mathlib.Core.Path.{refl}
use Rattle.paper.specs.Calls.{judge_answer}
use Rattle.tried.specs.MeaningExamples.{Bools, Ints, Bits, Matches, OneValue, Ports, MeaningExamples}

bools : Bools
unfolding judge_answer
bools = record { sequel = refl; and = refl; or = refl; implies = refl; equal = refl; unequal = refl }

ints : Ints
unfolding judge_answer
ints = record { equal = refl; unequal = refl; greater = refl; at_least = refl; less = refl; at_most = refl }

bits : Bits
unfolding judge_answer
bits = record { equal = refl; unequal = refl; greater = refl; at_least = refl; less = refl; at_most = refl }

matches : Matches
unfolding judge_answer
matches = record { ternary = refl; lpm = refl; range = refl; optional = refl; unequal = refl }

one_value : OneValue
one_value = record { bits = refl; masked = refl; prefixed = refl; ranged = refl; optionally = refl }

ports : Ports
unfolding judge_answer
ports = record { port_443 = refl; port_0 = refl }

pub meaning_examples : MeaningExamples
unfolding judge_answer
meaning_examples =
    record {
      bools = bools;
      ints = ints;
      bits = bits;
      matches = matches;
      on_the_marked_entry = refl;
      of_ints_reduced = refl;
      of_one_value = refl;
      one_value_lem = one_value;
      of_ports = ports;
      of_absent_keys = refl;
    }
