-- Each example of a count is computed from the definitions; the limit is that of the number of whole entries, whatever they are.
use mathlib.Core.Path.{refl}
use Rattle.paper.specs.Counting.{counted, count_answer, count_numbers, count_output}
use Rattle.tried.specs.CountExamples.{OwnExample, Files, Numbers, Apart, Refusals, CountExamples}

own : OwnExample
unfolding counted count_answer count_numbers count_output
own = record { lines = refl; counts = refl; totals = refl; lent = refl }

files : Files
unfolding counted count_output
files = record { empty = refl; whole = refl; short = refl; longer = refl; cut = refl; no_keys = refl }

numbers : Numbers
unfolding counted
numbers = record { both_false = refl; one_false = refl; refused = refl; enclosed = refl; trailing = refl }

apart : Apart
unfolding counted count_answer count_output
apart = record { totals = refl; lines = refl; told = refl; refusal_told = refl }

refusals : Refusals
unfolding counted count_numbers count_output
refusals =
    record {
      text = refl;
      list_before_text = refl;
      types = refl;
      octal = refl;
      bits_lost = refl;
      text_line = refl;
      list_line = refl;
      unchanged = refl;
      most = λ ks s many. rw many;
      one_more = λ ks s many. rw many;
      one_more_line = λ at. refl;
    }

pub count_examples : CountExamples
count_examples = record { own = own; files = files; numbers = numbers; apart = apart; refusals = refusals }
