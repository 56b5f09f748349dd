-- Each example of the pass is computed from the definitions.
use mathlib.Core.Path.{refl}
use Rattle.paper.specs.Fixing.{old_tokens, fixed, fix_answer, fix_buffer}
use Rattle.tried.specs.FixExamples.{Lent, FixExamples}

lent : Lent
unfolding fix_answer fix_buffer
lent =
    record {
      exact = refl;
      exact_holds = refl;
      short = refl;
      short_unchanged = refl;
      later_stays = refl;
      none = refl;
      longest = refl;
      too_long = refl;
      text_first = refl;
      refused_unchanged = refl;
    }

pub fix_examples : FixExamples
unfolding old_tokens fixed
fix_examples = record { texts = refl; at_limits_lem = refl; lent = lent }
