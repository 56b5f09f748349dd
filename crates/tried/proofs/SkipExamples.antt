-- Each example of a skip is computed from the definitions.
use mathlib.Core.Path.{refl}
use lib.Dec.{lit<, lit≤}
use native.Mathlib.Omega.{arith}
use Rattle.paper.specs.Keys.{keys}
use Rattle.paper.specs.Entry.{entry_of}
use Rattle.paper.specs.Blocks.{sums_of}
use Rattle.paper.specs.Loading.{types_along, run_along}
use Rattle.paper.specs.LoadedBlocksRun.{types_through, values_through}
use Rattle.tried.specs.SkipExamples.{Indices, SkipExamples}

indices : Indices
indices =
    record {
      rising = (lit≤ tt, lit< tt, (lit≤ tt, lit< tt, (lit≤ tt, lit< tt, tt)));
      twice = λ h. omega (arith, h.2.0);
      back = λ h. omega (arith, h.2.0);
      below = λ h. omega (arith, h.0);
      past = λ h. omega (arith, h.1);
    }

pub skip_examples : SkipExamples
unfolding keys entry_of sums_of types_along run_along types_through values_through
skip_examples =
    record {
      encoded = refl;
      decoded = refl;
      last = refl;
      farthest = refl;
      in_blocks_lem = record { before_the_last = refl; as_the_last = refl };
      loaded = refl;
      full_loads = refl;
      runs_counted = refl;
      runs_stepped = refl;
      before = refl;
      indices = indices;
      types_walked_lem = refl;
      values_walked_lem = refl;
    }
