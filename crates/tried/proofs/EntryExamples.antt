-- Each example of an entry is computed from the definitions.
use mathlib.Core.Path.{refl}
use Rattle.paper.specs.Keys.{keys}
use Rattle.paper.specs.Entry.{entry_of}
use Rattle.tried.specs.EntryExamples.{EntryExamples}

pub entry_examples : EntryExamples
unfolding keys entry_of
entry_examples =
    record {
      in_bytes = refl;
      marked = refl;
      at_places = refl;
      with_absences = refl;
      exact_of_8 = refl;
      ternary_of_8 = refl;
      lpm_of_8 = refl;
      range_of_8 = refl;
      optional_of_8 = refl;
      exact_required_lem = refl;
      ternary_required_lem = refl;
      lpm_required_lem = refl;
      range_required_lem = refl;
      optional_required_lem = refl;
    }
