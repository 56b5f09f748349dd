-- Each example of a key list is computed from the definitions.
use mathlib.Core.Path.{refl}
use Rattle.paper.specs.Keys.{keys}
use Rattle.tried.specs.KeyExamples.{KeyExamples}

pub key_examples : KeyExamples
unfolding keys
key_examples = record { laid_out = refl; with_names = refl; at_places = refl; with_flags = refl; by_name = refl }
