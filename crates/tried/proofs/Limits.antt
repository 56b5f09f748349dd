-- Both sides of every limit are computed from the definitions.
use mathlib.Core.Path.{refl}
use Rattle.paper.specs.Keys.{keys}
use Rattle.paper.specs.Loading.{types_along}
use Rattle.paper.specs.Calls.{read_answer, judge_answer, translate_answer, load_answer}
use Rattle.tried.specs.Limits.{Texts, Lists, Entries, Held, Sizes}

pub texts : Texts
unfolding read_answer
texts = refl

pub lists : Lists
unfolding keys
lists = refl

pub entries : Entries
unfolding judge_answer
entries = record { priority = refl; one = refl; all = refl; range_of_one = refl; range_of_all = refl }

pub held : Held
unfolding types_along
held = record { most = refl; more = refl }

pub sizes : Sizes
unfolding translate_answer load_answer
sizes = record { buffer = refl; blocks = refl }
