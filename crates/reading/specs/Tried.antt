-- What is answered where the nodes that were lent may be too few.
use Rattle.std.specs.Prelude.{ℕ, List, Result}
use Rattle.reading.specs.Grown.{Told, Grows}
use Rattle.reading.specs.Restricted.{Restricts}
use Rattle.reading.specs.Parted.{RestrictsParts}
use Rattle.tokens.specs.declared.Stop.{Stop}

abbrev pub TriesTree : List ℕ → List ℕ → Result ℕ Stop → Type 0
TriesTree text nodes = Told (Grows text nodes)

abbrev pub Tries : List ℕ → List ℕ → List ℕ → Result ℕ Stop → Type 0
Tries text list nodes = Told (Restricts text list nodes)

abbrev pub TriesParts : List ℕ → List ℕ → List ℕ → List ℕ → Result ℕ Stop → Type 0
TriesParts text list nodes rows = Told (RestrictsParts text list nodes rows)
