-- Assertions in the words of 000, and what their indices must have.
use Rattle.std.specs.Prelude.{ℕ, ◌≡◌, Bool, true, ◌&&◌, List, map, length, ltb}
use Rattle.paper.specs.Answers.{ok}
use Rattle.paper.specs.Keys.{Key, records_in}
use Rattle.paper.specs.Pact as P
use Rattle.paper.specs.Pact.{indices_of}
use Rattle.paper.specs.Drafting.{names_of}
use Rattle.keys.specs.Says.{keys_in}
use Rattle.drafting.specs.declared.assertions.Assertion.{Assertion}
use Rattle.drafting.specs.Opcodes.{load_meant, comparator_meant}

abbrev pub assertion_meant : Assertion → P.Assertion
assertion_meant a = record { comparator = comparator_meant a.comparator; left = a.left; right = a.right }

-- the names of a list that passed its check

abbrev pub names_in : List ℕ → List (List ℕ)
names_in list = map (λ (k : Key). k.name) (keys_in list)

abbrev pub Named : List ℕ → Type 0
Named list = names_of list ≡ ok (keys_in list)

-- each index has a name or a user number, of so many
abbrev pub indexed : ℕ → ℕ → Assertion → Bool
indexed names users a = ltb a.left names && ltb a.right (indices_of names users (load_meant a.comparator.load))

pub record Fits (list table : List ℕ) (a : Assertion) : Type 0 where
  pub named : Named list
  pub all : indexed (records_in list) (length table) a ≡ true
