-- What a value is read from: a good key list, and an entry that conforms to it.
use Rattle.std.specs.Prelude.{ℕ, ◌≡◌, List}
use Rattle.paper.specs.Answers.{ok}
use Rattle.paper.specs.Keys.{keys}
use Rattle.paper.specs.Entry.{Entry, priority_of, matches_from, entry_of}
use Rattle.keys.specs.Says.{keys_in}

-- what an entry reads as, whether or not it conforms
abbrev pub entry_in : List ℕ → List ℕ → Entry
entry_in list entry = record { priority = priority_of entry; matches = matches_from entry 0 (keys_in list) }

pub record Conforming (list entry : List ℕ) : Type 0 where
  pub listed : keys list ≡ ok (keys_in list)
  pub entered : entry_of (keys_in list) entry ≡ ok (entry_in list entry)
