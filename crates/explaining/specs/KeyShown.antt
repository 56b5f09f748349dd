-- What is asked of a refusal whose key is to be shown.
use Rattle.std.specs.Prelude.{ℕ, ◌≤◌, ◌<◌, ◌*◌, ◌≡◌, true, List, length}
use Rattle.paper.specs.Numbers.{byte_at}
use Rattle.paper.specs.Keys.{record_size, most_keys, records_in, record_at}
use Rattle.paper.specs.Explained.{is_record, key_index}

-- a list, of no more keys than there may be, has one of an index, whose name is no longer than it may be
pub record HasKey (list : List ℕ) (k : ℕ) : Type 0 where
  pub inside : k < records_in list
  pub few : length list ≤ most_keys * record_size
  pub short : byte_at (record_at list k) 0 ≤ 64

-- a refusal at a record is at that of a key of the list
abbrev pub Listed : List ℕ → ℕ → ℕ → Type 0
Listed list n at = is_record n at ≡ true → HasKey list (key_index at)
