-- A list and an entry that conform, from the answers of their checks; and what is known of them.
use Prim.Native.Nat.{ℕ, ◌+◌, ◌*◌, ◌/◌, ◌≤◌, ◌<◌}
use native.Mathlib.Omega.{arith}
use mathlib.Core.Path.{◌≡◌}
use mathlib.Core.List.{List}
use lib.ListN.{length}
use Rattle.paper.specs.Answers.{ok}
use Rattle.paper.specs.Numbers.{byte_at}
use Rattle.paper.specs.Keys.{record_size, record_at}
use Rattle.paper.specs.Entry.{head_size, match_size}
use Rattle.keys.specs.Says.{keys_in, key_count, conforms}
use Rattle.keys.proofs.Records.{keys_length, width_most}
use Rattle.keys.proofs.Checked.{listed, good_record}
use Rattle.keys.proofs.Conforming.{entered, entry_length}
use Rattle.operands.specs.Conforming.{Conforming}

pub conforming : (list entry : List ℕ) {n : ℕ} → key_count list ≡ ok n → conforms (keys_in list) entry ≡ ok tt → Conforming list entry
conforming list entry l e = record { listed = (listed list l).0; entered = entered (keys_in list) entry e }

module _ (list entry : List ℕ) (c : Conforming list entry) where
  pub entry_size : length entry ≡ head_size + match_size * (length list / record_size)
  entry_size = omega (arith, entry_length (keys_in list) entry c.entered, keys_length list 0 (length list / record_size))

  -- the record of an index can be read, from the list and from the entry
  pub readable : (k : ℕ) → k < length list / record_size
      → (k < length list / record_size) × ((byte_at (record_at list k) 2 ≤ 128) × (head_size + (k + 1) * match_size ≤ length entry))
  readable k h = (h, (width_most (record_at list k) (good_record list c.listed k h), omega (arith, entry_size)))
