-- Which refusals are at a record: 20, and after the priority.
use Prim.Native.Nat.{ℕ, ◌≤◌, ◌<◌}
use mathlib.Core.Path.{◌≡◌}
use mathlib.Core.Bool.{true}
use mathlib.Core.List.{List}
use lib.Dec.{eqb}
use borrow.Author.Tests.{eq-eqb, ne_eqb, le-leb, lt-leb}
use Rattle.paper.specs.Answers.{Input, refused}
use Rattle.paper.specs.Entry.{head_size}
use Rattle.paper.specs.Explained.{at_key, nothing_to_show, is_record, key_index, name_stretch, reason_for}
use Rattle.paper.proofs.Basics.{and_false}

module _ (list : List ℕ) (n : ℕ) (i : Input) (at : ℕ) where
  pub other_number : (n ≡ 20 → ⊥) → reason_for list (refused n i at) ≡ nothing_to_show (refused n i at)
  other_number d = rw (ne_eqb n 20 d)

  pub at_priority : at < head_size → reason_for list (refused n i at) ≡ nothing_to_show (refused n i at)
  at_priority h = rw (lt-leb head_size at h, and_false (eqb n 20))

  module _ (number : n ≡ 20) (after : head_size ≤ at) where
    pub is_record_lem : is_record n at ≡ true
    is_record_lem = rw (eq-eqb n 20 number, le-leb head_size at after)

    pub key_shown : reason_for list (refused n i at) ≡ at_key at (key_index at) (name_stretch list (key_index at))
    key_shown = rw is_record_lem
