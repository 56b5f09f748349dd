-- From the stages' answers to that of `count`: a refusal of text or list (`text_refused`) or of too many entries (`too_many`), which leave the numbers,
-- or the numbers of the parts from 0 on (`counts`).
use Prim.Native.Nat.{ℕ, ◌*◌, ◌/◌, ◌%◌, ◌≤◌, ◌<◌}
use Rattle.paper.specs.declared.Refusal.{Refusal}
use Rattle.std.specs.Prelude.{Ok, Err}
use mathlib.Core.Path.{◌≡◌, refl, sym, ap, subst, ◌∙◌}
use mathlib.Core.List.{List}
use lib.ListN.{length, replicate, length-map}
use borrow.Author.Tests.{le-leb, lt-leb}
use Rattle.paper.specs.declared.Place.TheVariants as P
use Rattle.paper.specs.Answers.{ok, refused_by}
use Rattle.paper.specs.Calls.{restriction, over}
use Rattle.paper.specs.Counting.{entry_size, whole_in, cut_in, most_entries, Counts, counts_of, counted, count_answer, count_numbers}
use Rattle.paper.specs.Promised.{CountResult, CountPromised}
use Rattle.keys.specs.Says.{keys_in}
use Rattle.trees.specs.Standing.{tree_at}
use Rattle.parts.specs.Rows.{parts_on}
use Rattle.parts.proofs.Stored.{each_length}
use Rattle.reading.specs.Parted.{PassedParts}
use Rattle.counting.specs.declared.total.Totals.{Totals}
use Rattle.counting.specs.Tallied.{Tells}
use Rattle.counting.proofs.Growing.{from_zeros}

-- a refusal leaves the numbers
abbrev pub uncounted : Refusal → List ℕ → CountResult
uncounted v numbers = record { answer = Err v; numbers = numbers }

module _ (text list entries numbers : List ℕ) where
  pub text_refused : (v : Refusal) → restriction text list ≡ refused_by v
      → CountPromised text list entries numbers (uncounted v numbers)
  unfolding count_answer count_numbers counted
  text_refused v e = record { says = rw e; holds = rw e }

  module _ (nodes rows : List ℕ) (n : ℕ) (p : PassedParts text list nodes rows n) where
    pub too_many : (size : ℕ) → size ≡ entry_size (keys_in list) → most_entries < length entries / size
        → CountPromised text list entries numbers (uncounted (record { number = 25; place = P.Entry (most_entries * size) }) numbers)
    unfolding count_answer count_numbers counted
    too_many size is many =
        let beyond = lt-leb (whole_in (keys_in list) entries) most_entries (subst (λ (m : ℕ). most_entries < length entries / m) is many) in
        rw is (record { says = rw (p.rooted.passed, p.parted.are, beyond); holds = rw (p.rooted.passed, p.parted.are, beyond) })

    abbrev pub all : Counts
    all = counts_of (keys_in list) (tree_at text nodes p.root) (parts_on text nodes rows n) entries

    number_each : length all.parts ≡ n
    unfolding counts_of
    number_each = length-map (parts_on text nodes rows n) _ ∙ each_length _ 0 n

    cut_bytes : all.cut ≡ cut_in (keys_in list) entries
    unfolding counts_of
    cut_bytes = refl

    pub counts : (size : ℕ) → size ≡ entry_size (keys_in list) → length entries / size ≤ most_entries
        → (after : List ℕ) (t : Totals) → Tells all (over (replicate n 0) numbers) after t
        → CountPromised text list entries numbers (record {
          answer = Ok (record { parts = n; accepted = t.accepted; violated = t.violated; refused = t.refused; cut = length entries % size });
          numbers = after;
        })
    unfolding count_answer count_numbers counted
    counts size is few after t told =
        let within = le-leb (whole_in (keys_in list) entries) most_entries (subst (λ (m : ℕ). length entries / m ≤ most_entries) is few) in
        let cut = ap (λ (m : ℕ). length entries % m) is ∙ sym cut_bytes in
        let each = sym number_each in
        record {
          says =
              rw (p.rooted.passed, p.parted.are, within)
              (λ i.
              ok (record { parts = each i; accepted = told.accepted i; violated = told.violated i; refused = told.refused i; cut = cut i }));
          holds = rw (p.rooted.passed, p.parted.are, within) (told.numbers ∙ from_zeros all.parts numbers n number_each);
        }
