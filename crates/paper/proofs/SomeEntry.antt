-- Every list that passes has an entry that conforms: priority 0, and for each key the present record that reads as an absent one does, which
-- keeps the rule of every kind, also where the key must be present.
use Prim.Native.Nat.{ℕ, zero, suc, ◌+◌, ◌*◌}
use native.Mathlib.Omega.{arith}
use mathlib.Core.Path.{◌≡◌, refl, ap, sym, ◌∙◌}
use mathlib.Core.Bool.{true}
use mathlib.Core.Option.{some, none-ne-some}
use mathlib.Core.List.{List, [], ◌∷◌, ◌++◌}
use lib.ListN.{length, take, drop, get_elem?, length-append}
use lib.Seq.{take_at, drop_at, drop-drop}
use lib.Dec.{lit<}
use Rattle.paper.specs.Answers.{ok}
use Rattle.paper.specs.Numbers.{bytes_at}
use Rattle.paper.specs.Keys.{Key}
use Rattle.paper.specs.Entry.{head_size, match_size, match_at, match_ok, entry_of}
use Rattle.paper.specs.BlocksRoundTrip.{All, Width}
use Rattle.paper.specs.Promised.{Bytes}
use Rattle.paper.specs.Dependence.{spell_out}
use Rattle.paper.proofs.Basics.{all_some}
use Rattle.paper.proofs.ByteLists.{append_bytes}
use Rattle.paper.proofs.AnotherRecord.{read_of, conforms_so, written_kept, written_bytes}
use Rattle.paper.proofs.SpelledOut.{reading, spelled_fits}

abbrev spelled_records : List Key → List ℕ
spelled_records [] = []
spelled_records (x ∷ ks) = spell_out x ++ spelled_records ks

abbrev pub some_entry : List Key → List ℕ
some_entry ks = 0 ∷ 0 ∷ 0 ∷ 0 ∷ spelled_records ks

records_size : (ks : List Key) → length (spelled_records ks) ≡ match_size * length ks
records_size [] = refl
records_size (x ∷ ks) = rw (length-append, records_size ks) (omega arith)

record_at : (ks : List Key) (j : ℕ) (x : Key) → get_elem? ks j ≡ some x → bytes_at (spelled_records ks) (j * match_size) match_size ≡ spell_out x
record_at [] j x h = absurd (none-ne-some x h)
record_at (y ∷ ks) zero x h =
    let same : y ≡ x = cc h in
    take_at (spell_out y) (spelled_records ks) match_size refl ∙ ap spell_out same
record_at (y ∷ ks) (suc j) x h =
    let on : match_size + j * match_size ≡ suc j * match_size = omega arith in
    ap (λ n. take match_size (drop n (spelled_records (y ∷ ks)))) (sym on)
    ∙ ap (take match_size) (sym (drop-drop (j * match_size) match_size (spelled_records (y ∷ ks))))
    ∙ ap (λ s. take match_size (drop (j * match_size) s)) (drop_at (spell_out y) (spelled_records ks) match_size refl)
    ∙ record_at ks j x h

match_at_lem : (ks : List Key) (j : ℕ) (x : Key) → get_elem? ks j ≡ some x → match_at (some_entry ks) j ≡ spell_out x
match_at_lem ks j x h = ap (take match_size) (sym (drop-drop (j * match_size) head_size (some_entry ks))) ∙ record_at ks j x h

pub some_conforms : (ks : List Key) → All (λ x. Width x.width) ks → entry_of ks (some_entry ks) ≡ ok (read_of ks (some_entry ks))
some_conforms ks widths = conforms_so ks (some_entry ks) (omega (arith, records_size ks)) refl kept
  where
    kept : (j : ℕ) (x : Key) → get_elem? ks j ≡ some x → match_ok x (match_at (some_entry ks) j) ≡ true
    kept j x h =
        let (_, wide) = all_some (λ y. Width y.width) ks j x widths h in
        rw (match_at_lem ks j x h) (written_kept x wide (reading x) (spelled_fits x))

records_bytes : (ks : List Key) → All (λ x. Width x.width) ks → Bytes (spelled_records ks)
records_bytes [] h = tt
records_bytes (x ∷ ks) h =
    append_bytes (spell_out x) (spelled_records ks) (written_bytes x h.0.1 (reading x) (spelled_fits x)) (records_bytes ks h.1)

pub some_bytes : (ks : List Key) → All (λ x. Width x.width) ks → Bytes (some_entry ks)
some_bytes ks h = (lit< tt, (lit< tt, (lit< tt, (lit< tt, records_bytes ks h))))
