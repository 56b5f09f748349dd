-- An absent record of a conforming entry, replaced by the present one that spells out its reading: the record keeps its rule, and it is read as
-- the same match. So the entry conforms and is read as the same one.
use Prim.Native.Nat.{ℕ, suc, ◌+◌, ◌-◌, ◌^◌, ◌≤◌, ◌<◌}
use native.Mathlib.Nat.{zero-add, add-zero, zero-mod}
use native.Mathlib.Omega.{arith}
use mathlib.Core.Path.{◌≡◌, refl, sym, ap, ap₂, subst, ◌∙◌}
use mathlib.Core.Bool.{true}
use mathlib.Core.Option.{some}
use mathlib.Core.List.{List, [], ◌∷◌}
use lib.ListN.{get_elem?}
use lib.Dec.{lit<}
use lib.Pow.{pow_pos}
use borrow.Author.Tests.{le-leb}
use Rattle.paper.specs.Answers.{ok}
use Rattle.paper.specs.Numbers.{byte_at}
use Rattle.paper.specs.Keys.{Kind, exact, ternary, lpm, range, optional, Key}
use Rattle.paper.specs.Entry.{Match, Entry, match_at, kind_rule, absent, match_of, matches_from, entry_of}
use Rattle.paper.specs.Dependence.{second_of, spell_out, with_record}
use Rattle.paper.proofs.Depends.{entry_read}
use Rattle.paper.proofs.AnotherRecord.{priority_stays, inside, each_record, still_conforms, Fits, written_reads, written_kept}

-- a record that is spelled out, of any kind and any width up to 128

second_below : (k : Kind) (w : ℕ) → second_of k w < 2 ^ w
second_below exact w = pow_pos w
second_below ternary w = pow_pos w
second_below lpm w = pow_pos w
second_below range w = let p : 0 < 2 ^ w = pow_pos w in omega (arith, p)
second_below optional w = pow_pos w

abbrev pub reading : Key → Match
reading x = record { first = 0; second = second_of x.kind x.width; length = 0 }

-- an absent key is read as these numbers
absent_is : (k : Kind) (w : ℕ) → absent k w ≡ record { first = 0; second = second_of k w; length = 0 }
absent_is exact w = refl
absent_is ternary w = refl
absent_is lpm w = refl
absent_is range w = refl
absent_is optional w = refl

absent_kept : (k : Kind) (w : ℕ) → kind_rule k w (record { first = 0; second = second_of k w; length = 0 }) ≡ true
absent_kept exact w = refl
absent_kept ternary w = refl
absent_kept lpm w = rw (le-leb 0 w (omega arith), zero-mod (2 ^ (w - 0)))
absent_kept range w = rw (le-leb 0 (2 ^ w - 1) (omega arith))
absent_kept optional w = refl

pub spelled_fits : (x : Key) → Fits x (reading x)
spelled_fits x =
    record {
      first = pow_pos x.width;
      second = second_below x.kind x.width;
      length = lit< tt;
      rule = absent_kept x.kind x.width;
    }

spelled_reads : (x : Key) → x.width ≤ 128 → (r : List ℕ) → byte_at r 0 ≡ 0 → match_of x (spell_out x) ≡ match_of x r
spelled_reads x wide r is-absent =
    written_reads x wide (reading x) (spelled_fits x) ∙ rw is-absent (sym (absent_is x.kind x.width))

-- records that read alike, one after another

module _ (entry other : List ℕ) where
  abbrev ReadAlike : Key → ℕ → Type 0
  ReadAlike y j = match_of y (match_at other j) ≡ match_of y (match_at entry j)

  alike_from : (ks : List Key) (j : ℕ) → ((i : ℕ) (y : Key) → get_elem? ks i ≡ some y → ReadAlike y (j + i))
      → matches_from other j ks ≡ matches_from entry j ks
  alike_from [] j each = refl
  alike_from (y ∷ ks) j each =
      ap₂ (λ (m : Match) (ms : List Match). m ∷ ms) (subst (ReadAlike y) (add-zero j) (each 0 y refl))
      (alike_from ks (suc j)
      (λ i z h. let next : j + suc i ≡ suc j + i = omega arith in subst (ReadAlike z) next (each (suc i) z h)))

  same_matches : (ks : List Key) → ((i : ℕ) (y : Key) → get_elem? ks i ≡ some y → ReadAlike y i) → matches_from other 0 ks ≡ matches_from entry 0 ks
  same_matches ks each = alike_from ks 0 (λ i y h. subst (ReadAlike y) (sym (zero-add i)) (each i y h))

-- the entry with the record spelled out

module _ (ks : List Key) (entry : List ℕ) (e : Entry) (k : ℕ) (x : Key) (wide : x.width ≤ 128) (conforms : entry_of ks entry ≡ ok e)
    (there : get_elem? ks k ≡ some x) (none_there : byte_at (match_at entry k) 0 ≡ 0) where
  pub same_entry : entry_of ks (with_record entry k (spell_out x)) ≡ ok e
  same_entry =
      let spelled = spell_out x in
      let reads : (j : ℕ) (y : Key) → get_elem? ks j ≡ some y → ReadAlike entry (with_record entry k spelled) y j =
      each_record ks entry e conforms k x there spelled refl (λ j y s. match_of y s ≡ match_of y (match_at entry j))
      (spelled_reads x wide (match_at entry k) none_there) (λ j y h. refl)
      in
      still_conforms ks entry e conforms k x there spelled refl (written_kept x wide (reading x) (spelled_fits x))
      ∙ ap₂ (λ n ms. ok (record { priority = n; matches = ms }))
      (priority_stays entry spelled k (inside ks entry e conforms k x there) refl) (same_matches entry (with_record entry k spelled) ks reads)
      ∙ ap ok (sym (entry_read ks entry e conforms).is)
