-- A file counted a stretch at a time: what a stretch leaves room for, and how many it can tell of.
use Prim.Native.Nat.{ℕ, zero, suc, ◌+◌, ◌≤◌}
use native.Mathlib.Omega.{arith}
use mathlib.Core.Path.{◌≡◌, ap, ◌∙◌}
use mathlib.Core.List.{List, [], ◌∷◌, map}
use lib.ListN.{length, get_or, length-map}
use Rattle.paper.specs.Keys.{Key}
use Rattle.paper.specs.Grammar.{Tree}
use Rattle.paper.specs.Parts.{Part}
use Rattle.paper.specs.Counting.{entry_size, whole_in, entries_in, is_accepted, is_violated, is_refused, judged, false_of, counts_of}
use Rattle.paper.proofs.EntriesLaid.{laid_length}
use Rattle.counting.specs.declared.total.Totals.{Totals}
use Rattle.counting.specs.Tallied.{Spare, Tells}
use Rattle.counting.proofs.Growing.{raised_length, raised_at}
use Rattle.counting.proofs.EntryByEntry.{count_most}

module _ (ks : List Key) (t : Tree) (ps : List Part) (s before after : List ℕ) (r : Totals) (told : Tells (counts_of ks t ps s) before after r) where
  abbrev es : List (List ℕ)
  es = entries_in ks s

  whole : length es ≡ whole_in ks s
  whole = laid_length (entry_size ks) (whole_in ks s) s

  each_most : (qs : List Part) (k : ℕ) → get_or (map (false_of ks es) qs) k 0 ≤ length es
  each_most [] k = omega arith
  each_most (q ∷ qs) zero = count_most (λ e. is_violated (judged ks q.root e)) es
  each_most (q ∷ qs) (suc k) = each_most qs k

  -- where there was room for this stretch and more, there is for more
  pub spare_left : (more : ℕ) → Spare (length ps) (whole_in ks s + more) before → Spare (length ps) more after
  unfolding counts_of
  spare_left more spare =
      let ms = map (false_of ks es) ps in
      let long : length ms ≡ length ps = length-map ps (false_of ks es) in
      let room : length ms ≤ length before = omega (arith, long, spare.there) in
      record {
        there = omega (arith, ap length told.numbers, raised_length ms before room, spare.there);
        below =
            λ k h.
            let here = ap (λ (l : List ℕ). get_or l k 0) told.numbers ∙ raised_at ms before room k (omega (arith, long)) in
            omega (arith, here, each_most ps k, whole, spare.below k h);
      }

  -- no more than there are whole entries
  pub told_few : (r.accepted ≤ whole_in ks s) × (r.violated ≤ whole_in ks s) × (r.refused ≤ whole_in ks s)
  unfolding counts_of
  told_few = (
    omega (arith, told.accepted, count_most (λ e. is_accepted (judged ks t e)) es, whole),
    omega (arith, told.violated, count_most (λ e. is_violated (judged ks t e)) es, whole),
    omega (arith, told.refused, count_most (λ e. is_refused (judged ks t e)) es, whole),
  )
