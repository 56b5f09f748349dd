-- `counting::tally` meets its contract: each turn of its loop counts one entry more (`adds_more`, `laid_next`), for whose numbers and totals there is
-- room, since there are no more whole entries than bytes.
use Prim.Native.Nat.{ℕ, ◌/◌, ◌^◌, ◌<◌}
use native.Mathlib.Nat.{div-le_self}
use native.Mathlib.Omega.{arith}
use mathlib.Core.Path.{◌≡◌, sym, ap, subst, ◌∙◌}
use mathlib.Core.List.{List, [], ◌∷◌, ◌++◌}
use lib.ListN.{length}
use Rattle.paper.specs.Counting.{whole_in, laid_out, entries_in}
use Rattle.paper.proofs.EntriesLaid.{laid_length, laid_next}
use Rattle.keys.specs.Says.{keys_in}
use Rattle.trees.specs.Standing.{tree_at}
use Rattle.parts.specs.Rows.{part_at}
use Rattle.counting.specs.Tallied.{Adds}
use Rattle.counting.proofs.EntryByEntry.{adds_more, adds_few, adds_spare, adds_tells}
use Rattle.counting.proofs.entries.tally.Goals as goal

pub add_entry-requires : goal.add_entry-requires
add_entry-requires c =
    let k = c.loop-k.k in
    let size = c.entry_size-size.result in
    let entries = c.args.entries.now in
    let long = laid_length size k entries in
    let another : k < length entries / size = omega (arith, c.loop-k-test.true) in
    let below : k < whole_in (keys_in c.args.list.now) entries =
    subst (λ (m : ℕ). k < length entries / m) c.entry_size-size.ensures another in
    record {
      by_index = c.requires.by_index;
      spare = adds_spare _ _ _ _ (c.loop-k.invariant.1 _ c.requires.by_index.1) c.requires.spare (omega (arith, long, below));
    }

-- the totals of the entries before it are at most as many as these, and of it alone at most one
pub plus-totals-requires : goal.plus-totals-requires
plus-totals-requires c =
    let (text, p) = c.requires.by_index in
    let size = c.entry_size-size.result in
    let entries = c.args.entries.now in
    let long = laid_length size c.loop-k.k entries in
    let (a, v, r) = adds_few _ _ _ _ (c.loop-k.invariant.1 text p) in
    let (a1, v1, r1) = adds_few _ _ _ _ (c.add_entry.ensures text p) in
    let another : c.loop-k.k < length entries / size = omega (arith, c.loop-k-test.true) in
    let few : length entries / size < 2 ^ 64 = omega (arith, div-le_self (length entries) size) in
    (omega (arith, a, a1, long, another, few), omega (arith, v, v1, long, another, few), omega (arith, r, r1, long, another, few))

-- one entry more
pub loop-k-preserved : goal.loop-k-preserved
loop-k-preserved c =
    let a = c.args in
    let added = c.add_entry in
    let size = c.entry_size-size.result in
    let es = laid_out size c.loop-k.k a.entries.now in
    let laid = ap (λ (e : List ℕ). es ++ (e ∷ [])) c.entry_at-entry.ensures ∙ sym (laid_next size c.loop-k.k a.entries.now) in (
      omega (arith, added.auto, c.loop-k.invariant.0),
      λ text p.
          subst (λ (fs : List (List ℕ)). Adds (keys_in a.list.now) (tree_at text a.nodes.now p.root) a.n (part_at text a.nodes.now a.rows.now) fs a.counts.now added.new.counts c.plus-totals.result) laid
          (adds_more _ _ _ _ (c.loop-k.invariant.1 text p) (added.ensures text p) c.plus-totals.ensures),
    )

pub returns : goal.returns
returns c text p =
    let a = c.args in
    let l = c.loop-k in
    let size = c.entry_size-size.result in
    let whole : l.k ≡ length a.entries.now / size = omega (arith, c.loop-k-test.false, l.auto) in
    let es : laid_out size l.k a.entries.now ≡ entries_in (keys_in a.list.now) a.entries.now =
    ap (λ (k : ℕ). laid_out size k a.entries.now) whole
    ∙ ap (λ (m : ℕ). laid_out m (length a.entries.now / m) a.entries.now) c.entry_size-size.ensures in
    adds_tells (keys_in a.list.now) (tree_at text a.nodes.now p.root) a.n (part_at text a.nodes.now a.rows.now) a.entries.now a.counts.now
    l.counts l.totals c.requires.spare.there
    (subst (λ (fs : List (List ℕ)). Adds (keys_in a.list.now) (tree_at text a.nodes.now p.root) a.n (part_at text a.nodes.now a.rows.now) fs a.counts.now l.counts l.totals) es (l.invariant.1 text p))
