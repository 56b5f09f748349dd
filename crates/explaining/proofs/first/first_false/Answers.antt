-- `explaining::first_false` meets its contract: a part that is false is the first (`false_here`), one that is true is passed (`true_here`), and
-- after the last there is none (`no_more`).
use Prim.Native.Nat.{ℕ, ◌<◌}
use mathlib.Core.Path.{◌≡◌, sym, subst, ◌∙◌}
use mathlib.Core.Bool.{Bool}
use mathlib.Core.List.{List}
use Rattle.parts.specs.Rows.{root_at}
use Rattle.reading.specs.Parted.{Judgeable, Parted}
use Rattle.judging.specs.Holding.{tree_holds}
use Rattle.explaining.proofs.RowByRow.{false_here, true_here, no_more}
use Rattle.explaining.proofs.first.first_false.Goals as goal

-- what is judged at a part's root is judged of the part
judged : (text list entry nodes rows : List ℕ) (n k root : ℕ) {b : Bool} → Parted text list nodes rows n → k < n → root ≡ root_at rows k
    → (Judgeable text list nodes root → b ≡ tree_holds text list entry nodes root) → b ≡ tree_holds text list entry nodes (root_at rows k)
judged text list entry nodes rows n k root {b} parted more at told =
    subst (λ (i : ℕ). b ≡ tree_holds text list entry nodes i) at (told (subst (Judgeable text list nodes) (sym at) (parted.each k more)))

pub returns-then-not-holds : goal.returns-then-not-holds
returns-then-not-holds c text parted =
    let a = c.args in
    let k = c.loop-k.k in
    let more = c.loop-k-test.true in
    let told = judged text a.list.now a.entry.now a.nodes.now a.rows.now a.n k _ parted more c.root_at-root.ensures (λ j. c.holds.ensures text j.checked j.marked) in
    record {
      inside = more;
      first =
          sym (c.loop-k.invariant text parted)
          ∙ false_here text a.list.now a.entry.now a.nodes.now a.rows.now a.n k more (sym told ∙ c.if-not-holds.true);
    }

pub loop-k-preserved : goal.loop-k-preserved
loop-k-preserved c text parted =
    let a = c.args in
    let k = c.loop-k.k in
    let more = c.loop-k-test.true in
    let told = judged text a.list.now a.entry.now a.nodes.now a.rows.now a.n k _ parted more c.root_at-root.ensures (λ j. c.holds.ensures text j.checked j.marked) in
    sym (true_here text a.list.now a.entry.now a.nodes.now a.rows.now a.n k more (sym told ∙ c.if-not-holds.false))
    ∙ c.loop-k.invariant text parted

pub returns : goal.returns
returns c text parted =
    let a = c.args in
    sym (c.loop-k.invariant text parted) ∙ no_more text a.list.now a.entry.now a.nodes.now a.rows.now a.n c.loop-k.k c.loop-k-test.false
