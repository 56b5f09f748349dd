-- Down the left operands of a tree that others are joined into from the left stand the roots of those, from the last to the first.
use Prim.Native.Nat.{ℕ, zero, suc, ◌+◌, ◌-◌, ◌≤◌, ◌<◌}
use native.Mathlib.Nat.{sub-zero}
use native.Mathlib.Omega.{arith}
use mathlib.Core.Path.{◌≡◌, refl, sym, ap, ap₂, ◌∙◌}
use mathlib.Core.List.{List, [], ◌∷◌, ◌++◌, map, map-append, append_assoc, append-nil}
use lib.ListN.{length, set, length-append}
use Rattle.paper.specs.Tokens.{sequel}
use Rattle.paper.specs.Grammar.{Tree, joined}
use Rattle.paper.specs.BlocksRoundTrip.{All}
use Rattle.paper.specs.PartsDecide.{JoinedLeft, alone, then}
use Rattle.paper.proofs.Basics.{all_append}
use Rattle.paper.proofs.PartsTyped.{some_joined}
use Rattle.trees.specs.declared.node.Node.{Node}
use Rattle.trees.specs.declared.node.Node.TheVariants.{Without, Before, Between}
use Rattle.trees.specs.declared.node.Leaf.{Leaf}
use Rattle.trees.specs.declared.node.Leaf.TheVariants.{Truth, Number, Key, Field, Attribute}
use Rattle.trees.specs.declared.node.Operator.TheVariants.{Joins, Compares}
use Rattle.trees.specs.Nodes.{node_at, leaf_at, place_at, left_of, Below}
use Rattle.trees.specs.Standing.{tree_on, tree_at}
use Rattle.trees.proofs.Walks.{below, tree_at_lem}
use Rattle.parts.specs.Rows.{row_at, Has, root_at, each, stretches_on}
use Rattle.parts.specs.Spine.{spine, LeftOf, Rooted}
use Rattle.parts.proofs.Stored.{root_stored, stretches_kept}

-- a left operand stands below its operator

left_below : (i : ℕ) (n : Node) → Below i n → left_of n ≤ i
left_below i Without h = omega arith
left_below i (Before o) h = omega arith
left_below i (Between o left) h = omega (arith, h)

pub left_is : (nodes : List ℕ) (i : ℕ) (n : Node) → n ≡ node_at nodes i → LeftOf nodes i (left_of n)
left_is nodes i n e = record { is = ap left_of e; below = left_below i n (below nodes i n e) }

-- the trees at the roots

module _ (text nodes : List ℕ) where
  -- the operands of a tree that is joined by ";"
  operands : (i at : ℕ) (l r : Tree) → tree_at text nodes i ≡ joined at sequel l r
      → (tree_at text nodes (left_of (node_at nodes i)) ≡ l) × (tree_at text nodes (i - 1) ≡ r)
  operands i at l r e = go (leaf_at nodes i) (node_at nodes i) (sym (tree_at_lem text nodes i (node_at nodes i) refl) ∙ e)
    where
      go : (f : Leaf) (n : Node) → tree_on text (place_at nodes i) f n (tree_at text nodes (left_of n)) (tree_at text nodes (i - 1)) ≡ joined at sequel l r
          → (tree_at text nodes (left_of n) ≡ l) × (tree_at text nodes (i - 1) ≡ r)
      go f (Between (Joins o) left) h = (cc, cc)
      go f (Between (Compares c) left) h = absurd (let z : ◌≡◌ {A = ℕ} 0 1 = cc in omega arith)
      go f (Before o) h = absurd (let z : ◌≡◌ {A = ℕ} 0 1 = cc in omega arith)
      go (Truth b) Without h = absurd (let z : ◌≡◌ {A = ℕ} 0 1 = cc in omega arith)
      go (Number base x y z w) Without h = absurd (let z : ◌≡◌ {A = ℕ} 0 1 = cc in omega arith)
      go (Key w) Without h = absurd (let z : ◌≡◌ {A = ℕ} 0 1 = cc in omega arith)
      go (Field w f) Without h = absurd (let z : ◌≡◌ {A = ℕ} 0 1 = cc in omega arith)
      go (Attribute f) Without h = absurd (let z : ◌≡◌ {A = ℕ} 0 1 = cc in omega arith)

  pub roots_are : (n i : ℕ) {ts : List Tree} {t : Tree} → tree_at text nodes i ≡ t → JoinedLeft ts t → length ts ≡ n
      → map (tree_at text nodes) (spine nodes i n) ≡ ts
  unfolding spine
  roots_are zero i e j h = absurd (omega (arith, some_joined j, h))
  roots_are (suc zero) i e (alone t) h = ap (λ (u : Tree). u ∷ []) e
  roots_are (suc zero) i e (then {ts = ts} j at r) h = absurd (omega (arith, some_joined j, length-append ts (r ∷ []), h))
  roots_are (suc (suc n)) i e (alone t) h = absurd (omega (arith, h))
  roots_are (suc (suc n)) i e (then {ts = ts} {l = l} j at r) h =
      let (left, right) = operands i at l r e in
      let low = left_of (node_at nodes i) in
      map-append (tree_at text nodes) (spine nodes low (suc n)) ((i - 1) ∷ [])
      ∙ ap₂ (λ (us : List Tree) (u : Tree). us ++ (u ∷ [])) (roots_are (suc n) low left j (omega (arith, length-append ts (r ∷ []), h))) right

-- and none of them stands higher than the whole

all_lower : (low high : ℕ) (s : List ℕ) → low ≤ high → All (λ r. r ≤ low) s → All (λ r. r ≤ high) s
all_lower low high [] h all = tt
all_lower low high (r ∷ s) h all = (omega (arith, all.0), all_lower low high s h all.1)

pub spine_below : (nodes : List ℕ) (n i : ℕ) → All (λ r. r ≤ i) (spine nodes i n)
unfolding spine
spine_below nodes zero i = tt
spine_below nodes (suc zero) i = (omega arith, tt)
spine_below nodes (suc (suc n)) i =
    let low = left_of (node_at nodes i) in
    all_append (λ r. r ≤ i) (spine nodes low (suc n)) ((i - 1) ∷ [])
    (all_lower low i (spine nodes low (suc n)) (left_is nodes i (node_at nodes i) refl).below (spine_below nodes (suc n) low))
    (omega arith, tt)

-- the loop from the last part to the first: those from index k on have their roots, and the others are joined at a node

pub record Naming (nodes : List ℕ) (root : ℕ) (before rows : List ℕ) (n at k : ℕ) : Type 0 where
  pub inside : k ≤ n
  pub below : at ≤ root
  pub says : spine nodes root n ≡ spine nodes at k ++ each (root_at rows) k (n - k)
  pub kept : stretches_on rows n ≡ stretches_on before n

pub naming_start : (nodes : List ℕ) (root : ℕ) (rows : List ℕ) (n : ℕ) → Naming nodes root rows rows n root n
unfolding each
naming_start nodes root rows n =
    let none : n - n ≡ 0 = omega arith in
    record { inside = omega arith; below = omega arith; says = rw none (sym (append-nil (spine nodes root n))); kept = refl }

-- of more than one
spine_split : (nodes : List ℕ) (i k : ℕ) → 1 < k → spine nodes i k ≡ spine nodes (left_of (node_at nodes i)) (k - 1) ++ ((i - 1) ∷ [])
unfolding spine
spine_split nodes i zero h = absurd (omega arith)
spine_split nodes i (suc zero) h = absurd (omega arith)
spine_split nodes i (suc (suc m)) h = let e : suc (suc m) - 1 ≡ suc m = omega arith in rw e

module _ (nodes : List ℕ) (root : ℕ) (before rows after : List ℕ) (n at k : ℕ) (g : Naming nodes root before rows n at k) where
  pub naming_next : (l : ℕ) → 1 < k → Has rows (k - 1) → after ≡ set rows (row_at (k - 1) + 2) (at - 1) → LeftOf nodes at l
      → Naming nodes root before after n l (k - 1)
  naming_next l h room put left =
      let low = spine nodes l (k - 1) in
      let split : spine nodes at k ≡ low ++ ((at - 1) ∷ []) = spine_split nodes at k h ∙ ap (λ (i : ℕ). spine nodes i (k - 1) ++ ((at - 1) ∷ [])) (sym left.is) in
      let up : suc (k - 1) ≡ k = omega arith in
      let more : suc (n - k) ≡ n - (k - 1) = omega (arith, g.inside) in
      let stored : (at - 1) ∷ each (root_at rows) k (n - k) ≡ each (root_at after) (k - 1) (n - (k - 1)) =
      ap (λ (j : ℕ). (at - 1) ∷ each (root_at rows) j (n - k)) (sym up)
      ∙ sym (root_stored rows after (k - 1) (at - 1) room put (n - k))
      ∙ ap (each (root_at after) (k - 1)) more in
      record {
        inside = omega (arith, g.inside);
        below = omega (arith, g.below, left.below);
        says =
            g.says ∙ ap (λ (s : List ℕ). s ++ each (root_at rows) k (n - k)) split
            ∙ append_assoc low ((at - 1) ∷ []) (each (root_at rows) k (n - k))
            ∙ ap (λ (s : List ℕ). low ++ s) stored;
        kept = stretches_kept rows after (k - 1) (at - 1) room put n ∙ g.kept;
      }

  -- the first
  pub naming_first : k ≡ 1 → Has rows 0 → after ≡ set rows (row_at 0 + 2) at → Rooted nodes root before after n
  unfolding spine
  naming_first one room put =
      let up : n ≡ suc (n - 1) = omega (arith, g.inside) in
      let says : spine nodes root n ≡ at ∷ each (root_at rows) 1 (n - 1) = rw one at g.says in
      record {
        roots = ap (each (root_at after) 0) up ∙ root_stored rows after 0 at room put (n - 1) ∙ sym says;
        kept = stretches_kept rows after 0 at room put n ∙ g.kept;
      }

-- of no parts
pub naming_none : (nodes : List ℕ) (root : ℕ) (before rows : List ℕ) (n at k : ℕ) → Naming nodes root before rows n at k → k ≡ 0
    → Rooted nodes root before rows n
unfolding spine
naming_none nodes root before rows n at k g none =
    let says : spine nodes root n ≡ each (root_at rows) 0 (n - 0) = rw none at g.says in
    record { roots = ap (each (root_at rows) 0) (sym (sub-zero n)) ∙ sym says; kept = g.kept }
