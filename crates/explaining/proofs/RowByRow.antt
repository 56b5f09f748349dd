-- The first false part, a row at a time: k rows are passed, of n.
use Prim.Native.Nat.{ℕ, suc, ◌+◌, ◌-◌, ◌≤◌, ◌<◌}
use native.Mathlib.Nat.{sub-zero}
use native.Mathlib.Numerals.{add-one}
use native.Mathlib.Omega.{arith}
use mathlib.Core.Path.{◌≡◌}
use mathlib.Core.Bool.{true, false}
use mathlib.Core.Option.{Option, none, some}
use mathlib.Core.List.{List}
use Rattle.paper.specs.Parts.{Part}
use Rattle.paper.specs.Explained.{holds_on, first_false}
use Rattle.keys.specs.Says.{keys_in}
use Rattle.operands.specs.Conforming.{entry_in}
use Rattle.parts.specs.Rows.{root_at, part_at, each}
use Rattle.judging.specs.Holding.{tree_holds}
use Rattle.explaining.specs.FirstFalse.{first_in}

module _ (text list entry nodes rows : List ℕ) (n : ℕ) where
  -- the first from row k on
  abbrev pub first_from : ℕ → Option Part
  first_from k = first_false (holds_on (keys_in list) (entry_in list entry)) (each (part_at text nodes rows) k (n - k))

  pub from_start : first_from 0 ≡ first_in text list entry nodes rows n
  from_start = rw sub-zero

  module _ (k : ℕ) where
    module _ (h : k < n) where
      more : n - k ≡ suc (n - (k + 1))
      more = omega arith

      pub false_here : tree_holds text list entry nodes (root_at rows k) ≡ false → first_from k ≡ some (part_at text nodes rows k)
      unfolding each
      false_here e = rw (more, e)

      pub true_here : tree_holds text list entry nodes (root_at rows k) ≡ true → first_from k ≡ first_from (k + 1)
      unfolding each
      true_here e = rw (more, e, add-one k)

    pub no_more : n ≤ k → first_from k ≡ none
    unfolding each
    no_more h =
        let past : n - k ≡ 0 = omega arith in
        rw past
