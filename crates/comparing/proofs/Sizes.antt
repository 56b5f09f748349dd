-- The codes of a text's parts, each as it is joined, have two instructions more than the code of the text: the skip and the join of the first part,
-- which is joined to none.
use Prim.Native.Nat.{ℕ, zero, suc, ◌+◌}
use native.Mathlib.Omega.{arith}
use mathlib.Core.Path.{◌≡◌, refl, sym, ap, ◌∙◌}
use mathlib.Core.List.{List, [], ◌∷◌, ◌++◌, map, map-append, map-map}
use lib.ListN.{length}
use Rattle.paper.specs.Answers.{ok}
use Rattle.paper.specs.Keys.{Key}
use Rattle.paper.specs.Grammar.{Tree}
use Rattle.paper.specs.Meaning.{both}
use Rattle.paper.specs.Code.{Instruction}
use Rattle.paper.specs.Translating.{code_of}
use Rattle.paper.specs.Calls.{tree}
use Rattle.paper.specs.Parts.{Part, parts}
use Rattle.paper.specs.PartsDecide.{JoinedLeft, alone, then}
use Rattle.paper.specs.Comparing.{part_codes}
use Rattle.paper.proofs.RangedCode.{join_size}
use Rattle.paper.proofs.PartsTyped.{roots_joined}
use Rattle.keys.specs.Says.{keys_in}
use Rattle.parts.specs.Rows.{part_at, each, parts_on}
use Rattle.translating.proofs.AsJoined.{joined_length}
use Rattle.comparing.specs.Scratch.{code_at, size_all}

size_append : (cs ds : List (List Instruction)) → size_all (cs ++ ds) ≡ size_all cs + size_all ds
size_append [] ds = omega arith
size_append (c ∷ cs) ds = omega (arith, size_append cs ds)

module _ (ks : List Key) where
  sizes_joined : {ts : List Tree} {t : Tree} → JoinedLeft ts t → size_all (map (code_of ks) ts) ≡ length (code_of ks t) + 2
  unfolding code_of
  sizes_joined (alone t) = omega (arith, joined_length (code_of ks t))
  sizes_joined (then {ts = ts} {l = l} j at r) =
      omega (
        arith,
        ap size_all (map-append (code_of ks) ts (r ∷ [])),
        size_append (map (code_of ks) ts) (code_of ks r ∷ []),
        sizes_joined j,
        joined_length (code_of ks r),
        join_size both (code_of ks l) (code_of ks r),
      )

-- the codes of the parts that n rows have

pub codes_each : (text list nodes rows : List ℕ) (k n : ℕ)
    → map (λ (p : Part). code_of (keys_in list) p.root) (each (part_at text nodes rows) k n) ≡ each (code_at text list nodes rows) k n
unfolding each
codes_each text list nodes rows k zero = refl
codes_each text list nodes rows k (suc n) =
    ap (λ (cs : List (List Instruction)). code_at text list nodes rows k ∷ cs) (codes_each text list nodes rows (suc k) n)

pub row_codes : (text list nodes rows : List ℕ) (n : ℕ)
    → part_codes (keys_in list) (parts_on text nodes rows n) ≡ each (code_at text list nodes rows) 0 n
row_codes text list nodes rows n = codes_each text list nodes rows 0 n

pub rows_size : (text list nodes rows : List ℕ) (n : ℕ) (t : Tree) → tree text ≡ ok t → parts text ≡ ok (parts_on text nodes rows n)
    → size_all (each (code_at text list nodes rows) 0 n) ≡ length (code_of (keys_in list) t) + 2
rows_size text list nodes rows n t read divided =
    let ks = keys_in list in
    let ps = parts_on text nodes rows n in
    ap size_all (sym (row_codes text list nodes rows n))
    ∙ ap size_all (sym (map-map (code_of ks) (λ (p : Part). p.root) ps))
    ∙ sizes_joined ks (roots_joined text t ps read divided)
