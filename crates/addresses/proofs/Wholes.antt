-- Whole strings: so many parts, and groups on both sides of a "::".
use Prim.Native.Nat.{ℕ, zero, suc, ◌+◌, ◌-◌, ◌%◌, ◌^◌, ◌≤◌, ◌<◌}
use mathlib.Core.Path.{◌≡◌, refl, sym, ap, ◌∙◌}
use mathlib.Core.Bool.{true}
use mathlib.Core.Option.{some}
use mathlib.Core.List.{List, [], ◌∷◌, ◌++◌}
use native.Mathlib.Nat.{mod-mod, mod-eq_of_lt, lt_of_lt_of_le}
use native.Mathlib.Omega.{arith}
use borrow.Author.Tests.{eq-eqb, le-leb}
use lib.ListN.{length, replicate, length-append, length-map, length-replicate}
use lib.Dec.{lit<}
use Rattle.paper.specs.Numbers.{digits_after, in_base}
use Rattle.paper.specs.Addresses.{Scheme, ipv6, every, is_group, groups, eight_groups, gapped}
use Rattle.number.specs.Values.{value}
use Rattle.addresses.specs.declared.groups.PartsRead.{PartsRead}
use Rattle.addresses.specs.Reads.{scale_of, numbers, parts_of, whole_of, GroupedAs}
use Rattle.addresses.proofs.Digits.{Below, after_lt, after_mod, after_append, parts_below, parts_lt}

-- a string of so many parts
module _ (k : Scheme) (wanted : ℕ) (ps : List (List ℕ)) (most : ℕ) (r : PartsRead) (g : GroupedAs k ps 0 most r) where
  pub whole_good : scale_of k ^ wanted ≤ 2 ^ 128 → r.count ≡ wanted → some (value r.number) ≡ whole_of k wanted ps
  whole_good l c =
      let n : length ps ≡ wanted = sym g.counted ∙ c in
      let m : in_base (scale_of k) (numbers k ps) < scale_of k ^ wanted = rw n at (parts_lt k ps g.told) in
      rw (eq-eqb (length ps) wanted n, g.told) (ap some (g.grown ∙ mod-eq_of_lt (lt_of_lt_of_le m l)))

-- no part
pub none_grouped : (r : PartsRead) → r.count ≡ 0 → value r.number < 2 ^ 128 → GroupedAs ipv6 [] (value r.number) 0 r
none_grouped r c l = record { told = refl; counted = c; grown = sym (mod-eq_of_lt l); few = omega (arith, c) }

pub no_bytes : (s : List ℕ) → length s ≡ 0 → s ≡ []
no_bytes [] e = refl
no_bytes (b ∷ s) e = absurd (omega arith)

pub some_groups : (s : List ℕ) → (length s ≡ 0 → ⊥) → groups s ≡ parts_of ipv6 s
some_groups [] e = absurd (e refl)
some_groups (b ∷ s) e = refl

-- eight groups: where there is no byte there are not eight parts either
pub eight : (s : List ℕ) → whole_of ipv6 8 (parts_of ipv6 s) ≡ eight_groups s
eight [] = refl
eight (b ∷ s) = refl

below_append : (base : ℕ) (xs ys : List ℕ) → Below base xs → Below base ys → Below base (xs ++ ys)
below_append base [] ys h l = l
below_append base (x ∷ xs) ys h l = (h.0, below_append base xs ys h.1 l)

below_zeros : (base n : ℕ) → 0 < base → Below base (replicate n 0)
below_zeros base zero h = tt
below_zeros base (suc n) h = (h, below_zeros base n h)

module _ (ps qs : List (List ℕ)) where
  pub gapped_good : every is_group ps ≡ true → every is_group qs ≡ true → length ps + length qs ≤ 7 → (f z n : ℕ)
      → f ≡ digits_after 65536 0 (numbers ipv6 ps) % 2 ^ 128
      → z ≡ digits_after 65536 f (replicate (8 - (length ps + length qs)) 0) % 2 ^ 128
      → n ≡ digits_after 65536 z (numbers ipv6 qs) % 2 ^ 128 → some n ≡ gapped ps qs
  gapped_good e g l f z n hf hz hn =
      let zs : List ℕ = replicate (8 - (length ps + length qs)) 0 in
      let all = numbers ipv6 ps ++ zs ++ numbers ipv6 qs in
      let M : ℕ = 2 ^ 128 in
      let few : length all ≡ 8 =
      simp (length-append, length-map, length-replicate) (omega arith)
      in
      let b = below_append 65536 (numbers ipv6 ps ++ zs) (numbers ipv6 qs)
      (below_append 65536 (numbers ipv6 ps) zs (parts_below ipv6 ps e) (below_zeros 65536 (8 - (length ps + length qs)) (lit< tt))) (parts_below ipv6 qs g) in
      let m : in_base 65536 all < M = rw few at (after_lt 65536 all 0 b) in
      let x = digits_after 65536 0 (numbers ipv6 ps) in
      let y = digits_after 65536 x zs in
      let s1 : z % M ≡ y % M = ap (λ (v : ℕ). v % M) hz ∙ mod-mod _ _ ∙ after_mod 65536 M zs f x (ap (λ (v : ℕ). v % M) hf ∙ mod-mod _ _) in
      let s2 : n ≡ digits_after 65536 y (numbers ipv6 qs) % M = hn ∙ after_mod 65536 M (numbers ipv6 qs) z y s1 in
      let s3 : in_base 65536 all ≡ digits_after 65536 y (numbers ipv6 qs) =
      after_append 65536 (numbers ipv6 ps ++ zs) (numbers ipv6 qs) 0 ∙ ap (λ (v : ℕ). digits_after 65536 v (numbers ipv6 qs)) (after_append 65536 (numbers ipv6 ps) zs 0)
      in
      rw (le-leb (length ps + length qs) 7 l, e, g) (ap some (s2 ∙ ap (λ (v : ℕ). v % M) (sym s3) ∙ mod-eq_of_lt m))
