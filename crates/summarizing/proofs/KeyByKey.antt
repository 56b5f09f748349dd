-- The keys of a set one at a time: k of them are passed.
use Prim.Native.Nat.{ℕ, suc, ◌+◌, ◌-◌, ◌*◌, ◌/◌, ◌%◌, ◌≤◌, ◌<◌}
use native.Mathlib.Nat.{sub-zero}
use native.Mathlib.Numerals.{add-one}
use native.Mathlib.Omega.{arith}
use mathlib.Core.Path.{◌≡◌, refl, ◌∙◌, ap}
use mathlib.Core.Bool.{Bool, true, false, not, ◌&&◌, ◌||◌, or-true}
use mathlib.Core.List.{List}
use lib.Dec.{eqb}
use Rattle.paper.specs.Tokens.{same_bytes}
use Rattle.paper.specs.Keys.{most_keys}
use Rattle.paper.specs.Entry.{match_at}
use Rattle.paper.specs.Named.{bit_of, set_from, set_of}
use Rattle.paper.specs.Rechecking.{same_from}
use Rattle.paper.proofs.KeySets.{high_bits, low_is}

module _ (p : ℕ → Bool) where
  -- the bits of the keys from k on, of which that of key k is the lowest
  abbrev pub bits_from : ℕ → ℕ
  bits_from k = set_from p k (most_keys - k)

  pub all_bits : set_of p ≡ bits_from 0
  unfolding set_of
  all_bits = refl

  module _ (k : ℕ) (h : k < most_keys) where
    lowest : bits_from k ≡ bit_of (p k) + 2 * bits_from (k + 1)
    lowest =
        let more : most_keys - k ≡ suc (most_keys - (k + 1)) = omega arith in
        rw (more, add-one k)

    pub named_here : eqb (bits_from k % 2) 1 ≡ p k
    named_here = ap (λ (x : ℕ). eqb (x % 2) 1) lowest ∙ low_is (p k) (bits_from (k + 1))

    pub next_bits : bits_from k / 2 ≡ bits_from (k + 1)
    next_bits = ap (λ (x : ℕ). x / 2) lowest ∙ high_bits (p k) (bits_from (k + 1))

  module _ (old new : List ℕ) (n : ℕ) where
    -- whether no named record from k on differs
    abbrev pub same_on : ℕ → Bool
    same_on k = same_from p old new k (n - k)

    pub from_start : same_on 0 ≡ same_from p old new 0 n
    from_start = rw sub-zero

    module _ (k : ℕ) where
      abbrev same : Bool
      same = same_bytes (match_at old k) (match_at new k)

      module _ (h : k < n) where
        here : same_on k ≡ (not (p k) || same) && same_on (k + 1)
        here =
            let more : n - k ≡ suc (n - (k + 1)) = omega arith in
            rw (more, add-one k)

        pub not_named : p k ≡ false → same_on k ≡ same_on (k + 1)
        not_named e = here ∙ ap (λ (b : Bool). (not b || same) && same_on (k + 1)) e

        pub same_here : same ≡ true → same_on k ≡ same_on (k + 1)
        same_here e = here ∙ ap (λ (b : Bool). (not (p k) || b) && same_on (k + 1)) e ∙ ap (λ (b : Bool). b && same_on (k + 1)) (or-true (not (p k)))

        pub other_here : p k ≡ true → same ≡ false → same_on k ≡ false
        other_here e f = here ∙ rw (e, f)

      pub none_left : n ≤ k → same_on k ≡ true
      none_left h =
          let past : n - k ≡ 0 = omega arith in
          rw past
