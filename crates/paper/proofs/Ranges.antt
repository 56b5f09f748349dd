-- Low is below high, equal to it or above it, and in each case the tests compute. A match of one value keeps its kind's rule because a
-- number below 2^W has no bit outside W ones.
use Prim.Native.Nat.{ℕ, ◌-◌, ◌^◌, ◌<◌}
use native.Mathlib.Nat.{mod-eq_of_lt, mod-one, sub_self}
use native.Mathlib.Omega.{arith}
use mathlib.Core.Path.{◌≡◌, refl, ◌∙◌}
use mathlib.Core.Bool.{Bool, true, false, not, ◌&&◌, ◌||◌}
use lib.Bits.{bit_and, and_mask}
use lib.Dec.{eqb, ltb, leb}
use borrow.Author.Tests.{ltb-true, ltb-false, eqb-true, eqb-false, le-leb, lt-leb, eq-eqb, ne_eqb}
use Rattle.paper.specs.Keys.{exact, ternary, lpm, range, optional}
use Rattle.paper.specs.Ranges.{OnlyWider, OneValueConforms}

module _ (low high : ℕ) where
  abbrev before : Bool
  before = ltb low high || eqb low 0 && eqb high 0

  abbrev one : Bool
  one = eqb low high && not (eqb low 0)

  abbrev Wider : Type 0
  Wider = (leb low high ≡ (before || one)) × ((before && one) ≡ false)

  below : low < high → ltb low high ≡ true → Wider
  below h l = rw (l, le-leb low high (omega arith), ne_eqb low high (λ e. omega arith)) (refl, refl)

  same : ltb low high ≡ false → low ≡ high → Wider
  same l e = rw (l, le-leb low high (omega arith), eq-eqb low high e, ← e) (go (eqb low 0))
    where
      go : (z : Bool) → (true ≡ (z && z || not z)) × ((z && z && not z) ≡ false)
      go true = (refl, refl)
      go false = (refl, refl)

  above : high < low → ltb low high ≡ false → Wider
  above h l = rw (l, lt-leb low high h, ne_eqb low 0 (λ e. omega arith), ne_eqb low high (λ e. omega arith)) (refl, refl)

  wider : Wider
  wider = go (ltb low high) refl (eqb low high) refl
    where
      go : (l : Bool) → ltb low high ≡ l → (e : Bool) → eqb low high ≡ e → Wider
      go true l e d = below (ltb-true low high l) l
      go false l true e = same l (eqb-true low high e)
      go false l false e =
          let apart = eqb-false low high e in
          let least = ltb-false low high l in
          above (omega arith) l

pub only_wider : OnlyWider
only_wider =
    record {
      taken = λ w m. taken (eqb m.length 0) m.first m.second;
      newly = λ m. newly (eqb m.length 0) m.first m.second;
    }
  where
    taken : (none : Bool) (low high : ℕ) → (none && leb low high) ≡ (none && before low high || none && one low high)
    taken true low high = (wider low high).0
    taken false low high = refl

    newly : (none : Bool) (low high : ℕ) → ((none && before low high) && (none && one low high)) ≡ false
    newly true low high = (wider low high).1
    newly false low high = refl

within_ones : (w n : ℕ) → n < 2 ^ w → eqb (bit_and n (2 ^ w - 1)) n ≡ true
within_ones w n h = eq-eqb (bit_and n (2 ^ w - 1)) n (and_mask n w ∙ mod-eq_of_lt h)

pub one_value_conforms : OneValueConforms
one_value_conforms exact w n h = refl
one_value_conforms ternary w n h = within_ones w n h
one_value_conforms lpm w n h = rw (le-leb w w (omega arith), sub_self w, mod-one n)
one_value_conforms range w n h = le-leb n n (omega arith)
one_value_conforms optional w n h = rw (within_ones w n h, eq-eqb (2 ^ w - 1) (2 ^ w - 1) refl) (go (eqb (2 ^ w - 1) 0))
  where
    go : (z : Bool) → (z || true) ≡ true
    go true = refl
    go false = refl
