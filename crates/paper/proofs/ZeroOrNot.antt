-- Compared with 0, a key or a field of it is true of one match of the key and false of another, whatever its kind and width: the match of
-- the one value 1 is never 0, in no field; the match of the one value 0 is 0 but for its mask and prefix length, which an absent key has 0.
use Prim.Native.Nat.{ℕ, ◌-◌, ◌^◌, ◌≤◌, ◌<◌}
use native.Mathlib.Nat.{zero-mod}
use native.Mathlib.Omega.{arith}
use mathlib.Core.Path.{◌≡◌, refl}
use mathlib.Core.Bool.{Bool, true, false, false≢true}
use mathlib.Core.Option.{Option, none, some}
use mathlib.Core.List.{List}
use lib.IntN.{pos}
use lib.Dec.{eqb}
use lib.Pow.{pow_pos, pow_mono}
use borrow.Author.Tests.{eq-eqb, ne_eqb, lt-ltb}
use Rattle.paper.specs.Numbers.{same_whole}
use Rattle.paper.specs.Tokens.{plain, equal}
use Rattle.paper.specs.Keys.{Kind, exact, ternary, lpm, range, optional, kind_no, Key}
use Rattle.paper.specs.Entry.{Match, Entry}
use Rattle.paper.specs.Grammar as G
use Rattle.paper.specs.Grammar.{Tree}
use Rattle.paper.specs.Types.{Field, value, mask, prefix_length, low, high, has}
use Rattle.paper.specs.Meaning.{Value, truth, whole, matched, one_value, same_match, value_of}
use Rattle.paper.specs.Dependence.{second_of}
use Rattle.paper.proofs.Ranges.{one_value_conforms}
use Rattle.paper.proofs.AnotherRecord.{Fits}
use Rattle.paper.proofs.SpelledOut.{reading, spelled_fits}
use Rattle.paper.proofs.NamedOperands.{offers, worth_of}

-- the comparison

abbrev pub comparison : Tree → Tree
comparison o = G.compared 0 equal o (G.number 0 (plain 0))

abbrev pub is_zero : Value → Bool
is_zero (truth b) = false
is_zero (whole z) = same_whole z (pos 0)
is_zero (matched k w m) = same_match m (one_value k w 0)

abbrev NotBool : Value → Type 0
NotBool (truth b) = ⊥
NotBool (whole z) = Unit {0}
NotBool (matched k w m) = Unit {0}

not_bool : (x : Key) (f : Option Field) (m : Match) → NotBool (worth_of x f m)
not_bool x none m = tt
not_bool x (some value) m = tt
not_bool x (some mask) m = tt
not_bool x (some prefix_length) m = tt
not_bool x (some low) m = tt
not_bool x (some high) m = tt

against_zero : (ks : List Key) (e : Entry) (o : Tree) (v : Value) → NotBool v → value_of ks e o ≡ some v
    → value_of ks e (comparison o) ≡ some (truth (is_zero v))
unfolding value_of
against_zero ks e o (truth b) n h = absurd n
against_zero ks e o (whole z) n h = rw h
against_zero ks e o (matched k w m) n h = rw (h, eq-eqb (kind_no k) (kind_no k) refl, zero-mod (2 ^ w), lt-ltb 0 (2 ^ w) (pow_pos w))

pub worth_against_zero : (ks : List Key) (e : Entry) (o : Tree) (x : Key) (f : Option Field) (m : Match) → value_of ks e o ≡ some (worth_of x f m)
    → value_of ks e (comparison o) ≡ some (truth (is_zero (worth_of x f m)))
worth_against_zero ks e o x f m = against_zero ks e o (worth_of x f m) (not_bool x f m)

-- the matches

first_is : (k : Kind) (w n : ℕ) → (one_value k w n).first ≡ n
first_is exact w n = refl
first_is ternary w n = refl
first_is lpm w n = refl
first_is range w n = refl
first_is optional w n = refl

second_below : (k : Kind) (w n : ℕ) → n < 2 ^ w → (one_value k w n).second < 2 ^ w
second_below exact w n h = pow_pos w
second_below ternary w n h = omega (arith, h)
second_below lpm w n h = pow_pos w
second_below range w n h = h
second_below optional w n h = omega (arith, h)

length_below : (k : Kind) (w n : ℕ) → w ≤ 128 → (one_value k w n).length < 256
length_below exact w n h = omega arith
length_below ternary w n h = omega arith
length_below lpm w n h = omega (arith, h)
length_below range w n h = omega arith
length_below optional w n h = omega arith

pub one_fits : (x : Key) (n : ℕ) → x.width ≤ 128 → n < 2 ^ x.width → Fits x (one_value x.kind x.width n)
one_fits x n wide h =
    let k = x.kind in
    let w = x.width in
    record {
      first = rw (first_is k w n) h;
      second = second_below k w n h;
      length = length_below k w n wide;
      rule = one_value_conforms k w n h;
    }

-- a match of which the comparison holds

abbrev pub zero_of : Key → Option Field → Match
zero_of x none = one_value x.kind x.width 0
zero_of x (some value) = one_value x.kind x.width 0
zero_of x (some mask) = reading x
zero_of x (some prefix_length) = reading x
zero_of x (some low) = one_value x.kind x.width 0
zero_of x (some high) = one_value x.kind x.width 0

pub zero_fits : (x : Key) (f : Option Field) → x.width ≤ 128 → Fits x (zero_of x f)
zero_fits x none wide = one_fits x 0 wide (pow_pos x.width)
zero_fits x (some value) wide = one_fits x 0 wide (pow_pos x.width)
zero_fits x (some mask) wide = spelled_fits x
zero_fits x (some prefix_length) wide = spelled_fits x
zero_fits x (some low) wide = one_fits x 0 wide (pow_pos x.width)
zero_fits x (some high) wide = one_fits x 0 wide (pow_pos x.width)

same_self : (m : Match) → same_match m m ≡ true
same_self m = rw (eq-eqb m.first m.first refl, eq-eqb m.second m.second refl, eq-eqb m.length m.length refl)

-- a kind that has no such field
none_such : {A : Type 0} → false ≡ true → A
none_such h = absurd (false≢true h)

mask_zero : (k : Kind) (w : ℕ) → has k mask ≡ true → second_of k w ≡ 0
mask_zero exact w h = none_such h
mask_zero ternary w h = refl
mask_zero lpm w h = none_such h
mask_zero range w h = none_such h
mask_zero optional w h = refl

high_is : (k : Kind) (w n : ℕ) → has k high ≡ true → (one_value k w n).second ≡ n
high_is exact w n h = none_such h
high_is ternary w n h = none_such h
high_is lpm w n h = none_such h
high_is range w n h = refl
high_is optional w n h = none_such h

pub is_zero_lem : (x : Key) (f : Option Field) → offers x.kind f ≡ true → is_zero (worth_of x f (zero_of x f)) ≡ true
is_zero_lem x none h = same_self (one_value x.kind x.width 0)
is_zero_lem x (some value) h = rw (first_is x.kind x.width 0)
is_zero_lem x (some mask) h = rw (mask_zero x.kind x.width h)
is_zero_lem x (some prefix_length) h = refl
is_zero_lem x (some low) h = rw (first_is x.kind x.width 0)
is_zero_lem x (some high) h = rw (high_is x.kind x.width 0 h)

-- and the match of the one value 1, of which it does not

ones_not_zero : (w : ℕ) → 1 < 2 ^ w → eqb (2 ^ w - 1) 0 ≡ false
ones_not_zero w h = ne_eqb (2 ^ w - 1) 0 (λ e. omega (arith, h, e))

mask_not_zero : (k : Kind) (w : ℕ) → 1 < 2 ^ w → has k mask ≡ true → eqb (one_value k w 1).second 0 ≡ false
mask_not_zero exact w two h = none_such h
mask_not_zero ternary w two h = ones_not_zero w two
mask_not_zero lpm w two h = none_such h
mask_not_zero range w two h = none_such h
mask_not_zero optional w two h = ones_not_zero w two

length_not_zero : (k : Kind) (w : ℕ) → 1 ≤ w → has k prefix_length ≡ true → eqb (one_value k w 1).length 0 ≡ false
length_not_zero exact w some-bit h = none_such h
length_not_zero ternary w some-bit h = none_such h
length_not_zero lpm w some-bit h = ne_eqb w 0 (λ e. omega (arith, some-bit, e))
length_not_zero range w some-bit h = none_such h
length_not_zero optional w some-bit h = none_such h

pub two_numbers : (w : ℕ) → 1 ≤ w → 1 < 2 ^ w
two_numbers w some-bit = pow_mono {i = 1} {j = w} some-bit

pub is_not_zero : (x : Key) → 1 ≤ x.width → (f : Option Field) → offers x.kind f ≡ true
    → is_zero (worth_of x f (one_value x.kind x.width 1)) ≡ false
is_not_zero x some-bit none h = rw (first_is x.kind x.width 1, first_is x.kind x.width 0)
is_not_zero x some-bit (some value) h = rw (first_is x.kind x.width 1)
is_not_zero x some-bit (some mask) h = rw (mask_not_zero x.kind x.width (two_numbers x.width some-bit) h)
is_not_zero x some-bit (some prefix_length) h = length_not_zero x.kind x.width some-bit h
is_not_zero x some-bit (some low) h = rw (first_is x.kind x.width 1)
is_not_zero x some-bit (some high) h = rw (high_is x.kind x.width 1 h)
