-- The number of an address is below 2^128: four or six digits of base 256, or eight of base 65,536.
use Prim.Native.Nat.{ℕ, zero, suc, ◌+◌, ◌*◌, ◌-◌, ◌^◌, ◌≤◌, ◌<◌}
use native.Mathlib.Nat.{mul-one, one-mul, mul_assoc, pow-succ', pow-zero, pow-le-pow_right, lt_of_lt_of_le, suc_inj}
use native.Mathlib.Omega.{arith}
use mathlib.Core.Path.{◌≡◌, refl, subst, ◌∙◌}
use mathlib.Core.Bool.{Bool, true, false, not, cond, ◌&&◌, ◌||◌, and-eq-true_iff}
use mathlib.Core.List.{List, [], ◌∷◌, ◌++◌, map}
use lib.ListN.{length, take, drop, replicate, length-append, length-map, length-replicate}
use lib.Arith.{digits_lt}
use lib.Dec.{eqb, ltb, leb, lit≤}
use borrow.Author.Tests.{eqb-true, ltb-true, leb-true}
use Rattle.paper.specs.Numbers.{digits_after, in_base}
use Rattle.paper.specs.Tokens.{is, span, starts, digit_of}
use Rattle.paper.specs.Addresses.{Scheme, ipv4, ipv6, mac, parts, every, all_digits, value_of, is_decimal, is_pair, is_group, only, before_gap, groups, eight_groups, gapped, ipv6_of, address}
use Rattle.paper.specs.BlocksRoundTrip.{All}
use Rattle.paper.proofs.Basics.{all_append, If, and_right}

abbrev pub AllBelow : ℕ → List ℕ → Type 0
AllBelow m ds = All (λ d. d < m) ds

below_zeros : (m n : ℕ) → 0 < m → AllBelow m (replicate n 0)
below_zeros m zero h = tt
below_zeros m (suc n) h = (h, below_zeros m n h)

-- digits in a base

digits_below : (base : ℕ) (ds : List ℕ) (n m : ℕ) → AllBelow base ds → n < m → digits_after base n ds < m * base ^ length ds
digits_below base [] n m h l = rw (pow-zero, mul-one) l
digits_below base (d ∷ ds) n m h l =
    rw (pow-succ' base (length ds), ← mul_assoc m base (base ^ length ds)) (digits_below base ds (n * base + d) (m * base) h.1 (digits_lt l h.0))

pub number_below : (base : ℕ) (ds : List ℕ) → AllBelow base ds → in_base base ds < base ^ length ds
number_below base ds h = subst (λ x. in_base base ds < x) (one-mul (base ^ length ds)) (digits_below base ds 0 1 h (omega arith))

-- a run of digits

pub run_below : (base : ℕ) (s : List ℕ) → span (λ b. ltb (digit_of b) base) s ≡ length s → AllBelow base (map digit_of s)
run_below base [] h = tt
run_below base (b ∷ s) h = go (ltb (digit_of b) base) refl h (run_below base s)
  where
    go : (t : Bool) → ltb (digit_of b) base ≡ t → cond t (suc (span (λ c. ltb (digit_of c) base) s)) 0 ≡ suc (length s)
        → (span (λ c. ltb (digit_of c) base) s ≡ length s → AllBelow base (map digit_of s)) → AllBelow base (map digit_of (b ∷ s))
    go true e h later = (ltb-true (digit_of b) base e, later (suc_inj h))
    go false e h later = absurd (omega arith)

value_below : (base : ℕ) (s : List ℕ) → all_digits base s ≡ true → value_of base s < base ^ length s
value_below base s h =
    subst (λ n. value_of base s < base ^ n) (length-map s digit_of)
    (number_below base (map digit_of s) (run_below base s (eqb-true _ (length s) h)))

-- a part of an address

decimal_below : (s : List ℕ) → is_decimal s ≡ true → value_of 10 s < 256
decimal_below s h =
    let before = leb 1 (length s) && leb (length s) 3 && all_digits 10 s && (eqb (length s) 1 || not (starts (is "0") s)) in
    omega (arith, leb-true (value_of 10 s) 255 (and_right before (leb (value_of 10 s) 255) h))

pair_below : (s : List ℕ) → is_pair s ≡ true → value_of 16 s < 256
pair_below s h =
    let both = (and-eq-true_iff (eqb (length s) 2) (all_digits 16 s)).0 h in
    subst (λ n. value_of 16 s < 16 ^ n) (eqb-true (length s) 2 both.0) (value_below 16 s both.1)

group_below : (s : List ℕ) → is_group s ≡ true → value_of 16 s < 65536
group_below s h =
    let all = (and-eq-true_iff (leb 1 (length s) && leb (length s) 4) (all_digits 16 s)).0 h in
    let short = leb-true (length s) 4 (and_right (leb 1 (length s)) _ all.0) in
    lt_of_lt_of_le (value_below 16 s all.1) (pow-le-pow_right {n = 16} (omega arith) {i = length s} {j = 4} short)

every_below : (p : List ℕ → Bool) (f : List ℕ → ℕ) (m : ℕ) → ((s : List ℕ) → p s ≡ true → f s < m) → (ss : List (List ℕ)) → every p ss ≡ true
    → AllBelow m (map f ss)
every_below p f m h [] e = tt
every_below p f m h (s ∷ ss) e =
    let both = (and-eq-true_iff (p s) (every p ss)).0 e in
    (h s both.0, every_below p f m h ss both.1)

-- addresses

abbrev Fits : ℕ → Type 0
Fits n = n < 2 ^ 128

only_if : (b : Bool) (n : ℕ) → (b ≡ true → Fits n) → If Fits (only b n)
only_if true n h = h refl
only_if false n h = tt

-- so many parts, each below a base
fits : (base count : ℕ) (ds : List ℕ) → length ds ≡ count → AllBelow base ds → base ^ count ≤ 2 ^ 128 → Fits (in_base base ds)
fits base count ds l h room = lt_of_lt_of_le (subst (λ n. in_base base ds < base ^ n) l (number_below base ds h)) room

parts_fit : (base count : ℕ) (p : List ℕ → Bool) (f : List ℕ → ℕ) → ((s : List ℕ) → p s ≡ true → f s < base) → base ^ count ≤ 2 ^ 128
    → (ps : List (List ℕ)) → If Fits (only (eqb (length ps) count && every p ps) (in_base base (map f ps)))
parts_fit base count p f each room ps =
    only_if (eqb (length ps) count && every p ps) (in_base base (map f ps))
    (λ h.
    let both = (and-eq-true_iff (eqb (length ps) count) (every p ps)).0 h in
    fits base count (map f ps) (length-map ps f ∙ eqb-true (length ps) count both.0) (every_below p f base each ps both.1) room)

gapped_fits : (ps qs : List (List ℕ)) → If Fits (gapped ps qs)
gapped_fits ps qs =
    let missing = 8 - (length ps + length qs) in
    let first = map (value_of 16) ps in
    let last = map (value_of 16) qs in
    only_if (leb (length ps + length qs) 7 && every is_group ps && every is_group qs) (in_base 65536 (first ++ replicate missing 0 ++ last))
    (λ h.
    let right = (and-eq-true_iff (leb (length ps + length qs) 7 && every is_group ps) (every is_group qs)).0 h in
    let left = (and-eq-true_iff (leb (length ps + length qs) 7) (every is_group ps)).0 right.0 in
    let short = leb-true (length ps + length qs) 7 left.0 in
    fits 65536 8 (first ++ replicate missing 0 ++ last)
    (simp (length-append, length-replicate, length-map) (omega arith))
    (all_append (λ d. d < 65536) (first ++ replicate missing 0) last
    (all_append (λ d. d < 65536) first (replicate missing 0) (every_below is_group (value_of 16) 65536 group_below ps left.1) (below_zeros 65536 missing (omega arith)))
    (every_below is_group (value_of 16) 65536 group_below qs right.1))
    (lit≤ tt))

ipv6_fits : (s : List ℕ) → If Fits (ipv6_of s)
ipv6_fits s = go (eqb (before_gap s) (length s))
  where
    go : (b : Bool) → If Fits (cond b (eight_groups s) (gapped (groups (take (before_gap s) s)) (groups (drop (before_gap s + 2) s))))
    go true = parts_fit 65536 8 is_group (value_of 16) group_below (lit≤ tt) (groups s)
    go false = gapped_fits (groups (take (before_gap s) s)) (groups (drop (before_gap s + 2) s))

pub address_fits : (k : Scheme) (s : List ℕ) → If Fits (address k s)
unfolding address
address_fits ipv4 s = parts_fit 256 4 is_decimal (value_of 10) decimal_below (lit≤ tt) (parts (is ".") s)
address_fits ipv6 s = ipv6_fits s
address_fits mac s = parts_fit 256 6 is_pair (value_of 16) pair_below (lit≤ tt) (parts (is ":") s)
