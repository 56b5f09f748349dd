-- 01, "Addresses: ipv4 is four decimals 0 to 255 without leading zeros; mac is six pairs of hex digits with colons; ipv6
-- follows RFC 4291 section 2.2, forms 1 and 2, where "::" stands for one or more zero groups. All become whole numbers of type
-- int, first byte highest."
use Rattle.std.specs.Prelude.{ℕ, suc, ◌+◌, ◌-◌, Bool, true, false, not, cond, ◌&&◌, ◌||◌, List, [], ◌∷◌, ◌++◌, map, length, take, drop, replicate, eqb, ltb, leb}
use Rattle.std.proofs.Math.Option.{Option, none, some}
use Rattle.paper.specs.Numbers.{in_base}
use Rattle.paper.specs.Tokens.{bytes, same_bytes, is, span, starts, digit_of}

pub data Scheme : Type 0 where
  ipv4 ipv6 mac : Scheme

-- the word that begins an address
abbrev pub scheme_of : List ℕ → Option Scheme
scheme_of w =
    cond (same_bytes w (bytes "ipv4")) (some ipv4)
    (cond (same_bytes w (bytes "ipv6")) (some ipv6)
    (cond (same_bytes w (bytes "mac")) (some mac) none))

abbrev pub into_first : ℕ → List (List ℕ) → List (List ℕ)
into_first b [] = (b ∷ []) ∷ []
into_first b (p ∷ ps) = (b ∷ p) ∷ ps

-- the parts between separators: one more than there are separators
abbrev pub parts : (ℕ → Bool) → List ℕ → List (List ℕ)
parts sep [] = [] ∷ []
parts sep (b ∷ s) =
    let rest = parts sep s in
    let more = into_first b rest in
    let apart = [] ∷ rest in
    cond (sep b) apart more

abbrev pub every : (List ℕ → Bool) → List (List ℕ) → Bool
every p [] = true
every p (s ∷ ss) = p s && every p ss

abbrev pub all_digits : ℕ → List ℕ → Bool
all_digits base s = eqb (span (λ b. ltb (digit_of b) base) s) (length s)

abbrev pub value_of : ℕ → List ℕ → ℕ
value_of base s = in_base base (map digit_of s)

-- 0 to 255, and no 0 before another digit
abbrev pub is_decimal : List ℕ → Bool
is_decimal s =
    leb 1 (length s) && leb (length s) 3 && all_digits 10 s
    && (eqb (length s) 1 || not (starts (is "0") s)) && leb (value_of 10 s) 255

abbrev pub is_pair : List ℕ → Bool
is_pair s = eqb (length s) 2 && all_digits 16 s

abbrev pub is_group : List ℕ → Bool
is_group s = leb 1 (length s) && leb (length s) 4 && all_digits 16 s

abbrev pub only : Bool → ℕ → Option ℕ
only true n = some n
only false n = none

abbrev pub ipv4_of : List ℕ → Option ℕ
ipv4_of s =
    let ps = parts (is ".") s in
    only (eqb (length ps) 4 && every is_decimal ps) (in_base 256 (map (value_of 10) ps))

abbrev pub mac_of : List ℕ → Option ℕ
mac_of s =
    let ps = parts (is ":") s in
    only (eqb (length ps) 6 && every is_pair ps) (in_base 256 (map (value_of 16) ps))

-- how many bytes stand before a first "::", or all of them
abbrev pub before_gap : List ℕ → ℕ
before_gap [] = 0
before_gap (b ∷ s) =
    let more = suc (before_gap s) in
    cond (is ":" b && starts (is ":") s) 0 more

-- the groups beside a "::", of which there may be none
abbrev pub groups : List ℕ → List (List ℕ)
groups [] = []
groups (b ∷ s) = parts (is ":") (b ∷ s)

-- form 1: eight groups
abbrev pub eight_groups : List ℕ → Option ℕ
eight_groups s =
    let ps = groups s in
    only (eqb (length ps) 8 && every is_group ps) (in_base 65536 (map (value_of 16) ps))

-- form 2: "::" in the place of the groups, at least one, that are missing to eight
abbrev pub gapped : List (List ℕ) → List (List ℕ) → Option ℕ
gapped ps qs =
    only (leb (length ps + length qs) 7 && every is_group ps && every is_group qs)
    (in_base 65536 (map (value_of 16) ps ++ replicate (8 - (length ps + length qs)) 0 ++ map (value_of 16) qs))

abbrev pub ipv6_of : List ℕ → Option ℕ
ipv6_of s =
    let n = before_gap s in
    cond (eqb n (length s)) (eight_groups s) (gapped (groups (take n s)) (groups (drop (n + 2) s)))

unfoldable pub address : Scheme → List ℕ → Option ℕ
address ipv4 s = ipv4_of s
address ipv6 s = ipv6_of s
address mac s = mac_of s
