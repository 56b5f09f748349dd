-- What the crate's types say in the paper's words, and how the three schemes differ.
use Rattle.std.specs.Prelude.{ℕ, ◌%◌, ◌^◌, ◌≡◌, ◌≤◌, Option, Some, None, Bool, true, false, not, ◌&&◌, List, [], ◌∷◌, map, length, eqb}
use Rattle.std.proofs.Math.Option as maybe
use Rattle.paper.specs.Numbers.{digits_after, in_base}
use Rattle.paper.specs.Tokens.{is, starts}
use Rattle.paper.specs.Addresses as A
use Rattle.paper.specs.Addresses.{only, every, value_of}
use Rattle.number.specs.Values.{value}
use Rattle.addresses.specs.declared.Scheme.{Scheme}
use Rattle.addresses.specs.declared.Scheme.TheVariants as S
use Rattle.number.specs.declared.magnitude.Magnitude.{Magnitude}
use Rattle.addresses.specs.declared.groups.PartsRead.{PartsRead}

abbrev pub scheme : Scheme → A.Scheme
scheme S.Ipv4 = A.ipv4
scheme S.Ipv6 = A.ipv6
scheme S.Mac = A.mac

-- the paper's option

abbrev pub named : Option Scheme → maybe.Option A.Scheme
named (Some s) = maybe.some (scheme s)
named None = maybe.none

abbrev pub address : Option Magnitude → maybe.Option ℕ
address (Some m) = maybe.some (value m)
address None = maybe.none

abbrev pub ReadAs : maybe.Option ℕ → Option Magnitude → Type 0
ReadAs n r = address r ≡ n

-- of each scheme: the byte between two parts, what a part may be, the base of its digits, and how far a part moves those before it

abbrev pub separates : A.Scheme → ℕ
separates A.ipv4 = 46
separates A.ipv6 = 58
separates A.mac = 58

abbrev pub parts_of : A.Scheme → List ℕ → List (List ℕ)
parts_of k s = A.parts (λ b. eqb b (separates k)) s

abbrev pub is_part : A.Scheme → List ℕ → Bool
is_part A.ipv4 s = A.is_decimal s
is_part A.ipv6 s = A.is_group s
is_part A.mac s = A.is_pair s

abbrev pub base_of : A.Scheme → ℕ
base_of A.ipv4 = 10
base_of A.ipv6 = 16
base_of A.mac = 16

abbrev pub scale_of : A.Scheme → ℕ
scale_of A.ipv4 = 256
scale_of A.ipv6 = 65536
scale_of A.mac = 256

abbrev pub numbers : A.Scheme → List (List ℕ) → List ℕ
numbers s ps = map (value_of (base_of s)) ps

abbrev pub within : ℕ → ℕ → Bool
within separator b = not (eqb b separator)

-- so many parts, all good
abbrev pub whole_of : A.Scheme → ℕ → List (List ℕ) → maybe.Option ℕ
whole_of s wanted ps = only (eqb (length ps) wanted && every (is_part s) ps) (in_base (scale_of s) (numbers s ps))

-- "::" comes first
abbrev pub gap_at : List ℕ → Bool
gap_at [] = false
gap_at (b ∷ s) = is ":" b && starts (is ":") s

abbrev pub zero_first : List ℕ → Bool
zero_first s = not (eqb (length s) 1) && starts (is "0") s

-- parts of so many bytes, after a number
pub record GroupedAs (s : A.Scheme) (ps : List (List ℕ)) (n most : ℕ) (r : PartsRead) : Type 0 where
  pub told : every (is_part s) ps ≡ true
  pub counted : r.count ≡ length ps
  pub grown : value r.number ≡ digits_after (scale_of s) n (numbers s ps) % 2 ^ 128
  pub few : r.count ≤ most

abbrev pub Grouped : A.Scheme → List (List ℕ) → ℕ → ℕ → Option PartsRead → Type 0
Grouped s ps n most (Some r) = GroupedAs s ps n most r
Grouped s ps n most None = every (is_part s) ps ≡ false
