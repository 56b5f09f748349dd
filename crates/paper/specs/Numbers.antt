-- 01, "numbers big-endian", "modulo 2^W", and "Whole numbers up to 2^128 − 1 with a sign are held exactly; minus zero is
-- zero": a whole number is the library's ℤ, where `pos n` is n and `negsuc n` is −(n + 1), so that there is no second zero.
use Rattle.std.specs.Prelude.{ℕ, zero, suc, ◌+◌, ◌*◌, ◌-◌, ◌/◌, ◌%◌, ◌^◌, Bool, true, false, List, [], ◌∷◌, get_or, take, drop, eqb, ltb, ℤ, pos, negsuc}

-- digits, the first one highest, read in a base after the number so far
abbrev pub digits_after : ℕ → ℕ → List ℕ → ℕ
digits_after base n [] = n
digits_after base n (d ∷ ds) = digits_after base (n * base + d) ds

abbrev pub in_base : ℕ → List ℕ → ℕ
in_base base ds = digits_after base 0 ds

abbrev pub byte_at : List ℕ → ℕ → ℕ
byte_at s at = get_or s at 0

-- the n bytes from an offset
abbrev pub bytes_at : List ℕ → ℕ → ℕ → List ℕ
bytes_at s at n = take n (drop at s)

-- the number that they are, big-endian
abbrev pub number_at : List ℕ → ℕ → ℕ → ℕ
number_at s at zero = 0
number_at s at (suc n) = number_at s at n * 256 + byte_at s (at + n)

-- the n bytes of a number, big-endian
abbrev pub big_endian : ℕ → ℕ → List ℕ
big_endian zero x = []
big_endian (suc n) x = x / 256 ^ n % 256 ∷ big_endian n x

-- the remainder that is not negative
abbrev pub modulo : ℤ → ℕ → ℕ
modulo (pos n) m = n % m
modulo (negsuc n) m = (m - suc n % m) % m

abbrev pub same_whole : ℤ → ℤ → Bool
same_whole (pos m) (pos n) = eqb m n
same_whole (pos m) (negsuc n) = false
same_whole (negsuc m) (pos n) = false
same_whole (negsuc m) (negsuc n) = eqb m n

abbrev pub less_whole : ℤ → ℤ → Bool
less_whole (pos m) (pos n) = ltb m n
less_whole (pos m) (negsuc n) = false
less_whole (negsuc m) (pos n) = true
less_whole (negsuc m) (negsuc n) = ltb n m
