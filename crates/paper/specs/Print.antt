-- 02 a: "Print a read text in one form: one blank on each side of a binary operator and none elsewhere, numerals in decimal, only
-- parentheses that the grammar needs, no trailing ";", and ";" kept distinct from "&&". An address counts, in tree and print, as
-- the decimal numeral of its number." 02 e: "The print then uses that base".
use Rattle.std.specs.Prelude.{ℕ, zero, suc, ◌+◌, ◌/◌, ◌%◌, Bool, true, false, cond, List, [], ◌∷◌, ◌++◌, map, ltb}
use Rattle.paper.specs.Tokens.{bytes, Base, decimal, binary, hex, radix, Literal, Prefix, not_sign, minus_sign, Join, sequel, implies, or_else, and_also, Comparison, equal, unequal, greater, at_least, less, at_most}
use Rattle.paper.specs.Grammar.{Tree, truth, number, key, field, attribute, prefixed, joined, compared}

-- "the same tree, places aside": two trees are that where these are equal. 02 e: "Trees that differ only in a base are now different"
abbrev pub bare : Tree → Tree
bare (truth at b) = truth 0 b
bare (number at n) = number 0 n
bare (key at w) = key 0 w
bare (field at w to f) = field 0 w 0 f
bare (attribute at to f) = attribute 0 0 f
bare (prefixed at o t) = prefixed 0 o (bare t)
bare (joined at o l r) = joined 0 o (bare l) (bare r)
bare (compared at c l r) = compared 0 c (bare l) (bare r)

-- numerals

-- the digits of a number in a base, at most so many: the first one highest, and no 0 before another
abbrev pub digits_in : ℕ → ℕ → ℕ → List ℕ
digits_in base zero n = []
digits_in base (suc most) n =
    let more = digits_in base most (n / base) ++ (n % base ∷ []) in
    cond (ltb n base) (n ∷ []) more

-- 0 to 9, and then lower-case letters
abbrev pub digit_byte : ℕ → ℕ
digit_byte d = cond (ltb d 10) (48 + d) (87 + d)

-- a number below 2^128 has no more digits in any base
abbrev pub most_digits : ℕ
most_digits = 128

abbrev pub numeral_in : ℕ → ℕ → List ℕ
numeral_in base n = map digit_byte (digits_in base most_digits n)

-- 02 e: "The print then uses that base with lower-case digits and prefix (none for decimal), without leading zeros"
abbrev pub base_prefix : Base → List ℕ
base_prefix decimal = []
base_prefix binary = bytes "0b"
base_prefix hex = bytes "0x"

abbrev pub literal_bytes : Literal → List ℕ
literal_bytes n = base_prefix n.base ++ numeral_in (radix n.base) n.value

-- operators

abbrev pub prefix_bytes : Prefix → List ℕ
prefix_bytes not_sign = bytes "!"
prefix_bytes minus_sign = bytes "-"

abbrev pub join_bytes : Join → List ℕ
join_bytes sequel = bytes ";"
join_bytes implies = bytes "->"
join_bytes or_else = bytes "||"
join_bytes and_also = bytes "&&"

abbrev pub comparison_bytes : Comparison → List ℕ
comparison_bytes equal = bytes "=="
comparison_bytes unequal = bytes "!="
comparison_bytes greater = bytes ">"
comparison_bytes at_least = bytes ">="
comparison_bytes less = bytes "<"
comparison_bytes at_most = bytes "<="

-- "one blank on each side of a binary operator"
abbrev pub spaced : List ℕ → List ℕ
spaced s = bytes " " ++ s ++ bytes " "

-- "only parentheses that the grammar needs". The rungs of 01's ladder, from ";", the loosest, to prefix operators and atoms: the
-- one that each operator makes a tree of, and the one from which on a tree may stand on each side of it without parentheses

abbrev pub comparison_rung : ℕ
comparison_rung = 4

abbrev pub tightest : ℕ
tightest = 5

abbrev pub rung_of : Join → ℕ
rung_of sequel = 0
rung_of implies = 1
rung_of or_else = 2
rung_of and_also = 3

-- "";" left, "->" at most once, "||" left, "&&" left"

abbrev pub left_of : Join → ℕ
left_of sequel = 0
left_of implies = 2
left_of or_else = 2
left_of and_also = 3

abbrev pub right_of : Join → ℕ
right_of sequel = 1
right_of implies = 2
right_of or_else = 3
right_of and_also = 4

abbrev pub rung : Tree → ℕ
rung (truth at b) = tightest
rung (number at n) = tightest
rung (key at w) = tightest
rung (field at w to f) = tightest
rung (attribute at to f) = tightest
rung (prefixed at o t) = tightest
rung (joined at o l r) = rung_of o
rung (compared at c l r) = comparison_rung

-- whether a tree needs parentheses where a rung is asked for
abbrev pub looser : ℕ → Tree → Bool
looser k t = ltb (rung t) k

abbrev pub enclosed : Bool → List ℕ → List ℕ
enclosed true s = bytes "(" ++ s ++ bytes ")"
enclosed false s = s

-- the print

abbrev pub truth_bytes : Bool → List ℕ
truth_bytes true = bytes "true"
truth_bytes false = bytes "false"

unfoldable pub print : Tree → List ℕ
print (truth at b) = truth_bytes b
print (number at n) = literal_bytes n
print (key at w) = w
print (field at w to f) = w ++ bytes "::" ++ f
print (attribute at to f) = bytes "::" ++ f
print (prefixed at o t) = prefix_bytes o ++ enclosed (looser tightest t) (print t)
print (joined at o l r) =
    enclosed (looser (left_of o) l) (print l) ++ spaced (join_bytes o) ++ enclosed (looser (right_of o) r) (print r)
print (compared at c l r) =
    enclosed (looser tightest l) (print l) ++ spaced (comparison_bytes c) ++ enclosed (looser tightest r) (print r)
