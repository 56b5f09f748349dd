-- How many tokens a print has and how many levels it opens, by the same cases as Print; and the trees that have a text.
use Rattle.std.specs.Prelude.{ℕ, suc, ◌+◌, ◌^◌, ◌<◌, max, ◌≡◌, Bool, true, cond}
use Rattle.paper.specs.Tokens.{is_key, undotted}
use Rattle.paper.specs.Grammar.{Tree, truth, number, key, field, attribute, prefixed, joined, compared}
use Rattle.paper.specs.Sentences.{Name}
use Rattle.paper.specs.Print.{tightest, left_of, right_of, looser}

-- "A level is opened by each prefix operator and each parenthesis", and a parenthesis is two tokens

abbrev pub deeper : Bool → ℕ → ℕ
deeper b n = cond b (suc n) n

abbrev pub wider : Bool → ℕ → ℕ
wider b n = cond b (n + 2) n

abbrev pub levels : Tree → ℕ
levels (truth at b) = 0
levels (number at n) = 0
levels (key at w) = 0
levels (field at w to f) = 0
levels (attribute at to f) = 0
levels (prefixed at o t) = suc (deeper (looser tightest t) (levels t))
levels (joined at o l r) = max (deeper (looser (left_of o) l) (levels l)) (deeper (looser (right_of o) r) (levels r))
levels (compared at c l r) = max (deeper (looser tightest l) (levels l)) (deeper (looser tightest r) (levels r))

abbrev pub count : Tree → ℕ
count (truth at b) = 1
count (number at n) = 1
count (key at w) = 1
count (field at w to f) = 3
count (attribute at to f) = 2
count (prefixed at o t) = 1 + wider (looser tightest t) (count t)
count (joined at o l r) = wider (looser (left_of o) l) (count l) + 1 + wider (looser (right_of o) r) (count r)
count (compared at c l r) = wider (looser tightest l) (count l) + 1 + wider (looser tightest r) (count r)

-- numbers below 2^128, and names that are words
abbrev pub Clean : Tree → Type 0
Clean (truth at b) = Unit {0}
Clean (number at n) = n.value < 2 ^ 128
Clean (key at w) = (is_key w ≡ true) × Name w
Clean (field at w to f) = (is_key w ≡ true) × Name w × (is_key f ≡ true) × (undotted f ≡ true)
Clean (attribute at to f) = (is_key f ≡ true) × (undotted f ≡ true)
Clean (prefixed at o t) = Clean t
Clean (joined at o l r) = Clean l × Clean r
Clean (compared at c l r) = Clean l × Clean r
