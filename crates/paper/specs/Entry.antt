-- 01, "Key list and entry", from "An entry for n keys"; refusals 19 and 20.
-- "An entry for n keys has exactly 4 + 36n bytes, numbers big-endian. Bytes 0 to 3: priority, below 2^31. Each key's record:
-- byte 0 present (0 or 1); byte 1 prefix length; bytes 2, 3 zero; 16 bytes first number (value or low); 16 bytes second
-- number (mask or high). Fields a kind lacks are zero. Numbers are below 2^W."
-- 02 i, of a key's flag: "with 1 the key must be present, and its absence is number 20"
use Rattle.std.specs.Prelude.{ℕ, suc, ◌+◌, ◌*◌, ◌-◌, ◌%◌, ◌^◌, Bool, true, false, not, cond, ◌&&◌, ◌||◌, List, [], ◌∷◌, ◌++◌, length, drop, eqb, ltb, leb}
use Rattle.std.proofs.Math.Option.{Option, none, some}
use Rattle.std.proofs.Math.ListN.{get_elem?}
use Rattle.std.specs.Int.Bits.{bit_and}
use Rattle.paper.specs.Answers.{Answer, ok, ◌>>=◌, require, in_turn, in_entry}
use Rattle.paper.specs.Numbers.{byte_at, bytes_at, number_at, big_endian}
use Rattle.paper.specs.Keys.{Kind, exact, ternary, lpm, range, optional, Key, all_zero}

abbrev pub head_size : ℕ
head_size = 4

abbrev pub match_size : ℕ
match_size = 36

-- writing: "byte 0 present (0 or 1); byte 1 prefix length; bytes 2, 3 zero; 16 bytes first number (value or low); 16 bytes second
-- number (mask or high)"
abbrev pub match_record : ℕ → ℕ → ℕ → ℕ → List ℕ
match_record present length first second = present ∷ length ∷ 0 ∷ 0 ∷ (big_endian 16 first ++ big_endian 16 second)

-- reading

-- what a key's record reads as: value or low, mask or high, prefix length
pub record Match : Type 0 where
  pub first : ℕ
  pub second : ℕ
  pub length : ℕ

abbrev pub match_at : List ℕ → ℕ → List ℕ
match_at entry k = bytes_at entry (head_size + k * match_size) match_size

-- a record's numbers as they stand
abbrev pub spelled_out : List ℕ → Match
spelled_out r = record { first = number_at r 4 16; second = number_at r 20 16; length = byte_at r 1 }

-- "The conditions of 004's table are enforced here", and "Fields a kind lacks are zero"
-- ternary, optional: "the value has no bit outside the mask; an optional mask is 0 or 2^W − 1"
-- lpm: "prefix length at most W, and the low W − length bits of the value are zero"
-- range: "The condition becomes low <= high" (02 b)
abbrev pub kind_rule : Kind → ℕ → Match → Bool
kind_rule exact w m = eqb m.length 0 && eqb m.second 0
kind_rule ternary w m = eqb m.length 0 && eqb (bit_and m.first m.second) m.first
kind_rule lpm w m = eqb m.second 0 && leb m.length w && eqb (m.first % 2 ^ (w - m.length)) 0
kind_rule range w m = eqb m.length 0 && leb m.first m.second
kind_rule optional w m =
    eqb m.length 0 && eqb (bit_and m.first m.second) m.first
    && (eqb m.second 0 || eqb m.second (2 ^ w - 1))

abbrev pub is_exact : Kind → Bool
is_exact exact = true
is_exact ternary = false
is_exact lpm = false
is_exact range = false
is_exact optional = false

-- "An absent key has 35 zero bytes after byte 0 and may not be exact." Nor may it be one that must be present
abbrev pub absent_rule : Key → List ℕ → Bool
absent_rule k r = not (is_exact k.kind) && not k.required && all_zero (drop 1 r)

abbrev pub present_rule : Key → List ℕ → Bool
present_rule k r =
    all_zero (bytes_at r 2 2)
    && ltb (number_at r 4 16) (2 ^ k.width) && ltb (number_at r 20 16) (2 ^ k.width)
    && kind_rule k.kind k.width (spelled_out r)

abbrev pub match_ok : Key → List ℕ → Bool
match_ok k r = cond (eqb (byte_at r 0) 0) (absent_rule k r) (eqb (byte_at r 0) 1 && present_rule k r)

-- "It reads as value 0 with mask 0, prefix length 0, or low 0 with high 2^W − 1." An absent key is not exact: the first clause is
-- never asked
abbrev pub absent : Kind → ℕ → Match
absent exact w = record { first = 0; second = 0; length = 0 }
absent ternary w = record { first = 0; second = 0; length = 0 }
absent lpm w = record { first = 0; second = 0; length = 0 }
absent range w = record { first = 0; second = 2 ^ w - 1; length = 0 }
absent optional w = record { first = 0; second = 0; length = 0 }

abbrev pub match_of : Key → List ℕ → Match
match_of k r = cond (eqb (byte_at r 0) 0) (absent k.kind k.width) (spelled_out r)

pub record Entry : Type 0 where
  pub priority : ℕ
  pub matches : List Match

abbrev pub matches_from : List ℕ → ℕ → List Key → List Match
matches_from entry k [] = []
matches_from entry k (key ∷ keys) = match_of key (match_at entry k) ∷ matches_from entry (suc k) keys

abbrev pub priority_of : List ℕ → ℕ
priority_of entry = number_at entry 0 4

-- a rule asked of a key, if there is one: of no key, nothing is asked
abbrev pub asked : Option Key → (Key → Bool) → Bool
asked none rule = true
asked (some key) rule = rule key

-- 20: "priority or a key's entry record breaks its rule". Of the record of key k
abbrev pub rule_test : List Key → List ℕ → ℕ → Answer (Unit {0})
rule_test keys entry k =
    require (asked (get_elem? keys k) (λ key. match_ok key (match_at entry k))) 20 in_entry (head_size + k * match_size)

-- 19: "entry length wrong"; then 20
unfoldable pub entry_of : List Key → List ℕ → Answer Entry
entry_of keys entry =
    require (eqb (length entry) (head_size + match_size * length keys)) 19 in_entry (length entry)
    >>= λ _. require (ltb (priority_of entry) (2 ^ 31)) 20 in_entry 0
    >>= λ _. in_turn (rule_test keys entry) 0 (length keys)
    >>= λ _. ok (record { priority = priority_of entry; matches = matches_from entry 0 keys })
