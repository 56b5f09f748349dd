-- 02 m, "A count before I drive home": "A program reads a key list, a text and a file of entries laid end to end, and writes for each top-level
-- ";" part the number of conforming entries for which it is false, then the totals accepted, violated and refused. The three totals add up to
-- the number of whole entries; a cut last entry enters no total. Beyond 1,000,000 whole entries it writes only "refusal 25" (new); a refused
-- list or text comes before that and gives only "refusal", its number and its offset. .. Each number equals a definition over the list of
-- entries."
use Rattle.std.specs.Prelude.{ℕ, zero, suc, ◌+◌, ◌*◌, ◌/◌, ◌%◌, Bool, true, false, cond, List, [], ◌∷◌, ◌++◌, map, length, take, drop, eqb, leb, Result, Err}
use Rattle.paper.specs.declared.Refusal.{Refusal}
use Rattle.paper.specs.declared.Counted.{Counted}
use Prim.Native.String as S
use Rattle.paper.specs.Answers.{Answer, ok, refused, ◌>>=◌, require, in_entry, input_of, offset_of, refused_by, says_as}
use Rattle.paper.specs.Tokens.{bytes}
use Rattle.paper.specs.Keys.{Key}
use Rattle.paper.specs.Entry.{head_size, match_size, entry_of}
use Rattle.paper.specs.Grammar.{Tree}
use Rattle.paper.specs.Meaning.{value_of, is_true}
use Rattle.paper.specs.Print.{numeral_in}
use Rattle.paper.specs.Calls.{restriction, over}
use Rattle.paper.specs.Parts.{Part, parts}

-- "entries laid end to end"

abbrev pub entry_size : List Key → ℕ
entry_size ks = head_size + match_size * length ks

-- how many are whole, and what is left of a cut one
abbrev pub whole_in : List Key → List ℕ → ℕ
whole_in ks s = length s / entry_size ks

abbrev pub cut_in : List Key → List ℕ → ℕ
cut_in ks s = length s % entry_size ks

-- the first n of a size
abbrev pub laid_out : ℕ → ℕ → List ℕ → List (List ℕ)
laid_out size zero s = []
laid_out size (suc n) s = take size s ∷ laid_out size n (drop size s)

abbrev pub entries_in : List Key → List ℕ → List (List ℕ)
entries_in ks s = laid_out (entry_size ks) (whole_in ks s) s

-- "the number of .. entries for which"
abbrev pub count_if : {A : Type 0} → (A → Bool) → List A → ℕ
count_if p [] = 0
count_if p (x ∷ xs) =
    let rest = count_if p xs in
    cond (p x) (suc rest) rest

-- what an entry gets of a tree: accepted, violated, or refused
unfoldable pub judged : List Key → Tree → List ℕ → Answer Bool
unfolding entry_of value_of
judged ks t entry = entry_of ks entry >>= λ e. ok (is_true (value_of ks e t))

abbrev pub is_accepted : Answer Bool → Bool
is_accepted (ok b) = b
is_accepted (refused n i at) = false

abbrev pub is_violated : Answer Bool → Bool
is_violated (ok true) = false
is_violated (ok false) = true
is_violated (refused n i at) = false

abbrev pub is_refused : Answer Bool → Bool
is_refused (ok b) = false
is_refused (refused n i at) = true

-- "for each top-level ";" part the number of conforming entries for which it is false": each on its own, whatever the other parts are
abbrev pub false_of : List Key → List (List ℕ) → Part → ℕ
false_of ks es p = count_if (λ e. is_violated (judged ks p.root e)) es

-- "then the totals accepted, violated and refused"; and of a cut entry its bytes
pub record Counts : Type 0 where
  pub parts : List ℕ
  pub accepted : ℕ
  pub violated : ℕ
  pub refused : ℕ
  pub cut : ℕ

unfoldable pub counts_of : List Key → Tree → List Part → List ℕ → Counts
unfolding judged
counts_of ks t ps s =
    record {
      parts = map (false_of ks (entries_in ks s)) ps;
      accepted = count_if (λ e. is_accepted (judged ks t e)) (entries_in ks s);
      violated = count_if (λ e. is_violated (judged ks t e)) (entries_in ks s);
      refused = count_if (λ e. is_refused (judged ks t e)) (entries_in ks s);
      cut = cut_in ks s;
    }

abbrev pub most_entries : ℕ
most_entries = 1000000

-- 25: "Beyond 1,000,000 whole entries". 02 gives it no place; ours is the first byte of the next one
abbrev pub few_entries : List Key → List ℕ → Answer (Unit {0})
few_entries ks s = require (leb (whole_in ks s) most_entries) 25 in_entry (most_entries * entry_size ks)

-- "a refused list or text comes before that"
unfoldable pub counted : List ℕ → List ℕ → List ℕ → Answer Counts
unfolding restriction parts counts_of
counted text list entries =
    restriction text list
    >>= λ r. parts text
    >>= λ ps. few_entries r.keys entries
    >>= λ _. ok (counts_of r.keys r.root ps entries)

-- What the call answers: how many parts there are, the totals, and the bytes of a cut entry. The number of each part stands in the numbers that
-- are lent, from the first on; later ones stay, and a refusal changes none

pub record Totals : Type 0 where
  pub parts : ℕ
  pub accepted : ℕ
  pub violated : ℕ
  pub refused : ℕ
  pub cut : ℕ

abbrev pub totals_of : Counts → Totals
totals_of c =
    record { parts = length c.parts; accepted = c.accepted; violated = c.violated; refused = c.refused; cut = c.cut }

unfoldable pub count_answer : List ℕ → List ℕ → List ℕ → Answer Totals
unfolding counted
count_answer text list entries = counted text list entries >>= λ c. ok (totals_of c)

abbrev pub noted : Answer Counts → List ℕ → List ℕ
noted (ok c) numbers = over c.parts numbers
noted (refused n i at) numbers = numbers

unfoldable pub count_numbers : List ℕ → List ℕ → List ℕ → List ℕ → List ℕ
unfolding counted
count_numbers text list entries numbers = noted (counted text list entries) numbers

abbrev pub totals : Counted → Totals
totals c = record { parts = c.parts; accepted = c.accepted; violated = c.violated; refused = c.refused; cut = c.cut }

abbrev pub counting_says : Result Counted Refusal → Answer Totals
counting_says = says_as totals

-- What the program writes: ""part 1 0", "part 2 2", "accepted 0", "violated 2", "refused 0", "cut 3"; the last stands only where an entry is
-- cut", each a line

abbrev pub line_feed : ℕ
line_feed = 10

abbrev pub in_decimal : ℕ → List ℕ
in_decimal n = numeral_in 10 n

abbrev pub line : S.String → List ℕ → List ℕ
line word rest = bytes word ++ bytes " " ++ rest ++ (line_feed ∷ [])

-- from a number on
abbrev pub part_lines : ℕ → List ℕ → List ℕ
part_lines k [] = []
part_lines k (n ∷ ns) = line "part" (in_decimal k ++ bytes " " ++ in_decimal n) ++ part_lines (suc k) ns

abbrev pub cut_line : ℕ → List ℕ
cut_line zero = []
cut_line (suc n) = line "cut" (in_decimal (suc n))

abbrev pub count_lines : Counts → List ℕ
count_lines c =
    part_lines 1 c.parts
    ++ line "accepted" (in_decimal c.accepted)
    ++ line "violated" (in_decimal c.violated)
    ++ line "refused" (in_decimal c.refused)
    ++ cut_line c.cut

-- "only "refusal 25""; "only "refusal", its number and its offset"
abbrev pub refusal_line : ℕ → ℕ → List ℕ
refusal_line n at = cond (eqb n 25) (line "refusal" (in_decimal n)) (line "refusal" (in_decimal n ++ bytes " " ++ in_decimal at))

abbrev pub output_for : Answer Counts → List ℕ
output_for (ok c) = count_lines c
output_for (refused n i at) = refusal_line n at

unfoldable pub count_output : List ℕ → List ℕ → List ℕ → List ℕ
unfolding counted
count_output text list entries = output_for (counted text list entries)
