-- 02 f by example: texts with their summaries, both sides of each limit, and changes of an entry with what a recheck says of them.
use Rattle.std.specs.Prelude.{ℕ, zero, suc, ◌+◌, ◌-◌, ◌/◌, ◌%◌, ◌^◌, ◌≡◌, Bool, true, false, List, [], ◌∷◌, ◌++◌, drop, replicate}
use Prim.Native.String as S
use Rattle.paper.specs.Answers.{Answer, ok, refused, ◌>>=◌, in_text, in_list, in_entry}
use Rattle.paper.specs.Numbers.{big_endian}
use Rattle.paper.specs.Tokens.{bytes}
use Rattle.paper.specs.Entry.{match_record}
use Rattle.paper.specs.Grammar.{key}
use Rattle.paper.specs.Calls.{restriction}
use Rattle.paper.specs.Named.{names, count_of, Summary, summary_answer}
use Rattle.paper.specs.Rechecking.{Rechecked, reused, judged, recheck_answer}
use Rattle.tried.specs.MarkedJudgements.{the_keys, the_entry}
use Rattle.tried.specs.Limits.{many_keys}
use Rattle.tried.specs.Examples.{Example, on, Agree, On, OnText, AgreeOnTexts}

-- a set of keys, and a mark

abbrev pub plain : ℕ → Answer Summary
plain keys = ok (record { keys = keys; priority = false })

abbrev pub with_mark : ℕ → Answer Summary
with_mark keys = ok (record { keys = keys; priority = true })

-- "one bit for each key the text names, and a mark for ::priority", with the marked keys: v is 1, d 2, p 4, r 8 and o 16
abbrev pub texts : List (OnText Summary)
texts =
    on "true" (plain 0)
    ∷ on "v == 1" (plain 1)
    ∷ on "1 == v" (plain 1)
    ∷ on "d::mask != 0" (plain 2)
    ∷ on "0 != d::mask" (plain 2)
    ∷ on "v == 1; d::mask != 0" (plain 3)
    ∷ on "::priority < 10 || o == 1" (with_mark 16)
    ∷ on "o == 1 || ::priority < 10" (with_mark 16)
    ∷ on "::priority == 3" (with_mark 0)
    ∷ on "3 == ::priority" (with_mark 0)
    ∷ on "-::priority < 0" (with_mark 0)
    ∷ on "!(v == 1)" (plain 1)
    ∷ on "-v == 1" (plain 1)
    ∷ on "true || p == 1" (plain 4)
    -- named twice, and as a whole and by fields
    ∷ on "v == 1; v == 0; v::value == 1" (plain 1)
    ∷ on "v == v && !(p::prefix_length == 2) -> r::low <= r::high" (plain 13)
    ∷ on "v == 1; d == 1; p == 1; r == 1; o == 1" (plain 31)
    -- what does not pass has none
    ∷ on "true;;" (refused 8 in_text 5)
    ∷ on "z == 1" (refused 11 in_text 0)
    ∷ on "::size < 1" (refused 12 in_text 2)
    ∷ on "v == 1; d > 3" (refused 13 in_text 10)
    ∷ on "v" (refused 14 in_text 0)
    ∷ []

-- "Report how many keys it names"

abbrev pub counted : List ℕ → List ℕ → Answer ℕ
counted list text = restriction text list >>= λ r. ok (count_of (names r.keys r.root))

abbrev pub counts : List (OnText ℕ)
counts =
    on "true" (ok 0)
    ∷ on "::priority == 3" (ok 0)
    ∷ on "v == 1; d::mask != 0" (ok 2)
    ∷ on "::priority < 10 || o == 1" (ok 1)
    ∷ on "v == 1; v == 0; v::value == 1" (ok 1)
    ∷ on "v == 1; d == 1; p == 1; r == 1; o == 1" (ok 5)
    ∷ []

-- 32 keys: the first, the last, and all of them
abbrev pub each_key : ℕ → List ℕ
each_key zero = []
each_key (suc n) = each_key n ++ ((97 + n / 16) ∷ (97 + n % 16) ∷ bytes "==1;")

abbrev pub of_many_keys : List (On Summary)
of_many_keys =
    on (bytes "aa == 1") (plain 1)
    ∷ on (bytes "bp == 1") (plain (2 ^ 31))
    ∷ on (each_key 31) (plain (2 ^ 31 - 1))
    ∷ on (each_key 32) (plain (2 ^ 32 - 1))
    ∷ []

abbrev pub many_counted : List (On ℕ)
many_counted = on (bytes "bp == 1") (ok 1) ∷ on (each_key 31) (ok 31) ∷ on (each_key 32) (ok 32) ∷ []

-- no key, and lists that do not pass
abbrev pub lists : List (On Summary)
lists =
    on [] (with_mark 0)
    ∷ on (many_keys 32) (with_mark 0)
    ∷ on (many_keys 33) (refused 2 in_list 2640)
    ∷ on (replicate 79 0) (refused 2 in_list 79)
    ∷ on (replicate 80 0) (refused 3 in_list 0)
    ∷ []

-- a change of an entry, with the answer for the old one

pub record Change : Type 0 where
  pub old : List ℕ
  pub earlier : Answer Bool
  pub new : List ℕ

abbrev pub from : List ℕ → Answer Bool → List ℕ → Change
from old earlier new = record { old = old; earlier = earlier; new = new }

abbrev pub rechecked : S.String → Change → Rechecked
rechecked text c = recheck_answer (bytes text) the_keys c.old c.earlier c.new

-- the marked entry with another priority, another v, d and low of r, and another record of o

abbrev pub entry : ℕ → ℕ → ℕ → ℕ → List ℕ → List ℕ
entry priority v d low o =
    big_endian 4 priority
    ++ match_record 1 0 v 0
    ++ match_record 1 0 d 0xF0
    ++ match_record 1 2 0xC0 0
    ++ match_record 1 0 low 443
    ++ o

abbrev pub absent : List ℕ
absent = match_record 0 0 0 0

-- the same reading, spelled out; and the match of 1
abbrev pub spelled : List ℕ
spelled = match_record 1 0 0 0

abbrev pub one : List ℕ
one = match_record 1 0 1 15

-- of a text that names v and d and has no mark: "reuses that answer exactly when both entries conform, no named record differs"
abbrev pub changes : List (Example Change Rechecked)
changes =
    on (from the_entry (ok true) the_entry) (reused (ok true))
    ∷ on (from the_entry (ok true) (entry 10 1 0x20 81 absent)) (reused (ok true))
    ∷ on (from the_entry (ok true) (entry 11 1 0x20 80 absent)) (reused (ok true))
    ∷ on (from the_entry (ok true) (entry 10 1 0x20 80 spelled)) (reused (ok true))
    ∷ on (from the_entry (ok true) (entry 11 1 0x20 81 one)) (reused (ok true))
    ∷ on (from the_entry (ok true) (entry 10 0 0x20 80 absent)) (judged (ok false))
    ∷ on (from the_entry (ok true) (entry 10 1 0x30 80 absent)) (judged (ok true))
    -- an answer that was not true is handed back as it is
    ∷ on (from the_entry (ok false) the_entry) (reused (ok false))
    ∷ on (from the_entry (refused 19 in_entry 3) (entry 10 1 0x20 81 absent)) (reused (refused 19 in_entry 3))
    ∷ on (from the_entry (ok false) (entry 10 1 0x30 80 absent)) (judged (ok true))
    -- an old entry that does not conform: the new one is judged
    ∷ on (from (entry (2 ^ 31) 1 0x20 80 absent) (refused 20 in_entry 0) the_entry) (judged (ok true))
    ∷ on (from (entry 10 1 0x20 444 absent) (ok true) the_entry) (judged (ok true))
    ∷ on (from (drop 1 the_entry) (ok true) the_entry) (judged (ok true))
    -- and a new one that does not: with its own refusal
    ∷ on (from the_entry (ok true) (entry (2 ^ 31) 1 0x20 80 absent)) (judged (refused 20 in_entry 0))
    ∷ on (from the_entry (ok true) (entry 10 1 0x20 444 absent)) (judged (refused 20 in_entry 112))
    ∷ on (from the_entry (ok true) (the_entry ++ (0 ∷ []))) (judged (refused 19 in_entry 185))
    ∷ on (from (entry 10 1 0x20 444 absent) (ok true) (entry 10 1 0x20 444 absent)) (judged (refused 20 in_entry 112))
    ∷ []

-- of one that names o, the last key, and has a mark: "and, if marked, the priority is the same"
abbrev pub marked_changes : List (Example Change Rechecked)
marked_changes =
    on (from the_entry (ok false) the_entry) (reused (ok false))
    ∷ on (from the_entry (ok false) (entry 10 0 0x30 81 absent)) (reused (ok false))
    ∷ on (from the_entry (ok false) (entry 11 1 0x20 80 absent)) (judged (ok false))
    ∷ on (from the_entry (ok false) (entry 9 1 0x20 80 absent)) (judged (ok true))
    ∷ on (from the_entry (ok false) (entry 10 1 0x20 80 one)) (judged (ok true))
    -- absent against spelled out: the bytes differ, and the answer is the same
    ∷ on (from the_entry (ok false) (entry 10 1 0x20 80 spelled)) (judged (ok false))
    ∷ []

-- text and list first, whatever the entries are
abbrev pub refused_texts : List (Example S.String Rechecked)
refused_texts =
    on "true" (reused (ok false))
    ∷ on "z == 1" (judged (refused 11 in_text 0))
    ∷ on "v" (judged (refused 14 in_text 0))
    ∷ []

abbrev pub refused_lists : List (Example (List ℕ) Rechecked)
refused_lists =
    on the_keys (reused (ok false))
    ∷ on (replicate 79 0) (judged (refused 2 in_list 79))
    ∷ on [] (judged (refused 19 in_entry 184))
    ∷ []

pub record SummaryExamples : Type 0 where
  pub of_texts : AgreeOnTexts (λ text. summary_answer text the_keys) texts
  pub keys_counted : AgreeOnTexts (counted the_keys) counts
  pub of_many_keys_lem : Agree (λ text. summary_answer text (many_keys 32)) of_many_keys
  pub many_counted_lem : Agree (counted (many_keys 32)) many_counted
  pub of_lists : Agree (λ list. summary_answer (bytes "::priority == 3") list) lists
  pub of_unknown_keys : names [] (key 0 (bytes "v")) 0 ≡ false
  pub of_changes : Agree (rechecked "v == 1; d::mask != 0") changes
  pub of_marked_changes : Agree (rechecked "::priority < 10 || o == 1") marked_changes
  pub of_refused_texts : Agree (λ s. rechecked s (from the_entry (ok false) the_entry)) refused_texts
  pub of_refused_lists : Agree (λ list. recheck_answer (bytes "true") list the_entry (ok false) the_entry) refused_lists
