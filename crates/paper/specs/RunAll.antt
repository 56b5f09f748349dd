-- Beyond 02: "A controller sends tables, not entries; a switch should load once and judge many." The call `run_all` of a list, blocks, entries and
-- answers "loads once, then a byte for each entry laid end to end (accepted, violated, refused 20); later bytes of the answers stay; a wrong length
-- is 19 at its length, too few answer bytes 15. .. byte i is what `run` says of entry i. .. steps are summed".
use Rattle.std.specs.Prelude.{ℕ, ◌+◌, ◌%◌, ◌^◌, cond, List, [], ◌∷◌, map, length, eqb, leb, Result, Err, Ok}
use Rattle.paper.specs.declared.Refusal.{Refusal}
use Rattle.paper.specs.declared.RanAll.{RanAll}
use Rattle.paper.specs.Answers.{Answer, ok, refused, ◌>>=◌, require, in_entry, in_buffer, input_of, offset_of, Ran, refused_by, says_as}
use Rattle.paper.specs.Keys.{Key, keys}
use Rattle.paper.specs.Entry.{entry_of}
use Rattle.paper.specs.Loading.{program, loaded, run_along}
use Rattle.paper.specs.Calls.{ran_to, over}
use Rattle.paper.specs.Counting.{whole_in, cut_in, entries_in}

-- what blocks that are loaded say of one entry
unfoldable pub ran_on : List Key → List ℕ → List ℕ → Answer Ran
unfolding entry_of run_along
ran_on ks blocks entry = entry_of ks entry >>= λ e. ok (ran_to (run_along ks e (program blocks)))

-- "a byte for each entry .. (accepted, violated, refused 20)"; the numbers are those that C is told a judgement by
abbrev pub verdict_byte : Answer Ran → ℕ
verdict_byte (ok r) = cond r.accepted 1 2
verdict_byte (refused n i at) = 0

-- an entry that is refused takes no step
abbrev pub steps_on : Answer Ran → ℕ
steps_on (ok r) = r.steps
steps_on (refused n i at) = 0

abbrev pub sum : List ℕ → ℕ
sum [] = 0
sum (n ∷ ns) = n + sum ns

-- the bytes, and the steps of all entries, of which 64 bits are kept
pub record Verdicts : Type 0 where
  pub bytes : List ℕ
  pub steps : ℕ

unfoldable pub verdicts_on : List Key → List ℕ → List ℕ → Verdicts
unfolding ran_on
verdicts_on ks blocks entries =
    record {
      bytes = map (λ e. verdict_byte (ran_on ks blocks e)) (entries_in ks entries);
      steps = sum (map (λ e. steps_on (ran_on ks blocks e)) (entries_in ks entries)) % 2 ^ 64;
    }

-- "a wrong length is 19 at its length": no last entry is cut
abbrev pub whole_only : List Key → List ℕ → Answer (Unit {0})
whole_only ks entries = require (eqb (cut_in ks entries) 0) 19 in_entry (length entries)

-- "too few answer bytes 15", at their number. How many are wanted is known once no entry is cut, so it comes last
abbrev pub answers_fit : List Key → List ℕ → List ℕ → Answer (Unit {0})
answers_fit ks entries answers = require (leb (whole_in ks entries) (length answers)) 15 in_buffer (length answers)

-- "loads once, then"
unfoldable pub ran_all : List ℕ → List ℕ → List ℕ → List ℕ → Answer Verdicts
unfolding keys loaded verdicts_on
ran_all list blocks entries answers =
    keys list
    >>= λ ks. loaded ks blocks
    >>= λ _. whole_only ks entries
    >>= λ _. answers_fit ks entries answers
    >>= λ _. ok (verdicts_on ks blocks entries)

-- What the call answers: how many entries there are, and the steps. The byte of each stands in the answers that are lent, from the first on; later
-- ones stay, and a refusal changes none

pub record AllRan : Type 0 where
  pub entries : ℕ
  pub steps : ℕ

abbrev pub all_ran : Verdicts → AllRan
all_ran v = record { entries = length v.bytes; steps = v.steps }

unfoldable pub run_all_answer : List ℕ → List ℕ → List ℕ → List ℕ → Answer AllRan
unfolding ran_all
run_all_answer list blocks entries answers = ran_all list blocks entries answers >>= λ v. ok (all_ran v)

abbrev pub answered : Answer Verdicts → List ℕ → List ℕ
answered (ok v) answers = over v.bytes answers
answered (refused n i at) answers = answers

unfoldable pub run_all_bytes : List ℕ → List ℕ → List ℕ → List ℕ → List ℕ
unfolding ran_all
run_all_bytes list blocks entries answers = answered (ran_all list blocks entries answers) answers

abbrev pub all_ran_by : RanAll → AllRan
all_ran_by a = record { entries = a.entries; steps = a.steps }

abbrev pub ran_over : ℕ → ℕ → Result RanAll Refusal
ran_over n s = Ok (record { entries = n; steps = s })

abbrev pub running_all_says : Result RanAll Refusal → Answer AllRan
running_all_says = says_as all_ran_by
