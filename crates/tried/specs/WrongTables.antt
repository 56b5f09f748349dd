-- Tables that are judged wrongly: every entry as the first; up to the first that is refused, and no further; with the later answers cleared; with a
-- refused entry told as violated; with the steps of the last entry alone; and with a cut entry taken for a whole one. Each is described so that a
-- sloppy maker's is one, and fails what is asked of a table. As programs they stand in WrongPrograms, and there they are shown to be real.
use Rattle.std.specs.Prelude.{ℕ, suc, ◌-◌, ◌≤◌, ◌<◌, ◌≡◌, cond, List, [], ◌∷◌, ◌++◌, map, length, replicate, eqb}
use Rattle.paper.specs.Answers.{ok}
use Rattle.paper.specs.Keys.{Key, keys}
use Rattle.paper.specs.Loading.{loaded}
use Rattle.paper.specs.Calls.{over}
use Rattle.paper.specs.Counting.{whole_in, cut_in, entries_in}
use Rattle.paper.specs.RunAll.{ran_on, verdict_byte, steps_on, running_all_says, ran_over}
use Rattle.paper.specs.Promised.{Bytes, RunAllResult}
use Rattle.paper.specs.Demands.{AllRunnable, RunAllRight}

-- what is answered for a list, blocks, entries and the answers that are lent
abbrev pub TableRunner : Type 0
TableRunner = List ℕ → List ℕ → List ℕ → List ℕ → RunAllResult

-- what demand 2 asks of it
abbrev pub RunsTablesRight : TableRunner → Type 0
RunsTablesRight x =
    (list blocks entries answers : List ℕ) → Bytes list → Bytes blocks → Bytes entries → Bytes answers
    → RunAllRight list blocks entries answers (x list blocks entries answers)

-- what the answers hold afterwards, by the keys, the blocks, the entries, and what they held
abbrev pub Rule : Type 0
Rule = List Key → List ℕ → List (List ℕ) → List ℕ → List ℕ

-- they do for every table that can be judged
abbrev pub WritesBy : Rule → TableRunner → Type 0
WritesBy rule x =
    (list blocks entries answers : List ℕ) → Bytes list → Bytes blocks → Bytes entries → Bytes answers
    → (j : AllRunnable list blocks entries answers)
    → (x list blocks entries answers).bytes ≡ rule j.ks blocks (entries_in j.ks entries) answers

abbrev pub byte_of : List Key → List ℕ → List ℕ → ℕ
byte_of ks blocks entry = verdict_byte (ran_on ks blocks entry)

-- every entry as the first

abbrev pub as_the_first : List Key → List ℕ → List (List ℕ) → List ℕ
as_the_first ks blocks [] = []
as_the_first ks blocks (e ∷ es) = byte_of ks blocks e ∷ map (λ _. byte_of ks blocks e) es

abbrev pub first_for_all : Rule
first_for_all ks blocks es answers = over (as_the_first ks blocks es) answers

abbrev pub JudgesFirst : TableRunner → Type 0
JudgesFirst = WritesBy first_for_all

-- up to the first that is refused: the bytes after it stay as they were

abbrev pub up_to_refused : List ℕ → List ℕ
up_to_refused [] = []
up_to_refused (b ∷ bs) =
    let more = b ∷ up_to_refused bs in
    cond (eqb b 0) (b ∷ []) more

abbrev pub until_refused : Rule
until_refused ks blocks es answers = over (up_to_refused (map (byte_of ks blocks) es)) answers

abbrev pub StopsAtRefused : TableRunner → Type 0
StopsAtRefused = WritesBy until_refused

-- zeros in the later answers
abbrev pub clearing_later : Rule
clearing_later ks blocks es answers = map (byte_of ks blocks) es ++ replicate (length answers - length es) 0

abbrev pub ClearsLater : TableRunner → Type 0
ClearsLater = WritesBy clearing_later

-- 2 for 0

abbrev pub or_violated : ℕ → ℕ
or_violated b = cond (eqb b 0) 2 b

abbrev pub refused_as_violated : Rule
refused_as_violated ks blocks es answers = over (map (λ e. or_violated (byte_of ks blocks e)) es) answers

abbrev pub TellsViolated : TableRunner → Type 0
TellsViolated = WritesBy refused_as_violated

-- the steps of the last entry alone

abbrev pub last_of : ℕ → List ℕ → ℕ
last_of n [] = n
last_of n (m ∷ ms) = last_of m ms

abbrev pub last_steps : List Key → List ℕ → List (List ℕ) → ℕ
last_steps ks blocks es = last_of 0 (map (λ e. steps_on (ran_on ks blocks e)) es)

abbrev pub TellsLastSteps : TableRunner → Type 0
TellsLastSteps x =
    (list blocks entries answers : List ℕ) → Bytes list → Bytes blocks → Bytes entries → Bytes answers
    → (j : AllRunnable list blocks entries answers)
    → running_all_says (x list blocks entries answers).answer
    ≡ ok (record { entries = whole_in j.ks entries; steps = last_steps j.ks blocks (entries_in j.ks entries) })

-- a cut entry is one more, whatever it reads for the bytes that are missing
abbrev pub TakesCut : TableRunner → Type 0
TakesCut x =
    (list blocks entries answers : List ℕ) → Bytes list → Bytes blocks → Bytes entries → Bytes answers
    → (ks : List Key) → keys list ≡ ok ks → (count : ℕ) → loaded ks blocks ≡ ok count
    → 0 < cut_in ks entries → suc (whole_in ks entries) ≤ length answers
    → (steps : ℕ) × ((x list blocks entries answers).answer ≡ ran_over (suc (whole_in ks entries)) steps)

-- the claim

pub record WrongTablesFail : Type 0 where
  pub first : (x : TableRunner) → JudgesFirst x → ¬ RunsTablesRight x
  pub stopping : (x : TableRunner) → StopsAtRefused x → ¬ RunsTablesRight x
  pub clearing : (x : TableRunner) → ClearsLater x → ¬ RunsTablesRight x
  pub as_violated : (x : TableRunner) → TellsViolated x → ¬ RunsTablesRight x
  pub last_steps_lem : (x : TableRunner) → TellsLastSteps x → ¬ RunsTablesRight x
  pub cut : (x : TableRunner) → TakesCut x → ¬ RunsTablesRight x
