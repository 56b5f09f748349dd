-- The call of a table against `run` on each of its entries: "byte i is what `run` says of entry i. .. steps are summed"; and against itself, on the
-- stretches of a table.
use Rattle.std.specs.Prelude.{ℕ, ◌+◌, ◌*◌, ◌%◌, ◌^◌, ◌≤◌, ◌<◌, ◌≡◌, ◌↔◌, true, false, List, [], ◌∷◌, ◌++◌, map, length, take, drop, get_or, Ok, Err}
use Rattle.paper.specs.declared.Verdict.TheVariants.{Accepted, Violated}
use Rattle.paper.specs.Answers.{Answer, ok, refused, in_entry, Ran, running_says, Judgement}
use Rattle.paper.specs.Keys.{Key, keys}
use Rattle.paper.specs.Calls.{run_answer}
use Rattle.paper.specs.Counting.{entry_size, whole_in, cut_in, entries_in}
use Rattle.paper.specs.RunAll.{verdict_byte, steps_on, sum, Verdicts, verdicts_on, ran_all, run_all_bytes, ran_over}
use Rattle.paper.specs.Promised.{Bytes, Programs, Kept}
use Rattle.paper.specs.Demands.{blocks_written}

-- entry i of those that lie end to end
abbrev pub entry_at : List Key → List ℕ → ℕ → List ℕ
entry_at ks entries i = take (entry_size ks) (drop (i * entry_size ks) entries)

-- "byte i is what `run` says of entry i"
abbrev pub ByteIsRun : Type 0
ByteIsRun =
    (list blocks entries answers : List ℕ) (v : Verdicts) → ran_all list blocks entries answers ≡ ok v
    → (ks : List Key) → keys list ≡ ok ks → (i : ℕ) → i < whole_in ks entries
    → get_or (run_all_bytes list blocks entries answers) i 0 ≡ verdict_byte (run_answer list blocks (entry_at ks entries i))

-- What a byte tells of a run: "accepted, violated, refused 20". It is 0 where the entry breaks a rule, and for nothing else: a run that is refused at
-- all is refused so
pub record Tells (size : ℕ) (ran : Answer Ran) (byte : ℕ) : Type 0 where
  pub accepts : (byte ≡ 1) ↔ ((n : ℕ) × (ran ≡ ok (record { accepted = true; steps = n })))
  pub violates : (byte ≡ 2) ↔ ((n : ℕ) × (ran ≡ ok (record { accepted = false; steps = n })))
  pub refuses : (byte ≡ 0) ↔ ((at : ℕ) × (at < size) × (ran ≡ refused 20 in_entry at))

abbrev pub ByteTells : Type 0
ByteTells =
    (list blocks entries answers : List ℕ) (v : Verdicts) → ran_all list blocks entries answers ≡ ok v
    → (ks : List Key) → keys list ≡ ok ks → (i : ℕ) → i < whole_in ks entries
    → Tells (entry_size ks) (run_answer list blocks (entry_at ks entries i)) (get_or (run_all_bytes list blocks entries answers) i 0)

-- "later bytes of the answers stay"; and there are as many as before, of a call that is refused too
abbrev pub LaterStay : Type 0
LaterStay =
    (list blocks entries answers : List ℕ) (v : Verdicts) → ran_all list blocks entries answers ≡ ok v
    → (ks : List Key) → keys list ≡ ok ks → (i : ℕ) → whole_in ks entries ≤ i
    → get_or (run_all_bytes list blocks entries answers) i 0 ≡ get_or answers i 0

abbrev pub AsManyAsBefore : Type 0
AsManyAsBefore = (list blocks entries answers : List ℕ) → length (run_all_bytes list blocks entries answers) ≡ length answers

-- "steps are summed": those of `run` on each entry

abbrev pub steps_of_runs : List ℕ → List ℕ → List (List ℕ) → ℕ
steps_of_runs list blocks es = sum (map (λ e. steps_on (run_answer list blocks e)) es)

abbrev pub StepsAreRuns : Type 0
StepsAreRuns =
    (list blocks entries answers : List ℕ) (v : Verdicts) → ran_all list blocks entries answers ≡ ok v
    → (ks : List Key) → keys list ≡ ok ks → v.steps ≡ steps_of_runs list blocks (entries_in ks entries) % 2 ^ 64

-- A run takes no more steps than there are instructions, 3,075 of them at most in 123 blocks: so of 2^52 entries no step is lost. As many lie in 2^54
-- bytes at the least, where there is no key

abbrev pub StepsOfEntries : Type 0
StepsOfEntries =
    (list blocks entries answers : List ℕ) (v : Verdicts) → ran_all list blocks entries answers ≡ ok v
    → (ks : List Key) → keys list ≡ ok ks → whole_in ks entries ≤ 2 ^ 52 → v.steps ≡ steps_of_runs list blocks (entries_in ks entries)

abbrev pub StepsOfBytes : Type 0
StepsOfBytes =
    (list blocks entries answers : List ℕ) (v : Verdicts) → ran_all list blocks entries answers ≡ ok v
    → (ks : List Key) → keys list ≡ ok ks → length entries ≤ 2 ^ 54 → v.steps ≡ steps_of_runs list blocks (entries_in ks entries)

-- all of it at once, of programs that keep their promises: the one call against the other
pub record AsRun (p : Programs) (list blocks entries answers : List ℕ) (ks : List Key) (n s : ℕ) : Type 0 where
  pub all : n ≡ whole_in ks entries
  pub each : (i : ℕ) → i < n
      → get_or (p.run_all list blocks entries answers).bytes i 0 ≡ verdict_byte (running_says (p.run list blocks (entry_at ks entries i)))
  pub later : (i : ℕ) → n ≤ i → get_or (p.run_all list blocks entries answers).bytes i 0 ≡ get_or answers i 0
  pub steps : s ≡ sum (map (λ e. steps_on (running_says (p.run list blocks e))) (entries_in ks entries)) % 2 ^ 64

abbrev pub TableIsItsRuns : Type 0
TableIsItsRuns =
    (p : Programs) → Kept p
    → (list blocks entries answers : List ℕ) → Bytes list → Bytes blocks → Bytes entries → Bytes answers
    → (n s : ℕ) → (p.run_all list blocks entries answers).answer ≡ ran_over n s
    → (ks : List Key) → keys list ≡ ok ks → AsRun p list blocks entries answers ks n s

-- and where the blocks are those that a text was translated into, what the text is judged to say of each entry

abbrev pub judgement_byte : Judgement → ℕ
judgement_byte (Ok Accepted) = 1
judgement_byte (Ok Violated) = 2
judgement_byte (Err v) = 0

abbrev pub TableIsJudged : Type 0
TableIsJudged =
    (p : Programs) → Kept p
    → (text list buffer : List ℕ) → Bytes text → Bytes list → Bytes buffer → (m : ℕ) → (p.translate text list buffer).answer ≡ Ok m
    → (let blocks = blocks_written m (p.translate text list buffer).buffer in
    (entries answers : List ℕ) → Bytes entries → Bytes answers
    → (n s : ℕ) → (p.run_all list blocks entries answers).answer ≡ ran_over n s
    → (ks : List Key) → keys list ≡ ok ks → (i : ℕ) → i < n
    → get_or (p.run_all list blocks entries answers).bytes i 0 ≡ judgement_byte (p.judge text list (entry_at ks entries i)))

-- Two stretches of a table: whole entries, and then others. It may be judged a stretch at a time, each with answers of its own

abbrev pub together : Verdicts → Verdicts → Verdicts
together v w = record { bytes = v.bytes ++ w.bytes; steps = (v.steps + w.steps) % 2 ^ 64 }

abbrev pub StretchesJoin : Type 0
StretchesJoin =
    (ks : List Key) (blocks first rest : List ℕ) → cut_in ks first ≡ 0
    → verdicts_on ks blocks (first ++ rest) ≡ together (verdicts_on ks blocks first) (verdicts_on ks blocks rest)

pub record OneCall (list blocks first rest early late : List ℕ) (v w : Verdicts) : Type 0 where
  pub says : ran_all list blocks (first ++ rest) (early ++ late) ≡ ok (together v w)
  pub holds : run_all_bytes list blocks (first ++ rest) (early ++ late) ≡ run_all_bytes list blocks first early ++ run_all_bytes list blocks rest late

abbrev pub CallsJoin : Type 0
CallsJoin =
    (list blocks first rest early late : List ℕ) (v w : Verdicts)
    → ran_all list blocks first early ≡ ok v → length early ≡ length v.bytes → ran_all list blocks rest late ≡ ok w
    → OneCall list blocks first rest early late v w

-- of one entry the call says what `run` says
pub record OfOne (list blocks entry : List ℕ) (v : Verdicts) : Type 0 where
  pub byte : v.bytes ≡ verdict_byte (run_answer list blocks entry) ∷ []
  pub steps : v.steps ≡ steps_on (run_answer list blocks entry)

abbrev pub OneIsRun : Type 0
OneIsRun =
    (list blocks entry answers : List ℕ) (v : Verdicts) → ran_all list blocks entry answers ≡ ok v
    → (ks : List Key) → keys list ≡ ok ks → length entry ≡ entry_size ks → OfOne list blocks entry v
