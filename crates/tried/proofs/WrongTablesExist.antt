-- The wrong tables are real: each says what another does, but for the answers, which go by a rule of its own, or for the steps; and one that pads a cut
-- entry with zeros says what another says of the longer table.
use Prim.Native.Nat.{ℕ, zero, suc, ◌+◌, ◌*◌, ◌-◌, ◌/◌, ◌%◌, ◌<◌}
use Rattle.std.specs.Prelude.{Result, Err, Ok}
use Rattle.paper.specs.declared.Refusal.{Refusal}
use Rattle.paper.specs.declared.RanAll.{RanAll}
use native.Mathlib.Nat.{suc-mul, mod-lt, div-add-mod', mul-add-div_right, mul-add-mod_self_right, zero-div, zero-mod}
use native.Mathlib.Omega.{arith}
use mathlib.Core.Path.{◌≡◌, refl, ap, ◌∙◌}
use mathlib.Core.List.{List, ◌++◌}
use lib.ListN.{length, replicate, length-append, length-replicate}
use Rattle.paper.specs.Answers.{Answer, ok, refused, ◌>>=◌, refusal}
use Rattle.paper.specs.Keys.{Key, keys}
use Rattle.paper.specs.Counting.{entry_size, whole_in, cut_in, entries_in}
use Rattle.paper.specs.RunAll.{verdicts_on, AllRan, running_all_says, ran_over}
use Rattle.paper.specs.Promised.{Bytes}
use Rattle.paper.specs.Demands.{AllRunnable}
use Rattle.tried.specs.WrongTables.{TableRunner, RunsTablesRight, Rule, WritesBy, last_steps, TellsLastSteps, TakesCut}
use Rattle.paper.proofs.ByteLists.{append_bytes, zero_bytes}
use Rattle.paper.proofs.EntriesLaid.{some_size}
use Rattle.paper.proofs.Promised.{running_all_same}
use Rattle.paper.proofs.RunAllRight.{byte_for_each}

-- by a rule

module _ (rule : Rule) (right : TableRunner) where
  abbrev ruled : Answer (List Key) → List ℕ → List ℕ → List ℕ → List ℕ
  ruled (ok ks) blocks entries answers = rule ks blocks (entries_in ks entries) answers
  ruled (refused n i at) blocks entries answers = answers

  writer : TableRunner
  writer list blocks entries answers =
      record { answer = (right list blocks entries answers).answer; bytes = ruled (keys list) blocks entries answers }

  by_rule : WritesBy rule writer
  unfolding writer
  by_rule list blocks entries answers _ _ _ _ j = ap (λ (x : Answer (List Key)). ruled x blocks entries answers) j.listed

  pub writer_real : (x : TableRunner) × WritesBy rule x
  writer_real = (writer, by_rule)

-- with the steps of the last

abbrev in_steps : ℕ → Result RanAll Refusal → Result RanAll Refusal
in_steps n (Ok a) = ran_over a.entries n
in_steps n (Err v) = Err v

abbrev stepped : ℕ → AllRan → AllRan
stepped n a = record { entries = a.entries; steps = n }

says_stepped : (n : ℕ) (a : Result RanAll Refusal) → running_all_says (in_steps n a) ≡ (running_all_says a >>= λ r. ok (stepped n r))
says_stepped n (Ok a) = refl
says_stepped n (Err v) = refl

module _ (right : TableRunner) (all : RunsTablesRight right) where
  abbrev last_for : Answer (List Key) → List ℕ → List ℕ → ℕ
  last_for (ok ks) blocks entries = last_steps ks blocks (entries_in ks entries)
  last_for (refused n i at) blocks entries = 0

  stepper : TableRunner
  stepper list blocks entries answers =
      let r = right list blocks entries answers in
      record { answer = in_steps (last_for (keys list) blocks entries) r.answer; bytes = r.bytes }

  last_told : TellsLastSteps stepper
  unfolding stepper
  last_told list blocks entries answers l s e a j =
      let n = last_for (keys list) blocks entries in
      let last : n ≡ last_steps j.ks blocks (entries_in j.ks entries) = ap (λ (x : Answer (List Key)). last_for x blocks entries) j.listed in
      says_stepped n (right list blocks entries answers).answer
      ∙ ap (λ (x : Answer AllRan). x >>= λ r. ok (stepped n r)) ((all list blocks entries answers l s e a).totals j)
      ∙ ap (λ (m : ℕ). ok (record { entries = m; steps = n })) (byte_for_each j.ks blocks entries)
      ∙ ap (λ (m : ℕ). ok (record { entries = whole_in j.ks entries; steps = m })) last

  pub stepper_real : (x : TableRunner) × TellsLastSteps x
  stepper_real = (stepper, last_told)

-- with the entry that is cut, and zeros

module _ (ks : List Key) (entries : List ℕ) where
  abbrev missing : ℕ
  missing = entry_size ks - cut_in ks entries

  abbrev padded : List ℕ
  padded = entries ++ replicate missing 0

  -- one entry more, and then none is cut

  padded_length : length padded ≡ suc (whole_in ks entries) * entry_size ks + 0
  padded_length =
      let size = entry_size ks in
      let n = whole_in ks entries in
      let here = div-add-mod' (length entries) size in
      let below = mod-lt (length entries) (some_size ks) in
      omega (arith, here, below, length-append entries (replicate missing 0), length-replicate {A = ℕ} missing 0, suc-mul n size)

  padded_whole : whole_in ks padded ≡ suc (whole_in ks entries)
  padded_whole =
      let size = entry_size ks in
      let e = ap (λ (n : ℕ). n / size) padded_length ∙ mul-add-div_right (some_size ks) (suc (whole_in ks entries)) 0 in
      omega (arith, e, zero-div size)

  padded_cut : cut_in ks padded ≡ 0
  padded_cut =
      let size = entry_size ks in
      ap (λ (n : ℕ). n % size) padded_length ∙ mul-add-mod_self_right (suc (whole_in ks entries)) size 0 ∙ zero-mod size

-- where none is cut it says what the other says

abbrev where_cut : ℕ → List ℕ → List ℕ → List ℕ
where_cut zero s t = s
where_cut (suc n) s t = t

is_cut : (n : ℕ) (s t : List ℕ) → 0 < n → where_cut n s t ≡ t
is_cut zero s t h = absurd (omega (arith, h))
is_cut (suc n) s t h = refl

module _ (right : TableRunner) (all : RunsTablesRight right) where
  abbrev padded_by : Answer (List Key) → List ℕ → List ℕ
  padded_by (ok ks) entries = where_cut (cut_in ks entries) entries (padded ks entries)
  padded_by (refused n i at) entries = entries

  padder : TableRunner
  padder list blocks entries answers = right list blocks (padded_by (keys list) entries) answers

  takes_cut : TakesCut padder
  unfolding padder
  takes_cut list blocks entries answers l s e a ks listed count loads cut room =
      let more = padded ks entries in
      let lent : Bytes more = append_bytes entries (replicate (missing ks entries) 0) e (zero_bytes (missing ks entries)) in
      let j : AllRunnable list blocks more answers =
      record {
        ks = ks;
        listed = listed;
        count = count;
        loads = loads;
        whole = padded_cut ks entries;
        room = omega (arith, padded_whole ks entries, room);
      }
      in
      let v = verdicts_on ks blocks more in
      let many : length v.bytes ≡ suc (whole_in ks entries) = byte_for_each ks blocks more ∙ padded_whole ks entries in
      let said = (all list blocks more answers l s lent a).totals j in
      let told : (right list blocks more answers).answer ≡ ran_over (suc (whole_in ks entries)) v.steps =
      running_all_same (right list blocks more answers).answer (ran_over (suc (whole_in ks entries)) v.steps)
      (said ∙ ap (λ (n : ℕ). ok (record { entries = n; steps = v.steps })) many)
      in
      let read : padded_by (keys list) entries ≡ more =
      ap (λ (x : Answer (List Key)). padded_by x entries) listed ∙ is_cut (cut_in ks entries) entries more cut
      in
      (v.steps, ap (λ (t : List ℕ). (right list blocks t answers).answer) read ∙ told)

  pub padder_real : (x : TableRunner) × TakesCut x
  padder_real = (padder, takes_cut)
