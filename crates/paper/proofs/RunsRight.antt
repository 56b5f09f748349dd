-- Demand 2 of a run: it is refused exactly when the list does not pass, the blocks do not load or the entry does not conform; and else it says
-- the bool that is left, and how many steps were taken.
use Prim.Native.Nat.{ℕ}
use Rattle.paper.specs.declared.Verdict.TheVariants.{Accepted, Violated}
use Rattle.std.specs.Prelude.{Result, Err, Ok}
use Rattle.paper.specs.declared.Refusal.{Refusal}
use Rattle.paper.specs.declared.Ended.{Ended}
use mathlib.Core.Path.{◌≡◌, refl, sym, ap, ◌∙◌}
use mathlib.Core.Logic.{◌↔◌}
use mathlib.Core.Bool.{Bool, true, false}
use mathlib.Core.List.{List, [], ◌∷◌}
use lib.ListN.{length}
use Rattle.paper.specs.declared.Place.{Place}
use Rattle.paper.specs.Answers.{Answer, ok, ◌>>=◌, Ran, running_says, ended}
use Rattle.paper.specs.Keys.{Key, keys}
use Rattle.paper.specs.Entry.{Entry, entry_of}
use Rattle.paper.specs.Meaning.{truth}
use Rattle.paper.specs.Loading.{program, loaded, Step, Run, done, run_along}
use Rattle.paper.specs.Calls.{ran_to, run_answer}
use Rattle.paper.specs.LoadedBlocksRun.{Runs}
use Rattle.paper.specs.Promised.{verdict_in, RunPromised}
use Rattle.paper.specs.Demands.{Runnable, LeavesIn, RanRight}
use Rattle.paper.proofs.Stages.{never_ok, ok_same, bind_ok}
use Rattle.paper.proofs.LoadedBlocksRun.{conforming, loaded_runs}
use Rattle.paper.proofs.Promised.{ran_says, running_same}

-- blocks that load, with an entry, are run

module _ (list blocks entry : List ℕ) where
  abbrev goes : Runnable list blocks entry → Run
  goes j = run_along j.ks j.on (program blocks)

  runnable_answer : (j : Runnable list blocks entry) → run_answer list blocks entry ≡ ok (ran_to (goes j))
  unfolding run_answer
  runnable_answer j = rw (j.listed, j.loads, j.conforms)

  answer_runnable : (r : Ran) → run_answer list blocks entry ≡ ok r → Runnable list blocks entry
  unfolding run_answer
  answer_runnable r e =
      let come : List Key → Entry → Answer Ran = λ ks e. ok (ran_to (run_along ks e (program blocks))) in
      let (ks, listed, rest) = bind_ok (keys list) (λ ks. loaded ks blocks >>= λ _. entry_of ks entry >>= come ks) r e in
      let (n, loads, last) = bind_ok (loaded ks blocks) (λ _. entry_of ks entry >>= come ks) r rest in
      let (on, conforms, _) = bind_ok (entry_of ks entry) (come ks) r last in
      record { ks = ks; listed = listed; count = n; loads = loads; on = on; conforms = conforms }

  -- one bool is left
  runnable_truth : (j : Runnable list blocks entry) → Runs j.ks j.on blocks j.count
  runnable_truth j = loaded_runs j.ks blocks j.count j.loads j.on (conforming j.ks entry j.on j.conforms)

  -- so what a run says is that bool, and its steps
  module _ (r : Result Ended Refusal) (promised : RunPromised list blocks entry r) where
    run_refuses : (got : Result Ended Refusal) → r ≡ got → ¬ Runnable list blocks entry → (v : Refusal) × (got ≡ Err v)
    run_refuses (Ok a) e unfit = absurd (unfit (answer_runnable _ (sym promised ∙ ap running_says e)))
    run_refuses (Err v) e unfit = (v, refl)

    runnable_runs : ((v : Refusal) × (r ≡ Err v)) → ¬ Runnable list blocks entry
    runnable_runs (v, e) j = never_ok (sym (ap running_says e) ∙ promised ∙ runnable_answer j)

    told_in_steps : (j : Runnable list blocks entry) (b : Bool) (n : ℕ) → (r ≡ verdict_in b n) ↔ LeavesIn list blocks entry j b n
    told_in_steps j b n =
        let run = runnable_truth j in
        let answered : (path : List Step) (c : Bool) → goes j ≡ done path (truth c ∷ [])
        → run_answer list blocks entry ≡ ok (record { accepted = c; steps = length path }) =
        λ path c there. runnable_answer j ∙ ap (λ x. ok (ran_to x)) there in (
          λ e.
              let same : ◌≡◌ {A = Ran} (record { accepted = run.bit; steps = length run.path }) (record { accepted = b; steps = n }) =
              ok_same _ _ (sym (answered run.path run.bit run.to) ∙ sym promised ∙ ap running_says e ∙ ran_says b n) in
              (run.path, run.to ∙ ap (λ (x : Ran). done run.path (truth x.accepted ∷ [])) same, ap (λ (x : Ran). x.steps) same),
          λ (path, there, size).
              running_same r (verdict_in b n)
              (promised ∙ answered path b there ∙ ap (λ (m : ℕ). ok (record { accepted = b; steps = m })) size ∙ sym (ran_says b n)),
        )

pub ran_right : (list blocks entry : List ℕ) (r : Result Ended Refusal) → RunPromised list blocks entry r → RanRight list blocks entry r
ran_right list blocks entry r promised =
    record {
      refuses = (runnable_runs list blocks entry r promised, run_refuses list blocks entry r promised r refl);
      accepts = λ j n. told_in_steps list blocks entry r promised j true n;
      violates = λ j n. told_in_steps list blocks entry r promised j false n;
    }
