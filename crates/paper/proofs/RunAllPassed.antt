-- The call of a table passes exactly where the blocks load, no entry is cut and there is an answer for each; and then `run` comes to the same stage
-- with each entry.
use Prim.Native.Nat.{ℕ, ◌≤◌}
use mathlib.Core.Path.{◌≡◌, refl, sym, ap, subst, ◌∙◌}
use mathlib.Core.List.{List}
use lib.ListN.{length}
use lib.Dec.{eqb, leb}
use borrow.Author.Tests.{eqb-true, eq-eqb, leb-true, le-leb}
use Rattle.paper.specs.Answers.{Input, in_entry, in_buffer, Answer, ok, refused, ◌>>=◌}
use Rattle.paper.specs.Keys.{Key, keys}
use Rattle.paper.specs.Loading.{loaded}
use Rattle.paper.specs.Calls.{run_answer, over}
use Rattle.paper.specs.Counting.{whole_in, cut_in}
use Rattle.paper.specs.RunAll.{ran_on, Verdicts, verdicts_on, whole_only, answers_fit, ran_all, all_ran, run_all_answer, answered, run_all_bytes}
use Rattle.paper.specs.Demands.{AllRunnable, verdicts_in}
use Rattle.paper.proofs.Stages.{never_ok, ok_same, bind_ok, require_ok}

-- where it passes

module _ (list blocks entries answers : List ℕ) where
  pub ran_all_lem : (j : AllRunnable list blocks entries answers) → ran_all list blocks entries answers ≡ ok (verdicts_in list blocks entries answers j)
  unfolding ran_all
  ran_all_lem j =
      rw (j.listed, j.loads, eq-eqb (cut_in j.ks entries) 0 j.whole, le-leb (whole_in j.ks entries) (length answers) j.room)

  pub all_runnable : (v : Verdicts) → ran_all list blocks entries answers ≡ ok v
      → (j : AllRunnable list blocks entries answers) × (verdicts_in list blocks entries answers j ≡ v)
  unfolding ran_all
  all_runnable v h =
      let last : List Key → Unit {0} → Answer Verdicts = λ ks _. ok (verdicts_on ks blocks entries) in
      let fit : List Key → Answer Verdicts = λ ks. answers_fit ks entries answers >>= last ks in
      let (ks, listed, rest) = bind_ok (keys list) (λ ks. loaded ks blocks >>= λ _. whole_only ks entries >>= λ _. fit ks) v h in
      let (n, loads, more) = bind_ok (loaded ks blocks) (λ _. whole_only ks entries >>= λ _. fit ks) v rest in
      let (u, whole, few) = bind_ok (whole_only ks entries) (λ _. fit ks) v more in
      let (w, room, end) = bind_ok (answers_fit ks entries answers) (last ks) v few in
      let none_cut = require_ok (eqb (cut_in ks entries) 0) 19 in_entry (length entries) u whole in
      let enough = require_ok (leb (whole_in ks entries) (length answers)) 15 in_buffer (length answers) w room in (
        record {
          ks = ks;
          listed = listed;
          count = n;
          loads = loads;
          whole = eqb-true (cut_in ks entries) 0 none_cut;
          room = leb-true (whole_in ks entries) (length answers) enough;
        },
        ok_same (verdicts_on ks blocks entries) v end,
      )

  -- and what is known there, with the keys of the list
  pub record Known (ks : List Key) (v : Verdicts) : Type 0 where
    pub count : ℕ
    pub loads : loaded ks blocks ≡ ok count
    pub whole : cut_in ks entries ≡ 0
    pub room : whole_in ks entries ≤ length answers
    pub is : verdicts_on ks blocks entries ≡ v

  pub known : (v : Verdicts) → ran_all list blocks entries answers ≡ ok v → (ks : List Key) → keys list ≡ ok ks → Known ks v
  known v h ks listed =
      let (j, same) = all_runnable v h in
      subst (λ (x : List Key). Known x v) (ok_same j.ks ks (sym j.listed ∙ listed))
      (record { count = j.count; loads = j.loads; whole = j.whole; room = j.room; is = same })

  pub passed_bytes : (v : Verdicts) → ran_all list blocks entries answers ≡ ok v → run_all_bytes list blocks entries answers ≡ over v.bytes answers
  unfolding run_all_bytes
  passed_bytes v h = ap (λ (x : Answer Verdicts). answered x answers) h

-- a refusal of the answer is one of the verdicts: no byte that is lent is changed

refused_before : (answers : List ℕ) (x : Answer Verdicts) (n : ℕ) (i : Input) (at : ℕ)
    → (x >>= λ v. ok (all_ran v)) ≡ refused n i at → answered x answers ≡ answers
refused_before answers (ok v) n i at e = absurd (never_ok (sym e))
refused_before answers (refused m j to) n i at e = refl

pub run_all_unchanged : (list blocks entries answers : List ℕ) (n : ℕ) (i : Input) (at : ℕ)
    → run_all_answer list blocks entries answers ≡ refused n i at → run_all_bytes list blocks entries answers ≡ answers
unfolding run_all_answer run_all_bytes
run_all_unchanged list blocks entries answers n i at e = refused_before answers (ran_all list blocks entries answers) n i at e

-- `run` comes to the same stage
pub ran_as_run : (list blocks : List ℕ) (ks : List Key) (n : ℕ) → keys list ≡ ok ks → loaded ks blocks ≡ ok n → (entry : List ℕ)
    → ran_on ks blocks entry ≡ run_answer list blocks entry
unfolding ran_on run_answer
ran_as_run list blocks ks n listed loads entry = rw (listed, loads)
