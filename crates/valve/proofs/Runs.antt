-- The stages of a run, and of a table: their answers from those of the load, the entries and the answers that are lent.
use Prim.Native.Nat.{ℕ, ◌≤◌, ◌<◌, ◌/◌, ◌%◌}
use Rattle.paper.specs.declared.Refusal.{Refusal}
use Rattle.std.specs.Prelude.{Err}
use native.Mathlib.Nat.{mod_self}
use native.Mathlib.Omega.{arith}
use mathlib.Core.Path.{◌≡◌, refl, sym, ap, subst, ◌∙◌}
use mathlib.Core.Bool.{Bool, true, false, cond}
use mathlib.Core.List.{List, [], ◌∷◌}
use lib.ListN.{length, get_or, length-map}
use borrow.Author.Tests.{eq-eqb, ne_eqb, le-leb, lt-leb}
use Rattle.paper.specs.declared.Place.TheVariants as P
use Rattle.paper.specs.Answers.{Answer, ok, refused, ◌>>=◌, Input, in_entry, Ran, refused_by}
use Rattle.paper.specs.Keys.{Key, keys}
use Rattle.paper.specs.Entry.{Entry, entry_of}
use Rattle.paper.specs.Loading.{program, loaded, run_along, left_true}
use Rattle.paper.specs.Calls.{over, load_answer, ran_to, run_answer}
use Rattle.paper.specs.Counting.{entry_size, whole_in, cut_in, entries_in}
use Rattle.paper.specs.RunAll.{verdict_byte, steps_on, Verdicts, verdicts_on, whole_only, answers_fit, ran_all, run_all_answer, run_all_bytes, ran_over}
use Rattle.paper.specs.Demands.{AllRunnable}
use Rattle.paper.specs.Promised.{RunAllResult, RunAllPromised}
use Rattle.paper.proofs.Stages.{bind_ok}
use Rattle.paper.proofs.EntriesLaid.{one_entry, entries_length}
use Rattle.paper.proofs.RunAllPassed.{ran_all_lem}
use Rattle.paper.proofs.RunAllRight.{one_is_run}
use Rattle.keys.specs.Says.{keys_in, conforms}
use Rattle.keys.proofs.Checked.{are_keys}
use Rattle.keys.proofs.Conforming.{entry_in, entered, not_entered}

-- what is promised of a table that is refused: the answers stay
abbrev pub unanswered : Refusal → List ℕ → RunAllResult
unanswered v answers = record { answer = Err v; bytes = answers }

module _ (list blocks : List ℕ) where
  -- a load that is refused refuses the call

  load_first : {A : Type 0} (next : List Key → Answer A) (a : Answer (List Key)) {k : ℕ} {i : Input} {at : ℕ}
      → (a >>= λ ks. loaded ks blocks) ≡ refused k i at → (a >>= λ ks. loaded ks blocks >>= λ _. next ks) ≡ refused k i at
  load_first next (ok ks) e = ap (λ (x : Answer ℕ). x >>= λ _. next ks) e
  load_first next (refused k i at) e = cc

  pub load_refused : (entry : List ℕ) {k : ℕ} {i : Input} {at : ℕ} → load_answer list blocks ≡ refused k i at
      → refused k i at ≡ run_answer list blocks entry
  unfolding load_answer run_answer
  load_refused entry e = sym (load_first _ (keys list) e)

  pub load_refused_all : (entries answers : List ℕ) (v : Refusal) → load_answer list blocks ≡ refused_by v
      → RunAllPromised list blocks entries answers (unanswered v answers)
  unfolding load_answer ran_all run_all_answer run_all_bytes
  load_refused_all entries answers v e =
      let rest : List Key → Answer Verdicts =
      λ ks. whole_only ks entries >>= λ _. answers_fit ks entries answers >>= λ _. ok (verdicts_on ks blocks entries)
      in
      let none = load_first rest (keys list) e in
      record { says = rw none; holds = rw none }

  -- and one that is not gives the keys
  pub passes : {n : ℕ} → load_answer list blocks ≡ ok n → (keys list ≡ ok (keys_in list)) × (loaded (keys_in list) blocks ≡ ok n)
  unfolding load_answer
  passes {n} e =
      let p = bind_ok (keys list) (λ ks. loaded ks blocks) n e in
      let q = are_keys list p.1 in
      (p.1 ∙ ap ok q, subst (λ ks. loaded ks blocks ≡ ok n) q p.2)

  module _ {n : ℕ} (listed : keys list ≡ ok (keys_in list)) (loads : loaded (keys_in list) blocks ≡ ok n) where
    -- one entry

    module _ (entry : List ℕ) where
      abbrev said : Answer Ran
      said = run_answer list blocks entry

      behind : said ≡ (entry_of (keys_in list) entry >>= λ m. ok (ran_to (run_along (keys_in list) m (program blocks))))
      unfolding run_answer
      behind = rw (listed, loads)

      pub entry_refused : {k : ℕ} {i : Input} {at : ℕ} → conforms (keys_in list) entry ≡ refused k i at → refused k i at ≡ said
      entry_refused f =
          sym (behind ∙ ap (λ (x : Answer Entry). x >>= λ m. ok (ran_to (run_along (keys_in list) m (program blocks)))) (not_entered (keys_in list) entry f))

      -- 19
      pub wrong_length : (size : ℕ) → size ≡ entry_size (keys_in list) → (length entry ≡ size → ⊥) → refused 19 in_entry (length entry) ≡ said
      unfolding entry_of
      wrong_length size is other =
          let wrong = ne_eqb (length entry) (entry_size (keys_in list)) (λ e. other (e ∙ sym is)) in
          sym (behind ∙ rw wrong)

      pub just_one : (size : ℕ) → size ≡ entry_size (keys_in list) → length entry ≡ size → whole_in (keys_in list) entry ≡ 1
      just_one size is fits = let ks = keys_in list in sym (entries_length ks entry) ∙ ap length (one_entry ks entry (fits ∙ is))

      -- the byte and the steps of a table of this entry alone
      pub record Alone (byte steps : ℕ) : Type 0 where
        pub byte_so : byte ≡ verdict_byte said
        pub steps_so : steps ≡ steps_on said

      pub alone : (size : ℕ) → size ≡ entry_size (keys_in list) → length entry ≡ size → (b : ℕ) (after : List ℕ) (steps : ℕ)
          → steps ≡ (verdicts_on (keys_in list) blocks entry).steps → after ≡ over (verdicts_on (keys_in list) blocks entry).bytes (b ∷ [])
          → Alone (get_or after 0 0) steps
      alone size is fits b after steps steps_so after-so =
          let ks = keys_in list in
          let whole = just_one size is fits in
          let none_cut : cut_in ks entry ≡ 0 = ap (λ (m : ℕ). m % entry_size ks) (fits ∙ is) ∙ mod_self (entry_size ks) in
          let runnable : AllRunnable list blocks entry (b ∷ []) =
          record { ks = ks; listed = listed; count = n; loads = loads; whole = none_cut; room = omega (arith, whole) }
          in
          let as-run = one_is_run list blocks entry (b ∷ []) _ (ran_all_lem list blocks entry (b ∷ []) runnable) ks listed (fits ∙ is) in
          record {
            byte_so = ap (λ (l : List ℕ). get_or l 0 0) (after-so ∙ ap (λ (l : List ℕ). over l (b ∷ [])) as-run.byte);
            steps_so = steps_so ∙ as-run.steps;
          }

      -- by its byte the entry is accepted or violated; one that has neither does not conform

      abbrev byte_in : Bool → ℕ
      byte_in b = cond b 1 2

      same_verdict : (a b : Bool) → byte_in a ≡ byte_in b → a ≡ b
      same_verdict true true e = refl
      same_verdict true false e = absurd (omega (arith, e))
      same_verdict false true e = absurd (omega (arith, e))
      same_verdict false false e = refl

      some_verdict : (a : Bool) → byte_in a ≡ 0 → ⊥
      some_verdict true e = omega (arith, e)
      some_verdict false e = omega (arith, e)

      pub told : (want : Bool) {byte steps : ℕ} → Alone byte steps → byte ≡ byte_in want
          → ok (record { accepted = want; steps = steps }) ≡ said
      told want {byte} {steps} a e = go said a.byte_so a.steps_so
        where
          go : (x : Answer Ran) → byte ≡ verdict_byte x → steps ≡ steps_on x → ok (record { accepted = want; steps = steps }) ≡ x
          go (ok r) b s = λ i. ok (record { accepted = same_verdict want r.accepted (sym e ∙ b) i; steps = s i })
          go (refused m i at) b s = absurd (some_verdict want (sym e ∙ b))

      pub not_conforming : {byte steps : ℕ} → Alone byte steps → (byte ≡ 1 → ⊥) → (byte ≡ 2 → ⊥) → conforms (keys_in list) entry ≡ ok tt → ⊥
      not_conforming {byte} a no_one no_two f =
          let there = behind ∙ ap (λ (x : Answer Entry). x >>= λ m. ok (ran_to (run_along (keys_in list) m (program blocks)))) (entered (keys_in list) entry f) in
          go (left_true (run_along (keys_in list) (entry_in (keys_in list) entry) (program blocks))) (a.byte_so ∙ ap verdict_byte there)
        where
          go : (b : Bool) → byte ≡ byte_in b → ⊥
          go true e = no_one e
          go false e = no_two e

    -- a table

    module _ (entries answers : List ℕ) (size : ℕ) (is : size ≡ entry_size (keys_in list)) where
      abbrev ks : List Key
      ks = keys_in list

      -- 19
      pub cut : (length entries % size ≡ 0 → ⊥) → RunAllPromised list blocks entries answers (unanswered (record { number = 19; place = P.Entry (length entries) }) answers)
      unfolding ran_all run_all_answer run_all_bytes
      cut some =
          let left = ne_eqb (cut_in ks entries) 0 (λ e. some (ap (λ (m : ℕ). length entries % m) is ∙ e)) in
          record { says = rw (listed, loads, left); holds = rw (listed, loads, left) }

      module _ (whole : length entries % size ≡ 0) where
        none_cut : cut_in ks entries ≡ 0
        none_cut = ap (λ (m : ℕ). length entries % m) (sym is) ∙ whole

        -- 15
        pub too_few : length answers < length entries / size
            → RunAllPromised list blocks entries answers (unanswered (record { number = 15; place = P.Buffer (length answers) }) answers)
        unfolding ran_all run_all_answer run_all_bytes
        too_few fewer =
            let ends = eq-eqb (cut_in ks entries) 0 none_cut in
            let over = lt-leb (whole_in ks entries) (length answers) (subst (λ (m : ℕ). length answers < length entries / m) is fewer) in
            record { says = rw (listed, loads, ends, over); holds = rw (listed, loads, ends, over) }

        -- the bytes
        pub room : length entries / size ≤ length answers → whole_in ks entries ≤ length answers
        room enough = subst (λ (m : ℕ). length entries / m ≤ length answers) is enough

        bytes_many : length (verdicts_on ks blocks entries).bytes ≡ length entries / size
        unfolding verdicts_on
        bytes_many = length-map (entries_in ks entries) _ ∙ entries_length ks entries ∙ ap (λ (m : ℕ). length entries / m) (sym is)

        pub ran : length entries / size ≤ length answers → (steps : ℕ) (after : List ℕ) → steps ≡ (verdicts_on ks blocks entries).steps
            → after ≡ over (verdicts_on ks blocks entries).bytes answers
            → RunAllPromised list blocks entries answers (record { answer = ran_over (length entries / size) steps; bytes = after })
        unfolding ran_all run_all_answer run_all_bytes
        ran enough steps after steps_so after-so =
            let ends = eq-eqb (cut_in ks entries) 0 none_cut in
            let within = le-leb (whole_in ks entries) (length answers) (room enough) in
            record {
              says = rw (listed, loads, ends, within) (λ i. ok (record { entries = sym bytes_many i; steps = steps_so i }));
              holds = rw (listed, loads, ends, within) after-so;
            }
