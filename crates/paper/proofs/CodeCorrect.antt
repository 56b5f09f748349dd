-- The code of a tree pushes the tree's value on every entry, in the steps counted over the tree, and its type in the load check: the run is
-- a way through code, and so is the load check, of the types of what is held.
use Prim.Native.Nat.{ℕ, suc, ◌+◌, ◌<◌}
use native.Mathlib.Nat.{add-zero}
use native.Mathlib.Omega.{arith}
use mathlib.Core.Path.{◌≡◌, refl, sym, ap, ◌∙◌}
use mathlib.Core.Bool.{Bool, true, false, cond, beq}
use mathlib.Core.Option
use mathlib.Core.Option.{Option, none, some}
use mathlib.Core.List.{List, [], ◌∷◌, ◌++◌, map, map-append, append_assoc}
use lib.ListN.{length, length-map, length-append, take}
use lib.Seq.{take_at}
use borrow.Author.Tests.{lt-ltb}
use lib.IntN.{pos}
use Rattle.paper.specs.Keys.{Key}
use Rattle.paper.specs.Entry.{Entry}
use Rattle.paper.specs.Types.{Ty, bool, int, of}
use Rattle.paper.specs.Meaning.{Value, truth, whole, matched, ty_of}
use Rattle.paper.specs.Code.{Skip, Instruction, skip, most_held, act, ends, walk, type_action, value_action, action_of, skip_of}
use Rattle.paper.specs.Loading.{lands_well, check_from, Step, Run, after, run_from}
use Rattle.paper.specs.LoadedBlocksRun.{Covers}
use Rattle.paper.specs.CodeCorrect.{after_all, CodePushesType, CodePushesValue}
use Rattle.paper.proofs.Walks.{act_follows, walk_append}
use Rattle.paper.proofs.LoadedBlocksRun.{action_follows}
use Rattle.paper.proofs.Landings.{held_same}
use Rattle.paper.proofs.TypeSoundness.{typed_meant}
use Rattle.paper.proofs.CodeLeads.{Way, code_leads}

-- sequences one after another

sum_append : (xs ys : List Instruction) (rest : List (Option Instruction))
    → map some (xs ++ ys) ++ rest ≡ map some xs ++ (map some ys ++ rest)
sum_append xs ys rest = rw (map-append some xs ys, append_assoc)

sum_length : (i : ℕ) (xs ys : List Instruction) → i + length xs + length ys ≡ i + length (xs ++ ys)
sum_length i xs ys = omega (arith, length-append xs ys)

next_length : (i : ℕ) (xs : List Instruction) → i + 1 + length xs ≡ i + suc (length xs)
next_length i xs = omega arith

-- The run.

abbrev step_at : ℕ → List Value → Step
step_at i s = record { at = i; held = s }

after_append : (path more : List Step) (r : Run) → after_all (path ++ more) r ≡ after_all path (after_all more r)
after_append [] more r = refl
after_append (p ∷ path) more r = ap (after p) (after_append path more r)

module _ (ks : List Key) (e : Entry) where
  -- from index i on, whatever follows
  record RunsTo (xs : List Instruction) (n : ℕ) (s t : List Value) (i : ℕ) (rest : List (Option Instruction)) : Type 0 where
    path : List Step
    many : length path ≡ n
    to : run_from ks e (map some xs ++ rest) 0 i s ≡ after_all path (run_from ks e rest 0 (i + length xs) t)

  abbrev RunLeads : List Instruction → ℕ → List Value → List Value → Type 0
  RunLeads xs n s t = (i : ℕ) (rest : List (Option Instruction)) → RunsTo xs n s t i rest

  run_stands : (s : List Value) → RunLeads [] 0 s s
  run_stands s i rest = record { path = []; many = refl; to = rw add-zero }

  run_steps : (x : Instruction) (s t : List Value) → skip_of (some x) ≡ none → act (value_action ks e x) s ≡ some t → RunLeads (x ∷ []) 1 s t
  unfolding run_from
  run_steps x s t plain h i rest = record { path = step_at i s ∷ []; many = refl; to = rw (h, plain) }

  run_goes : (xs ys : List Instruction) (n m : ℕ) (s t u : List Value) → RunLeads xs n s t → RunLeads ys m t u → RunLeads (xs ++ ys) (n + m) s u
  run_goes xs ys n m s t u h k i rest =
      let a = h i (map some ys ++ rest) in
      let b = k (i + length xs) rest in
      record {
        path = a.path ++ b.path;
        many = length-append a.path b.path ∙ omega arith;
        to = rw (sum_append xs ys rest, ← sum_length i xs ys, after_append a.path b.path) (a.to ∙ ap (after_all a.path) b.to);
      }

  -- instructions that are passed over
  passed_over : (xs : List Instruction) (rest : List (Option Instruction)) (i : ℕ) (s : List Value)
      → run_from ks e (map some xs ++ rest) (length xs) i s ≡ run_from ks e rest 0 (i + length xs) s
  unfolding run_from
  passed_over [] rest i s = rw add-zero
  passed_over (x ∷ xs) rest i s = rw (← next_length i xs) (passed_over xs rest (i + 1) s)

  run_skips : (k : Skip) (zs : List Instruction) (n : ℕ) (a b : Bool) (s : List Value) → length s < most_held → k.over ≡ length zs
      → RunLeads zs n (truth a ∷ s) (truth b ∷ s)
      → RunLeads (skip k ∷ zs) (cond (beq a k.on) 1 (1 + n)) (truth a ∷ s) (truth (cond (beq a k.on) k.to b) ∷ s)
  unfolding run_from
  run_skips k zs n a b s room far h i rest = go (beq a k.on) refl
    where
      go : (same : Bool) → beq a k.on ≡ same
          → RunsTo (skip k ∷ zs) (cond same 1 (1 + n)) (truth a ∷ s) (truth (cond same k.to b) ∷ s) i rest
      go true q =
          record {
            path = step_at i (truth a ∷ s) ∷ [];
            many = refl;
            to =
                rw (lt-ltb (length s) most_held room, q, far, ← next_length i zs)
                (ap (after (step_at i (truth a ∷ s))) (passed_over zs rest (i + 1) (truth k.to ∷ s)));
          }
      go false q =
          let on = h (i + 1) rest in
          record {
            path = step_at i (truth a ∷ s) ∷ on.path;
            many = omega arith;
            to = rw (lt-ltb (length s) most_held room, q, ← next_length i zs) (ap (after (step_at i (truth a ∷ s))) on.to);
          }

  run_way : Way ks e
  run_way = record { Leads = RunLeads; stands = run_stands; steps = run_steps; goes = run_goes; skips = run_skips }

pub code_pushes_value : CodePushesValue
unfolding run_way
code_pushes_value ks e covers t v h held room i rest =
    let r = code_leads ks e (run_way ks e) covers t v h held room i rest in
    (r.path, r.many, r.to)

-- The load check: the way of an entry that has a record for each key, on values of the types that are held.

module _ (ks : List Key) where
  -- a sequence that neither fails nor lands badly, whatever follows
  record ChecksTo (xs : List Instruction) (s t : List Ty) : Type 0 where
    walks : (i : ℕ) → walk i (map (action_of (type_action ks)) (map some xs)) s ≡ ends t
    checks : (i : ℕ) (rest : List (Option Instruction)) → check_from ks i (map some xs ++ rest) s ≡ check_from ks (i + length xs) rest t

  checks_append : (xs ys : List Instruction) (s t u : List Ty) → ChecksTo xs s t → ChecksTo ys t u → ChecksTo (xs ++ ys) s u
  checks_append xs ys s t u a b =
      let action = action_of (type_action ks) in
      record {
        walks =
            λ i. rw (map-append some xs ys, map-append action (map some xs) (map some ys), walk_append, a.walks i) (b.walks _);
        checks =
            λ i rest.
            rw (sum_append xs ys rest, ← sum_length i xs ys) (a.checks i (map some ys ++ rest) ∙ b.checks (i + length xs) rest);
      }

  -- a skip over what leads from the types held there back to them
  skip_checks : (k : Skip) (zs : List Instruction) (s : List Ty) → length s < most_held → k.over ≡ length zs → ChecksTo zs (bool ∷ s) (bool ∷ s)
      → ChecksTo (skip k ∷ zs) (bool ∷ s) (bool ∷ s)
  unfolding walk check_from
  skip_checks k zs s room far h =
      record {
        walks = λ i. rw (lt-ltb (length s) most_held room) (h.walks (i + 1));
        checks =
            λ i rest.
            rw (lt-ltb (length s) most_held room, lands rest, ← next_length i zs) (h.checks (i + 1) rest);
      }
    where
      lands : (rest : List (Option Instruction)) → lands_well ks (some k) (map some zs ++ rest) (bool ∷ s) ≡ true
      lands rest =
          let part : take k.over (map some zs ++ rest) ≡ map some zs = take_at (map some zs) rest k.over (length-map zs some ∙ sym far) in
          rw (part, h.walks 0) (held_same (bool ∷ s))

  module _ (e : Entry) (covers : Covers ks e) where
    abbrev CheckLeads : List Instruction → ℕ → List Value → List Value → Type 0
    CheckLeads xs n s t = ChecksTo xs (map ty_of s) (map ty_of t)

    check_stands : (s : List Value) → CheckLeads [] 0 s s
    unfolding walk
    check_stands s = record { walks = λ i. refl; checks = λ i rest. rw add-zero }

    check_steps : (x : Instruction) (s t : List Value) → skip_of (some x) ≡ none → act (value_action ks e x) s ≡ some t → CheckLeads (x ∷ []) 1 s t
    unfolding walk check_from
    check_steps x s t plain h =
        let acts : act (type_action ks x) (map ty_of s) ≡ some (map ty_of t) =
        act_follows ty_of (type_action ks x) (value_action ks e x) (action_follows ks e covers (some x)) s ∙ ap (Option.map (map ty_of)) h in
        record { walks = λ i. rw acts; checks = λ i rest. rw (acts, plain) }

    check_goes : (xs ys : List Instruction) (n m : ℕ) (s t u : List Value) → CheckLeads xs n s t → CheckLeads ys m t u
        → CheckLeads (xs ++ ys) (n + m) s u
    check_goes xs ys n m s t u h k = checks_append xs ys (map ty_of s) (map ty_of t) (map ty_of u) h k

    check_skips : (k : Skip) (zs : List Instruction) (n : ℕ) (a b : Bool) (s : List Value) → length s < most_held → k.over ≡ length zs
        → CheckLeads zs n (truth a ∷ s) (truth b ∷ s)
        → CheckLeads (skip k ∷ zs) (cond (beq a k.on) 1 (1 + n)) (truth a ∷ s) (truth (cond (beq a k.on) k.to b) ∷ s)
    check_skips k zs n a b s room far h = skip_checks k zs (map ty_of s) (omega (arith, length-map s ty_of)) far h

    check_way : Way ks e
    check_way = record { Leads = CheckLeads; stands = check_stands; steps = check_steps; goes = check_goes; skips = check_skips }

some_of : Ty → Value
some_of bool = truth false
some_of int = whole (pos 0)
some_of (of k w) = matched k w (record { first = 0; second = 0; length = 0 })

types_back : (held : List Ty) → map ty_of (map some_of held) ≡ held
unfolding some_of
types_back [] = refl
types_back (bool ∷ held) = ap (λ s. bool ∷ s) (types_back held)
types_back (int ∷ held) = ap (λ s. int ∷ s) (types_back held)
types_back (of k w ∷ held) = ap (λ s. of k w ∷ s) (types_back held)

pub an_entry : List Key → Entry
an_entry ks = record { priority = 0; matches = map (λ _. record { first = 0; second = 0; length = 0 }) ks }

pub an_entry_covers : (ks : List Key) → Covers ks (an_entry ks)
unfolding an_entry
an_entry_covers ks = length-map ks _

pub code_pushes_type : CodePushesType
unfolding check_way
code_pushes_type ks t a h held room i rest =
    let e = an_entry ks in
    let covers = an_entry_covers ks in
    let v = typed_meant ks e covers t a h in
    let values = map some_of held in
    let at : length values ≡ length held = length-map held some_of in
    let passes = code_leads ks e (check_way ks e covers) covers t v.worth v.there values (omega arith) in
    rw (types_back held, v.type) at (passes.checks i rest)
