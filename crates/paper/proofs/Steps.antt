-- The steps of a run: each instruction at most once, on at most 384 values; and of code without skips each once, as document 01 had it.
use Prim.Native.Nat.{ℕ, zero, suc, ◌+◌, ◌≤◌, ◌<◌}
use native.Mathlib.Omega.{arith}
use mathlib.Core.Path.{◌≡◌, refl, ap}
use mathlib.Core.Bool.{true, cond}
use mathlib.Core.Option.{Option, none, some}
use mathlib.Core.List.{List, [], ◌∷◌, map}
use lib.ListN.{length}
use Rattle.paper.specs.Keys.{Key}
use Rattle.paper.specs.Entry.{Entry}
use Rattle.paper.specs.Types.{Ty}
use Rattle.paper.specs.Meaning.{Value}
use Rattle.paper.specs.Code.{Instruction, most_held, Action, act, Walk, fails, go_on, walk, type_action, value_action, action_of, skip_of}
use Rattle.paper.specs.BlocksRoundTrip.{All}
use Rattle.paper.specs.Loading.{lands_well, check_from, types_along, passed, Step, Run, stuck, done, after, carry_on, run_from, run_along}
use Rattle.paper.specs.LoadedBlocksRun.{Rising, NoSkips, AsWalk, OlderCode, types_through, values_through}
use Rattle.paper.proofs.Walks.{act_few}

-- indices that rise are no more than there are

pub rising_few : (low high : ℕ) (path : List Step) → low ≤ high → Rising low high path → low + length path ≤ high
rising_few low high [] l h = omega arith
rising_few low high (p ∷ path) l h = omega (arith, h.0, h.1, rising_few (p.at + 1) high path (omega (arith, h.1)) h.2)

rising_from : (low lower high : ℕ) (path : List Step) → lower ≤ low → Rising low high path → Rising lower high path
rising_from low lower high [] l h = tt
rising_from low lower high (p ∷ path) l h = (omega (arith, h.0), h.1, h.2)

-- what holds of the steps of a run that is not stuck
abbrev pub OfPath : (List Step → Type 0) → Run → Type 0
OfPath P (stuck i) = Unit {0}
OfPath P (done path held) = P path

module _ (ks : List Key) (e : Entry) where
  abbrev on_values : Option Instruction → Action Value
  on_values x = action_of (value_action ks e) x

  -- each at most once

  once_after : (i high : ℕ) (held : List Value) (r : Run) → i < high → OfPath (Rising (i + 1) high) r
      → OfPath (Rising i high) (after (record { at = i; held = held }) r)
  once_after i high held (stuck j) l h = tt
  once_after i high held (done path later) l h = (omega arith, l, h)

  once_from : (low lower high : ℕ) (r : Run) → lower ≤ low → OfPath (Rising low high) r → OfPath (Rising lower high) r
  once_from low lower high (stuck i) l h = tt
  once_from low lower high (done path held) l h = rising_from low lower high path l h

  pub once : (xs : List (Option Instruction)) (n i high : ℕ) (held : List Value) → i + length xs ≤ high
      → OfPath (Rising i high) (run_from ks e xs n i held)
  unfolding run_from
  once [] n i high held l = tt
  once (x ∷ xs) zero i high held l =
      go (act (on_values x) held) (λ later. once xs (passed (skip_of x) held) (i + 1) high later (omega arith))
    where
      rest : List Value → Run
      rest later = run_from ks e xs (passed (skip_of x) held) (i + 1) later

      go : (o : Option (List Value)) → ((later : List Value) → OfPath (Rising (i + 1) high) (rest later))
          → OfPath (Rising i high) (carry_on (record { at = i; held = held }) o rest)
      go none h = tt
      go (some later) h = once_after i high held (rest later) (omega arith) (h later)
  once (x ∷ xs) (suc n) i high held l =
      once_from (i + 1) i high (run_from ks e xs n (i + 1) held) (omega arith) (once xs n (i + 1) high held (omega arith))

  -- on at most 384 values

  abbrev pub Few : List Step → Type 0
  Few path = All (λ p. length p.held ≤ most_held) path

  few_after : (p : Step) (r : Run) → length p.held ≤ most_held → OfPath Few r → OfPath Few (after p r)
  few_after p (stuck j) l h = tt
  few_after p (done path held) l h = (l, h)

  pub few : (xs : List (Option Instruction)) (n i : ℕ) (held : List Value) → length held ≤ most_held → OfPath Few (run_from ks e xs n i held)
  unfolding run_from
  few [] n i held l = tt
  few (x ∷ xs) zero i held l =
      go (act (on_values x) held) refl (λ later h. few xs (passed (skip_of x) held) (i + 1) later h)
    where
      rest : List Value → Run
      rest later = run_from ks e xs (passed (skip_of x) held) (i + 1) later

      go : (o : Option (List Value)) → act (on_values x) held ≡ o
          → ((later : List Value) → length later ≤ most_held → OfPath Few (rest later))
          → OfPath Few (carry_on (record { at = i; held = held }) o rest)
      go none q h = tt
      go (some later) q h =
          few_after (record { at = i; held = held }) (rest later) l (h later (act_few (on_values x) held later q))
  few (x ∷ xs) (suc n) i held l = few xs n (i + 1) held l

  -- without skips: the run is the walk of values, in as many steps as there are instructions

  as_after : (p : Step) (n : ℕ) (r : Run) (w : Walk Value) → AsWalk n r w → AsWalk (suc n) (after p r) w
  as_after p n (stuck i) w h = h
  as_after p n (done path held) w h = (h.0, ap suc h.1)

  older_runs : (xs : List (Option Instruction)) → NoSkips xs → (i : ℕ) (held : List Value)
      → AsWalk (length xs) (run_from ks e xs 0 i held) (walk i (map on_values xs) held)
  unfolding run_from walk
  older_runs [] h i held = (refl, refl)
  older_runs (x ∷ xs) h i held = go (act (on_values x) held) (λ later. older_runs xs h.1 (i + 1) later)
    where
      go : (o : Option (List Value))
          → ((later : List Value) → AsWalk (length xs) (run_from ks e xs 0 (i + 1) later) (walk (i + 1) (map on_values xs) later))
          → AsWalk (suc (length xs)) (carry_on (record { at = i; held = held }) o (run_from ks e xs (passed (skip_of x) held) (i + 1)))
          (go_on i o (walk (i + 1) (map on_values xs)))
      go none k = refl
      go (some later) k =
          let none_passed : passed (skip_of x) held ≡ 0 = ap (λ s. passed s held) h.0 in
          rw none_passed
          (as_after (record { at = i; held = held }) (length xs) (run_from ks e xs 0 (i + 1) later) (walk (i + 1) (map on_values xs) later) (k later))

  -- and the check is the walk of types

  abbrev on_types : Option Instruction → Action Ty
  on_types x = action_of (type_action ks) x

  older_checks : (xs : List (Option Instruction)) → NoSkips xs → (i : ℕ) (held : List Ty) → check_from ks i xs held ≡ walk i (map on_types xs) held
  unfolding check_from walk
  older_checks [] h i held = refl
  older_checks (x ∷ xs) h i held = go (act (on_types x) held) (λ later. older_checks xs h.1 (i + 1) later)
    where
      go : (o : Option (List Ty)) → ((later : List Ty) → check_from ks (i + 1) xs later ≡ walk (i + 1) (map on_types xs) later)
          → go_on i o (λ later. cond (lands_well ks (skip_of x) xs later) (check_from ks (i + 1) xs later) (fails i))
          ≡ go_on i o (walk (i + 1) (map on_types xs))
      go none k = refl
      go (some later) k =
          let lands : lands_well ks (skip_of x) xs later ≡ true = ap (λ s. lands_well ks s xs later) h.0 in
          rw lands (k later)

pub older_code : OlderCode
unfolding types_along types_through run_along values_through
older_code ks e code h =
    record {
      checks = older_checks ks e code h 0 [];
      runs = older_runs ks e code h 0 [];
    }
