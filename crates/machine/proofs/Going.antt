-- A point of a run: what the array holds there is run from there on to the same end, and the steps taken so far and those still to be
-- taken are together those of the whole run.
use Rattle.std.proofs.Common.{◌≡◌, ℕ, zero, suc, ◌+◌, ◌-◌, ◌<◌, ◌≤◌, Bool, List, [], ◌∷◌, length, get_or, set, sym, refl, ap, ◌∙◌, subst, add-zero, arith, length-set}
use mathlib.Core.Option.{Option, none, some}
use Rattle.paper.specs.Keys.{Key}
use Rattle.paper.specs.Entry.{Entry}
use Rattle.paper.specs.Meaning.{Value, truth, is_true}
use Rattle.paper.specs.Code.{Skip, Instruction, parts_at, Action, most_held, act, value_action, action_of, skip_of}
use Rattle.paper.specs.Loading.{instruction_at, instructions_from, passed, Step, Run, stuck, done, after, carry_on, run_from, run_along, left_true, steps_taken}
use Rattle.paper.proofs.LoadedBlocksRun.{Ends}
use Rattle.values.specs.declared.cell.Cell.{Cell}
use Rattle.values.specs.Held.{held}
use Rattle.machine.specs.Acting.{takes_of}
use Rattle.machine.proofs.Along.{read_at}
use Rattle.machine.proofs.Stack.{down, given, one_left, Acts, acts}
use Rattle.machine.proofs.Values.{no_cell}
use Rattle.machine.proofs.Skips.{is_skip, over_within, passed_by, passed_within}

never_stuck : {i : ℕ} {path : List Step} {end : List Value} → stuck i ≡ done path end → ⊥
never_stuck z =
    let o : ◌≡◌ {A = ℕ} 0 1 = cc in
    omega arith

-- instructions that are passed over are not looked at
jump : (ks : List Key) (e : Entry) (blocks : List ℕ) (p i k m : ℕ) (vs : List Value) → m ≡ p + k
    → run_from ks e (instructions_from blocks i m) p i vs ≡ run_from ks e (instructions_from blocks (i + p) k) 0 (i + p) vs
unfolding run_from
jump ks e blocks zero i k m vs z =
    let all : m ≡ k = omega arith in
    ap (λ l. run_from ks e (instructions_from blocks i l) 0 i vs) all
    ∙ ap (λ j. run_from ks e (instructions_from blocks j k) 0 j vs) (sym (add-zero i))
jump ks e blocks (suc p) i k zero vs z = absurd (omega arith)
jump ks e blocks (suc p) i k (suc m) vs z =
    let same : i + 1 + p ≡ i + suc p = omega arith in
    jump ks e blocks p (i + 1) k m vs (omega arith) ∙ ap (λ j. run_from ks e (instructions_from blocks j k) 0 j vs) same

-- the steps after a first one
record Later (p : Step) (r : Run) (path : List Step) (end : List Value) : Type 0 where
  steps : List Step
  ran : r ≡ done steps end
  all : path ≡ p ∷ steps

later_steps : (p : Step) (r : Run) (path : List Step) (end : List Value) → after p r ≡ done path end → Later p r path end
later_steps p (stuck i) path end h = absurd (never_stuck h)
later_steps p (done steps now) path end h =
    let one : p ∷ steps ≡ path = cc in
    let two : now ≡ end = cc in
    record { steps = steps; ran = ap (done steps) two; all = sym one }

module _ (ks : List Key) (e : Entry) (blocks : List ℕ) (n : ℕ) where
  abbrev pub whole : Run
  whole = run_along ks e (instructions_from blocks 0 n)

  abbrev pub action_there : ℕ → Action Value
  action_there i = action_of (value_action ks e) (read_at blocks n i)

  abbrev takes_there : ℕ → ℕ
  takes_there i = takes_of (action_there i)

  -- the run of what stands after the instruction of an index, of which so many are to be passed over
  abbrev run_after : ℕ → ℕ → List Value → Run
  run_after i p vs = run_from ks e (instructions_from blocks (i + 1) (n - i - 1)) p (i + 1) vs

  -- whether the uppermost of the array is true
  abbrev pub top_true : List Cell → ℕ → Bool
  top_true cells height = is_true (some (held (get_or cells (height - 1) no_cell)))

  -- what is passed over after the instruction of an index
  abbrev pub passed_there : List Cell → ℕ → ℕ → ℕ
  passed_there cells height i = passed_by (skip_of (read_at blocks n i)) (top_true cells height)

  pub record Going (cells : List Cell) (height i steps : ℕ) : Type 0 where
    pub few : height ≤ most_held
    pub full : length cells ≡ most_held
    pub upto : i ≤ n
    pub stepped : steps ≤ i
    pub left : List Step
    pub bit : Bool
    pub rest : (k : ℕ) → i + k ≡ n
        → run_from ks e (instructions_from blocks i k) 0 i (down held no_cell cells height) ≡ done left (truth bit ∷ [])
    pub ends : left_true whole ≡ bit
    pub count : steps + length left ≡ steps_taken whole

  pub going_first : (cells : List Cell) → length cells ≡ most_held → Ends whole → Going cells 0 0 0
  unfolding run_along
  going_first cells f w =
      record {
        few = omega arith;
        full = f;
        upto = omega arith;
        stepped = omega arith;
        left = w.path;
        bit = w.bit;
        rest =
            λ k z.
            let all : k ≡ n = omega arith in
            rw all w.to;
        ends = ap left_true w.to;
        count = omega (arith, ap steps_taken w.to);
      }

  module _ {cells : List Cell} {height i steps : ℕ} (here : Going cells height i steps) where
    abbrev now : List Value
    now = down held no_cell cells height

    -- at the end all steps are taken, and one bool is held
    pub record Over : Type 0 where
      pub all : steps ≡ steps_taken whole
      pub one : down held no_cell cells height ≡ truth here.bit ∷ []

    pub over : n ≤ i → Over
    unfolding run_from
    over h =
        let end : done [] now ≡ done here.left (truth here.bit ∷ []) = here.rest 0 (omega (arith, here.upto)) in
        let none_left : [] ≡ here.left = cc in
        let one : now ≡ truth here.bit ∷ [] = cc in
        record { all = omega (arith, here.count, ap length none_left); one = one }

    module _ (more : i < n) where
      -- the run from here, by what the instruction does
      carried : (o : Option (List Value)) → act (action_there i) now ≡ o
          → carry_on (record { at = i; held = now }) o (run_after i (passed (skip_of (read_at blocks n i)) now))
          ≡ done here.left (truth here.bit ∷ [])
      unfolding run_from
      carried o q =
          subst
          (λ o.
          carry_on (record { at = i; held = now }) o (run_after i (passed (skip_of (read_at blocks n i)) now))
          ≡ done here.left (truth here.bit ∷ []))
          q (here.rest (suc (n - i - 1)) (omega arith))

      pub going_acts : Acts held no_cell cells (action_there i) height
      going_acts = acts held no_cell cells (action_there i) height (λ z. never_stuck (carried none z))

      -- it is an instruction
      pub going_reads : (x : Instruction) × (read_at blocks n i ≡ some x)
      going_reads = go (read_at blocks n i) refl
        where
          go : (o : Option Instruction) → read_at blocks n i ≡ o → (x : Instruction) × (read_at blocks n i ≡ some x)
          go none q = absurd (never_stuck (carried none (rw q)))
          go (some x) q = (x, q)

      -- the top of what is held is the uppermost of the array
      passed_so : (o : Option Skip) → skip_of (read_at blocks n i) ≡ o → takes_there i ≤ height
          → passed o now ≡ passed_by o (top_true cells height)
      passed_so none q l = refl
      passed_so (some s) q l =
          go height (subst (λ r. takes_of (action_of (value_action ks e) r) ≤ height) (is_skip (read_at blocks n i) s q) l)
        where
          go : (h : ℕ) → 1 ≤ h → passed (some s) (down held no_cell cells h) ≡ passed_by (some s) (top_true cells h)
          go zero l = absurd (omega arith)
          go (suc h) l =
              let top : suc h - 1 ≡ h = omega arith in
              rw top

      pub passed_small : i + 1 + passed_there cells height i ≤ n
      passed_small =
          omega (
            arith,
            passed_within (skip_of (read_at blocks n i)) (top_true cells height),
            over_within (n - i - 1) (parts_at blocks (instruction_at i)),
          )

      -- the next point, where the instruction leaves v in the place of its lowest operand
      module _ (v : Cell) (made : given held no_cell cells (action_there i) height ≡ some (held v)) where
        abbrev stored : List Cell
        stored = set cells (height - takes_there i) v

        abbrev later : List Value
        later = down held no_cell stored (height - takes_there i + 1)

        abbrev onward : ℕ
        onward = passed_there cells height i

        step : Later (record { at = i; held = now }) (run_after i (passed (skip_of (read_at blocks n i)) now) later) here.left
            (truth here.bit ∷ [])
        step =
            let left_so = one_left held no_cell cells (action_there i) height v going_acts.enough going_acts.room here.full made in
            later_steps _ _ _ _ (carried (some later) left_so)

        rest_next : (m : ℕ) → i + 1 + onward + m ≡ n
            → run_from ks e (instructions_from blocks (i + 1 + onward) m) 0 (i + 1 + onward) later ≡ done step.steps (truth here.bit ∷ [])
        rest_next m z =
            let left_over : n - i - 1 ≡ onward + m = omega arith in
            sym (jump ks e blocks onward (i + 1) m (n - i - 1) later left_over)
            ∙ ap (λ p. run_after i p later) (sym (passed_so (skip_of (read_at blocks n i)) refl going_acts.enough))
            ∙ step.ran

        pub going_next : (t : ℕ) → t ≡ takes_there i → Going (set cells (height - t) v) (height - t + 1) (i + 1 + onward) (steps + 1)
        going_next t t-so =
            rw t-so
            (record {
              few = omega (arith, going_acts.room);
              full = length-set cells (height - takes_there i) v ∙ here.full;
              upto = passed_small;
              stepped = omega (arith, here.stepped);
              left = step.steps;
              bit = here.bit;
              rest = rest_next;
              ends = here.ends;
              count = omega (arith, here.count, ap length step.all);
            })
