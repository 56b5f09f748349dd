-- Why the run on an entry that conforms comes to what the definition's does: with the loop's invariant (`Going`). Blocks that load run to an
-- end on every entry that conforms (`loaded_ends`), so no turn misses an operand, a place or a value (`able`), what stands there is an
-- instruction (`read`), each arm of the match stores what its instruction leaves and tells what it passes over (`turned`), and each turn goes on
-- where the next begins (`going_next`).
use Rattle.std.proofs.Common.{◌≡◌, ℕ, ◌+◌, ◌-◌, ◌<◌, ◌≤◌, Bool, true, false, cond, List, get_or, set, sym, ap, ◌∙◌, subst, arith, rules}
use mathlib.Core.Bool.{beq}
use mathlib.Core.Option.{Option, some}
use lib.Seq.{set-get_or}
use Rattle.paper.specs.Answers.{ok}
use Rattle.paper.specs.Keys.{Key, keys, kind_of}
use Rattle.paper.specs.Entry.{Entry}
use Rattle.paper.specs.Meaning.{Value, is_true, convert_value, compare_value}
use Rattle.paper.specs.Code as P
use Rattle.paper.specs.Code.{skip, Action, most_held, action_of, type_action, value_action, skip_of, comparison_of}
use Rattle.paper.specs.Loading.{loaded, program, run_along, left_true, steps_taken}
use Rattle.paper.proofs.LoadedBlocksRun.{conforming}
use Rattle.keys.specs.Says.{keys_in, conforms}
use Rattle.keys.proofs.Conforming.{entered}
use Rattle.values.specs.declared.cell.Cell.{Cell}
use Rattle.values.specs.Held.{held, Is}
use Rattle.operands.specs.Conforming.{entry_in, Conforming}
use Rattle.operands.proofs.Conforming.{entry_size}
use Rattle.machine.specs.declared.instruction.Instruction.{Instruction}
use Rattle.machine.specs.declared.instruction.Instruction.TheVariants.{Skip}
use Rattle.machine.specs.Decoded.{instruction_meant}
use Rattle.machine.specs.Acting.{takes_of, gives}
use Rattle.machine.proofs.Along.{read_at}
use Rattle.machine.proofs.Stack.{given, Acts}
use Rattle.machine.proofs.Skips.{passed_by}
use Rattle.machine.proofs.Values.{takes_alike, no_cell, is_some, end_values, skip_taken, skip_left}
use Rattle.machine.proofs.Loaded.{loaded_within, loaded_program, loaded_ends}
use Rattle.machine.proofs.Going.{passed_there, Going, going_first, over, going_acts, going_reads, passed_small, going_next}
use Rattle.machine.proofs.running.run.Goals as goal
use Rattle.machine.proofs.running.run.Goals.{After-takes, Joined-instruction, in-PushBool, in-PushInt, in-PushKey, in-PushField, in-PushPriority, in-Not, in-Negate, in-Convert, in-Compare, in-Connect, in-Skip+then-is_true-on, in-Skip+else-is_true-on}

-- an entry that conforms can be read by its list
conforming_there : (list entry : List ℕ) → keys list ≡ ok (keys_in list) → conforms (keys_in list) entry ≡ ok tt → Conforming list entry
conforming_there list entry listed e = record { listed = listed; entered = entered (keys_in list) entry e }

-- what a turn is about, and what stands there
abbrev keys_of : After-takes → List Key
keys_of c = keys_in c.args.list.now

abbrev lent : After-takes → Entry
lent c = entry_in c.args.list.now c.args.entry.now

abbrev stands : After-takes → Option P.Instruction
stands c = read_at c.args.blocks.now c.args.n c.loop-i.i

abbrev action : After-takes → Action Value
action c = action_of (value_action (keys_of c) (lent c)) (stands c)

goes : (c : After-takes) → Going (keys_of c) (lent c) c.args.blocks.now c.args.n c.loop-i.stack c.loop-i.height c.loop-i.i c.loop-i.steps
goes c = c.loop-i.invariant

-- the instruction that a turn read is the one that stands there
read : (c : After-takes) → some (instruction_meant c.loaded_at-instruction.result) ≡ stands c
read c =
    let (x, e) = going_reads (keys_of c) (lent c) c.args.blocks.now c.args.n (goes c) c.loop-i-test.true in
    ap (λ i. some i) (c.loaded_at-instruction.ensures (c.args.n - c.loop-i.i - 1) x e) ∙ sym e

takes_so : (c : After-takes) → c.takes.result ≡ takes_of (action c)
takes_so c =
    c.takes.ensures (keys_of c)
    ∙ takes_alike (keys_of c) (lent c) (some (instruction_meant c.loaded_at-instruction.result))
    ∙ ap (λ o. takes_of (action_of (value_action (keys_of c) (lent c)) o)) (read c)

able : (c : After-takes) → Acts held no_cell c.loop-i.stack (action c) c.loop-i.height
able c = going_acts (keys_of c) (lent c) c.args.blocks.now c.args.n (goes c) c.loop-i-test.true

-- the array has the place of the lowest operand
base_fits : (c : After-takes) → c.loop-i.height - c.takes.result < most_held
base_fits c = omega (arith, takes_so c, (able c).room)

-- the entry conforms, so that its parts can be read
conforming_here : (c : After-takes) → Conforming c.args.list.now c.args.entry.now
conforming_here c = conforming_there _ _ c.requires.list_value c.requires.entry_value

-- what a turn comes to: the cell that is stored in the place of the lowest operand, and how many instructions are passed over
abbrev base : Joined-instruction → ℕ
base c = c.loop-i.height - c.takes.result

abbrev low : Joined-instruction → Value
low c = held (get_or c.loop-i.stack (base c) no_cell)

abbrev top : Joined-instruction → Value
top c = held (get_or c.loop-i.stack c.below-top.result no_cell)

abbrev Stores : Joined-instruction → Cell → Type 0
Stores c v = c.match-instruction.stack ≡ set c.loop-i.stack (base c) v

abbrev Leaves : Joined-instruction → Option P.Instruction → Cell → Type 0
Leaves c o v =
    Is (gives (action_of (value_action (keys_in c.args.list.now) (entry_in c.args.list.now c.args.entry.now)) o) (low c) (top c)) (held v)

abbrev Passes : Joined-instruction → Option P.Instruction → Type 0
Passes c o = c.match-instruction.over ≡ passed_by (skip_of o) (is_true (some (top c)))

record Turned (c : Joined-instruction) : Type 0 where
  cell : Cell
  stored : Stores c cell
  left : Leaves c (some (instruction_meant c.loaded_at-instruction.result)) cell
  passed : Passes c (some (instruction_meant c.loaded_at-instruction.result))

-- in the arm of an instruction
arm : (c : Joined-instruction) (i : Instruction) → c.loaded_at-instruction.result ≡ i → (v : Cell) → Stores c v
    → Leaves c (some (instruction_meant i)) v → Passes c (some (instruction_meant i)) → Turned c
arm c i e v stored left passed =
    record {
      cell = v;
      stored = stored;
      left = subst (λ j. Leaves c (some (instruction_meant j)) v) (sym e) left;
      passed = subst (λ j. Passes c (some (instruction_meant j))) (sym e) passed;
    }

-- where nothing is stored, what stands there is left
abbrev kept : Joined-instruction → Cell
kept c = get_or c.loop-i.stack (base c) no_cell

kept_so : (c : Joined-instruction) → c.match-instruction.stack ≡ c.loop-i.stack → Stores c (kept c)
kept_so c e = e ∙ sym (set-get_or c.loop-i.stack (base c) no_cell)

-- the lowest operand of a skip is its uppermost, and tells whether it is taken
skip_passes : (c : Joined-instruction) (on to taken : Bool) (over : ℕ) → c.loaded_at-instruction.result ≡ Skip on to over
    → beq (is_true (some (low c))) on ≡ taken → c.match-instruction.over ≡ cond taken over 0
    → Passes c (some (skip (record { on = on; to = to; over = over })))
skip_passes c on to taken over e t over_so =
    let ks = keys_in c.args.list.now in
    let one : c.takes.result ≡ 1 =
    c.takes.ensures ks ∙ ap (λ i. takes_of (action_of (type_action ks) (some (instruction_meant i)))) e
    in
    let same : base c ≡ c.below-top.result = omega (arith, c.below-top.ensures, one) in
    over_so
    ∙ ap (λ b. cond b over 0)
    (sym t ∙ ap (λ j. beq (is_true (some (held (get_or c.loop-i.stack j no_cell)))) on) same)

-- each arm in its turn: what it calls tells what is left, and only a skip that is taken passes anything over
turned : (c : Joined-instruction) → Turned c
turned c =
    elim c.match-instruction.branch [
      | in-PushBool w ↦ arm c _ w.in-PushBool.is w.truth.result w.stack-is w.truth.ensures w.over-is
      | in-PushInt w ↦ arm c _ w.in-PushInt.is w.whole.result w.stack-is w.whole.ensures w.over-is
      | in-PushKey w ↦ arm c _ w.in-PushKey.is w.bare_cell.result w.stack-is w.bare_cell.ensures w.over-is
      | in-PushField w ↦ arm c _ w.in-PushField.is w.field_cell.result w.stack-is w.field_cell.ensures w.over-is
      | in-PushPriority w ↦ arm c _ w.in-PushPriority.is w.priority_cell.result w.stack-is w.priority_cell.ensures w.over-is
      | in-Not w ↦ arm c _ w.in-Not.is w.inverted.result w.stack-is w.inverted.ensures w.over-is
      | in-Negate w ↦ arm c _ w.in-Negate.is w.negated.result w.stack-is w.negated.ensures w.over-is
      | in-Convert w ↦
          arm c _ w.in-Convert.is w.converted.result w.stack-is
          (subst (λ n. Is (convert_value (kind_of w.in-Convert.kind) n (low c)) (held w.converted.result)) w.narrow.ensures.0 w.converted.ensures)
          w.over-is
      | in-Compare w ↦
          arm c _ w.in-Compare.is w.truth-in-Compare.result w.stack-is
          (subst (Is (compare_value (comparison_of w.in-Compare.comparison) (low c) (top c))) (sym w.truth-in-Compare.ensures) w.holds.ensures)
          w.over-is
      | in-Connect w ↦ arm c _ w.in-Connect.is w.connected.result w.stack-is w.connected.ensures w.over-is
      | in-Skip+then-is_true-on w ↦
          let s = w.in-Skip in
          let taken = ap (λ b. beq b s.on) (sym w.is_true.ensures) ∙ w.if-is_true-on.true in
          let made = w.truth-then-is_true-on in
          arm c _ s.is made.result w.stack-is (skip_taken s.on s.to s.passed (low c) (held made.result) taken made.ensures)
          (skip_passes c s.on s.to true s.passed s.is taken w.over-is)
      | in-Skip+else-is_true-on w ↦
          let s = w.in-Skip in
          let left = ap (λ b. beq b s.on) (sym w.is_true.ensures) ∙ w.if-is_true-on.false in
          arm c _ s.is (kept c) (kept_so c w.stack-is) (skip_left s.on s.to s.passed (low c) left)
          (skip_passes c s.on s.to false s.passed s.is left w.over-is)
    ]

-- where the arms meet: what is passed over is what the definition passes over, so that what comes next is no more than there are
abbrev PassedThere : Joined-instruction → Type 0
PassedThere c =
    c.match-instruction.over
    ≡ passed_there (keys_in c.args.list.now) (entry_in c.args.list.now c.args.entry.now) c.args.blocks.now c.args.n
    c.loop-i.stack c.loop-i.height c.loop-i.i

passed_so : (c : Joined-instruction) → some (instruction_meant c.loaded_at-instruction.result) ≡ read_at c.args.blocks.now c.args.n c.loop-i.i → PassedThere c
passed_so c reads = rw (← c.below-top.ensures, ← reads) (turned c).passed

onward_small : (t : After-takes) (over : ℕ)
    → over ≡ passed_there (keys_of t) (lent t) t.args.blocks.now t.args.n t.loop-i.stack t.loop-i.height t.loop-i.i
    → t.loop-i.i + 1 + over ≤ t.args.n
onward_small t over so = omega (arith, so, passed_small (keys_of t) (lent t) t.args.blocks.now t.args.n (goes t) t.loop-i-test.true)

pub loop-i-init : goal.loop-i-init
loop-i-init c =
    let ks = keys_in c.args.list.now in
    let entry = c.args.entry.now in
    let lent = entry_in c.args.list.now entry in
    let blocks = c.args.blocks.now in
    let enters = conforming_there _ _ c.requires.list_value c.requires.entry_value in
    let ends = loaded_ends ks blocks c.args.n c.requires.blocks_value lent (conforming ks entry lent enters.entered) in
    going_first ks lent blocks c.args.n c.args.stack.now (search rules) ends

pub loaded_at-instruction-requires : goal.loaded_at-instruction-requires
loaded_at-instruction-requires c =
    omega (arith, c.loop-i-test.true, loaded_within (keys_in c.args.list.now) c.args.blocks.now c.args.n c.requires.blocks_value)

pub overflow_sub-base : goal.overflow_sub-base
overflow_sub-base c =
    let t = (goal.at.overflow_sub-base c).After-takes in
    omega (arith, takes_so t, (able t).enough)

pub bare_cell-requires : goal.bare_cell-requires
bare_cell-requires c = conforming_here (goal.at.bare_cell-requires c).After-takes

pub priority_cell-requires : goal.priority_cell-requires
priority_cell-requires c =
    let conforms = conforming_here (goal.at.priority_cell-requires c).After-takes in
    omega (arith, entry_size c.args.list.now c.args.entry.now conforms)

pub field_cell-requires : goal.field_cell-requires
field_cell-requires c = conforming_here (goal.at.field_cell-requires c).After-takes

pub bounds-stack-base : goal.bounds-stack-base
bounds-stack-base c = base_fits (goal.at.bounds-stack-base c).After-takes

pub bounds-stack-base-in-PushInt : goal.bounds-stack-base-in-PushInt
bounds-stack-base-in-PushInt c = base_fits (goal.at.bounds-stack-base-in-PushInt c).After-takes

pub bounds-stack-base-in-PushKey : goal.bounds-stack-base-in-PushKey
bounds-stack-base-in-PushKey c = base_fits (goal.at.bounds-stack-base-in-PushKey c).After-takes

pub bounds-stack-base-in-PushField : goal.bounds-stack-base-in-PushField
bounds-stack-base-in-PushField c = base_fits (goal.at.bounds-stack-base-in-PushField c).After-takes

pub bounds-stack-base-in-PushPriority : goal.bounds-stack-base-in-PushPriority
bounds-stack-base-in-PushPriority c = base_fits (goal.at.bounds-stack-base-in-PushPriority c).After-takes

pub bounds-stack-base-in-Not-2 : goal.bounds-stack-base-in-Not-2
bounds-stack-base-in-Not-2 c = base_fits (goal.at.bounds-stack-base-in-Not-2 c).After-takes

pub bounds-stack-base-in-Not : goal.bounds-stack-base-in-Not
bounds-stack-base-in-Not c = base_fits (goal.at.bounds-stack-base-in-Not c).After-takes

pub bounds-stack-base-in-Negate-2 : goal.bounds-stack-base-in-Negate-2
bounds-stack-base-in-Negate-2 c = base_fits (goal.at.bounds-stack-base-in-Negate-2 c).After-takes

pub bounds-stack-base-in-Negate : goal.bounds-stack-base-in-Negate
bounds-stack-base-in-Negate c = base_fits (goal.at.bounds-stack-base-in-Negate c).After-takes

pub bounds-stack-base-in-Convert-2 : goal.bounds-stack-base-in-Convert-2
bounds-stack-base-in-Convert-2 c = base_fits (goal.at.bounds-stack-base-in-Convert-2 c).After-takes

pub bounds-stack-base-in-Convert : goal.bounds-stack-base-in-Convert
bounds-stack-base-in-Convert c = base_fits (goal.at.bounds-stack-base-in-Convert c).After-takes

pub bounds-stack-base-in-Compare-2 : goal.bounds-stack-base-in-Compare-2
bounds-stack-base-in-Compare-2 c = base_fits (goal.at.bounds-stack-base-in-Compare-2 c).After-takes

pub bounds-stack-base-in-Compare : goal.bounds-stack-base-in-Compare
bounds-stack-base-in-Compare c = base_fits (goal.at.bounds-stack-base-in-Compare c).After-takes

pub bounds-stack-base-in-Connect-2 : goal.bounds-stack-base-in-Connect-2
bounds-stack-base-in-Connect-2 c = base_fits (goal.at.bounds-stack-base-in-Connect-2 c).After-takes

pub bounds-stack-base-in-Connect : goal.bounds-stack-base-in-Connect
bounds-stack-base-in-Connect c = base_fits (goal.at.bounds-stack-base-in-Connect c).After-takes

pub bounds-stack-base-in-Skip : goal.bounds-stack-base-in-Skip
bounds-stack-base-in-Skip c = base_fits (goal.at.bounds-stack-base-in-Skip c).After-takes

pub bounds-stack-base-then-is_true-on : goal.bounds-stack-base-then-is_true-on
bounds-stack-base-then-is_true-on c = base_fits (goal.at.bounds-stack-base-then-is_true-on c).After-takes

pub overflow_add-i : goal.overflow_add-i
overflow_add-i c =
    let at = goal.at.overflow_add-i c in
    omega (arith, c.ranges.n, onward_small at.After-takes c.match-instruction.over (passed_so at.Joined-instruction (read at.After-takes)))

pub overflow_add-i-in-loop-i : goal.overflow_add-i-in-loop-i
overflow_add-i-in-loop-i c =
    let at = goal.at.overflow_add-i-in-loop-i c in
    omega (arith, c.ranges.n, onward_small at.After-takes c.match-instruction.over (passed_so at.Joined-instruction (read at.After-takes)))

-- the next turn
pub loop-i-preserved : goal.loop-i-preserved
loop-i-preserved c =
    let at = goal.at.loop-i-preserved c in
    let t : After-takes = at.After-takes in
    let m : Joined-instruction = at.Joined-instruction in
    let ks = keys_in c.args.list.now in
    let lent = entry_in c.args.list.now c.args.entry.now in
    let blocks = c.args.blocks.now in
    let height = c.loop-i.height in
    let over_so = passed_so m (read t) in
    let left_so : given held no_cell c.loop-i.stack (action t) height ≡ some (held (turned m).cell) =
    is_some (given held no_cell c.loop-i.stack (action t) height) (able t).left
    (rw (← takes_so t, ← c.below-top.ensures, ← read t) (turned m).left)
    in
    let next = going_next ks lent blocks c.args.n (goes t) t.loop-i-test.true (turned m).cell left_so c.takes.result (takes_so t) in
    let onward : c.loop-i.i + 1 + passed_there ks lent blocks c.args.n c.loop-i.stack height c.loop-i.i ≡ c.loop-i.i + (1 + c.match-instruction.over) =
    omega (arith, over_so)
    in
    let Goes_on : List Cell → ℕ → Type 0 =
    λ after j. Going ks lent blocks c.args.n after (height - c.takes.result + 1) j (c.loop-i.steps + 1)
    in
    let going : Goes_on c.match-instruction.stack (c.loop-i.i + (1 + c.match-instruction.over)) =
    subst (λ after. Goes_on after (c.loop-i.i + (1 + c.match-instruction.over))) (sym (turned m).stored) (subst (Goes_on _) onward next)
    in
    going

-- at the end
at_end : (ks : List Key) (entry : Entry) (blocks : List ℕ) (n : ℕ) → loaded ks blocks ≡ ok n → {cells : List Cell} {height i steps : ℕ}
    → Going ks entry blocks n cells height i steps → n ≤ i → (left : Bool) → left ≡ is_true (some (held (get_or cells 0 no_cell)))
    → let run = run_along ks entry (program blocks) in (left ≡ left_true run) × (steps ≡ steps_taken run)
at_end ks entry blocks n loads {cells} {height} going through left says =
    let end = over ks entry blocks n going through in
    let all = loaded_program ks blocks n loads in (
      says ∙ end_values cells height going.bit end.one ∙ sym going.ends ∙ ap (λ code. left_true (run_along ks entry code)) all,
      end.all ∙ ap (λ code. steps_taken (run_along ks entry code)) all,
    )

pub returns : goal.returns
returns c =
    let a = c.args in
    let both =
    at_end (keys_in a.list.now) (entry_in a.list.now a.entry.now) a.blocks.now a.n c.requires.blocks_value c.loop-i.invariant
    c.loop-i-test.false _ c.is_true-2.ensures
    in
    record { left = both.0; steps = both.1 }
