-- A refused translation answers as demand 1 asks. With n instructions written, the blocks lie in the buffer; load and run are asked of
-- just this part of it, so the theorem on translations says what they answer, and judge is asked of the text itself.
use Prim.Native.Nat.{ℕ, ◌*◌, ◌≤◌}
use native.Mathlib.Omega.{arith}
use mathlib.Core.Path.{◌≡◌, sym, subst}
use mathlib.Core.List.{List}
use lib.ListN.{length, take}
use lib.Seq.{length-take-le}
use Rattle.std.specs.Prelude.{Result}
use Rattle.paper.specs.declared.Refusal.{Refusal}
use Rattle.paper.specs.Blocks.{block_size}
use Rattle.paper.specs.Promised.{TranslatePromised, LoadPromised, RunPromised}
use Rattle.paper.proofs.PassedUp.{passed_up}
use Rattle.paper.proofs.DemandOne.{translate_answered}
use Rattle.promises.specs.Held.{gave}
use Rattle.promises.proofs.Held.{room_there, held}
use Rattle.promises.proofs.calls.carry.Goals as goal

-- what a translation promises of a result that is known
promised : {text list buffer exit : List ℕ} {r s : Result ℕ Refusal} → TranslatePromised text list buffer (gave r exit) → r ≡ s
    → TranslatePromised text list buffer (gave s exit)
promised {text} {list} {buffer} {exit} p e = subst (λ (x : Result ℕ Refusal). TranslatePromised text list buffer (gave x exit)) e p

pub returns-in_err-written : goal.returns-in_err-written
returns-in_err-written c =
    let t = c.translate in
    rw (passed_up _ c.from_residual.ensures.1) (translate_answered _ _ _ _ (promised t.ensures c.in_err-written.was))

pub overflow_mul-size : goal.overflow_mul-size
overflow_mul-size c =
    omega (arith, (room_there _ _ _ _ _ (promised c.translate.ensures c.in_ok-written.was)).2, c.needed-size.ensures)

-- the blocks lie in the buffer

pub slice_bounds-load-end : goal.slice_bounds-load-end
slice_bounds-load-end c =
    let r = room_there _ _ _ _ _ (promised c.translate.ensures c.in_ok-written.was) in
    subst (λ (m : ℕ). block_size * m ≤ length c.translate.new.buffer) (sym c.needed-size.ensures) (omega (arith, r.0, r.1))

pub slice_bounds-load-end-2 : goal.slice_bounds-load-end-2
slice_bounds-load-end-2 c =
    let r = room_there _ _ _ _ _ (promised c.translate.ensures c.in_ok-written.was) in
    sym (length-take-le _ _ (subst (λ (m : ℕ). block_size * m ≤ length c.translate.new.buffer) (sym c.needed-size.ensures) (omega (arith, r.0, r.1))))

pub slice_bounds-run-end-2 : goal.slice_bounds-run-end-2
slice_bounds-run-end-2 c =
    let r = room_there _ _ _ _ _ (promised c.translate.ensures c.in_ok-written.was) in
    sym (length-take-le _ _ (subst (λ (m : ℕ). block_size * m ≤ length c.translate.new.buffer) (sym c.needed-size.ensures) (omega (arith, r.0, r.1))))

pub slice_bounds-run-end : goal.slice_bounds-run-end
slice_bounds-run-end c =
    let r = room_there _ _ _ _ _ (promised c.translate.ensures c.in_ok-written.was) in
    subst (λ (m : ℕ). block_size * m ≤ length c.translate.new.buffer) (sym c.needed-size.ensures) (omega (arith, r.0, r.1))

pub returns : goal.returns
returns c =
    let list = c.args.list.now in
    let exit = c.translate.new.buffer in
    let loaded = c.load-loaded in
    let ran = c.run-ran in
    held _ _ _ _ _ (promised c.translate.ensures c.in_ok-written.was) c.args.entry.now loaded.result ran.result c.judge-judged.result
    (subst (λ (m : ℕ). LoadPromised list (take (block_size * m) exit) loaded.result) c.needed-size.ensures loaded.ensures)
    (subst (λ (m : ℕ). RunPromised list (take (block_size * m) exit) c.args.entry.now ran.result) c.needed-size.ensures ran.ensures)
    c.judge-judged.ensures
