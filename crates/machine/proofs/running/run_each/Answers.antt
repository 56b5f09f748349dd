-- Why each entry gets the byte of its run, and all of them the sum of their steps: what is told of an entry has its place among the answers
-- (`tabled_next`), and after the last one all is told (`tabled_all`).
use Rattle.std.proofs.Common.{◌≡◌, ℕ, ◌/◌, ◌<◌, length, refl, ap, ◌∙◌, subst, arith, rules}
use Rattle.paper.specs.Counting.{whole_in}
use Rattle.keys.specs.Says.{keys_in}
use Rattle.machine.proofs.Tabled.{tabled_next, tabled_all}
use Rattle.machine.proofs.running.run_each.Goals as goal

-- the next entry, which has its place among the answers
pub loop-k-preserved : goal.loop-k-preserved
loop-k-preserved c =
    let entries = c.args.entries.now in
    let k = c.loop-k.k in
    let here : k < whole_in (keys_in c.args.list.now) entries =
    subst (λ (m : ℕ). k < length entries / m) c.entry_size-size.ensures c.loop-k-test.true
    in
    record {
      full = search rules;
      told =
          tabled_next (keys_in c.args.list.now) c.args.blocks.now c.entry_size-size.result entries c.args.answers.now c.loop-k.invariant.told
          (omega (arith, here, c.requires.entries_in_bounds)) c.entry_at.ensures c.tell-told.ensures refl;
    }

pub returns : goal.returns
returns c =
    let entries = c.args.entries.now in
    let size = c.entry_size-size in
    let all : c.loop-k.k ≡ length entries / size.result = omega arith in
    let both =
    tabled_all (keys_in c.args.list.now) c.args.blocks.now size.result entries c.args.answers.now c.loop-k.invariant.told size.ensures
    (all ∙ ap (λ (m : ℕ). length entries / m) size.ensures)
    in
    record { value = both.0; answers_after = both.1 }
