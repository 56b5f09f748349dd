-- What is known of blocks that load.
use Rattle.std.proofs.Common.{◌≡◌, ℕ, ◌*◌, ◌≤◌, List, length, sym, ap, ◌∙◌, arith}
use Rattle.paper.specs.Answers.{ok, ◌>>=◌}
use Rattle.paper.specs.Keys.{Key}
use Rattle.paper.specs.Entry.{Entry}
use Rattle.paper.specs.Blocks.{in_block, most_blocks, blocks_in, total_of, layout}
use Rattle.paper.specs.Loading.{instructions_from, program, types_along, load_check, loaded, run_along}
use Rattle.paper.specs.LoadedBlocksRun.{Covers}
use Rattle.paper.proofs.Stages.{bind_ok}
use Rattle.paper.proofs.LayoutPassed.{laid, counts_within}
use Rattle.paper.proofs.LoadedBlocksRun.{Ends, loaded_runs}
use Rattle.blocks.specs.Layout.{laid_out}

-- the instructions that laid out blocks count lie in them, and are at most 25 in each of 123
pub laid_within : (keys : ℕ) (blocks : List ℕ) (n : ℕ) → laid_out keys blocks ≡ ok n
    → (n ≤ in_block * blocks_in blocks) × (n ≤ in_block * most_blocks)
laid_within keys blocks n h =
    let p = bind_ok (layout keys blocks) (λ _. ok (total_of blocks)) n h in
    let e : total_of blocks ≡ n = cc in
    let good = laid keys blocks p.1 in
    let within = counts_within keys blocks good.each in
    (omega (arith, within), omega (arith, within, good.most))

module _ (ks : List Key) (blocks : List ℕ) (n : ℕ) (h : loaded ks blocks ≡ ok n) where
  parts : (laid_out (length ks) blocks ≡ ok n) × (total_of blocks ≡ n)
  unfolding loaded
  parts =
      let check = load_check (length blocks) (types_along ks (program blocks)) in
      let a = bind_ok (layout (length ks) blocks) (λ _. check >>= λ _. ok (total_of blocks)) n h in
      let b = bind_ok check (λ _. ok (total_of blocks)) n a.2 in
      (rw a.1 b.2, cc)

  pub loaded_within : n ≤ in_block * blocks_in blocks
  loaded_within = (laid_within (length ks) blocks n parts.0).0

  pub loaded_count : total_of blocks ≡ n
  loaded_count = parts.1

  pub loaded_program : instructions_from blocks 0 n ≡ program blocks
  loaded_program = ap (instructions_from blocks 0) (sym parts.1)

  -- they run to one bool
  pub loaded_ends : (e : Entry) → Covers ks e → Ends (run_along ks e (instructions_from blocks 0 n))
  loaded_ends e covers =
      let r = loaded_runs ks blocks n h e covers in
      record { path = r.path; bit = r.bit; to = ap (run_along ks e) loaded_program ∙ r.to }
