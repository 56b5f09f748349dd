-- `blocks::writing::write_block` meets its contract: number, count, code, total, keys and check are stored one after another, each over what
-- the one before it left, and together they are the block (`filled_sealed`).
use Prim.Native.Nat.{ℕ, ◌/◌}
use mathlib.Core.Path.{◌∙◌, ap}
use mathlib.Core.List.{List}
use lib.ListN.{length, take}
use lib.Seq.{sets}
use Rattle.paper.specs.Numbers.{big_endian}
use Rattle.paper.specs.Blocks.{sealed}
use Rattle.blocks.specs.Written.{padded}
use Rattle.blocks.proofs.Filled.{filled_sealed}
use Rattle.blocks.proofs.writing.write_block.Goals as goal

pub returns : goal.returns
returns c =
    let a = c.args in
    let code = a.code.now in
    c.seal.ensures
    ∙ ap (λ (b : List ℕ). sealed (take 508 b)) (c.put_two_bytes-4.ensures
    ∙ ap (λ (b : List ℕ). sets b 506 (big_endian 2 a.keys)) (c.put_two_bytes-3.ensures
    ∙ ap (λ (b : List ℕ). sets b 504 (big_endian 2 a.total)) (c.put_code.ensures
    ∙ ap (λ (b : List ℕ). sets b 4 (padded code)) (c.put_two_bytes-2.ensures
    ∙ ap (λ (b : List ℕ). sets b 2 (big_endian 2 (length code / 20))) c.put_two_bytes.ensures))))
    ∙ filled_sealed a.block.now code a.k a.total a.keys c.requires.0 c.requires.1
