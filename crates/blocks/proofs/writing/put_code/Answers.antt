-- The code is copied, and zeros are stored from its end to the tail (`code_then_zeros`).
use mathlib.Core.Path.{◌∙◌, ap}
use mathlib.Core.List.{List}
use Prim.Native.Nat.{ℕ, ◌+◌, ◌-◌}
use lib.ListN.{length, take, drop, length-take, length-drop, replicate}
use native.Mathlib.Omega.{arith}
use mathlib.Core.Path.{◌≡◌}
use lib.Seq.{length-sets}
use borrow.Rule.Slice.PartMut.{put_mid}
use Rattle.blocks.proofs.Stores.{code_then_zeros}
use Rattle.blocks.proofs.writing.put_code.Goals as goal

pub returns : goal.returns
returns c =
    let b = c.args.block.now in
    let code = c.args.code.now in
    let n = length code in
    let size : length c.copy.new.out ≡ 512 = ap length c.copy.ensures ∙ length-sets b 4 code ∙ c.requires.0 in
    let zeros : length (take (504 - (4 + n)) (drop (4 + n) c.copy.new.out)) ≡ 500 - n =
    omega (arith, length-take (504 - (4 + n)) (drop (4 + n) c.copy.new.out), length-drop (4 + n) c.copy.new.out)
    in
    ap (λ (s : List ℕ). put_mid (4 + n) (504 - (4 + n)) s c.fill.new.self) c.copy.ensures
    ∙ code_then_zeros code c.requires.1 b c.fill.new.self c.requires.0
    (c.fill.ensures.after (λ y e. e) ∙ ap (λ (m : ℕ). replicate m 0) zeros)
