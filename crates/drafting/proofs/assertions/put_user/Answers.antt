-- `drafting::assertions::put_user` meets its contract: the literal is the number, in decimal.
use Prim.Native.Nat.{◌*◌, ◌^◌, ◌<◌}
use native.Mathlib.Nat.{lt_of_lt_of_le}
use mathlib.Core.Path.{◌≡◌, refl, ap, ap₂, ◌∙◌}
use lib.Dec.{lit≤}
use lib.Seq.{sets}
use Rattle.paper.specs.Grammar as G
use Rattle.paper.specs.Tokens as P
use Rattle.paper.specs.Tokens.{decimal, literal_in}
use Rattle.number.specs.Bases.{base_meant, literal_meant}
use Rattle.number.specs.Values.{value}
use Rattle.trees.proofs.Puts.{number_put}
use Rattle.trees.specs.Words.{words}
use Rattle.drafting.proofs.Growing.{put_leaf}
use Rattle.drafting.proofs.assertions.put_user.Goals as goal

-- what the literal is
is_literal : (c : goal.After-leaf) → literal_meant c.plain.result ≡ literal_in decimal c.args.value
is_literal c =
    ap₂ (λ b m. literal_in (base_meant b) (value m)) c.plain.ensures.0 c.plain.ensures.1
    ∙ ap (literal_in decimal) c.of_u64.ensures

pub returns : goal.returns
returns c list =
    let at = c.args.at in
    let n = literal_in decimal c.args.value in
    let nodes = c.args.nodes.now in
    let stored = c.put_number.ensures ∙ ap (λ (x : P.Literal). sets nodes (at * 8) (words at (G.number 0 x))) (is_literal c) in
    let below : c.args.value < 2 ^ 128 = lt_of_lt_of_le c.ranges.value.fits (lit≤ tt) in
    rw c.leaf.ensures
    (put_leaf list nodes _ at (words at (G.number 0 n)) refl c.requires.0 stored (record { tokens = refl; levels = refl; rung = refl }) refl
    (number_put list nodes _ at c.requires.0 0 n below stored))
