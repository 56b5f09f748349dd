-- `drafting::assertions::put_input` meets its contract: a name lies in the list where its offsets say (`spelled`), and these are small, as a list
-- of names is short (`few_bytes`).
use Prim.Native.Nat.{◌+◌, ◌*◌, ◌≤◌, ◌<◌}
use native.Mathlib.Omega.{arith}
use mathlib.Core.Path.{refl, ap, ◌∙◌}
use lib.ListN.{get_or}
use Rattle.paper.specs.Grammar as G
use Rattle.trees.proofs.Puts.{name_put}
use Rattle.trees.specs.Words.{leaf_words}
use Rattle.drafting.proofs.Growing.{put_leaf}
use Rattle.drafting.proofs.Naming.{few_bytes, short_name, spelled}
use Rattle.drafting.proofs.assertions.put_input.Goals as goal

-- the offsets are small
small : (s : goal.After-put_name-arg-1) → (s.args.k * 80 + 16 < 1400) × (get_or s.args.names.now (s.args.k * 80) 0 ≤ 64)
small s =
    let names = s.args.names.now in
    (omega (arith, few_bytes names s.requires.named.0, s.requires.named.1), short_name names s.requires.named.0 s.args.k s.requires.named.1)

pub overflow_cast-from : goal.overflow_cast-from
overflow_cast-from c = omega (arith, small c)

pub overflow_cast-to-2 : goal.overflow_cast-to-2
overflow_cast-to-2 c = omega (arith, small c)

pub returns : goal.returns
returns c =
    let list = c.args.names.now in
    let nodes = c.args.nodes.now in
    let from = c.args.k * 80 + 16 in
    let to = from + get_or list (c.args.k * 80) 0 in
    let there = name_put list nodes _ c.args.at c.requires.at_in_bounds.0 from to c.put_name.ensures
    ∙ ap (G.key 0) (spelled list c.requires.named.0 c.args.k c.requires.named.1) in
    rw c.leaf.ensures
    (put_leaf list nodes _ c.args.at (leaf_words 2 0 from to 0 0) refl c.requires.at_in_bounds.0 c.put_name.ensures
    (record { tokens = refl; levels = refl; rung = refl }) refl there)
