-- `drafting::contracts::empty` meets its contract: one node, of `true`.
use native.Mathlib.Omega.{arith}
use mathlib.Core.Path.{refl}
use mathlib.Core.Bool.{true}
use Rattle.trees.proofs.Puts.{truth_put}
use Rattle.drafting.proofs.contracts.empty.Goals as goal

pub returns : goal.returns
returns c list =
    record {
      within = refl;
      few = omega arith;
      stands = truth_put list c.args.nodes.now _ 0 (omega (arith, c.requires)) 0 true c.put_truth.ensures;
    }
