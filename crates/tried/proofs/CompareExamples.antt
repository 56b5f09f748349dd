-- Each example of a comparison is computed from the definitions; no order has an element more often, or fewer elements.
use Prim.Native.Nat.{ℕ}
use native.Mathlib.Omega.{arith}
use mathlib.Core.Path.{◌≡◌, refl}
use mathlib.Core.List.{[]}
use Rattle.paper.specs.Blocks.{blocks_of}
use Rattle.paper.specs.Translating.{code_of}
use Rattle.paper.specs.Calls.{restriction}
use Rattle.paper.specs.Parts.{parts}
use Rattle.paper.specs.Comparing.{at_head, past, all_used, then_use, fits, compare_answer}
use Rattle.tried.specs.CompareExamples.{Orders, Refusals, CompareExamples}
use Rattle.paper.proofs.Orders.{as_many, all_kept}

orders : Orders
orders =
    record {
      turned = then_use 3 (past 1 (past 2 (at_head []))) (then_use 1 (at_head _) (then_use 2 (at_head []) all_used));
      equal = then_use 2 (past 1 (at_head _)) (then_use 1 (at_head _) (then_use 1 (at_head []) all_used));
      twice = λ o. omega (arith, ((all_kept (λ (n : ℕ). n ≡ 1) o).0 (refl, (refl, tt))).1.0);
      fewer = λ o. omega (arith, as_many o);
      more = λ o. omega (arith, as_many o);
    }

refusals : Refusals
unfolding compare_answer
refusals =
    record {
      text_first = refl;
      list_before_text = refl;
      types_before_blocks = refl;
      other_list = refl;
      octal = refl;
      bits_lost = refl;
      no_blocks = refl;
      bad_block_lem = refl;
      bad_code_lem = refl;
    }

pub compare_examples : CompareExamples
unfolding restriction code_of blocks_of parts fits compare_answer
compare_examples = record { orders = orders; of_three_lem = refl; of_pairs = refl; of_codes = refl; refusals = refusals }
