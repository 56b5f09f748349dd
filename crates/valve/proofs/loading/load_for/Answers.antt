-- `valve::load_for` meets its contract: a refusal of the layout is passed up (`layout_refused`); its count goes on to the check of types
-- (`types_told`).
use Prim.Native.Nat.{ℕ}
use mathlib.Core.Path.{◌≡◌, sym, ap, ◌∙◌}
use lib.ListN.{length}
use Rattle.paper.specs.Answers.{says}
use Rattle.paper.proofs.PassedUp.{passed_up}
use Rattle.keys.specs.Says.{keys_in}
use Rattle.blocks.specs.Layout.{laid_out}
use Rattle.machine.proofs.Loaded.{laid_within}
use Rattle.valve.proofs.Loads.{layout_refused, types_told}
use Rattle.valve.proofs.loading.load_for.Goals as goal

-- the layout's answer is that for the keys of the list

pub returns-in_err-count : goal.returns-in_err-count
returns-in_err-count c =
    let a = c.args in
    let laid : says c.layout.result ≡ laid_out (length (keys_in a.list.now)) a.blocks.now =
    c.layout.ensures ∙ ap (λ (k : ℕ). laid_out k a.blocks.now) c.requires
    in
    rw (passed_up _ c.from_residual.ensures.1) (layout_refused (keys_in a.list.now) a.blocks.now c.layout.result laid c.in_err-count.was)

pub check_code-requires : goal.check_code-requires
check_code-requires c =
    let a = c.args in
    let laid : says c.layout.result ≡ laid_out (length (keys_in a.list.now)) a.blocks.now =
    c.layout.ensures ∙ ap (λ (k : ℕ). laid_out k a.blocks.now) c.requires
    in
    laid_within _ a.blocks.now _ (sym laid ∙ ap says c.in_ok-count.was)

pub returns-in_err-check_code : goal.returns-in_err-check_code
returns-in_err-check_code c =
    let a = c.args in
    let laid : says c.layout.result ≡ laid_out (length (keys_in a.list.now)) a.blocks.now =
    c.layout.ensures ∙ ap (λ (k : ℕ). laid_out k a.blocks.now) c.requires
    in
    rw (passed_up _ c.from_residual-in_err-check_code.ensures.1)
    (types_told (keys_in a.list.now) a.blocks.now c.layout.result laid c.in_ok-count.was (sym c.check_code.ensures ∙ ap says c.in_err-check_code.was))

pub returns : goal.returns
returns c =
    let a = c.args in
    let laid : says c.layout.result ≡ laid_out (length (keys_in a.list.now)) a.blocks.now =
    c.layout.ensures ∙ ap (λ (k : ℕ). laid_out k a.blocks.now) c.requires
    in
    types_told (keys_in a.list.now) a.blocks.now c.layout.result laid c.in_ok-count.was (sym c.check_code.ensures ∙ ap says c.in_ok-check_code.was)
