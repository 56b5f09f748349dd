-- `drafting::contracts::ended` meets its contract: what waits makes the contract a cut one; else its tree is that of the closed clauses and the last.
use native.Mathlib.Omega.{arith}
use mathlib.Core.Path.{◌≡◌, sym, ap, ◌∙◌}
use mathlib.Core.Option.{Option}
use mathlib.Core.List.{[], ◌∷◌, ◌++◌}
use Rattle.paper.specs.Answers.{ok}
use Rattle.paper.specs.Pact.{Clause}
use Rattle.paper.specs.Contract.{closed_all}
use Rattle.paper.specs.Drafting.{contract_tree, clause_tree}
use Rattle.drafting.specs.Assertions.{names_in}
use Rattle.drafting.specs.Fronts.{all_of, sequel_on}
use Rattle.drafting.proofs.Clauses.{no_clause_yet, clause_there, all_closed, all_more}
use Rattle.drafting.proofs.Walk.{nothing_waits, tree_of_all, drafts_as}
use Rattle.drafting.proofs.contracts.ended.Goals as goal

pub returns-in_default : goal.returns-in_default
unfolding contract_tree
returns-in_default c list table f h =
    let whole =
    nothing_waits c.args.at h (sym c.is_some.ensures ∙ c.if-is_some.false) (sym c.is_some-else-is_some.ensures ∙ c.if-is_some-2.false)
    in
    let none_yet = no_clause_yet list table c.args.nodes.now c.args.front f h c.in_default.is in
    drafts_as list table _ [] c.empty.result (whole ∙ rw (none_yet, h.first none_yet)) (c.empty.ensures list)

pub measured-requires : goal.measured-requires
measured-requires c =
    let r = c.requires.2 in
    let g = all_closed c.requires.0 c.requires.1 c.args.nodes.now c.args.front r.front r.stands _ c.in-Some.is (c.put_closed.ensures c.requires.0) in
    omega (arith, g.holds.begun)

pub returns : goal.returns
returns c list table f h =
    let ns = c.args.nodes.now in
    let last = clause_there list table ns c.args.front f h _ c.in-Some.is in
    let cs = f.closed ++ (last.0 ∷ []) in
    let t = sequel_on (all_of list table f.closed) (clause_tree (names_in list) table last.0) in
    let g = all_closed list table ns c.args.front f h _ c.in-Some.is (c.put_closed.ensures list) in
    let is-tree : contract_tree (names_in list) table cs ≡ t = tree_of_all list table cs t (all_more list table f.closed last.0) in
    let whole =
    nothing_waits c.args.at h (sym c.is_some.ensures ∙ c.if-is_some.false) (sym c.is_some-else-is_some.ensures ∙ c.if-is_some-2.false)
    in
    drafts_as list table _ cs c.measured.result (whole ∙ ap (λ (o : Option Clause). ok (closed_all f.closed o)) last.1.0)
    (rw is-tree (c.measured.ensures list _ t g.holds))
