-- The translation of a contract refuses as the table says: its names as a key list by their rule, then a table over 16 numbers, then the
-- contract where it first goes wrong, then the text that is made of it.
use Prim.Native.Nat.{ℕ}
use native.Mathlib.Omega.{arith}
use mathlib.Core.Path.{◌≡◌, refl}
use mathlib.Core.Bool.{true, ◌&&◌}
use mathlib.Core.List.{List, [], ◌∷◌, ◌++◌, map}
use lib.ListN.{length}
use lib.Dec.{leb}
use borrow.Author.Tests.{leb-true, leb-false}
use Rattle.paper.specs.Answers.{in_contract, in_table, in_buffer, ok, require}
use Rattle.paper.specs.Tokens.{most_tokens}
use Rattle.paper.specs.Keys.{Key}
use Rattle.paper.specs.Grammar.{Tree, most_levels}
use Rattle.paper.specs.Print.{print}
use Rattle.paper.specs.Sized.{levels, count}
use Rattle.paper.specs.Calls.{lends}
use Rattle.paper.specs.Pact.{most_indices}
use Rattle.paper.specs.Contract.{clauses}
use Rattle.paper.specs.Drafting.{contract_tree, name_rule, names_of, table_sized, drafted, lends_text, draftable, draft_answer}
use Rattle.paper.specs.Faults.{Faults, TableSize, table_over, ContractFaults, TextLimits, LendingSize}
use Rattle.paper.specs.Table.{Free, Stage, stage, Given, list_stages_by, draft_stages}
use Rattle.paper.proofs.StagesInOrder.{Tells, test_tells, given_tells, Follows, follows_one, follows_as, follows_then}
use Rattle.paper.proofs.ListFaults.{list_follows_by}
use Rattle.paper.proofs.ContractRead.{contract_tells}
use Rattle.paper.proofs.LendingFaults.{lending_tells, limits_tell}

-- 24 of the table

table_free : (table : List ℕ) → leb (length table) most_indices ≡ true → Free (TableSize table)
table_free table h n at (table_over l) = let e = leb-true (length table) most_indices h in omega arith

table_only : (table : List ℕ) (m to : ℕ) → TableSize table m to → (m ≡ 24) × (to ≡ most_indices)
table_only table m to (table_over l) = (refl, refl)

table_tells : (table : List ℕ) → Tells in_table (TableSize table) (table_sized table)
table_tells table =
    test_tells (TableSize table) (leb (length table) most_indices) 24 in_table most_indices (table_free table)
    (λ h. table_over (leb-false (length table) most_indices h)) (table_only table)

module _ (contract table list buffer : List ℕ) where
  abbrev table_stages : List Stage
  table_stages = stage in_table (TableSize table) ∷ []

  -- 24 of the contract

  abbrev in_names : List Key → Faults
  in_names ks = ContractFaults (length ks) (length table) contract

  abbrev contract_stages : List Stage
  contract_stages = stage in_contract (Given (names_of list) in_names) ∷ []

  contract_follows : (ks : List Key) → names_of list ≡ ok ks → Follows contract_stages (clauses (length ks) (length table) contract)
  contract_follows ks named =
      let read = clauses (length ks) (length table) contract in
      follows_one in_contract (Given (names_of list) in_names) read
      (given_tells (names_of list) ks named in_names in_contract read (contract_tells (length ks) (length table) contract))

  drafted_follows : Follows (list_stages_by name_rule list ++ (table_stages ++ contract_stages)) (drafted contract table list)
  unfolding drafted names_of
  drafted_follows =
      follows_then (list_stages_by name_rule list) (table_stages ++ contract_stages) (names_of list) _ (list_follows_by name_rule list)
      (λ ks named.
      follows_then table_stages contract_stages (table_sized table) _ (follows_one in_table (TableSize table) (table_sized table) (table_tells table))
      (λ _ _.
      follows_as contract_stages (clauses (length ks) (length table) contract) (contract_tree (map (λ (k : Key). k.name) ks) table)
      (contract_follows ks named)))

  -- 21

  abbrev limit_faults : Tree → Faults
  limit_faults t = TextLimits t buffer

  abbrev size_faults : Tree → Faults
  size_faults t = LendingSize (print t) buffer

  abbrev limit_stages : List Stage
  limit_stages = stage in_buffer (Given (drafted contract table list) limit_faults) ∷ []

  abbrev lending_stages : List Stage
  lending_stages = stage in_buffer (Given (drafted contract table list) size_faults) ∷ []

  text_follows : (t : Tree) → drafted contract table list ≡ ok t → Follows (limit_stages ++ lending_stages) (lends_text t buffer)
  text_follows t made =
      let within = require (leb (count t) most_tokens && leb (levels t) most_levels) 21 in_buffer (length buffer) in
      follows_then limit_stages lending_stages within (λ _. lends (print t) buffer)
      (follows_one in_buffer (Given (drafted contract table list) limit_faults) within
      (given_tells (drafted contract table list) t made limit_faults in_buffer within (limits_tell t buffer)))
      (λ _ _.
      follows_one in_buffer (Given (drafted contract table list) size_faults) (lends (print t) buffer)
      (given_tells (drafted contract table list) t made size_faults in_buffer (lends (print t) buffer) (lending_tells (print t) buffer)))

  pub draft_follows : Follows (draft_stages contract table list buffer) (draft_answer contract table list buffer)
  unfolding draft_answer draftable
  draft_follows =
      follows_as (draft_stages contract table list buffer) (draftable contract table list buffer) length
      (follows_then (list_stages_by name_rule list ++ (table_stages ++ contract_stages)) (limit_stages ++ lending_stages) (drafted contract table list)
      (λ t. lends_text t buffer) drafted_follows text_follows)
