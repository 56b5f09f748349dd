-- From the stages' answers to that of `pact`: the names, the table, the contract, the limits of a text, and what is lent.
use Prim.Native.Nat.{ℕ, ◌≤◌, ◌<◌}
use Rattle.paper.specs.declared.Refusal.{Refusal}
use Rattle.std.specs.Prelude.{Err}
use mathlib.Core.Path.{◌≡◌}
use mathlib.Core.Bool.{true, false}
use mathlib.Core.List.{List}
use lib.ListN.{length}
use borrow.Author.Tests.{le-leb, lt-leb}
use Rattle.paper.specs.declared.Place.TheVariants as P
use Rattle.paper.specs.Answers.{ok, ◌>>=◌, refused_by}
use Rattle.paper.specs.Keys.{records_in}
use Rattle.paper.specs.Grammar.{Tree}
use Rattle.paper.specs.Print.{print}
use Rattle.paper.specs.Pact.{most_indices, Clause}
use Rattle.paper.specs.Contract.{fault, clauses}
use Rattle.paper.specs.Drafting.{contract_tree, names_of, drafted, draftable, draft_answer, draft_buffer}
use Rattle.paper.specs.Promised.{DraftResult, DraftPromised}
use Rattle.keys.proofs.Records.{keys_length}
use Rattle.drafting.specs.Assertions.{names_in, Named}
use Rattle.drafting.specs.Drafts.{within_limits}
use Rattle.valve.specs.Lent.{LentDraft}

-- a refusal leaves the buffer
abbrev pub unwritten : Refusal → List ℕ → DraftResult
unwritten v buffer = record { answer = Err v; buffer = buffer }

module _ (contract table list buffer : List ℕ) where
  pub names_refused : (v : Refusal) → names_of list ≡ refused_by v → DraftPromised contract table list buffer (unwritten v buffer)
  unfolding draft_answer draft_buffer draftable drafted
  names_refused v e = record { says = rw e; holds = rw e }

  module _ (named : Named list) where
    pub table_over : most_indices < length table → DraftPromised contract table list buffer (unwritten (record { number = 24; place = P.Table most_indices }) buffer)
    unfolding draft_answer draft_buffer draftable drafted
    table_over h = record { says = rw (named, lt-leb (length table) most_indices h); holds = rw (named, lt-leb (length table) most_indices h) }

    module _ (few : length table ≤ most_indices) where
      -- the contract decides
      by_contract : drafted contract table list ≡ (clauses (records_in list) (length table) contract >>= λ cs. ok (contract_tree (names_in list) table cs))
      unfolding drafted
      by_contract = rw (named, le-leb (length table) most_indices few, keys_length list 0 (records_in list))

      pub contract_fault : (at : ℕ) → clauses (records_in list) (length table) contract ≡ fault at
          → DraftPromised contract table list buffer (unwritten (record { number = 24; place = P.Contract at }) buffer)
      unfolding draft_answer draft_buffer draftable
      contract_fault at e = record { says = rw (by_contract, e); holds = rw (by_contract, e) }

      module _ (cs : List Clause) (e : clauses (records_in list) (length table) contract ≡ ok cs) where
        abbrev tree : Tree
        tree = contract_tree (names_in list) table cs

        pub text_over : within_limits tree ≡ false → DraftPromised contract table list buffer (unwritten (record { number = 21; place = P.Buffer (length buffer) }) buffer)
        unfolding draft_answer draft_buffer draftable
        text_over h = record { says = rw (by_contract, e, h); holds = rw (by_contract, e, h) }

        pub text_lent : within_limits tree ≡ true → (t : Tree) → t ≡ tree → (r : DraftResult) → LentDraft (print t) buffer r → DraftPromised contract table list buffer r
        unfolding draft_answer draft_buffer draftable
        text_lent h t is r lent = record { says = rw (by_contract, e, h, ← is) lent.says; holds = rw (by_contract, e, h, ← is) lent.holds }
