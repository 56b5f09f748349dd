-- What 02 k's translation is to be: it reads every contract that 000's grammar has, and no other; the text that it makes is read and typed with
-- those names; and judged on an entry it is what the contract says of the entry's numbers.
use Rattle.std.specs.Prelude.{ℕ, ◌≤◌, ◌≡◌, ◌↔◌, List, [], length}
use Rattle.paper.specs.Answers.{ok}
use Rattle.paper.specs.Tokens.{bytes, most_tokens}
use Rattle.paper.specs.Keys.{Key, keys}
use Rattle.paper.specs.Entry.{Entry, entry_of}
use Rattle.paper.specs.Grammar.{Tree, most_levels}
use Rattle.paper.specs.Print.{print}
use Rattle.paper.specs.Sized.{levels, count}
use Rattle.paper.specs.BlocksRoundTrip.{All}
use Rattle.paper.specs.Calls.{tree, check_answer, judge_answer}
use Rattle.paper.specs.Pact.{most_indices, Clause, contract_holds, contract_bytes, AllIndexed}
use Rattle.paper.specs.Contract.{clauses}
use Rattle.paper.specs.Drafting.{names_of, drafted, draftable}
use Rattle.paper.specs.Promised.{UserNumbers}
use Rattle.paper.specs.Demands.{inputs_of}

-- a contract is read exactly when it is the bytes of clauses whose indices all have names or user numbers, and as these: nothing is added,
-- dropped or read in another way
abbrev pub ContractsRead : Type 0
ContractsRead =
    (names users : ℕ) (contract : List ℕ) (cs : List Clause)
    → (clauses names users contract ≡ ok cs) ↔ ((contract ≡ contract_bytes cs) × All (AllIndexed names users) cs)

-- names are keys: "2 to 4 as before"
abbrev pub NamesAreKeys : Type 0
NamesAreKeys = (list : List ℕ) (ks : List Key) → names_of list ≡ ok ks → (keys list ≡ ok ks) × (length ks ≤ most_indices)

-- "A text over a limit of 01": the text is read exactly when its tokens and levels are within the limits
abbrev pub LimitsAreReads : Type 0
LimitsAreReads =
    (contract table list : List ℕ) (t : Tree) → UserNumbers table → drafted contract table list ≡ ok t
    → ((count t ≤ most_tokens) × (levels t ≤ most_levels)) ↔ ((r : Tree) × (tree (print t) ≡ ok r))

pub record TextsMean : Type 0 where
  pub passes : (contract table list buffer text : List ℕ) → UserNumbers table → draftable contract table list buffer ≡ ok text
      → check_answer text list ≡ ok tt
  -- "The text judged on an entry with those inputs equals the contract's own meaning, written from 000."
  pub judged : (contract table list buffer text entry : List ℕ) (ks : List Key) (e : Entry) (cs : List Clause) → UserNumbers table
      → draftable contract table list buffer ≡ ok text → names_of list ≡ ok ks → entry_of ks entry ≡ ok e
      → clauses (length ks) (length table) contract ≡ ok cs → judge_answer text list entry ≡ ok (contract_holds (inputs_of e) table cs)

-- "An empty contract gives "true"."
abbrev pub EmptyGivesTrue : Type 0
EmptyGivesTrue =
    (table list buffer : List ℕ) (ks : List Key) → names_of list ≡ ok ks → length table ≤ most_indices → 4 ≤ length buffer
    → draftable [] table list buffer ≡ ok (bytes "true")
