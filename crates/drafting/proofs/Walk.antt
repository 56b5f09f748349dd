-- A contract a byte at a time: what the bytes from the next one on say of what stands before it is what the whole contract says; and its end.
use Prim.Native.Nat.{ℕ, suc, ◌+◌, ◌≤◌, ◌<◌}
use native.Mathlib.Numerals.{add-one}
use native.Mathlib.Omega.{arith}
use mathlib.Core.Path.{◌≡◌, refl, sym, ap, subst, ◌∙◌}
use mathlib.Core.Option.{Option, none, some}
use mathlib.Core.List.{List, [], ◌∷◌}
use lib.ListN.{length, get_or, drop, drop_of_length-le}
use Rattle.paper.specs.Answers.{Answer, ok, ◌>>=◌}
use Rattle.paper.specs.Keys.{records_in}
use Rattle.paper.specs.Grammar.{Tree}
use Rattle.paper.specs.Pact as P
use Rattle.paper.specs.Pact.{Clause}
use Rattle.paper.specs.Contract.{Front, at_start, fault, closed_all, ended, with_byte, clauses_from, clauses}
use Rattle.paper.specs.Drafting.{contract_tree}
use Rattle.spelling.proofs.Steps.{cut}
use Rattle.drafting.specs.declared.fronts.Front as R
use Rattle.std.specs.Prelude as S
use Rattle.std.specs.Prelude.{Some, None, is_some, Result, Ok, Err}
use Rattle.std.proofs.Common.{true≢false, false}
use Rattle.drafting.specs.declared.contracts.Undrafted.{Undrafted}
use Rattle.drafting.specs.declared.contracts.Undrafted.TheVariants as D
use Rattle.drafting.specs.Assertions.{names_in}
use Rattle.drafting.specs.Fronts.{all_of, link_meant, opened_meant, Represents, Steps}
use Rattle.drafting.specs.Drafts.{Measured, Drafts}

-- i bytes are read
pub record Read (contract table list ns : List ℕ) (x : R.Front) (i : ℕ) : Type 0 where
  pub here : i ≤ length contract
  pub front : Front
  pub stands : Represents list table ns x front
  pub rest : clauses_from (records_in list) (length table) i front (drop i contract) ≡ clauses (records_in list) (length table) contract

module _ (contract table list : List ℕ) where
  abbrev all : Answer (List Clause)
  all = clauses (records_in list) (length table) contract

  pub read_none : (ns : List ℕ) (x : R.Front) → Represents list table ns x at_start → Read contract table list ns x 0
  unfolding clauses
  read_none ns x h = record { here = omega arith; front = at_start; stands = h; rest = refl }

  module _ (ns : List ℕ) (x : R.Front) (i : ℕ) (r : Read contract table list ns x i) where
    abbrev byte : Answer Front
    byte = with_byte (records_in list) (length table) i r.front r.front.comparator (get_or contract i 0)

    -- the next byte
    one_byte : i < length contract → (byte >>= λ g. clauses_from (records_in list) (length table) (suc i) g (drop (i + 1) contract)) ≡ all
    unfolding clauses_from
    one_byte h = rw (cut contract i h) at r.rest

    pub read_on : i < length contract → (after : List ℕ) (y : R.Front) {s : S.Option R.Front} → s ≡ Some y → Steps list table after i byte s
        → Read contract table list after y (i + 1)
    read_on h after y e steps =
        let step = subst (Steps list table after i byte) e steps in
        record {
          here = omega arith;
          front = step.0;
          stands = step.1.1;
          rest = rw (add-one i) (rw (step.1.0, add-one i) at (one_byte h));
        }

    pub read_fault : i < length contract → (after : List ℕ) {s : S.Option R.Front} → s ≡ None → Steps list table after i byte s → all ≡ fault i
    read_fault h after e steps =
        let step = subst (Steps list table after i byte) e steps in
        sym (rw step at (one_byte h))

    pub read_all : length contract ≤ i → ended i r.front r.front.conjunction r.front.comparator ≡ all
    unfolding clauses_from
    read_all h = rw (drop_of_length-le contract h) at r.rest

-- what is said at the end of a contract, by what waits there
module _ (at : ℕ) (f : Front) where
  pub index_waits : (j : Option P.Conjunction) {w : Option P.Comparator} (o : P.Comparator) → w ≡ some o → ended at f j w ≡ fault at
  index_waits j o e = rw e

  pub assertion_waits : {j : Option P.Conjunction} {w : Option P.Comparator} (k : P.Conjunction) → w ≡ none → j ≡ some k → ended at f j w ≡ fault at
  assertion_waits k e l = rw (e, l)

  pub none_waits : {j : Option P.Conjunction} {w : Option P.Comparator} → w ≡ none → j ≡ none → ended at f j w ≡ ok (closed_all f.closed f.clause)
  none_waits e l = rw (e, l)

-- nothing is there
none_there : {T : Type 0} (o : S.Option T) → is_some o ≡ false → o ≡ None
none_there None e = refl
none_there (Some x) e = absurd (true≢false e)

pub nothing_waits : {list table ns : List ℕ} {x : R.Front} {f : Front} (at : ℕ) → Represents list table ns x f
    → is_some x.opened ≡ false → is_some x.link ≡ false → ended at f f.conjunction f.comparator ≡ ok (closed_all f.closed f.clause)
nothing_waits {x = x} {f = f} at h o l =
    none_waits at f (sym h.opened ∙ ap opened_meant (none_there x.opened o)) (sym h.link ∙ ap link_meant (none_there x.link l))

module _ (list table : List ℕ) where
  -- the tree of some clauses
  pub tree_of_all : (cs : List Clause) (t : Tree) → all_of list table cs ≡ some t → contract_tree (names_in list) table cs ≡ t
  unfolding contract_tree
  tree_of_all [] t e = let z : ◌≡◌ {A = ℕ} 0 1 = cc in absurd (omega arith)
  tree_of_all (c ∷ cs) t e = cc

  pub drafts_as : (ns : List ℕ) {a : Answer (List Clause)} (cs : List Clause) (r : Result ℕ Undrafted) → a ≡ ok cs
      → Measured list ns (contract_tree (names_in list) table cs) r → Drafts list table ns a r
  drafts_as ns cs (Err (D.Fault at)) e h = absurd h
  drafts_as ns cs (Err D.Over) e h = (cs, (e, h))
  drafts_as ns cs (Ok root) e h = (cs, (e, h))

  pub drafts_same : (ns : List ℕ) {a b : Answer (List Clause)} (r : Result ℕ Undrafted) → a ≡ b → Drafts list table ns a r → Drafts list table ns b r
  drafts_same ns r e h = subst (λ (x : Answer (List Clause)). Drafts list table ns x r) e h
