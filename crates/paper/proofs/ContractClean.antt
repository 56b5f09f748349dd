-- The tree of a contract is clean: its names are keys, and its numbers below 2^64, and so below 2^128.
use Prim.Native.Nat.{ℕ, zero, suc, ◌^◌, ◌<◌}
use native.Mathlib.Nat.{le_trans}
use mathlib.Core.Path.{◌≡◌, refl}
use mathlib.Core.Bool.{Bool, true, false}
use mathlib.Core.List.{List, [], ◌∷◌, map}
use lib.ListN.{length, get_or}
use lib.Dec.{lit<, lit≤}
use Rattle.paper.specs.Answers.{ok}
use Rattle.paper.specs.Tokens.{sequel}
use Rattle.paper.specs.Keys.{Key}
use Rattle.paper.specs.Grammar.{Tree, key, joined}
use Rattle.paper.specs.Sized.{Clean}
use Rattle.paper.specs.BlocksRoundTrip.{All}
use Rattle.paper.specs.Pact.{Load, user, input, Linking, and, or, xor, Assertion, Clause, alone, linked, Indexed, AllIndexed}
use Rattle.paper.specs.Drafting.{inversion, link_of, assertion_tree, clause_tree, sequel_of, contract_tree, names_of}
use Rattle.paper.specs.Promised.{UserNumbers}
use Rattle.paper.proofs.InputNames.{input_name, name_of_lem}

abbrev pub names_in : List Key → List (List ℕ)
names_in ks = map (λ (k : Key). k.name) ks

-- a user number, or 0 where there is none
pub small_at : (table : List ℕ) → UserNumbers table → (j : ℕ) → get_or table j 0 < 2 ^ 64
small_at [] small j = lit< tt
small_at (v ∷ table) small zero = small.0
small_at (v ∷ table) small (suc j) = small_at table small.1 j

clean_inverted : (b : Bool) (t : Tree) → Clean t → Clean (inversion b t)
clean_inverted true t h = h
clean_inverted false t h = h

clean_linked : (o : Linking) (l r : Tree) → Clean l → Clean r → Clean (link_of o l r)
clean_linked and l r h g = (h, g)
clean_linked or l r h g = (h, g)
clean_linked xor l r h g = (h, g)

module _ (list : List ℕ) (ks : List Key) (named : names_of list ≡ ok ks) (table : List ℕ) (small : UserNumbers table) where
  clean_name : (i : ℕ) → i < length ks → Clean (key 0 (get_or (names_in ks) i []))
  clean_name i l =
      let n = input_name list ks named i l in
      rw (name_of_lem list ks named i n) (n.word, n.name)

  clean_assertion : (a : Assertion) (o : Load) → a.comparator.load ≡ o → Indexed (length ks) (length table) a
      → Clean (assertion_tree (names_in ks) table a)
  clean_assertion a user f h =
      let number : get_or table a.right 0 < 2 ^ 128 = le_trans (small_at table small a.right) (lit≤ tt) in
      clean_inverted a.comparator.inverted _ (rw f (clean_name a.left h.0, number))
  clean_assertion a input f h =
      clean_inverted a.comparator.inverted _ (rw f (clean_name a.left h.0, clean_name a.right (rw f at h.1)))

  clean_clause : (c : Clause) → AllIndexed (length ks) (length table) c → Clean (clause_tree (names_in ks) table c)
  clean_clause (alone a) h = clean_assertion a a.comparator.load refl h
  clean_clause (linked c j a) h =
      clean_inverted j.inverted _
      (clean_linked j.linking _ _ (clean_clause c h.0) (clean_assertion a a.comparator.load refl h.1))

  clean_sequel : (t : Tree) (cs : List Clause) → Clean t → All (AllIndexed (length ks) (length table)) cs
      → Clean (sequel_of (names_in ks) table t cs)
  clean_sequel t [] clean h = clean
  clean_sequel t (c ∷ cs) clean h = clean_sequel (joined 0 sequel t (clause_tree (names_in ks) table c)) cs (clean, clean_clause c h.0) h.1

  pub clean_contract : (cs : List Clause) → All (AllIndexed (length ks) (length table)) cs → Clean (contract_tree (names_in ks) table cs)
  unfolding contract_tree
  clean_contract [] h = tt
  clean_contract (c ∷ cs) h = clean_sequel _ cs (clean_clause c h.0) h.1
