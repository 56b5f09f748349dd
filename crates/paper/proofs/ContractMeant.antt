-- The tree of a contract is worth on an entry what the contract says of the entry's numbers: a name is worth the number of its input, of
-- width 64, a user number fits in that width, and each operator of the tree does what its opcode says.
use Prim.Native.Nat.{ℕ, ◌^◌, ◌<◌}
use native.Mathlib.Nat.{mod-eq_of_lt}
use mathlib.Core.Path.{◌≡◌, refl, sym, ap, ◌∙◌}
use mathlib.Core.Bool.{Bool, true, false, not, cond, ◌&&◌, and-true, beq}
use mathlib.Core.Option.{some}
use mathlib.Core.List.{List, [], ◌∷◌}
use lib.ListN.{length, get_or}
use lib.Dec.{eqb, ltb, leb}
use lib.IntN.{pos}
use borrow.Author.Tests.{ltb-true, ltb-false, lt-ltb, le-leb, lt-leb}
use Rattle.paper.specs.Tokens.{sequel}
use Rattle.paper.specs.Keys.{Key, exact}
use Rattle.paper.specs.Entry.{Match, Entry}
use Rattle.paper.specs.Grammar.{Tree, key, joined}
use Rattle.paper.specs.Types.{when, and_then}
use Rattle.paper.specs.Meaning.{truth, whole, matched, value_of, comparison_value}
use Rattle.paper.specs.BlocksRoundTrip.{All}
use Rattle.paper.specs.Pact.{Relation, eq, gt, gte, Load, user, input, Linking, and, or, xor, Assertion, Clause, alone, linked, inverts, relates, links, assertion_holds, clause_holds, contract_holds, Indexed, AllIndexed}
use Rattle.paper.specs.Drafting.{inversion, comparison_of, link_of, assertion_tree, clause_tree, sequel_of, contract_tree}

-- a match of one number, as an exact key has it
pub record Number (m : Match) (n : ℕ) : Type 0 where
  pub first : m.first ≡ n
  pub second : m.second ≡ 0
  pub length : m.length ≡ 0

-- comparisons: of two inputs, and of an input with a user number

not_less : (i j : ℕ) → not (ltb i j) ≡ leb j i
not_less i j = go (ltb i j) refl
  where
    go : (b : Bool) → ltb i j ≡ b → not b ≡ leb j i
    go true e = sym (lt-leb j i (ltb-true i j e))
    go false e = sym (le-leb j i (ltb-false i j e))

all_three : (b : Bool) → b && true && true ≡ b
all_three b = and-true (b && true) ∙ and-true b

compare_inputs : (r : Relation) (m n : Match) (i j : ℕ) → Number m i → Number n j
    → comparison_value (comparison_of r) (matched exact 64 m) (matched exact 64 n) ≡ some (truth (relates r i j))
compare_inputs eq m n i j h g =
    rw (h.first, g.first, h.second, g.second, h.length, g.length) (ap (λ b. some (truth b)) (all_three (eqb i j)))
compare_inputs gt m n i j h g = rw (h.first, g.first)
compare_inputs gte m n i j h g = rw (h.first, g.first) (ap (λ b. some (truth b)) (not_less i j))

compare_user : (r : Relation) (m : Match) (i v : ℕ) → Number m i → v < 2 ^ 64
    → comparison_value (comparison_of r) (matched exact 64 m) (whole (pos v)) ≡ some (truth (relates r i v))
compare_user eq m i v h l =
    rw (mod-eq_of_lt l, h.first, h.second, h.length) (ap (λ b. some (truth b)) (all_three (eqb i v)))
compare_user gt m i v h l = rw (mod-eq_of_lt l, h.first)
compare_user gte m i v h l = rw (mod-eq_of_lt l, h.first) (ap (λ b. some (truth b)) (not_less i v))

-- "Exclusive or becomes "!=" of two bools."
unlike : (x y : Bool) → not (beq x y) ≡ cond x (not y) y
unlike true true = refl
unlike true false = refl
unlike false true = refl
unlike false false = refl

-- with so many names
module _ (ks : List Key) (e : Entry) (names : List (List ℕ)) (many : ℕ) (inputs table : List ℕ) where
  -- each name is worth its input's number, and the user numbers fit in the width
  pub record Given : Type 0 where
    pub named : (i : ℕ) → i < many
        → (m : Match) × (value_of ks e (key 0 (get_or names i [])) ≡ some (matched exact 64 m)) × Number m (get_or inputs i 0)
    pub small : (j : ℕ) → get_or table j 0 < 2 ^ 64

  inverted_value : (b : Bool) (t : Tree) (x : Bool) → value_of ks e t ≡ some (truth x)
      → value_of ks e (inversion b t) ≡ some (truth (inverts b x))
  unfolding value_of
  inverted_value true t x h = rw h
  inverted_value false t x h = h

  link_value : (o : Linking) (l r : Tree) (x y : Bool) → value_of ks e l ≡ some (truth x) → value_of ks e r ≡ some (truth y)
      → value_of ks e (link_of o l r) ≡ some (truth (links o x y))
  unfolding value_of
  link_value and l r x y h g = rw (h, g)
  link_value or l r x y h g = rw (h, g)
  link_value xor l r x y h g = rw (h, g) (ap (λ b. some (truth b)) (unlike x y))

  module _ (given : Given) where
    -- no bits are lost: a name is no number, and a user number is below 2^64
    assertion_value : (a : Assertion) → Indexed many (length table) a → (o : Load) → a.comparator.load ≡ o
        → value_of ks e (assertion_tree names table a) ≡ some (truth (assertion_holds inputs table a))
    unfolding value_of
    assertion_value a h user f =
        let (m, v, n) = given.named a.left h.0 in
        let fits = given.small a.right in
        inverted_value a.comparator.inverted _ _
        (rw (f, v, lt-ltb (get_or table a.right 0) (2 ^ 64) fits)
        (ap (λ o. and_then o (when true))
        (compare_user a.comparator.relation m (get_or inputs a.left 0) (get_or table a.right 0) n fits)))
    assertion_value a h input f =
        let (m, v, n) = given.named a.left h.0 in
        let (m', v', n') = given.named a.right (rw f at h.1) in
        inverted_value a.comparator.inverted _ _
        (rw (f, v, v')
        (ap (λ o. and_then o (when true))
        (compare_inputs a.comparator.relation m m' (get_or inputs a.left 0) (get_or inputs a.right 0) n n')))

    clause_value : (c : Clause) → AllIndexed many (length table) c
        → value_of ks e (clause_tree names table c) ≡ some (truth (clause_holds inputs table c))
    clause_value (alone a) h = assertion_value a h a.comparator.load refl
    clause_value (linked c j a) h =
        inverted_value j.inverted _ _
        (link_value j.linking (clause_tree names table c) (assertion_tree names table a) _ _ (clause_value c h.0)
        (assertion_value a h.1 a.comparator.load refl))

    -- the clauses after a tree that is worth x
    sequel_value : (t : Tree) (x : Bool) (cs : List Clause) → All (AllIndexed many (length table)) cs → value_of ks e t ≡ some (truth x)
        → value_of ks e (sequel_of names table t cs) ≡ some (truth (x && contract_holds inputs table cs))
    unfolding value_of
    sequel_value t x [] h v = v ∙ ap (λ b. some (truth b)) (sym (and-true x))
    sequel_value t x (c ∷ cs) h v =
        let y = clause_holds inputs table c in
        sequel_value (joined 0 sequel t (clause_tree names table c)) (x && y) cs h.1 (rw (v, clause_value c h.0))
        ∙ ap (λ b. some (truth b)) (again x y (contract_holds inputs table cs))
      where
        again : (x y z : Bool) → x && y && z ≡ x && (y && z)
        again true y z = refl
        again false y z = refl

    pub contract_value : (cs : List Clause) → All (AllIndexed many (length table)) cs
        → value_of ks e (contract_tree names table cs) ≡ some (truth (contract_holds inputs table cs))
    unfolding contract_tree value_of
    contract_value [] h = refl
    contract_value (c ∷ cs) h =
        sequel_value (clause_tree names table c) (clause_holds inputs table c) cs h.1 (clause_value c h.0)
