-- 02 k, "Take in Pact contracts": "Translate a contract, with a table of up to 16 user numbers below 2^64 and names for up to 16 inputs,
-- all exact keys of width 64, into a text. .. clauses are joined by ";". Exclusive or becomes "!=" of two bools. NOT becomes "!" over its
-- comparison or join. The text is the tree so made, printed as in a). .. An empty contract gives "true"."
use Rattle.std.specs.Prelude.{ℕ, Bool, true, false, ◌&&◌, List, [], ◌∷◌, map, length, get_or, eqb, ltb, leb, Result, Ok, Err}
use Rattle.paper.specs.declared.Refusal.{Refusal}
use Rattle.paper.specs.Answers.{Answer, ok, refused, ◌>>=◌, require, in_table, in_buffer, input_of, offset_of, refused_by}
use Rattle.paper.specs.Numbers.{byte_at}
use Rattle.paper.specs.Tokens.{decimal, literal_in, not_sign, sequel, or_else, and_also, Comparison, equal, unequal, greater, at_least, most_tokens}
use Rattle.paper.specs.Keys.{Key, record_ok, RecordRule, keys_by}
use Rattle.paper.specs.Grammar.{Tree, truth, number, key, prefixed, joined, compared, most_levels}
use Rattle.paper.specs.Print.{print}
use Rattle.paper.specs.Sized.{levels, count}
use Rattle.paper.specs.Calls.{lends, laid}
use Rattle.paper.specs.Pact.{most_indices, Relation, eq, gt, gte, Load, user, input, Linking, and, or, xor, Assertion, Clause, alone, linked}
use Rattle.paper.specs.Contract.{clauses}

-- the tree. Its places are all 0: no print depends on them

-- "NOT becomes "!" over its comparison or join."
abbrev pub inversion : Bool → Tree → Tree
inversion true t = prefixed 0 not_sign t
inversion false t = t

abbrev pub comparison_of : Relation → Comparison
comparison_of eq = equal
comparison_of gt = greater
comparison_of gte = at_least

-- "Exclusive or becomes "!=" of two bools."
abbrev pub link_of : Linking → Tree → Tree → Tree
link_of and l r = joined 0 and_also l r
link_of or l r = joined 0 or_else l r
link_of xor l r = compared 0 unequal l r

-- of the inputs' names and the user numbers
module _ (names : List (List ℕ)) (table : List ℕ) where
  abbrev pub operand_tree : Load → ℕ → Tree
  operand_tree user j = number 0 (literal_in decimal (get_or table j 0))
  operand_tree input j = key 0 (get_or names j [])

  abbrev pub assertion_tree : Assertion → Tree
  assertion_tree a =
      let c = a.comparator in
      inversion c.inverted (compared 0 (comparison_of c.relation) (key 0 (get_or names a.left [])) (operand_tree c.load a.right))

  abbrev pub clause_tree : Clause → Tree
  clause_tree (alone a) = assertion_tree a
  clause_tree (linked c j a) = inversion j.inverted (link_of j.linking (clause_tree c) (assertion_tree a))

  -- "clauses are joined by ";"", which 01 joins from the left
  abbrev pub sequel_of : Tree → List Clause → Tree
  sequel_of t [] = t
  sequel_of t (c ∷ cs) = sequel_of (joined 0 sequel t (clause_tree c)) cs

  -- "An empty contract gives "true"."
  unfoldable pub contract_tree : List Clause → Tree
  contract_tree [] = truth 0 true
  contract_tree (c ∷ cs) = sequel_of (clause_tree c) cs

-- the call

-- "The names come as a key list: 2 to 4 as before, and a record of another kind or width, or a 17th, is number 3 at it."
abbrev pub name_rule : RecordRule
name_rule k r = record_ok r && eqb (byte_at r 1) 0 && eqb (byte_at r 2) 64 && ltb k most_indices

unfoldable pub names_of : List ℕ → Answer (List Key)
names_of list = keys_by name_rule list

-- "Then a table over 16 numbers is number 24 at table 16."
abbrev pub table_sized : List ℕ → Answer (Unit {0})
table_sized table = require (leb (length table) most_indices) 24 in_table most_indices

-- names, table and contract pass: the tree
unfoldable pub drafted : List ℕ → List ℕ → List ℕ → Answer Tree
unfolding names_of clauses contract_tree
drafted contract table list =
    names_of list
    >>= λ ks. table_sized table
    >>= λ _. clauses (length ks) (length table) contract
    >>= λ cs. ok (contract_tree (map (λ (k : Key). k.name) ks) table cs)

-- "A text over a limit of 01, or over the lent buffer, is 21.": its tokens and levels; and its bytes, as for a print
abbrev pub lends_text : Tree → List ℕ → Answer (List ℕ)
lends_text t buffer =
    require (leb (count t) most_tokens && leb (levels t) most_levels) 21 in_buffer (length buffer)
    >>= λ _. lends (print t) buffer

unfoldable pub draftable : List ℕ → List ℕ → List ℕ → List ℕ → Answer (List ℕ)
unfolding drafted print
draftable contract table list buffer = drafted contract table list >>= λ t. lends_text t buffer

-- what is answered is our choice: the length of the text
unfoldable pub draft_answer : List ℕ → List ℕ → List ℕ → List ℕ → Answer ℕ
unfolding draftable
draft_answer contract table list buffer = draftable contract table list buffer >>= λ s. ok (length s)

-- "Bytes after a print, or after a text that a later request writes, stay."
unfoldable pub draft_buffer : List ℕ → List ℕ → List ℕ → List ℕ → List ℕ
unfolding draftable
draft_buffer contract table list buffer = laid (draftable contract table list buffer) buffer
