-- 02 k: how a contract's bytes are read, and number 24. "IN, a nonzero reserved bit, an unused operation number, an index without a user
-- number or name, a conjunction with no assertion directly before it, and a cut contract are 24 at the earliest contract byte concerned, or
-- at the length if cut."
use Rattle.std.specs.Prelude.{ℕ, suc, Bool, ◌&&◌, List, [], ◌∷◌, ◌++◌, ltb}
use Rattle.std.proofs.Math.Option.{Option, none, some}
use Rattle.paper.specs.Answers.{Answer, ok, refused, ◌>>=◌, require, in_contract}
use Rattle.paper.specs.Pact.{Comparator, Conjunction, Assertion, Clause, alone, linked, Opcode, compares, conjoins, wrong, opcode_of, left_index, right_index, indices_of}

-- What stands before a byte ("interpretation requires zero look-ahead"): the clauses that are closed, the one that may go on, a
-- conjunction that waits for its assertion, and a comparator that waits for its index.
pub record Front : Type 0 where
  pub closed : List Clause
  pub clause : Option Clause
  pub conjunction : Option Conjunction
  pub comparator : Option Comparator

abbrev pub at_start : Front
at_start = record { closed = []; clause = none; conjunction = none; comparator = none }

abbrev pub fault : {A : Type 0} → ℕ → Answer A
fault at = refused 24 in_contract at

-- the clauses so far, of which none goes on
abbrev pub closed_all : List Clause → Option Clause → List Clause
closed_all cs none = cs
closed_all cs (some c) = cs ++ (c ∷ [])

-- "A conjunction opcode after an assertion continues the clause, joined from the left": any other assertion begins one
abbrev pub continued : List Clause → Option Clause → Option Conjunction → Assertion → Front
continued cs (some c) (some j) a = record { closed = cs; clause = some (linked c j a); conjunction = none; comparator = none }
continued cs none j a = record { closed = cs; clause = some (alone a); conjunction = none; comparator = none }
continued cs (some c) none a = record { closed = cs ++ (c ∷ []); clause = some (alone a); conjunction = none; comparator = none }

-- "a conjunction with no assertion directly before it"
abbrev pub with_conjunction : ℕ → List Clause → Option Clause → Option Conjunction → Conjunction → Answer Front
with_conjunction at cs (some c) none k = ok (record { closed = cs; clause = some c; conjunction = some k; comparator = none })
with_conjunction at cs (some c) (some j) k = fault at
with_conjunction at cs none j k = fault at

-- "IN, a nonzero reserved bit, an unused operation number"
abbrev pub with_opcode : ℕ → Front → Opcode → Answer Front
with_opcode at f (compares o) =
    ok (record { closed = f.closed; clause = f.clause; conjunction = f.conjunction; comparator = some o })
with_opcode at f (conjoins k) = with_conjunction at f.closed f.clause f.conjunction k
with_opcode at f wrong = fault at

-- "a cut contract": one that ends where an index or an assertion is waited for
abbrev pub ended : ℕ → Front → Option Conjunction → Option Comparator → Answer (List Clause)
ended at f j (some o) = fault at
ended at f (some j) none = fault at
ended at f none none = ok (closed_all f.closed f.clause)

-- with so many names and user numbers
module _ (names users : ℕ) where
  -- "an index without a user number or name"
  abbrev pub index_fits : Comparator → ℕ → Bool
  index_fits o b = ltb (left_index b) names && ltb (right_index b) (indices_of names users o.load)

  abbrev pub with_index : ℕ → Front → Comparator → ℕ → Answer Front
  with_index at f o b =
      require (index_fits o b) 24 in_contract at
      >>= λ _. ok (continued f.closed f.clause f.conjunction (record { comparator = o; left = left_index b; right = right_index b }))

  abbrev pub with_byte : ℕ → Front → Option Comparator → ℕ → Answer Front
  with_byte at f none b = with_opcode at f (opcode_of b)
  with_byte at f (some o) b = with_index at f o b

  -- the first byte stands at such an offset
  unfoldable pub clauses_from : ℕ → Front → List ℕ → Answer (List Clause)
  clauses_from at f [] = ended at f f.conjunction f.comparator
  clauses_from at f (b ∷ s) = with_byte at f f.comparator b >>= λ g. clauses_from (suc at) g s

  unfoldable pub clauses : List ℕ → Answer (List Clause)
  unfolding clauses_from
  clauses contract = clauses_from 0 at_start contract
