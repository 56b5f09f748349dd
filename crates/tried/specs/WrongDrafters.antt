-- Translations of contracts that are wrong: NOT over the last assertion only, joins from the right, exclusive or as "||", clauses joined by
-- "&&". Each makes another tree of a contract that has a meaning, and prints it as it should. As programs they stand in WrongPrograms, and
-- there they are shown to be real.
use Rattle.std.specs.Prelude.{ℕ, ◌≤◌, ◌≡◌, true, List, [], ◌∷◌, map, length, Ok}
use Rattle.paper.specs.Answers.{ok}
use Rattle.paper.specs.Tokens.{sequel, or_else, and_also, most_text, most_tokens}
use Rattle.paper.specs.Keys.{Key}
use Rattle.paper.specs.Grammar.{Tree, truth, joined, most_levels}
use Rattle.paper.specs.Print.{print}
use Rattle.paper.specs.Sized.{levels, count}
use Rattle.paper.specs.Calls.{over}
use Rattle.paper.specs.Pact.{most_indices, Linking, and, or, xor, Clause, alone, linked}
use Rattle.paper.specs.Contract.{clauses}
use Rattle.paper.specs.Drafting.{inversion, link_of, assertion_tree, clause_tree, names_of}
use Rattle.paper.specs.Promised.{Bytes, UserNumbers, DraftResult}
use Rattle.paper.specs.Demands.{DraftsRight}

-- what is answered for a contract, a table, names and a buffer
abbrev pub Drafter : Type 0
Drafter = List ℕ → List ℕ → List ℕ → List ℕ → DraftResult

-- what demand 2 asks of it
abbrev pub DraftsAllRight : Drafter → Type 0
DraftsAllRight x =
    (contract table list buffer : List ℕ) → Bytes contract → UserNumbers table → Bytes list → Bytes buffer
    → DraftsRight contract table list buffer (x contract table list buffer)

-- of the names, the table and the clauses
abbrev pub Maker : Type 0
Maker = List (List ℕ) → List ℕ → List Clause → Tree

-- the print of that tree is lent for every contract with a meaning, where it is within the limits and the buffer has room
abbrev pub Makes : Maker → Drafter → Type 0
Makes made x =
    (contract table list buffer : List ℕ) (ks : List Key) (cs : List Clause) → Bytes contract → UserNumbers table → Bytes list → Bytes buffer
    → names_of list ≡ ok ks → length table ≤ most_indices → clauses (length ks) (length table) contract ≡ ok cs
    → let t = made (map (λ (k : Key). k.name) ks) table cs in
    count t ≤ most_tokens → levels t ≤ most_levels → length (print t) ≤ most_text → length (print t) ≤ length buffer
    → x contract table list buffer ≡ record { answer = Ok (length (print t)); buffer = over (print t) buffer }

-- clauses made into trees in another way, and joined as they should be
abbrev pub joined_by : (Tree → Tree → Tree) → (Clause → Tree) → List Clause → Tree
joined_by join made [] = truth 0 true
joined_by join made (c ∷ cs) = from (made c) cs
  where
    from : Tree → List Clause → Tree
    from t [] = t
    from t (c ∷ cs) = from (join t (made c)) cs

abbrev pub by_sequel : (Clause → Tree) → List Clause → Tree
by_sequel made cs = joined_by (λ l r. joined 0 sequel l r) made cs

module _ (names : List (List ℕ)) (table : List ℕ) where
  -- NOT over the last assertion only
  abbrev pub last_inverted : Clause → Tree
  last_inverted (alone a) = assertion_tree names table a
  last_inverted (linked c j a) = link_of j.linking (last_inverted c) (inversion j.inverted (assertion_tree names table a))

  -- joins from the right: a clause, before a conjunction and what it joins
  abbrev pub joined_right : Clause → (Tree → Tree) → Tree
  joined_right (alone a) rest = rest (assertion_tree names table a)
  joined_right (linked c j a) rest = joined_right c (λ t. inversion j.inverted (link_of j.linking t (rest (assertion_tree names table a))))

  -- exclusive or as "||"
  abbrev pub or_link : Linking → Tree → Tree → Tree
  or_link and l r = joined 0 and_also l r
  or_link or l r = joined 0 or_else l r
  or_link xor l r = joined 0 or_else l r

  abbrev pub inclusive : Clause → Tree
  inclusive (alone a) = assertion_tree names table a
  inclusive (linked c j a) = inversion j.inverted (or_link j.linking (inclusive c) (assertion_tree names table a))

-- the trees that the four make

abbrev pub last_made : Maker
last_made names table cs = by_sequel (last_inverted names table) cs

abbrev pub right_made : Maker
right_made names table cs = by_sequel (λ c. joined_right names table c (λ t. t)) cs

abbrev pub inclusive_made : Maker
inclusive_made names table cs = by_sequel (inclusive names table) cs

abbrev pub and_made : Maker
and_made names table cs = joined_by (λ l r. joined 0 and_also l r) (clause_tree names table) cs

abbrev pub InvertsLast : Drafter → Type 0
InvertsLast = Makes last_made

abbrev pub JoinsRight : Drafter → Type 0
JoinsRight = Makes right_made

abbrev pub TakesInclusive : Drafter → Type 0
TakesInclusive = Makes inclusive_made

abbrev pub JoinsByAnd : Drafter → Type 0
JoinsByAnd = Makes and_made

-- the claim

pub record WrongDraftersFail : Type 0 where
  pub inverting_last : (x : Drafter) → InvertsLast x → ¬ DraftsAllRight x
  pub joining_right : (x : Drafter) → JoinsRight x → ¬ DraftsAllRight x
  pub inclusive : (x : Drafter) → TakesInclusive x → ¬ DraftsAllRight x
  pub joining_by_and : (x : Drafter) → JoinsByAnd x → ¬ DraftsAllRight x
