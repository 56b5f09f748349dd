-- A contract is read exactly when it is the bytes of clauses whose indices all have names or user numbers, and as these; and refused with 24
-- exactly where it first goes wrong. Every front that is reached stands, and its bytes are those read (so what is answered says what the
-- bytes are, or how they go on); and the bytes of a front that stands lead to it (so there is no other way to say it).
use Prim.Native.Nat.{ℕ, suc}
use native.Mathlib.Omega.{arith}
use mathlib.Core.Path.{◌≡◌, refl, sym, ap, subst, ◌∙◌}
use mathlib.Core.Bool.{Bool, true, false, and-eq-true_iff}
use mathlib.Core.Option.{Option, none, some, none-ne-some}
use mathlib.Core.List.{List, [], ◌∷◌, ◌++◌, append-nil, append_assoc}
use lib.ListN.{length, length-append}
use lib.Dec.{ltb}
use borrow.Author.Tests.{ltb-true}
use Rattle.paper.specs.Answers.{in_contract, Answer, ok, refused, ◌>>=◌, require}
use Rattle.paper.specs.Pact.{Comparator, Conjunction, Assertion, Clause, Opcode, compares, conjoins, wrong, opcode_of, comparator_byte, conjunction_byte, clause_bytes, contract_bytes, Indexed, AllIndexed, left_index, right_index, indices_of}
use Rattle.paper.specs.Contract.{Front, at_start, continued, with_opcode, ended, index_fits, with_index, with_byte, clauses_from, clauses}
use Rattle.paper.specs.Faults.{front_bytes, Stands, ContractFaults, opcode_wrong, nothing_to_join, joined_twice, index_unknown, cut_before_index, cut_before_assertion}
use Rattle.paper.specs.BlocksRoundTrip.{All}
use Rattle.paper.specs.DraftedRight.{ContractsRead}
use Rattle.paper.proofs.Basics.{all_append, all_parts}
use Rattle.paper.proofs.StagesInOrder.{Tells, exact_tells}
use Rattle.paper.proofs.Opcodes.{Spells, opcode_spelled, index_spelled}
use Rattle.paper.proofs.FrontsRead.{front_leads}

contract_append : (cs ds : List Clause) → contract_bytes (cs ++ ds) ≡ contract_bytes cs ++ contract_bytes ds
contract_append [] ds = refl
contract_append (c ∷ cs) ds = ap (λ s. clause_bytes c ++ s) (contract_append cs ds) ∙ sym (append_assoc (clause_bytes c) (contract_bytes cs) (contract_bytes ds))

module _ (names users : ℕ) where
  -- one byte further

  record Further (f : Front) (b : ℕ) (g : Front) : Type 0 where
    stands : Stands names users g
    bytes : front_bytes g ≡ front_bytes f ++ (b ∷ [])

  comparator_further : (f : Front) (b : ℕ) (o : Comparator) → Stands names users f → f.comparator ≡ none → b ≡ comparator_byte o
      → Further f b (record { closed = f.closed; clause = f.clause; conjunction = f.conjunction; comparator = some o })
  comparator_further f b o h e spelled =
      record {
        stands = record { indexed = h.indexed; first = h.first; follows = h.follows };
        bytes = rw (e, spelled, append-nil);
      }

  conjunction_further : (cs : List Clause) (c : Clause) (b : ℕ) (k : Conjunction)
      → let f : Front = record { closed = cs; clause = some c; conjunction = none; comparator = none } in
      Stands names users f → b ≡ conjunction_byte k
      → Further f b (record { closed = cs; clause = some c; conjunction = some k; comparator = none })
  conjunction_further cs c b k h spelled =
      record {
        stands = record { indexed = h.indexed; first = h.first; follows = λ j e. (c, refl) };
        bytes = simp (spelled, append-nil);
      }

  -- a front with an open clause, which waits for nothing
  opened : (cs : List Clause) (c : Clause) → All (AllIndexed names users) cs → AllIndexed names users c
      → Stands names users (record { closed = cs; clause = some c; conjunction = none; comparator = none })
  opened cs c all last =
      record {
        indexed = all_append (AllIndexed names users) cs (c ∷ []) all (last, tt);
        first = λ e. absurd (none-ne-some c (sym e));
        follows = λ j e. absurd (none-ne-some j e);
      }

  index_further : (cs : List Clause) (c : Option Clause) (j : Option Conjunction) (o : Comparator) (b : ℕ)
      → let f : Front = record { closed = cs; clause = c; conjunction = j; comparator = some o } in
      let a : Assertion = record { comparator = o; left = left_index b; right = right_index b } in
      Stands names users f → Indexed names users a → Further f b (continued cs c j a)
  index_further cs (some c) (some j) o b h fits =
      let (all, (last, _)) = all_parts (AllIndexed names users) cs (c ∷ []) h.indexed in
      record {
        stands = opened cs _ all (last, fits);
        bytes = simp (contract_append, append-nil, append_assoc, ← (index_spelled b));
      }
  index_further cs (some c) none o b h fits =
      record {
        stands = opened (cs ++ (c ∷ [])) _ h.indexed fits;
        bytes = simp (contract_append, append-nil, append_assoc, ← (index_spelled b));
      }
  index_further cs none none o b h fits =
      record {
        stands = opened cs _ h.indexed fits;
        bytes = simp (contract_append, append-nil, append_assoc, ← (index_spelled b));
      }
  index_further cs none (some j) o b h fits = let (d, e) = h.follows j refl in absurd (none-ne-some d e)

  -- what is answered says what the bytes are, or where they go wrong
  module _ (contract : List ℕ) where
    abbrev Told : Answer (List Clause) → Type 0
    Told (ok cs) = (contract ≡ contract_bytes cs) × All (AllIndexed names users) cs
    Told (refused n i at) = (i ≡ in_contract) × ContractFaults names users contract n at

    -- of one byte behind a front
    abbrev StepTold : Front → ℕ → Answer Front → Type 0
    StepTold f b (ok g) = Further f b g
    StepTold f b (refused n i at) = (i ≡ in_contract) × ContractFaults names users contract n at

    module _ (b : ℕ) (rest : List ℕ) where
      abbrev Behind : Front → Type 0
      Behind f = contract ≡ front_bytes f ++ (b ∷ rest)

      opcode_told : (cs : List Clause) (c : Option Clause) (j : Option Conjunction) (p : Opcode)
          → let f : Front = record { closed = cs; clause = c; conjunction = j; comparator = none } in
          Stands names users f → Behind f → opcode_of b ≡ p → Spells b p → StepTold f b (with_opcode (length (front_bytes f)) f p)
      opcode_told cs c j (compares o) h split e spelled = comparator_further _ b o h refl spelled
      opcode_told cs c j wrong h split e spelled = (refl, opcode_wrong _ b rest h refl split e)
      opcode_told cs (some c) none (conjoins k) h split e spelled = conjunction_further cs c b k h spelled
      opcode_told cs (some c) (some j) (conjoins k) h split e spelled = (refl, joined_twice _ b rest j k h refl split e refl)
      opcode_told cs none j (conjoins k) h split e spelled = (refl, nothing_to_join _ b rest k h refl split e refl)

      index_told : (cs : List Clause) (c : Option Clause) (j : Option Conjunction) (o : Comparator)
          → let f : Front = record { closed = cs; clause = c; conjunction = j; comparator = some o } in
          Stands names users f → Behind f → StepTold f b (with_index names users (length (front_bytes f)) f o b)
      index_told cs c j o h split = by (index_fits names users o b) refl
        where
          f : Front
          f = record { closed = cs; clause = c; conjunction = j; comparator = some o }

          by : (t : Bool) → index_fits names users o b ≡ t
              → StepTold f b (require t 24 in_contract (length (front_bytes f)) >>= λ _. ok (continued cs c j (record { comparator = o; left = left_index b; right = right_index b })))
          by true e =
              let (left, right) = (and-eq-true_iff (ltb (left_index b) names) (ltb (right_index b) (indices_of names users o.load))).0 e in
              index_further cs c j o b h
              (ltb-true (left_index b) names left, ltb-true (right_index b) (indices_of names users o.load) right, omega arith)
          by false e = (refl, index_unknown f b rest o h refl split e)

      step_told : (f : Front) → Stands names users f → Behind f → StepTold f b (with_byte names users (length (front_bytes f)) f f.comparator b)
      step_told f h split = by f.comparator h split
        where
          by : (o : Option Comparator)
              → let g : Front = record { closed = f.closed; clause = f.clause; conjunction = f.conjunction; comparator = o } in
              Stands names users g → Behind g → StepTold g b (with_byte names users (length (front_bytes g)) g o b)
          by none k split = opcode_told f.closed f.clause f.conjunction (opcode_of b) k split refl (opcode_spelled b)
          by (some o) k split = index_told f.closed f.clause f.conjunction o k split

    ended_told : (f : Front) → Stands names users f → contract ≡ front_bytes f → Told (ended (length contract) f f.conjunction f.comparator)
    ended_told f h whole = by f.conjunction f.comparator refl refl
      where
        by : (j : Option Conjunction) (o : Option Comparator) → f.conjunction ≡ j → f.comparator ≡ o → Told (ended (length contract) f j o)
        by j (some o) waits there = (refl, cut_before_index f o h there whole)
        by (some j) none waits there = (refl, cut_before_assertion f j h waits whole)
        by none none waits there = (whole ∙ simp (waits, there, append-nil), h.indexed)

    then_told : (f : Front) (b : ℕ) (x : Answer Front) (next : Front → Answer (List Clause)) → StepTold f b x
        → ((g : Front) → Further f b g → Told (next g)) → Told (x >>= next)
    then_told f b (ok g) next h k = k g h
    then_told f b (refused n i at) next h k = h

    told : (s : List ℕ) (f : Front) (at : ℕ) → Stands names users f → contract ≡ front_bytes f ++ s → at ≡ length (front_bytes f)
        → Told (clauses_from names users at f s)
    unfolding clauses_from
    told [] f at h split place =
        let whole : contract ≡ front_bytes f = split ∙ append-nil (front_bytes f) in
        subst (λ n. Told (ended n f f.conjunction f.comparator)) (ap length whole ∙ sym place) (ended_told f h whole)
    told (b ∷ s) f at h split place =
        then_told f b (with_byte names users at f f.comparator b) (λ g. clauses_from names users (suc at) g s)
        (rw place (step_told b s f h split))
        (λ g k.
        told s g (suc at) k.stands
        (split ∙ sym (append_assoc (front_bytes f) (b ∷ []) s) ∙ ap (λ r. r ++ s) (sym k.bytes))
        (omega (arith, length-append (front_bytes f) (b ∷ []), ap length k.bytes)))

  start_stands : Stands names users at_start
  start_stands = record { indexed = tt; first = λ _. refl; follows = λ j e. absurd (none-ne-some j e) }

  -- the bytes of a front that stands, and those behind it
  from_front : (f : Front) (rest : List ℕ) → Stands names users f
      → clauses names users (front_bytes f ++ rest) ≡ clauses_from names users (length (front_bytes f)) f rest
  unfolding clauses
  from_front f rest h = front_leads names users f h 0 rest ∙ ap (λ n. clauses_from names users n f rest) (omega arith)

  answer_told : (contract : List ℕ) → Told contract (clauses names users contract)
  unfolding clauses
  answer_told contract = told contract contract at_start 0 start_stands refl refl

  -- the last of some clauses
  last_clause : (c : Clause) (cs : List Clause) → (ds : List Clause) × (d : Clause) × (c ∷ cs ≡ ds ++ (d ∷ []))
  last_clause c [] = ([], c, refl)
  last_clause c (e ∷ cs) = let (ds, d, same) = last_clause e cs in (c ∷ ds, d, ap (λ xs. c ∷ xs) same)

  clauses_read : (cs : List Clause) → All (AllIndexed names users) cs → clauses names users (contract_bytes cs) ≡ ok cs
  unfolding clauses clauses_from
  clauses_read [] h = refl
  clauses_read (c ∷ cs) h =
      let (ds, d, same) = last_clause c cs in
      let (all, (last, _)) = all_parts (AllIndexed names users) ds (d ∷ []) (subst (All (AllIndexed names users)) same h) in
      let whole = from_front (record { closed = ds; clause = some d; conjunction = none; comparator = none }) [] (opened ds d all last) in
      subst (λ xs. clauses names users (contract_bytes xs) ≡ ok xs) (sym same) (simp append-nil at whole)

pub contracts_read : ContractsRead
contracts_read names users contract cs = (
  λ e. subst (Told names users contract) e (answer_told names users contract),
  λ (same, indexed). ap (clauses names users) same ∙ clauses_read names users cs indexed,
)

-- 24 of a contract by the table

module _ (names users : ℕ) where
  wrong_byte : (f : Front) (b : ℕ) (rest : List ℕ) → Stands names users f
      → ((at : ℕ) → with_byte names users at f f.comparator b ≡ refused 24 in_contract at)
      → clauses names users (front_bytes f ++ (b ∷ rest)) ≡ refused 24 in_contract (length (front_bytes f))
  unfolding clauses_from
  wrong_byte f b rest h refuses = from_front names users f (b ∷ rest) h ∙ rw refuses

  cut_short : (f : Front) → Stands names users f
      → ((at : ℕ) → ended at f f.conjunction f.comparator ≡ refused 24 in_contract at)
      → clauses names users (front_bytes f) ≡ refused 24 in_contract (length (front_bytes f))
  unfolding clauses_from
  cut_short f h refuses = (simp append-nil at (from_front names users f [] h)) ∙ refuses (length (front_bytes f))

  waits_on : (at : ℕ) (f : Front) (j : Conjunction) (o : Option Comparator) → ended at f (some j) o ≡ refused 24 in_contract at
  waits_on at f j none = refl
  waits_on at f j (some o) = refl

  module _ (contract : List ℕ) where
    fault_given : (n at : ℕ) → ContractFaults names users contract n at → clauses names users contract ≡ refused n in_contract at
    fault_given n at (opcode_wrong f b rest h none_waits split e) =
        ap (clauses names users) split ∙ wrong_byte f b rest h (λ at. rw (none_waits, e))
    fault_given n at (nothing_to_join f b rest k h none_waits split e first) =
        ap (clauses names users) split ∙ wrong_byte f b rest h (λ at. rw (none_waits, e, first))
    fault_given n at (joined_twice f b rest j k h none_waits split e again) =
        ap (clauses names users) split ∙ wrong_byte f b rest h (λ at. rw (none_waits, e, again, (h.follows j again).1))
    fault_given n at (index_unknown f b rest o h waits split e) =
        ap (clauses names users) split ∙ wrong_byte f b rest h (λ at. rw (waits, e))
    fault_given n at (cut_before_index f o h waits whole) = ap (clauses names users) whole ∙ cut_short f h (λ at. rw waits) ∙ rw whole
    fault_given n at (cut_before_assertion f j h waits whole) =
        ap (clauses names users) whole ∙ cut_short f h (λ at. rw waits (waits_on at f j f.comparator)) ∙ rw whole

    pub contract_tells : Tells in_contract (ContractFaults names users contract) (clauses names users contract)
    contract_tells =
        exact_tells in_contract (ContractFaults names users contract) (clauses names users contract)
        (λ n j at e. subst (Told names users contract) e (answer_told names users contract)) fault_given
