-- Where a front stands, the bytes before it lead there: each opcode and index byte goes one step on from the front before it, so those of
-- a clause open it behind the clauses that are closed, and those of clauses close all but the last.
use Prim.Native.Nat.{ℕ, ◌+◌, ◌*◌}
use native.Mathlib.Omega.{arith}
use mathlib.Core.Path.{◌≡◌, refl, ap, ◌∙◌}
use mathlib.Core.Option.{Option, none, some, none-ne-some}
use mathlib.Core.List.{List, [], ◌∷◌, ◌++◌, append-nil, append_assoc}
use lib.ListN.{length, length-append}
use borrow.Author.Tests.{lt-ltb}
use Rattle.paper.specs.Answers.{ok}
use Rattle.paper.specs.Pact.{Comparator, Conjunction, Assertion, Clause, alone, linked, comparator_byte, conjunction_byte, assertion_bytes, clause_bytes, contract_bytes, Indexed, AllIndexed, indices_of}
use Rattle.paper.specs.Contract.{Front, at_start, closed_all, continued, with_byte, clauses_from}
use Rattle.paper.specs.Faults.{one_byte, front_bytes, Stands}
use Rattle.paper.specs.BlocksRoundTrip.{All}
use Rattle.paper.proofs.Opcodes.{comparator_read, conjunction_read, indices_read}

-- nothing is waited for
abbrev settled : List Clause → Option Clause → Front
settled cs c = record { closed = cs; clause = c; conjunction = none; comparator = none }

module _ (names users : ℕ) where
  -- reading these bytes goes from one front to another
  abbrev pub Leads : Front → List ℕ → Front → Type 0
  Leads f s g = (at : ℕ) (rest : List ℕ) → clauses_from names users at f (s ++ rest) ≡ clauses_from names users (length s + at) g rest

  leads_none : (f : Front) → Leads f [] f
  leads_none f at rest = ap (λ n. clauses_from names users n f rest) (omega arith)

  leads_then : (f g h : Front) (s t : List ℕ) → Leads f s g → Leads g t h → Leads f (s ++ t) h
  leads_then f g h s t first second at rest =
      ap (λ r. clauses_from names users at f r) (append_assoc s t rest)
      ∙ first at (t ++ rest)
      ∙ second (length s + at) rest
      ∙ ap (λ n. clauses_from names users n h rest) (omega (arith, length-append s t))

  leads_byte : (f g : Front) (b : ℕ) → ((at : ℕ) → with_byte names users at f f.comparator b ≡ ok g) → Leads f (b ∷ []) g
  unfolding clauses_from
  leads_byte f g b step at rest = rw (step at) (ap (λ n. clauses_from names users n g rest) (omega arith))

  -- a byte

  comparator_leads : (cs : List Clause) (c : Option Clause) (j : Option Conjunction) (o : Comparator)
      → Leads (record { closed = cs; clause = c; conjunction = j; comparator = none }) (comparator_byte o ∷ [])
      (record { closed = cs; clause = c; conjunction = j; comparator = some o })
  comparator_leads cs c j o = leads_byte _ _ (comparator_byte o) (λ at. rw (comparator_read o))

  conjunction_leads : (cs : List Clause) (c : Clause) (j : Conjunction)
      → Leads (settled cs (some c)) (conjunction_byte j ∷ [])
      (record { closed = cs; clause = some c; conjunction = some j; comparator = none })
  conjunction_leads cs c j = leads_byte _ _ (conjunction_byte j) (λ at. rw (conjunction_read j))

  index_leads : (cs : List Clause) (c : Option Clause) (j : Option Conjunction) (a : Assertion) → Indexed names users a
      → Leads (record { closed = cs; clause = c; conjunction = j; comparator = some a.comparator }) ((16 * a.left + a.right) ∷ [])
      (continued cs c j a)
  index_leads cs c j a (left, right, few) =
      let (l, r) = indices_read a.left a.right few in
      leads_byte _ _ (16 * a.left + a.right)
      (λ at. rw (l, r, lt-ltb a.left names left, lt-ltb a.right (indices_of names users a.comparator.load) right))

  -- an assertion, a clause, clauses

  assertion_leads : (cs : List Clause) (c : Option Clause) (j : Option Conjunction) (a : Assertion) → Indexed names users a
      → Leads (record { closed = cs; clause = c; conjunction = j; comparator = none }) (assertion_bytes a) (continued cs c j a)
  assertion_leads cs c j a h =
      leads_then _ _ _ (comparator_byte a.comparator ∷ []) ((16 * a.left + a.right) ∷ [])
      (comparator_leads cs c j a.comparator) (index_leads cs c j a h)

  clause_leads : (cs : List Clause) (o : Option Clause) (c : Clause) → AllIndexed names users c
      → Leads (settled cs o) (clause_bytes c) (settled (closed_all cs o) (some c))
  clause_leads cs none (alone a) h = assertion_leads cs none none a h
  clause_leads cs (some d) (alone a) h = assertion_leads cs (some d) none a h
  clause_leads cs o (linked c j a) h =
      leads_then _ _ _ (clause_bytes c) (conjunction_byte j ∷ assertion_bytes a) (clause_leads cs o c h.0)
      (leads_then _ _ _ (conjunction_byte j ∷ []) (assertion_bytes a) (conjunction_leads (closed_all cs o) c j)
      (assertion_leads (closed_all cs o) (some c) (some j) a h.1))

  clauses_lead : (cs : List Clause) (o : Option Clause) (ds : List Clause) (d : Clause) → All (AllIndexed names users) (ds ++ (d ∷ []))
      → Leads (settled cs o) (contract_bytes (ds ++ (d ∷ []))) (settled (closed_all cs o ++ ds) (some d))
  clauses_lead cs o [] d h = simp append-nil (clause_leads cs o d h.0)
  clauses_lead cs o (e ∷ ds) d h =
      rw (← (append_assoc (closed_all cs o) (e ∷ []) ds))
      (leads_then _ _ _ (clause_bytes e) (contract_bytes (ds ++ (d ∷ []))) (clause_leads cs o e h.0)
      (clauses_lead (closed_all cs o) (some e) ds d h.1))

  -- what waits

  conjunction_waits : (cs : List Clause) (c : Clause) (j : Option Conjunction)
      → Leads (settled cs (some c)) (one_byte conjunction_byte j) (record { closed = cs; clause = some c; conjunction = j; comparator = none })
  conjunction_waits cs c none = leads_none _
  conjunction_waits cs c (some j) = conjunction_leads cs c j

  comparator_waits : (cs : List Clause) (c : Option Clause) (j : Option Conjunction) (o : Option Comparator)
      → Leads (record { closed = cs; clause = c; conjunction = j; comparator = none }) (one_byte comparator_byte o)
      (record { closed = cs; clause = c; conjunction = j; comparator = o })
  comparator_waits cs c j none = leads_none _
  comparator_waits cs c j (some o) = comparator_leads cs c j o

  pub front_leads : (f : Front) → Stands names users f → Leads at_start (front_bytes f) f
  front_leads f h = by f.closed f.clause f.conjunction h.indexed h.first h.follows
    where
      by : (cs : List Clause) (c : Option Clause) (j : Option Conjunction) → All (AllIndexed names users) (closed_all cs c)
          → (c ≡ none → cs ≡ []) → ((k : Conjunction) → j ≡ some k → (d : Clause) × (c ≡ some d))
          → Leads at_start (contract_bytes (closed_all cs c) ++ one_byte conjunction_byte j ++ one_byte comparator_byte f.comparator)
          (record { closed = cs; clause = c; conjunction = j; comparator = f.comparator })
      by cs (some c) j indexed first follows =
          leads_then _ _ _ (contract_bytes (cs ++ (c ∷ [])) ++ one_byte conjunction_byte j) (one_byte comparator_byte f.comparator)
          (leads_then _ _ _ (contract_bytes (cs ++ (c ∷ []))) (one_byte conjunction_byte j) (clauses_lead [] none cs c indexed) (conjunction_waits cs c j))
          (comparator_waits cs (some c) j f.comparator)
      by cs none none indexed first follows = rw (first refl) (comparator_waits [] none none f.comparator)
      by cs none (some k) indexed first follows = let (d, e) = follows k refl in absurd (none-ne-some d e)
