-- Comparisons that are wrong: one that always agrees, one that always differs, one that matches the parts from the front of the code, one that
-- lets a part be used twice, and one to which it is the same how the parts are joined. Each is described so that a sloppy maker's is one, and
-- fails what 02 l asks. As programs they stand in WrongPrograms, and there they are shown to be real.
use Rattle.std.specs.Prelude.{ℕ, zero, suc, ◌-◌, ◌≡◌, Bool, true, false, ◌&&◌, length, take, drop, leb, Result, Ok}
use Rattle.paper.specs.declared.Refusal.{Refusal}
use Rattle.paper.specs.declared.Agreement.{Agreement}
use Rattle.paper.specs.declared.Agreement.TheVariants.{Agrees}
use Rattle.std.proofs.Math.Option.{Option, some}
use mathlib.Core.List.{List, [], ◌∷◌, ◌++◌, map, Memᴰ}
use Rattle.paper.specs.Tokens.{sequel}
use Rattle.paper.specs.Keys.{Key}
use Rattle.paper.specs.Grammar.{Tree, joined}
use Rattle.paper.specs.Types.{when}
use Rattle.paper.specs.Code.{Instruction}
use Rattle.paper.specs.Loading.{program}
use Rattle.paper.specs.Translating.{code_of}
use Rattle.paper.specs.BlocksRoundTrip.{All}
use Rattle.paper.specs.Parts.{Part}
use Rattle.paper.specs.PartsDecide.{JoinedLeft, roots}
use Rattle.paper.specs.Comparing.{records_in, written, same_records, as_joined, Picked, nothing, behind, picked_or, on_picked, part_codes, agreement}
use Rattle.paper.specs.ComparedRight.{Comparable}
use Rattle.paper.specs.Promised.{Bytes}
use Rattle.paper.specs.Demands.{CompareRight}

-- what is answered for a text, a list and blocks
abbrev pub Comparer : Type 0
Comparer = List ℕ → List ℕ → List ℕ → Result Agreement Refusal

-- what demand 2 asks of it
abbrev pub ComparesAllRight : Comparer → Type 0
ComparesAllRight x =
    (text list blocks : List ℕ) → Bytes text → Bytes list → Bytes blocks → CompareRight text list blocks (x text list blocks)

-- whether blocks that load agree, by the keys, the parts and the blocks
abbrev pub Rule : Type 0
Rule = List Key → List Part → List ℕ → Bool

-- what the rule says is answered for every text, list and blocks that can be compared
abbrev pub SaysBy : Rule → Comparer → Type 0
SaysBy rule x =
    (text list blocks : List ℕ) → Bytes text → Bytes list → Bytes blocks → (c : Comparable text list blocks)
    → x text list blocks ≡ agreement (rule c.rule.keys c.ps blocks)

abbrev pub agreed : Rule
agreed ks ps blocks = true

abbrev pub AlwaysAgrees : Comparer → Type 0
AlwaysAgrees = SaysBy agreed

abbrev pub differing : Rule
differing ks ps blocks = false

abbrev pub AlwaysDiffers : Comparer → Type 0
AlwaysDiffers = SaysBy differing

-- from the front

-- what stands behind a beginning, where code begins so
abbrev pub after_beginning : List (List ℕ) → List (List ℕ) → Option (List (List ℕ))
after_beginning beginning s =
    let n = length beginning in
    when (leb n (length s) && same_records (take n s) beginning) (drop n s)

-- the first of the parts' codes, put in such a way, with which code begins
module _ (put : List Instruction → List Instruction) where
  abbrev pub pick_first : List (List Instruction) → List (List ℕ) → Picked
  pick_first [] s = nothing
  pick_first (d ∷ ds) s =
      let later = behind d (pick_first ds s) in
      picked_or (after_beginning (written (put d)) s) ds later

-- so many more of the parts that are left, each as it is joined, and then nothing
unfoldable pub fits_on : ℕ → List (List Instruction) → List (List ℕ) → Bool
fits_on zero cs s = same_records s []
fits_on (suc n) cs s = on_picked (pick_first as_joined cs s) (fits_on n)

-- the first part is joined to none
abbrev pub from_front : Rule
from_front ks ps blocks = on_picked (pick_first (λ c. c) (part_codes ks ps) (records_in blocks)) (fits_on (length ps - 1))

abbrev pub MatchesFromFront : Comparer → Type 0
MatchesFromFront = SaysBy from_front

-- a part used twice: as many parts, each one of the text's, joined from the left
pub record OfParts (ks : List Key) (parts : List Tree) (blocks : List ℕ) : Type 0 where
  pub order : List Tree
  pub many : length order ≡ length parts
  pub among : All (λ t. Memᴰ t parts) order
  pub root : Tree
  pub joined : JoinedLeft order root
  pub translated : program blocks ≡ map some (code_of ks root)

abbrev pub UsesTwice : Comparer → Type 0
UsesTwice x =
    (text list blocks : List ℕ) → Bytes text → Bytes list → Bytes blocks → (c : Comparable text list blocks)
    → OfParts c.rule.keys (roots c.ps) blocks → x text list blocks ≡ Ok Agrees

-- any shape: a tree that is others joined by ";", from the left or not
pub data JoinedSomehow : List Tree → Tree → Type 0 where
  single : (t : Tree) → JoinedSomehow (t ∷ []) t
  joint : {ts us : List Tree} {l r : Tree} → JoinedSomehow ts l → (at : ℕ) → JoinedSomehow us r → JoinedSomehow (ts ++ us) (joined at sequel l r)

-- the parts as they stand in the text; one that takes them in other orders too is meant as well
pub record InSomeShape (ks : List Key) (parts : List Tree) (blocks : List ℕ) : Type 0 where
  pub root : Tree
  pub joined : JoinedSomehow parts root
  pub translated : program blocks ≡ map some (code_of ks root)

abbrev pub IgnoresShape : Comparer → Type 0
IgnoresShape x =
    (text list blocks : List ℕ) → Bytes text → Bytes list → Bytes blocks → (c : Comparable text list blocks)
    → InSomeShape c.rule.keys (roots c.ps) blocks → x text list blocks ≡ Ok Agrees

-- the claim

pub record WrongComparersFail : Type 0 where
  pub agreeing : (x : Comparer) → AlwaysAgrees x → ¬ ComparesAllRight x
  pub differing : (x : Comparer) → AlwaysDiffers x → ¬ ComparesAllRight x
  pub from_front_lem : (x : Comparer) → MatchesFromFront x → ¬ ComparesAllRight x
  pub twice : (x : Comparer) → UsesTwice x → ¬ ComparesAllRight x
  pub shape : (x : Comparer) → IgnoresShape x → ¬ ComparesAllRight x
