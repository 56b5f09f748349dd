-- 02 c, "handed back as the piece itself .. no copy": explainers that hand back a copy. A copy is no piece, so each of them fails; and
-- there is one that is right in all else.
use Rattle.std.specs.Prelude.{ℕ, ◌≡◌, List}
use Rattle.std.specs.Borrow.{Bor}
use Rattle.paper.specs.PiecesRight.{Shown, ShownPromised, CopyOf, CopiesNoPieces}
use Rattle.tried.specs.WrongExplainers.{Lendable}

-- what is handed back for a text, a list and an entry
abbrev pub Hands : Type 0
Hands = Bor (List ℕ) → Bor (List ℕ) → List ℕ → Shown

abbrev pub HandsPieces : Hands → Type 0
HandsPieces x =
    (text list : Bor (List ℕ)) (entry : List ℕ) → Lendable text.now list.now entry → ShownPromised text list entry (x text list entry)

-- the right numbers and the right bytes, copied
abbrev pub HandsCopies : Hands → Type 0
HandsCopies x =
    (text list : Bor (List ℕ)) (entry : List ℕ) → Lendable text.now list.now entry
    → (r : Shown) → ShownPromised text list entry r
    → ((x text list entry).why ≡ r.why) × CopyOf r.text (x text list entry).text × CopyOf r.list (x text list entry).list

pub record CopiesFail : Type 0 where
  pub no_pieces : CopiesNoPieces
  -- so no program that copies keeps the promise; and there is such a program
  pub fails : (x : Hands) → HandsCopies x → ¬ HandsPieces x
  pub there_is : (x : Hands) × HandsCopies x
