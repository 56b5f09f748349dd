-- How examples are written: something given, and what a definition must say of it. A claim over a list of them is one equation, which
-- holds by computing both sides.
use Rattle.std.specs.Prelude.{ℕ, zero, suc, ◌≡◌, Bool, true, false, cond, ◌&&◌, List, [], ◌∷◌, ◌++◌, map, length, get_or, eqb}
use Prim.Native.String as S
use Rattle.std.proofs.Math.Option.{Option, none, some}
use Rattle.paper.specs.Answers.{Answer, ok, refused}
use Rattle.paper.specs.Tokens.{bytes}

pub record Example (A B : Type 0) : Type 0 where
  pub given : A
  pub says : B

abbrev pub on : {A B : Type 0} → A → B → Example A B
on a b = record { given = a; says = b }

-- a definition says of each what it must
abbrev pub Agree : {A B : Type 0} → (A → B) → List (Example A B) → Type 0
Agree {A} {B} f es = map (λ (e : Example A B). f e.given) es ≡ map (λ (e : Example A B). e.says) es

-- of bytes, an answer
abbrev pub On : Type 0 → Type 0
On A = Example (List ℕ) (Answer A)

-- of a quoted text, an answer

abbrev pub OnText : Type 0 → Type 0
OnText A = Example S.String (Answer A)

abbrev pub AgreeOnTexts : {A : Type 0} → (List ℕ → Answer A) → List (OnText A) → Type 0
AgreeOnTexts f es = Agree (λ s. f (bytes s)) es

-- s, n times
abbrev pub repeat : ℕ → List ℕ → List ℕ
repeat zero s = []
repeat (suc n) s = s ++ repeat n s

-- those of the 256 bytes that pass a test, so that a class of bytes is given as a whole

abbrev pub those : (ℕ → Bool) → List ℕ → List ℕ
those p [] = []
those p (b ∷ s) =
    let rest = those p s in
    cond (p b) (b ∷ rest) rest

-- n numbers, from one on
abbrev pub numbers_from : ℕ → ℕ → List ℕ
numbers_from k zero = []
numbers_from k (suc n) = k ∷ numbers_from (suc k) n

abbrev pub bytes_that : (ℕ → Bool) → List ℕ
bytes_that p = those p (numbers_from 0 256)

-- an answer that passes with a number
abbrev pub gives : ℕ → Answer ℕ → Bool
gives n (ok m) = eqb m n
gives n (refused m i at) = false

-- an answer that refuses with a number, at a place of the text
abbrev pub refuses : ℕ → ℕ → Answer ℕ → Bool
refuses n place (ok m) = false
refuses n place (refused m i at) = eqb m n && eqb at place

abbrev pub is_some : {A : Type 0} → Option A → Bool
is_some none = false
is_some (some a) = true

-- tables of marks: each operand of a list on the left of an operator, and each on the right, with a mark for what is said of that text

abbrev pub rows : List S.String → List (List ℕ)
rows ss = map bytes ss

-- from the place of the operator and the answer
abbrev pub Marks : Type 0 → Type 0
Marks A = ℕ → Answer A → ℕ

abbrev pub table_of : {A : Type 0} → Marks A → (List ℕ → Answer A) → List S.String → S.String → List (List ℕ)
table_of mark f operands operator =
    map (λ l. map (λ r. mark (length (bytes l)) (f (bytes l ++ bytes operator ++ bytes r))) operands) operands

abbrev pub cross : ℕ
cross = get_or (bytes "x") 0 0

abbrev pub dot : ℕ
dot = get_or (bytes ".") 0 0

abbrev pub other : ℕ
other = get_or (bytes "?") 0 0

-- x where it passes, . where it is refused with a number at that place
abbrev pub pass_mark : ℕ → Marks (Unit {0})
pass_mark number place (ok a) = cross
pass_mark number place (refused n i at) = cond (eqb n number && eqb at place) dot other

-- x where it is accepted, . where it is violated
abbrev pub judged_mark : Marks Bool
judged_mark place (ok true) = cross
judged_mark place (ok false) = dot
judged_mark place (refused n i at) = other
