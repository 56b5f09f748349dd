-- What a function asks and says that goes on from a text that passes with a list, by the root of its tree or by its parts.
use Rattle.std.specs.Prelude.{ℕ, ◌≡◌, List, Result, Ok, Err}
use Rattle.std.specs.Borrow.{Bor}
use Rattle.paper.specs.declared.Refusal.{Refusal}
use Rattle.paper.specs.Answers.{refused_by}
use Rattle.paper.specs.Calls.{restriction}
use Rattle.reading.specs.Restricted.{Rooted}
use Rattle.reading.specs.Parted.{PassedParts}

module _ (text list : List ℕ) where
  -- it may go on from any nodes that have the root
  abbrev pub TakesRoot : (Bor (List ℕ) → ℕ → Type 0) → Type 0
  TakesRoot pre = (nodes : Bor (List ℕ)) (root : ℕ) → Rooted text list nodes.now root → pre nodes root

  -- it went on from some that have it, to this
  pub record FromRoot {A : Type 0} (post : Bor (List ℕ) → ℕ → A → Type 0) (a : A) : Type 0 where
    pub nodes : Bor (List ℕ)
    pub root : ℕ
    pub rooted : Rooted text list nodes.now root
    pub gives : post nodes root a

  -- or text or list is refused
  abbrev pub ByRoot : {A : Type 0} → (Bor (List ℕ) → ℕ → A → Type 0) → Result A Refusal → Type 0
  ByRoot post (Ok a) = FromRoot post a
  ByRoot post (Err v) = restriction text list ≡ refused_by v

  -- the same of the parts, which stand in rows

  abbrev pub TakesParts : (Bor (List ℕ) → Bor (List ℕ) → ℕ → Type 0) → Type 0
  TakesParts pre = (nodes rows : Bor (List ℕ)) (n : ℕ) → PassedParts text list nodes.now rows.now n → pre nodes rows n

  pub record FromParts {A : Type 0} (post : Bor (List ℕ) → Bor (List ℕ) → ℕ → A → Type 0) (a : A) : Type 0 where
    pub nodes : Bor (List ℕ)
    pub rows : Bor (List ℕ)
    pub count : ℕ
    pub passed : PassedParts text list nodes.now rows.now count
    pub gives : post nodes rows count a

  abbrev pub ByParts : {A : Type 0} → (Bor (List ℕ) → Bor (List ℕ) → ℕ → A → Type 0) → Result A Refusal → Type 0
  ByParts post (Ok a) = FromParts post a
  ByParts post (Err v) = restriction text list ≡ refused_by v
