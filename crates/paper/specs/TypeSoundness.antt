-- What it means that a tree has a value: it has one on an entry exactly where it has a type, and it is of that type.
use Rattle.std.specs.Prelude.{◌≡◌, Bool, List}
use Rattle.std.proofs.Math.Option.{some, map}
use Rattle.paper.specs.Answers.{ok}
use Rattle.paper.specs.Keys.{Key}
use Rattle.paper.specs.Entry.{Entry}
use Rattle.paper.specs.Grammar.{Tree}
use Rattle.paper.specs.Types.{Ty, type_of, typed}
use Rattle.paper.specs.Meaning.{Value, truth, ty_of, value_of}
use Rattle.paper.specs.Translating.{has_type}
use Rattle.paper.specs.LoadedBlocksRun.{Covers}

-- an equation, so that a tree without a type has no value
abbrev pub ValuesHaveTypes : Type 0
ValuesHaveTypes = (ks : List Key) (e : Entry) → Covers ks e → (t : Tree) → has_type (type_of ks t) ≡ map ty_of (value_of ks e t)

-- a value of a type
pub record Meant (ks : List Key) (e : Entry) (t : Tree) (a : Ty) : Type 0 where
  pub worth : Value
  pub there : value_of ks e t ≡ some worth
  pub type : ty_of worth ≡ a

abbrev pub TypedMeant : Type 0
TypedMeant = (ks : List Key) (e : Entry) → Covers ks e → (t : Tree) (a : Ty) → type_of ks t ≡ ok a → Meant ks e t a

-- a text that passes is accepted or violated, never stuck
abbrev pub Judged : Type 0
Judged = (ks : List Key) (e : Entry) → Covers ks e → (t : Tree) → typed ks t ≡ ok tt → (b : Bool) × (value_of ks e t ≡ some (truth b))
