-- What the crate's types, and its answers about them, stand for.
use Rattle.std.specs.Prelude.{ℕ, Option, Some, None}
use Rattle.std.proofs.Math.Option as math
use Rattle.paper.specs.Keys.{kind_of}
use Rattle.paper.specs.Code.{field_no}
use Rattle.paper.specs.Types.{Ty, bool, int, of, Field}
use Rattle.values.specs.declared.types.Type as T
use Rattle.values.specs.declared.types.Type.TheVariants.{Bool, Int, Of}

abbrev pub ty_meant : T.«Type» → Ty
ty_meant Bool = bool
ty_meant Int = int
ty_meant (Of k w) = of (kind_of k) w

abbrev pub typing_meant : Option T.«Type» → math.Option Ty
typing_meant (Some a) = math.some (ty_meant a)
typing_meant None = math.none

abbrev pub named_of : math.Option Field → Option ℕ
named_of math.none = None
named_of (math.some f) = Some (field_no f)
