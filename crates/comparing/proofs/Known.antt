-- A part that can be judged is known: it has a type, that of a bool, and the marks of its names.
use Prim.Native.Nat.{ℕ}
use mathlib.Core.List.{List}
use Rattle.paper.specs.Types.{bool}
use Rattle.paper.proofs.PartsTyped.{is_bool}
use Rattle.keys.specs.Says.{keys_in}
use Rattle.trees.specs.Standing.{tree_at}
use Rattle.typing.specs.Known.{Known}
use Rattle.reading.specs.Parted.{Judgeable}

pub part_known : (text list nodes : List ℕ) (i : ℕ) → Judgeable text list nodes i → Known list nodes i text
part_known text list nodes i j =
    record { marked = j.marked; type = bool; typed = is_bool (keys_in list) (tree_at text nodes i) j.checked }
