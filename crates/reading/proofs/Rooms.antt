-- Nodes that have room for what was cut from a text.
use Prim.Native.Nat.{ℕ}
use Rattle.std.specs.Prelude.{Result, Ok, Err}
use native.Mathlib.Omega.{arith}
use mathlib.Core.Path.{◌≡◌}
use mathlib.Core.List.{List}
use lib.ListN.{length}
use Rattle.tokens.specs.declared.Stop.{Stop}
use Rattle.reading.specs.Grown.{TapeFits, CutOn, CutFits}

-- what was cut from a text fits nodes that have a row for whatever the tape has one for
pub tape_fit : (words : ℕ) (text tape nodes : List ℕ) → length tape ≡ words → TapeFits words text nodes
    → (r : Result ℕ Stop) → CutOn text tape r → CutFits nodes r
tape_fit words text tape nodes size fits (Ok n) on = fits n on.placed.cut.few on.placed.cut.short (omega (arith, on.placed.has, size))
tape_fit words text tape nodes size fits (Err s) on = tt
