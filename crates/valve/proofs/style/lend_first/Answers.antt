-- `valve::lend_first` meets its contract: bytes that are copied to the front stand before those that stood after them (`copied_first`).
use native.Mathlib.Omega.{arith}
use mathlib.Core.Path.{◌≡◌, ◌∙◌}
use lib.ListN.{length, take}
use lib.Seq.{length-take-le}
use Rattle.printing.proofs.FromTheStart.{copied_first}
use Rattle.valve.proofs.style.lend_first.Goals as goal

-- the first n bytes of the scratch are n bytes
n_bytes : (s : goal.After-slice_known-2-1) → length (take s.args.n s.args.scratch.now) ≡ s.args.n
n_bytes s = length-take-le s.args.n s.args.scratch.now s.requires.0

pub returns : goal.returns
returns c =
    c.copy.ensures
    ∙ copied_first c.args.buffer.now (take c.args.n c.args.scratch.now) (omega (arith, n_bytes c, c.requires.1))
