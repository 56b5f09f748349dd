-- `valve::root_on` meets its contract: nodes of words that are enough for the text have room for it.
use Prim.Native.Nat.{ℕ}
use native.Mathlib.Omega.{arith}
use Rattle.std.proofs.lemmas.List.{length-replicate}
use Rattle.valve.proofs.passed.root_on.Goals as goal

pub restrict-requires : goal.restrict-requires
restrict-requires g c = λ n few short. omega (arith, length-replicate {A = ℕ} g.row.WORDS 0, c.requires.enough n few short)
