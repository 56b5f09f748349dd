-- The lowest limb that is not zero decides, for the bits that reach into it; where none is, the last one does (`clear0` to `clear3`).
use Rattle.std.proofs.Common.{ℕ, ◌%◌, ◌^◌, Bool, eqb, ap, ◌∙◌, arith, rules}
use Rattle.number.specs.declared.magnitude.Magnitude.{Magnitude}
use Rattle.number.specs.Values.{limb}
use Rattle.number.proofs.Zeros.{clear0, clear1, clear2, clear3}
use Rattle.number.proofs.magnitude.Magnitude.low_clear.Goals as goal

-- whether the lowest n bits of limb i are zero
abbrev clear : Magnitude → ℕ → ℕ → Bool
clear m i n = eqb (limb m i % 2 ^ n) 0

pub returns-in-0 : goal.returns-in-0
returns-in-0 c =
    let a = c.args in
    c.clear.ensures ∙ ap (clear a.self 3) c.saturating_sub.ensures ∙ clear3 a.k a.self (search rules) (omega arith) (omega arith) (omega arith)

pub returns-in-0-2 : goal.returns-in-0-2
returns-in-0-2 c =
    let a = c.args in
    c.clear-in-0-2.ensures ∙ ap (clear a.self 2) c.saturating_sub-in-0-2.ensures ∙ clear2 a.k a.self (search rules) (omega arith) (omega arith) (omega arith)

pub returns-in-0-3 : goal.returns-in-0-3
returns-in-0-3 c =
    let a = c.args in
    c.clear-in-0-3.ensures ∙ ap (clear a.self 1) c.saturating_sub-in-0-3.ensures ∙ clear1 a.k a.self (search rules) (omega arith) (omega arith)

pub returns-in_default : goal.returns-in_default
returns-in_default c =
    let a = c.args in
    c.clear-in_default.ensures ∙ clear0 a.k a.self (search rules) (omega arith)
