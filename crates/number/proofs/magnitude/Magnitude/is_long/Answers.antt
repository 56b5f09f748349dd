-- A number whose upper three limbs are 0 is its lowest limb; one that has another is at least 2^32.
use Rattle.std.proofs.Common.{true≢false, sym, arith}
use Rattle.number.specs.Values.{value}
use Rattle.number.proofs.magnitude.Magnitude.is_long.Goals.{in-0, in_default, in_default-2, in_default-3}
use Rattle.number.proofs.magnitude.Magnitude.is_long.Goals as goal

pub returns : goal.returns
unfolding value
returns c =
    elim c.match-matches.branch [
      | in-0 w ↦ rw w.matches-is (λ e. omega arith, λ e. absurd (true≢false (sym e)))
      | in_default w ↦ rw w.matches-is (λ e. absurd (true≢false e), λ e. omega arith)
      | in_default-2 w ↦ rw w.matches-is (λ e. absurd (true≢false e), λ e. omega arith)
      | in_default-3 w ↦ rw w.matches-is (λ e. absurd (true≢false e), λ e. omega arith)
    ]
