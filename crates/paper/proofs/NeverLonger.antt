-- The pass never makes a text longer: it copies what is no octal numeral, and an octal numeral is no shorter than what is written for it.
use Prim.Native.Nat.{ℕ, zero, suc, ◌+◌, ◌≤◌}
use native.Mathlib.Omega.{arith}
use mathlib.Core.Path.{◌≡◌, sym, ap, ◌∙◌}
use mathlib.Core.List.{List, [], ◌∷◌}
use lib.ListN.{length, take, drop, length-append, take-append-drop}
use Rattle.paper.specs.Tokens.{Scan, blank, token, octal_numeral, no_token, too_large, taken, scan}
use Rattle.paper.specs.Fixing.{piece_for, fixed_from, fixed}
use Rattle.paper.specs.FixedRight.{NeverLonger}
use Rattle.paper.proofs.OctalNumerals.{IfOctal, if_octal}

piece_short : (c : Scan) (b : ℕ) (s : List ℕ) → IfOctal b s c → length (piece_for c b s) ≤ suc (length (take (taken c) s))
piece_short (octal_numeral v n) b s h = h.shorter
piece_short (blank n) b s h = omega arith
piece_short (token t n) b s h = omega arith
piece_short no_token b s h = omega arith
piece_short too_large b s h = omega arith

from_short : (s : List ℕ) (n : ℕ) → length (fixed_from n s) ≤ length (drop n s)
unfolding fixed_from
from_short [] zero = omega arith
from_short [] (suc n) = omega arith
from_short (b ∷ s) (suc n) = from_short s n
from_short (b ∷ s) zero =
    let c = scan b s in
    let n = taken c in
    let whole : length (take n s) + length (drop n s) ≡ length s = sym (length-append (take n s) (drop n s)) ∙ ap length (take-append-drop n s) in
    omega (arith, length-append (piece_for c b s) (fixed_from n s), piece_short c b s (if_octal b s), from_short s n)

pub never_longer : NeverLonger
unfolding fixed
never_longer text = from_short text 0
