-- A word, a byte at a time.
use Prim.Native.Nat.{ℕ, zero, suc, ◌+◌, ◌-◌, ◌≤◌}
use mathlib.Core.Path.{◌≡◌, refl, ap, ◌∙◌}
use mathlib.Core.Bool.{cond}
use mathlib.Core.List.{List}
use native.Mathlib.Omega.{arith}
use lib.ListN.{length, drop, drop_of_length-le}
use Rattle.std.proofs.lemmas.List.Folds.{length-prefix_len}
use Rattle.std.specs.List.{prefix_len, take_while, range_with_len}
use Rattle.paper.specs.Tokens.{word_more}
use Rattle.spelling.specs.Words.{goes_on}
use Rattle.spelling.proofs.Steps.{cut}

-- how many bytes go on a word, of n up to the end
counted : (s : List ℕ) (n i : ℕ) → length s - i ≡ n → prefix_len (goes_on s) (range_with_len i n) ≡ word_more (drop i s)
counted s zero i e =
    let past : length s ≤ i = omega arith in
    rw (drop_of_length-le s past) refl
counted s (suc n) i e =
    let later : 1 + prefix_len (goes_on s) (range_with_len (i + 1) n) ≡ suc (word_more (drop (i + 1) s)) =
    omega (arith, counted s n (i + 1) (omega arith)) in
    rw (cut s i (omega arith)) (ap (λ k. cond (goes_on s i) k 0) later)

pub word_counted : (s : List ℕ) (at : ℕ) → length (take_while (goes_on s) (range_with_len at (length s - at))) ≡ word_more (drop at s)
word_counted s at = length-prefix_len (goes_on s) (range_with_len at (length s - at)) ∙ counted s (length s - at) at refl
