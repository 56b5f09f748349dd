-- The Adler-32 sum of RFC 1950: two sums modulo 65,521, the first from 1, the second of the firsts.
use Rattle.std.specs.Prelude.{ℕ, ◌+◌, ◌*◌, ◌%◌, List, [], ◌∷◌}

unfoldable pub adler : ℕ → ℕ → List ℕ → ℕ
adler a b [] = b * 65536 + a
adler a b (x ∷ s) =
    let c = (a + x) % 65521 in
    adler c ((b + c) % 65521) s
