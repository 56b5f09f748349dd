-- One more byte of a sum, and none left.
use Prim.Native.Nat.{ℕ, suc, ◌+◌, ◌*◌, ◌%◌, ◌≤◌, ◌<◌}
use native.Mathlib.Omega.{arith}
use mathlib.Core.Path.{◌≡◌}
use mathlib.Core.List.{List}
use lib.ListN.{length, get_or, drop, drop_of_length-le}
use lib.Seq.{drop-cons}
use Rattle.answers.specs.Adler.{adler}

module _ (s : List ℕ) (a b i : ℕ) where
  pub adler_on : i < length s →
      adler ((a + get_or s i 0) % 65521) ((b + (a + get_or s i 0) % 65521) % 65521) (drop (i + 1) s) ≡ adler a b (drop i s)
  unfolding adler
  adler_on h =
      let e : i + 1 ≡ suc i = omega arith in
      rw (e, drop-cons s i 0 h)

  pub adler_end : length s ≤ i → adler a b (drop i s) ≡ b * 65536 + a
  unfolding adler
  adler_end h = rw (drop_of_length-le s h)
