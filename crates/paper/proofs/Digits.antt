-- A number that was written big-endian reads back, wherever it stands; and one that was read is written again as its bytes.
use Prim.Native.Nat.{ℕ, zero, suc, ◌+◌, ◌*◌, ◌/◌, ◌%◌, ◌^◌, ◌≤◌, ◌<◌}
use native.Mathlib.Nat.{zero-add, mul_assoc, pow-succ', pow-suc, mod-eq_of_lt, mod-one, one-le-pow, mul-add-div_right, mul-add-mod_self_right, div-eq_of_lt}
use native.Mathlib.Omega.{arith}
use mathlib.Core.Path.{◌≡◌, refl, sym, ap, ap₂, ◌∙◌}
use mathlib.Core.List.{List, [], ◌∷◌, ◌++◌}
use lib.ListN.{length, drop, length-take, length-drop}
use lib.Seq.{get_or-take, get_or-drop, drop-drop, drop-append_seam}
use lib.Arith.{mod-mul}
use Rattle.paper.specs.Numbers.{byte_at, bytes_at, number_at, big_endian}
use Rattle.paper.specs.BlocksRoundTrip.{All}
use Rattle.paper.proofs.Basics.{all_at}

pub big_length : (n x : ℕ) → length (big_endian n x) ≡ n
big_length zero x = refl
big_length (suc n) x = ap suc (big_length n x)

-- what stands at an offset, and what after it
pub drop_on : (s p q : List ℕ) (at to : ℕ) → drop at s ≡ p ++ q → at + length p ≡ to → drop to s ≡ q
drop_on s p q at to h e = ap (λ n. drop n s) (sym e) ∙ sym (drop-drop (length p) at s) ∙ ap (drop (length p)) h ∙ drop-append_seam p q

pub byte_there : (s p : List ℕ) (at i : ℕ) → drop at s ≡ p → byte_at s (at + i) ≡ byte_at p i
byte_there s p at i h = sym (get_or-drop at s i 0) ∙ ap (λ l. byte_at l i) h

-- a number is its bytes
pub number_same : (s t : List ℕ) (at to n : ℕ) → ((i : ℕ) → i < n → byte_at s (at + i) ≡ byte_at t (to + i)) → number_at s at n ≡ number_at t to n
number_same s t at to zero h = refl
number_same s t at to (suc n) h =
    ap₂ (λ x y. x * 256 + y) (number_same s t at to n (λ i l. h i (omega arith))) (h n (omega arith))

number_cons : (d : ℕ) (s : List ℕ) (n : ℕ) → number_at (d ∷ s) 0 (suc n) ≡ d * 256 ^ n + number_at s 0 n
number_cons d s zero = omega arith
number_cons d s (suc n) =
    let e : byte_at (d ∷ s) (0 + suc n) ≡ byte_at s (0 + n) = rw (zero-add (suc n), zero-add n) in
    let p : d * 256 ^ suc n ≡ d * 256 ^ n * 256 = rw pow-suc (sym (mul_assoc d (256 ^ n) 256)) in
    rw (number_cons d s n, e, p) (omega arith)

big_number : (n x : ℕ) (rest : List ℕ) → number_at (big_endian n x ++ rest) 0 n ≡ x % 256 ^ n
big_number zero x rest = sym (mod-one x)
big_number (suc n) x rest =
    number_cons (x / 256 ^ n % 256) (big_endian n x ++ rest) n ∙ ap (λ y. x / 256 ^ n % 256 * 256 ^ n + y) (big_number n x rest)
    ∙ sym (mod-mul x (omega arith) (one-le-pow n 256 (omega arith))) ∙ ap (λ m. x % m) (sym (pow-succ' 256 n))

pub number_back : (s rest : List ℕ) (at n x : ℕ) → drop at s ≡ big_endian n x ++ rest → x < 256 ^ n → number_at s at n ≡ x
number_back s rest at n x h small =
    let p = big_endian n x ++ rest in
    number_same s p at 0 n (λ i l. byte_there s p at i h ∙ ap (byte_at p) (sym (zero-add i))) ∙ big_number n x rest ∙ mod-eq_of_lt small

-- the other way: a number that was read from bytes

abbrev pub Small : List ℕ → Type 0
Small s = All (λ b. b < 256) s

pub number_small : (s : List ℕ) (at n : ℕ) → ((i : ℕ) → i < n → byte_at s (at + i) < 256) → number_at s at n < 256 ^ n
number_small s at zero h = omega arith
number_small s at (suc n) h = rw pow-suc (omega (arith, number_small s at n (λ i l. h i (omega arith)), h n (omega arith)))

-- only the lowest n bytes of a number are written
big_low : (n c y : ℕ) → big_endian n (c * 256 ^ n + y) ≡ big_endian n y
big_low zero c y = refl
big_low (suc n) c y =
    let more : c * 256 ^ suc n ≡ c * 256 * 256 ^ n = ap (λ m. c * m) (pow-succ' 256 n) ∙ sym (mul_assoc c 256 (256 ^ n)) in
    let digit : (c * 256 * 256 ^ n + y) / 256 ^ n % 256 ≡ y / 256 ^ n % 256 =
    rw (mul-add-div_right (one-le-pow n 256 (omega arith)) (c * 256) y) (mul-add-mod_self_right c 256 (y / 256 ^ n))
    in
    rw more (ap₂ (λ d ds. d ∷ ds) digit (big_low n (c * 256) y))

digits_again : (t : List ℕ) → Small t → big_endian (length t) (number_at t 0 (length t)) ≡ t
digits_again [] h = refl
digits_again (b ∷ t) h =
    let n = length t in
    let low = number_at t 0 n in
    let below : low < 256 ^ n = number_small t 0 n (λ i l. rw zero-add (all_at (λ b. b < 256) t 0 h.1 i l)) in
    let digit : (b * 256 ^ n + low) / 256 ^ n % 256 ≡ b =
    rw (mul-add-div_right (one-le-pow n 256 (omega arith)) b low, div-eq_of_lt below) (omega (arith, h.0))
    in
    rw (number_cons b t n) (ap₂ (λ d ds. d ∷ ds) digit (big_low n b low ∙ digits_again t h.1))

module _ (s : List ℕ) (at n : ℕ) (there : at + n ≤ length s) (h : Small (bytes_at s at n)) where
  bytes_size : length (bytes_at s at n) ≡ n
  bytes_size = simp (length-take, length-drop) (omega arith)

  pub number_below : number_at s at n < 256 ^ n
  number_below =
      number_small s at n
      (λ i l. rw (get_or-take, get_or-drop) at (all_at (λ b. b < 256) (bytes_at s at n) 0 h i (rw bytes_size l)))

  pub number_again : big_endian n (number_at s at n) ≡ bytes_at s at n
  number_again =
      let same : number_at s at n ≡ number_at (bytes_at s at n) 0 n =
      number_same s (bytes_at s at n) at 0 n (λ i l. sym (rw (zero-add, get_or-take, get_or-drop)))
      in
      rw same (rw bytes_size at (digits_again (bytes_at s at n) h))
