-- A file is its whole entries, one after the other, and what is cut: as many of an entry's size are taken from it as its length holds. Where
-- the first of two stretches has whole entries only, those of both are those of the first and then those of the second.
use Prim.Native.Nat.{ℕ, zero, suc, ◌+◌, ◌*◌, ◌/◌, ◌%◌, ◌≤◌, ◌<◌}
use native.Mathlib.Nat.{suc-mul, zero-mul, mul-le-mul_right, mod-lt, div_self, div-add-mod', div-mul-le_self, mul-add-div_right, mul-add-mod_self_right}
use native.Mathlib.Numerals.{add-one}
use native.Mathlib.Omega.{arith}
use mathlib.Core.Path.{◌≡◌, refl, sym, ap, ap₂, ◌∙◌}
use mathlib.Core.List.{List, [], ◌∷◌, ◌++◌, append_assoc}
use lib.ListN.{length, take, drop, get_or, length-append, length-drop, take-append-drop}
use lib.Seq.{length-take-le, take-length, take-append-le, drop-append-le, drop-drop}
use Rattle.paper.specs.Keys.{Key}
use Rattle.paper.specs.BlocksRoundTrip.{All}
use Rattle.paper.specs.Counting.{entry_size, whole_in, cut_in, laid_out, entries_in}
use Rattle.paper.specs.CountedRight.{end_to_end, FileIsItsEntries}

-- one that lies among those that a length holds lies in it whole
pub whole_inside : (k size m : ℕ) → k < m / size → k * size + size ≤ m
whole_inside k size m h =
    let up = mul-le-mul_right size h in
    omega (arith, up, suc-mul k size, div-mul-le_self m size)

-- so many of a size

module _ (size : ℕ) where
  pub laid_length : (n : ℕ) (s : List ℕ) → length (laid_out size n s) ≡ n
  laid_length zero s = refl
  laid_length (suc n) s = ap suc (laid_length n (drop size s))

  -- the first, where there is one, and what is left for the others
  first_fits : (n : ℕ) (s : List ℕ) → suc n * size ≤ length s → size ≤ length s
  first_fits n s h = let e = suc-mul n size in omega (arith, e, h)

  others_fit : (n : ℕ) (s : List ℕ) → suc n * size ≤ length s → n * size ≤ length (drop size s)
  others_fit n s h =
      let e = suc-mul n size in
      let k = length-drop size s in
      omega (arith, e, h, k)

  laid_each : (n : ℕ) (s : List ℕ) → n * size ≤ length s → All (λ e. length e ≡ size) (laid_out size n s)
  laid_each zero s h = tt
  laid_each (suc n) s h = (length-take-le size s (first_fits n s h), laid_each n (drop size s) (others_fit n s h))

  laid_all : (n : ℕ) (s : List ℕ) → s ≡ end_to_end (laid_out size n s) ++ drop (n * size) s
  laid_all zero s = let z : 0 * size ≡ 0 = omega arith in rw z
  laid_all (suc n) s =
      let later = end_to_end (laid_out size n (drop size s)) in
      let rest = drop (n * size) (drop size s) in
      let e = suc-mul n size in
      let as_many : size + n * size ≡ suc n * size = omega (arith, e) in
      let left : rest ≡ drop (suc n * size) s = drop-drop (n * size) size s ∙ ap (λ (k : ℕ). drop k s) as_many in
      sym (take-append-drop size s)
      ∙ ap (λ (t : List ℕ). take size s ++ t) (laid_all n (drop size s))
      ∙ sym (append_assoc (take size s) later rest)
      ∙ ap (λ (t : List ℕ). take size s ++ later ++ t) left

  -- one more at the end
  laid_more : (n : ℕ) (s : List ℕ) → laid_out size (suc n) s ≡ laid_out size n s ++ (take size (drop (n * size) s) ∷ [])
  laid_more zero s = rw (zero-mul size)
  laid_more (suc n) s =
      let past : size + n * size ≡ suc n * size = omega (arith, suc-mul n size) in
      ap (λ (es : List (List ℕ)). take size s ∷ es)
      (laid_more n (drop size s)
      ∙ ap (λ (r : List ℕ). laid_out size n (drop size s) ++ (take size r ∷ [])) (drop-drop (n * size) size s ∙ ap (λ (m : ℕ). drop m s) past))

  pub laid_next : (k : ℕ) (s : List ℕ) → laid_out size (k + 1) s ≡ laid_out size k s ++ (take size (drop (k * size) s) ∷ [])
  laid_next k s = ap (λ (n : ℕ). laid_out size n s) (add-one k) ∙ laid_more k s

  -- each at its place
  laid_at : (n : ℕ) (s : List ℕ) (i : ℕ) → i < n → get_or (laid_out size n s) i [] ≡ take size (drop (i * size) s)
  laid_at zero s i h = elim h [ ]
  laid_at (suc n) s zero h = rw (zero-mul size)
  laid_at (suc n) s (suc i) h =
      let past : size + i * size ≡ suc i * size = omega (arith, suc-mul i size) in
      laid_at n (drop size s) i (omega (arith, h))
      ∙ ap (λ (r : List ℕ). take size r) (drop-drop (i * size) size s ∙ ap (λ (m : ℕ). drop m s) past)

  -- of two stretches
  laid_append : (n m : ℕ) (s t : List ℕ) → length s ≡ n * size → laid_out size (n + m) (s ++ t) ≡ laid_out size n s ++ laid_out size m t
  laid_append zero m [] t h = let z : 0 + m ≡ m = omega arith in ap (λ (k : ℕ). laid_out size k t) z
  laid_append zero m (x ∷ s) t h = let z : 0 * size ≡ 0 = omega arith in absurd (omega (arith, h, z))
  laid_append (suc n) m s t h =
      let e : suc n * size ≡ n * size + size = suc-mul n size in
      let fits : size ≤ length s = omega (arith, h, e) in
      let left : length (drop size s) ≡ n * size = let k = length-drop size s in omega (arith, h, e, k) in
      let z : suc n + m ≡ suc (n + m) = omega arith in
      ap (λ (k : ℕ). laid_out size k (s ++ t)) z
      ∙ ap₂ (λ (x : List ℕ) (y : List ℕ). x ∷ laid_out size (n + m) y) (take-append-le size s t fits) (drop-append-le size s t fits)
      ∙ ap (λ (y : List (List ℕ)). take size s ∷ y) (laid_append n m (drop size s) t left)

-- entries of a list's keys

module _ (ks : List Key) where
  pub some_size : 0 < entry_size ks
  some_size = omega arith

  pub entries_length : (s : List ℕ) → length (entries_in ks s) ≡ whole_in ks s
  entries_length s = laid_length (entry_size ks) (whole_in ks s) s

  -- each at its place, and as long as an entry is
  pub entries_at : (s : List ℕ) (i : ℕ) → i < whole_in ks s → get_or (entries_in ks s) i [] ≡ take (entry_size ks) (drop (i * entry_size ks) s)
  entries_at s i h = laid_at (entry_size ks) (whole_in ks s) s i h

  pub entries_sized : (s : List ℕ) (i : ℕ) → i < whole_in ks s → length (take (entry_size ks) (drop (i * entry_size ks) s)) ≡ entry_size ks
  entries_sized s i h =
      let inside = whole_inside i (entry_size ks) (length s) h in
      let left = length-drop (i * entry_size ks) s in
      length-take-le (entry_size ks) (drop (i * entry_size ks) s) (omega (arith, inside, left))

  -- an entry is the only one in itself
  pub one_entry : (s : List ℕ) → length s ≡ entry_size ks → entries_in ks s ≡ s ∷ []
  one_entry s h =
      let whole : whole_in ks s ≡ 1 = ap (λ (n : ℕ). n / entry_size ks) h ∙ div_self some_size in
      ap (λ (n : ℕ). laid_out (entry_size ks) n s) whole
      ∙ ap (λ (n : ℕ). take n s ∷ []) (sym h)
      ∙ ap (λ (e : List ℕ). e ∷ []) (take-length s)

  -- whole entries, and then anything
  module _ (first rest : List ℕ) (whole : cut_in ks first ≡ 0) where
    first_size : length first ≡ whole_in ks first * entry_size ks
    first_size = let e = div-add-mod' (length first) (entry_size ks) in omega (arith, e, whole)

    both_size : length (first ++ rest) ≡ whole_in ks first * entry_size ks + length rest
    both_size = let e = length-append first rest in omega (arith, e, first_size)

    pub whole_both : whole_in ks (first ++ rest) ≡ whole_in ks first + whole_in ks rest
    whole_both =
        ap (λ (n : ℕ). n / entry_size ks) both_size ∙ mul-add-div_right some_size (whole_in ks first) (length rest)

    pub cut_both : cut_in ks (first ++ rest) ≡ cut_in ks first + cut_in ks rest
    cut_both =
        let last = ap (λ (n : ℕ). n % entry_size ks) both_size ∙ mul-add-mod_self_right (whole_in ks first) (entry_size ks) (length rest) in
        omega (arith, last, whole)

    pub entries_both : entries_in ks (first ++ rest) ≡ entries_in ks first ++ entries_in ks rest
    entries_both =
        ap (λ (n : ℕ). laid_out (entry_size ks) n (first ++ rest)) whole_both
        ∙ laid_append (entry_size ks) (whole_in ks first) (whole_in ks rest) first rest first_size

pub file_is_its_entries : FileIsItsEntries
file_is_its_entries ks s =
    let size = entry_size ks in
    let n = whole_in ks s in
    let e = div-add-mod' (length s) size in
    let l = length-drop (n * size) s in
    record {
      whole = entries_length ks s;
      each = laid_each size n s (div-mul-le_self (length s) size);
      rest = drop (n * size) s;
      all = laid_all size n s;
      cut = omega (arith, e, l);
      short = mod-lt (length s) (some_size ks);
    }
