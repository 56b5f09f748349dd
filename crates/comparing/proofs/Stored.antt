-- A part's code, written behind the others: its records read back from the bytes that were stored, those before stay as they were, and the number
-- after it is where the next part begins.
use Prim.Native.Nat.{ℕ, suc, ◌+◌, ◌-◌, ◌*◌, ◌≤◌, ◌<◌}
use native.Mathlib.Nat.{zero-add, sub-zero, eq-or-lt_of_le}
use native.Mathlib.Numerals.{add-one}
use native.Mathlib.Omega.{arith}
use mathlib.Core.Path.{◌≡◌, refl, sym, ap, ap₂, ◌∙◌}
use mathlib.Core.Logic.{◌⊎◌, inl, inr}
use mathlib.Core.List.{List, [], ◌∷◌, ◌++◌, append_assoc}
use lib.ListN.{length, take, drop, set, length-append}
use lib.Seq.{length-take-le, take_at, drop_at, drop-set-add, take-set-le, get_or-set_same, get_or-set_other, sets, length-sets, sets-eq}
use Rattle.paper.specs.Numbers.{bytes_at}
use Rattle.paper.specs.Code.{Instruction, instruction_size, encode}
use Rattle.paper.specs.Blocks.{encode_all}
use Rattle.paper.specs.Comparing.{written, as_joined}
use Rattle.paper.proofs.InstructionsRoundTrip.{row_length}
use Rattle.parts.specs.Rows.{each}
use Rattle.translating.specs.Writing.{Wrote}
use Rattle.comparing.specs.Scratch.{record_at, code_from, start_at, Stood, size_all}
use Rattle.comparing.proofs.Rows.{records_same}

-- bytes that are stored behind others leave these

one_kept : (s : List ℕ) (at n i x : ℕ) → at + n ≤ i → bytes_at (set s i x) at n ≡ bytes_at s at n
one_kept s at n i x h =
    let e : i ≡ at + (i - at) = omega arith in
    ap (λ (j : ℕ). bytes_at (set s j x) at n) e ∙ ap (take n) (drop-set-add at s (i - at) x) ∙ take-set-le n (drop at s) (i - at) x (omega arith)

bytes_kept : (s : List ℕ) (at n i : ℕ) (xs : List ℕ) → at + n ≤ i → bytes_at (sets s i xs) at n ≡ bytes_at s at n
bytes_kept s at n i [] h = refl
bytes_kept s at n i (x ∷ xs) h = bytes_kept (set s i x) at n (suc i) xs (omega arith) ∙ one_kept s at n i x h

-- instructions that stand behind so many others

stands : (front rest : List ℕ) (i : ℕ) (is : List Instruction) → length front ≡ instruction_size * i
    → code_from (front ++ (encode_all is ++ rest)) i (length is) ≡ written is
stands front rest i [] e = refl
stands front rest i (x ∷ is) e =
    let here : record_at (front ++ ((encode x ++ encode_all is) ++ rest)) i ≡ encode x =
    ap (take instruction_size) (drop_at front ((encode x ++ encode_all is) ++ rest) (instruction_size * i) e)
    ∙ ap (take instruction_size) (append_assoc (encode x) (encode_all is) rest)
    ∙ take_at (encode x) (encode_all is ++ rest) instruction_size refl
    in
    let long : length (front ++ encode x) ≡ instruction_size * (i + 1) = omega (arith, length-append front (encode x), e) in
    let regroup : front ++ ((encode x ++ encode_all is) ++ rest) ≡ (front ++ encode x) ++ (encode_all is ++ rest) =
    ap (λ (s : List ℕ). front ++ s) (append_assoc (encode x) (encode_all is) rest) ∙ sym (append_assoc front (encode x) (encode_all is ++ rest))
    in
    ap₂ ◌∷◌ here (ap (λ (s : List ℕ). code_from s (i + 1) (length is)) regroup ∙ stands (front ++ encode x) rest (i + 1) is long)

module _ {before after : List ℕ} {at next : ℕ} {is : List Instruction} (room : instruction_size * (at + length is) ≤ length before)
    (w : Wrote before at is after next)
  where
    pub still_long : length after ≡ length before
    still_long = ap length w.stored ∙ length-sets before (instruction_size * at) (encode_all is)

    pub reads_back : code_from after at (length is) ≡ written is
    reads_back =
        let start = instruction_size * at in
        let end = start + length (encode_all is) in
        let within : end ≤ length before = omega (arith, row_length is) in
        let whole : after ≡ take start before ++ (encode_all is ++ drop end before) =
        w.stored ∙ sets-eq (encode_all is) before start within ∙ append_assoc (take start before) (encode_all is) (drop end before)
        in
        ap (λ (s : List ℕ). code_from s at (length is)) whole
        ∙ stands (take start before) (drop end before) at is (length-take-le start before (omega arith))

    pub records_kept : (i n : ℕ) → i + n ≤ at → code_from after i n ≡ code_from before i n
    records_kept i n h =
        records_same (record_at after) (record_at before) i n
        (λ j low high.
        ap (λ (s : List ℕ). record_at s j) w.stored
        ∙ bytes_kept before (instruction_size * j) instruction_size (instruction_size * at) (encode_all is) (omega arith))

-- k of n parts are written, and the next begins at a number
pub record Reached (code starts : List ℕ) (n : ℕ) (cs : ℕ → List Instruction) (k at : ℕ) : Type 0 where
  pub here : start_at starts k ≡ at
  pub before : (j : ℕ) → j < k → start_at starts (j + 1) ≤ at
  pub stood : (j : ℕ) → j < k → Stood code starts j (cs j)
  pub rest : at + size_all (each cs k (n - k)) ≡ size_all (each cs 0 n)

pub reached_none : (code starts : List ℕ) (n : ℕ) (cs : ℕ → List Instruction) → 0 < length starts → Reached code (set starts 0 0) n cs 0 0
reached_none code starts n cs some =
    record {
      here = get_or-set_same starts 0 0 0 some;
      before = λ j h. absurd (omega arith);
      stood = λ j h. absurd (omega arith);
      rest = rw (sub-zero n) (zero-add (size_all (each cs 0 n)));
    }

module _ {code starts : List ℕ} {n : ℕ} {cs : ℕ → List Instruction} {k at : ℕ} (reached : Reached code starts n cs k at)
    (room : instruction_size * size_all (each cs 0 n) ≤ length code) (more : k < n)
  where
    -- this part and those after it
    rest_more : size_all (each cs k (n - k)) ≡ length (as_joined (cs k)) + size_all (each cs (k + 1) (n - (k + 1)))
    unfolding each
    rest_more =
        let left : n - k ≡ suc (n - (k + 1)) = omega arith in
        rw (left, add-one k)

    pub room_here : instruction_size * (at + length (as_joined (cs k))) ≤ length code
    room_here = omega (arith, room, reached.rest, rest_more)

    module _ (after : List ℕ) (next : ℕ) (w : Wrote code at (as_joined (cs k)) after next) (wide : k + 1 < length starts) where
      abbrev later : List ℕ
      later = set starts (k + 1) next

      start_kept : (j : ℕ) → j ≤ k → start_at later j ≡ start_at starts j
      start_kept j h = get_or-set_other starts (k + 1) j next 0 (λ e. omega arith)

      start_new : start_at later (k + 1) ≡ next
      start_new = get_or-set_same starts (k + 1) next 0 wide

      -- an earlier part
      earlier : (j : ℕ) → j < k → Stood after later j (cs j)
      earlier j h =
          let s = reached.stood j h in
          let low = reached.before j h in
          let from = start_kept j (omega arith) in
          let to = start_kept (j + 1) (omega arith) in
          record {
            next = to ∙ s.next ∙ ap (λ (m : ℕ). m + length (as_joined (cs j))) (sym from);
            inside = omega (arith, to, s.inside, still_long room_here w);
            reads =
                ap (λ (m : ℕ). code_from after m (length (as_joined (cs j)))) from
                ∙ records_kept room_here w (start_at starts j) (length (as_joined (cs j))) (omega (arith, s.next, low))
                ∙ s.reads;
          }

      -- this one
      this : Stood after later k (cs k)
      this =
          let from = start_kept k (omega arith) ∙ reached.here in
          record {
            next = start_new ∙ w.next ∙ ap (λ (m : ℕ). m + length (as_joined (cs k))) (sym from);
            inside = omega (arith, start_new, w.next, room_here, still_long room_here w);
            reads = ap (λ (m : ℕ). code_from after m (length (as_joined (cs k)))) from ∙ reads_back room_here w;
          }

      pub reached_one : Reached after later n cs (k + 1) next
      reached_one =
          record {
            here = start_new;
            before = λ j h. by_place j (eq-or-lt_of_le (omega arith));
            stood = λ j h. standing j (eq-or-lt_of_le (omega arith));
            rest = omega (arith, w.next, reached.rest, rest_more);
          }
        where
          by_place : (j : ℕ) → (j ≡ k) ⊎ (j < k) → start_at later (j + 1) ≤ next
          by_place j (inl e) = rw e (omega (arith, start_new))
          by_place j (inr h) = omega (arith, start_kept (j + 1) (omega arith), reached.before j h, w.next)

          standing : (j : ℕ) → (j ≡ k) ⊎ (j < k) → Stood after later j (cs j)
          standing j (inl e) = rw e this
          standing j (inr h) = earlier j h
