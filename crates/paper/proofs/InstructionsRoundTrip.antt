-- An instruction in range reads back from its bytes, by itself and in a row of them; and bytes that are read as an instruction are those
-- that it is written as.
use Prim.Native.Nat.{ℕ, zero, suc, ◌+◌, ◌*◌, ◌^◌, ◌≤◌, ◌<◌}
use native.Mathlib.Nat.{add-zero, not-suc-le-zero, le_of_suc-le-suc}
use native.Mathlib.Numerals.{add-one}
use native.Mathlib.Omega.{arith}
use mathlib.Core.Path.{◌≡◌, refl, sym, ap, ◌∙◌}
use mathlib.Core.Bool.{Bool, true, false, ◌&&◌, and-eq-true_iff}
use mathlib.Core.Option.{Option, none, some, none-ne-some}
use mathlib.Core.List.{List, [], ◌∷◌, ◌++◌}
use lib.ListN.{length, get_or, drop}
use lib.Seq.{drop-cons, take-add, drop-drop, drop-append-add}
use lib.Dec.{lit<, leb, eqb}
use borrow.Author.Tests.{le-leb, leb-true, eq-eqb, eqb-true}
use Rattle.paper.specs.Numbers.{byte_at, bytes_at, number_at, big_endian}
use Rattle.paper.specs.Tokens.{equal, unequal, greater, at_least, less, at_most}
use Rattle.paper.specs.Keys.{exact, ternary, lpm, range, optional}
use Rattle.paper.specs.Types.{when, and_then, value, mask, prefix_length, low, high}
use Rattle.paper.specs.Meaning.{both, either, if_then}
use Rattle.paper.specs.Code.{Instruction, push_bool, push_int, push_key, push_field, push_priority, invert, negate, convert, compare, connects, skip, Parts, bit, first_byte, parts_of, instruction_size, encode, parts_at, instruction_named, same_parts, in_range, decode}
use Rattle.paper.specs.Blocks.{encode_all}
use Rattle.paper.specs.BlocksRoundTrip.{InRange, PartsBack, BytesBack, PartsAgain, WrittenAgain, BytesAgain}
use Rattle.paper.proofs.Basics.{all_parts}
use Rattle.paper.proofs.Digits.{drop_on, byte_there, number_back, Small, number_below, number_again}

-- by its parts

pub named_back : (i : Instruction) → instruction_named (parts_of i) ≡ some i
named_back (push_bool true) = refl
named_back (push_bool false) = refl
named_back (push_int n) = refl
named_back (push_key k) = refl
named_back (push_field value k) = refl
named_back (push_field mask k) = refl
named_back (push_field prefix_length k) = refl
named_back (push_field low k) = refl
named_back (push_field high k) = refl
named_back push_priority = refl
named_back invert = refl
named_back negate = refl
named_back (convert exact w) = refl
named_back (convert ternary w) = refl
named_back (convert lpm w) = refl
named_back (convert range w) = refl
named_back (convert optional w) = refl
named_back (compare equal) = refl
named_back (compare unequal) = refl
named_back (compare greater) = refl
named_back (compare at_least) = refl
named_back (compare less) = refl
named_back (compare at_most) = refl
named_back (connects both) = refl
named_back (connects either) = refl
named_back (connects if_then) = refl
named_back (skip s) = skip_back s.on s.to s.over
  where
    skip_back : (on to : Bool) (over : ℕ)
        → instruction_named (parts_of (skip (record { on = on; to = to; over = over }))) ≡ some (skip (record { on = on; to = to; over = over }))
    skip_back true true over = refl
    skip_back true false over = refl
    skip_back false true over = refl
    skip_back false false over = refl

same_self : (p : Parts) → same_parts p p ≡ true
same_self p = rw (eq-eqb p.operation p.operation refl, eq-eqb p.detail p.detail refl, eq-eqb p.operand p.operand refl, eq-eqb p.constant p.constant refl)

range_kept : (left : ℕ) (i : Instruction) → InRange left i → in_range left i ≡ true
range_kept left (push_bool b) h = refl
range_kept left (push_int n) h = refl
range_kept left (push_key k) h = refl
range_kept left (push_field f k) h = refl
range_kept left push_priority h = refl
range_kept left invert h = refl
range_kept left negate h = refl
range_kept left (convert k w) h = rw (le-leb 1 w h.0, le-leb w 128 h.1)
range_kept left (compare c) h = refl
range_kept left (connects o) h = refl
range_kept left (skip s) h = rw (le-leb 1 s.over h.0, le-leb s.over left h.1)

pub parts_back : PartsBack
parts_back left i h = rw (named_back i, range_kept left i h, same_self (parts_of i))

-- by its bytes

pub record PartsSmall (p : Parts) : Type 0 where
  pub operand : p.operand < 256 ^ 2
  pub constant : p.constant < 256 ^ 16

first_small : (b : Bool) → bit b * first_byte < 256 ^ 16
first_small true = lit< tt
first_small false = lit< tt

small_parts : (left : ℕ) (i : Instruction) → InRange left i → PartsSmall (parts_of i)
small_parts left (push_bool true) h = record { operand = lit< tt; constant = lit< tt }
small_parts left (push_bool false) h = record { operand = lit< tt; constant = lit< tt }
small_parts left (push_int n) h = record { operand = lit< tt; constant = h }
small_parts left (push_key k) h = record { operand = h; constant = lit< tt }
small_parts left (push_field f k) h = record { operand = h; constant = lit< tt }
small_parts left push_priority h = record { operand = lit< tt; constant = lit< tt }
small_parts left invert h = record { operand = lit< tt; constant = lit< tt }
small_parts left negate h = record { operand = lit< tt; constant = lit< tt }
small_parts left (convert k w) h = record { operand = omega arith; constant = lit< tt }
small_parts left (compare c) h = record { operand = lit< tt; constant = lit< tt }
small_parts left (connects both) h = record { operand = lit< tt; constant = lit< tt }
small_parts left (connects either) h = record { operand = lit< tt; constant = lit< tt }
small_parts left (connects if_then) h = record { operand = lit< tt; constant = lit< tt }
small_parts left (skip s) h = record { operand = h.2; constant = first_small s.to }

parts_there : (i : Instruction) → PartsSmall (parts_of i) → (s rest : List ℕ) (at : ℕ) → drop at s ≡ encode i ++ rest → parts_at s at ≡ parts_of i
parts_there i small s rest at h =
    let p = parts_of i in
    let operand = big_endian 2 p.operand in
    let constant = big_endian 16 p.constant in
    let one : byte_at s at ≡ p.operation = ap (byte_at s) (sym (add-zero at)) ∙ byte_there s (encode i ++ rest) at 0 h in
    let two : byte_at s (at + 1) ≡ p.detail = byte_there s (encode i ++ rest) at 1 h in
    let three : number_at s (at + 2) 2 ≡ p.operand =
    number_back s (constant ++ rest) (at + 2) 2 p.operand
    (drop_on s (p.operation ∷ p.detail ∷ []) (operand ++ (constant ++ rest)) at (at + 2) h refl) small.operand
    in
    let four : number_at s (at + 4) 16 ≡ p.constant =
    number_back s rest (at + 4) 16 p.constant
    (drop_on s (p.operation ∷ p.detail ∷ operand) (constant ++ rest) at (at + 4) h refl) small.constant
    in
    λ k. record { operation = one k; detail = two k; operand = three k; constant = four k }

pub bytes_back : BytesBack
bytes_back left i h s rest at there = ap (decode left) (parts_there i (small_parts left i h) s rest at there) ∙ parts_back left i h

-- the other way: what is read is written again

same_parts_lem : (p q : Parts) → same_parts p q ≡ true → q ≡ p
same_parts_lem p q h =
    let all = (and-eq-true_iff _ (eqb p.constant q.constant)).0 h in
    let three = (and-eq-true_iff _ (eqb p.operand q.operand)).0 all.0 in
    let two = (and-eq-true_iff (eqb p.operation q.operation) (eqb p.detail q.detail)).0 three.0 in
    let operation = eqb-true _ _ two.0 in
    let detail = eqb-true _ _ two.1 in
    let operand = eqb-true _ _ three.1 in
    let constant = eqb-true _ _ all.1 in
    sym (λ k. record { operation = operation k; detail = detail k; operand = operand k; constant = constant k })

-- of what is named, only what passes the test is read
passes : {A : Type 0} (test : A → Bool) (o : Option A) (a : A) → and_then o (λ x. when (test x) x) ≡ some a → test a ≡ true
passes test none a h = absurd (none-ne-some a h)
passes test (some x) a h = go (test x) refl h
  where
    go : (b : Bool) → test x ≡ b → when b x ≡ some a → test a ≡ true
    go true e h = let same : x ≡ a = cc in rw same at e
    go false e h = absurd (none-ne-some a h)

pub read_test : (left : ℕ) (p : Parts) (i : Instruction) → decode left p ≡ some i → (in_range left i ≡ true) × (same_parts p (parts_of i) ≡ true)
read_test left p i h =
    (and-eq-true_iff (in_range left i) (same_parts p (parts_of i))).0
    (passes (λ x. in_range left x && same_parts p (parts_of x)) (instruction_named p) i h)

pub parts_again : PartsAgain
parts_again left p i h = same_parts_lem p (parts_of i) (read_test left p i h).1

-- parts of two and of sixteen bytes leave only a width and a landing to ask for
range_told : (left : ℕ) (i : Instruction) → PartsSmall (parts_of i) → in_range left i ≡ true → InRange left i
range_told left (push_bool b) small h = tt
range_told left (push_int n) small h = small.constant
range_told left (push_key k) small h = small.operand
range_told left (push_field f k) small h = small.operand
range_told left push_priority small h = tt
range_told left invert small h = tt
range_told left negate small h = tt
range_told left (convert k w) small h =
    let wide = (and-eq-true_iff (leb 1 w) (leb w 128)).0 h in
    (leb-true 1 w wide.0, leb-true w 128 wide.1)
range_told left (compare c) small h = tt
range_told left (connects o) small h = tt
range_told left (skip s) small h =
    let lands = (and-eq-true_iff (leb 1 s.over) (leb s.over left)).0 h in
    (leb-true 1 s.over lands.0, leb-true s.over left lands.1, small.operand)

next_byte : (s : List ℕ) (at : ℕ) → at < length s → drop at s ≡ byte_at s at ∷ drop (at + 1) s
next_byte s at h = drop-cons s at 0 h ∙ ap (λ n. byte_at s at ∷ drop n s) (sym (add-one at))

module _ (s : List ℕ) (at : ℕ) (there : at + instruction_size ≤ length s) (small : Small (bytes_at s at instruction_size)) where
  -- the bytes of each part
  cut : bytes_at s at instruction_size ≡ byte_at s at ∷ byte_at s (at + 1) ∷ (bytes_at s (at + 2) 2 ++ bytes_at s (at + 4) 16)
  cut =
      let third : at + 1 + 1 ≡ at + 2 = omega arith in
      let fifth : at + 2 + 2 ≡ at + 4 = omega arith in
      rw (next_byte s at (omega arith), next_byte s (at + 1) (omega arith), third, take-add 2 16 (drop (at + 2) s), drop-drop 2 (at + 2) s, fifth)

  few : Small (bytes_at s (at + 2) 2) × Small (bytes_at s (at + 4) 16)
  few = all_parts (λ b. b < 256) (bytes_at s (at + 2) 2) (bytes_at s (at + 4) 16) (rw cut at small).1.1

  parts_small : PartsSmall (parts_at s at)
  parts_small =
      record {
        operand = number_below s (at + 2) 2 (omega arith) few.0;
        constant = number_below s (at + 4) 16 (omega arith) few.1;
      }

  written_again : (left : ℕ) (i : Instruction) → decode left (parts_at s at) ≡ some i → WrittenAgain left i (bytes_at s at instruction_size)
  written_again left i h =
      let same : parts_of i ≡ parts_at s at = parts_again left (parts_at s at) i h in
      record {
        ranged = range_told left i (rw same parts_small) (read_test left (parts_at s at) i h).0;
        again = rw (same, cut, ← number_again s (at + 2) 2 (omega arith) few.0, ← number_again s (at + 4) 16 (omega arith) few.1);
      }

pub bytes_again : BytesAgain
bytes_again = written_again

-- in a row

pub row_length : (code : List Instruction) → length (encode_all code) ≡ instruction_size * length code
row_length [] = refl
row_length (i ∷ code) = omega (arith, row_length code)

-- the instruction of an index
pub row_there : (code : List Instruction) (rest : List ℕ) (j : ℕ) → j < length code
    → (more : List ℕ) × (drop (instruction_size * j) (encode_all code ++ rest) ≡ encode (get_or code j push_priority) ++ more)
row_there [] rest j h = absurd (not-suc-le-zero h)
row_there (i ∷ code) rest zero h = (encode_all code ++ rest, refl)
row_there (i ∷ code) rest (suc j) h =
    let e : instruction_size * suc j ≡ instruction_size + instruction_size * j = omega arith in
    let r = row_there code rest j (le_of_suc-le-suc h) in (
      r.0,
      ap (λ n. drop n (encode_all (i ∷ code) ++ rest)) e ∙ drop-append-add (encode i) (encode_all code ++ rest) (instruction_size * j)
          ∙ r.1,
    )
