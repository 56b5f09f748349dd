-- 000's opcodes and index bytes both ways: an opcode's byte is read as that opcode, and a byte that is read as one is its byte, since a byte
-- is made of the operator, the inversion, the operation and the reserved bits that are read from it.
use Prim.Native.Nat.{ℕ, zero, suc, ◌+◌, ◌*◌, ◌/◌, ◌%◌, ◌<◌}
use native.Mathlib.Nat.{div-add-mod', div-div-eq-div-mul}
use native.Mathlib.Omega.{arith}
use mathlib.Core.Path.{◌≡◌, refl, sym, ◌∙◌}
use mathlib.Core.Bool.{Bool, true, false, cond}
use mathlib.Core.Option.{Option, none, some}
use lib.Dec.{eqb}
use borrow.Author.Tests.{eqb-true}
use Rattle.paper.specs.Pact.{Relation, eq, gt, gte, Load, user, input, Linking, and, or, xor, Comparator, Conjunction, Opcode, compares, conjoins, wrong, relation_of, linking_of, load_of, comparing, conjoining, operator_of, opcode_of, left_index, right_index, bit_of, relation_no, linking_no, load_bit, comparator_byte, conjunction_byte}
use Rattle.paper.proofs.Basics.{If}

-- an opcode's byte is read as it

pub comparator_read : (c : Comparator) → opcode_of (comparator_byte c) ≡ compares c
comparator_read c = by c.inverted c.load c.relation
  where
    by : (i : Bool) (l : Load) (r : Relation) → let d : Comparator = record { inverted = i; load = l; relation = r } in opcode_of (comparator_byte d) ≡ compares d
    by false user eq = refl
    by false user gt = refl
    by false user gte = refl
    by false input eq = refl
    by false input gt = refl
    by false input gte = refl
    by true user eq = refl
    by true user gt = refl
    by true user gte = refl
    by true input eq = refl
    by true input gt = refl
    by true input gte = refl

pub conjunction_read : (j : Conjunction) → opcode_of (conjunction_byte j) ≡ conjoins j
conjunction_read j = by j.inverted j.linking
  where
    by : (i : Bool) (l : Linking) → let k : Conjunction = record { inverted = i; linking = l } in opcode_of (conjunction_byte k) ≡ conjoins k
    by false and = refl
    by false or = refl
    by false xor = refl
    by true and = refl
    by true or = refl
    by true xor = refl

-- a byte that is read as an opcode is its byte

abbrev pub Spells : ℕ → Opcode → Type 0
Spells b (compares c) = b ≡ comparator_byte c
Spells b (conjoins j) = b ≡ conjunction_byte j
Spells b wrong = Unit {0}

relation_spelled : (n : ℕ) → If (λ r. n ≡ relation_no r) (relation_of n)
relation_spelled n = by (eqb n 0) (eqb n 1) (eqb n 2) (eqb-true n 0) (eqb-true n 1) (eqb-true n 2)
  where
    by : (a b c : Bool) → (a ≡ true → n ≡ 0) → (b ≡ true → n ≡ 1) → (c ≡ true → n ≡ 2)
        → If (λ r. n ≡ relation_no r) (cond a (some eq) (cond b (some gt) (cond c (some gte) none)))
    by true b c h k l = h refl
    by false true c h k l = k refl
    by false false true h k l = l refl
    by false false false h k l = tt

linking_spelled : (n : ℕ) → If (λ l. n ≡ linking_no l) (linking_of n)
linking_spelled n = by (eqb n 0) (eqb n 1) (eqb n 2) (eqb-true n 0) (eqb-true n 1) (eqb-true n 2)
  where
    by : (a b c : Bool) → (a ≡ true → n ≡ 0) → (b ≡ true → n ≡ 1) → (c ≡ true → n ≡ 2)
        → If (λ l. n ≡ linking_no l) (cond a (some and) (cond b (some or) (cond c (some xor) none)))
    by true b c h k l = h refl
    by false true c h k l = k refl
    by false false true h k l = l refl
    by false false false h k l = tt

-- one bit

bit_spelled : (n m : ℕ) → n < 2 → bit_of (eqb n 1) m ≡ n * m
bit_spelled zero m h = omega arith
bit_spelled (suc zero) m h = omega arith
bit_spelled (suc (suc n)) m h = absurd (omega arith)

load_bit_lem : (b : Bool) → load_bit (load_of b) ≡ bit_of b 32
load_bit_lem true = refl
load_bit_lem false = refl

-- what a byte is made of

parts : (n m : ℕ) → n ≡ n / m * m + n % m
parts n m = sym (div-add-mod' n m)

put_together : (b q p s t u : ℕ) → b ≡ q * 4 → q ≡ p * 16 + s → p ≡ t * 2 + u → b ≡ 128 * t + 64 * u + 4 * s
put_together b q p s t u e f g = omega arith

made_of : (b : ℕ) → b % 4 ≡ 0 → b ≡ 128 * (b / 128) + 64 * (b / 64 % 2) + 4 * (b / 4 % 16)
made_of b clean =
    put_together b (b / 4) (b / 64) (b / 4 % 16) (b / 128) (b / 64 % 2) (omega (arith, parts b 4))
    (rw (← (div-div-eq-div-mul b 4 16)) (parts (b / 4) 16)) (rw (← (div-div-eq-div-mul b 64 2)) (parts (b / 64) 2))

module _ (b : ℕ) where
  comparing_spelled : (i : Bool) (l : Load) (n : ℕ) (o : Option Relation) → If (λ r. n ≡ relation_no r) o
      → b ≡ bit_of i 64 + load_bit l + 4 * n → Spells b (comparing i l o)
  comparing_spelled i l n none h e = tt
  comparing_spelled i l n (some r) h e = omega (arith, h)

  conjoining_spelled : (i : Bool) (n : ℕ) (o : Option Linking) → If (λ l. n ≡ linking_no l) o
      → b ≡ 128 + bit_of i 64 + 4 * n → Spells b (conjoining i o)
  conjoining_spelled i n none h e = tt
  conjoining_spelled i n (some r) h e = omega (arith, h)

-- the operator, the inversion and the operation
operator_spelled : (b x u s : ℕ) → b ≡ 128 * x + 64 * u + 4 * s → u < 2 → s < 16 → Spells b (operator_of x (eqb u 1) s)
operator_spelled b x u s e bit few = by (eqb x 0) (eqb x 1) (eqb-true x 0) (eqb-true x 1)
  where
    inverted : bit_of (eqb u 1) 64 ≡ u * 64
    inverted = bit_spelled u 64 bit

    loaded : load_bit (load_of (eqb (s / 8) 1)) ≡ s / 8 * 32
    loaded = load_bit_lem (eqb (s / 8) 1) ∙ bit_spelled (s / 8) 32 (omega arith)

    by : (first second : Bool) → (first ≡ true → x ≡ 0) → (second ≡ true → x ≡ 1)
        → Spells b
        (cond first (comparing (eqb u 1) (load_of (eqb (s / 8) 1)) (relation_of (s % 8)))
        (cond second (conjoining (eqb u 1) (linking_of s)) wrong))
    by true second h k =
        comparing_spelled b (eqb u 1) (load_of (eqb (s / 8) 1)) (s % 8) (relation_of (s % 8)) (relation_spelled (s % 8))
        (omega (arith, h refl, inverted, loaded))
    by false true h k =
        conjoining_spelled b (eqb u 1) s (linking_of s) (linking_spelled s) (omega (arith, k refl, inverted))
    by false false h k = tt

pub opcode_spelled : (b : ℕ) → Spells b (opcode_of b)
opcode_spelled b = by (eqb (b % 4) 0) (eqb-true (b % 4) 0)
  where
    by : (clean : Bool) → (clean ≡ true → b % 4 ≡ 0)
        → Spells b (cond clean (operator_of (b / 128) (eqb (b / 64 % 2) 1) (b / 4 % 16)) wrong)
    by true h =
        operator_spelled b (b / 128) (b / 64 % 2) (b / 4 % 16) (made_of b (h refl)) (omega arith) (omega arith)
    by false h = tt

-- an index byte

pub indices_read : (i j : ℕ) → j < 16 → (left_index (16 * i + j) ≡ i) × (right_index (16 * i + j) ≡ j)
indices_read i j h = (omega arith, omega arith)

pub index_spelled : (b : ℕ) → b ≡ 16 * left_index b + right_index b
index_spelled b = omega arith
