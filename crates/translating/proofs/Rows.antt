-- Instructions written one after the other.
use Prim.Native.Nat.{ℕ, suc, ◌+◌, ◌*◌, ◌/◌, ◌%◌, ◌^◌, ◌≤◌, ◌<◌}
use native.Mathlib.Nat.{add-zero}
use native.Mathlib.Omega.{arith}
use mathlib.Core.Path.{◌≡◌, refl, sym, ◌∙◌, ap, subst}
use mathlib.Core.List.{List, [], ◌∷◌, ◌++◌, append_assoc}
use lib.ListN.{length, set, length-append}
use lib.Seq.{set_comm, sets}
use Rattle.paper.specs.Numbers.{big_endian}
use Rattle.paper.specs.Code.{Instruction, Parts, parts_of, instruction_size, encode}
use Rattle.paper.specs.Blocks.{encode_all}
use Rattle.paper.proofs.InstructionsRoundTrip.{row_length}
use Rattle.number.proofs.BigEndian.{sets_append}
use Rattle.translating.specs.Writing.{Wrote}

all_append : (xs ys : List Instruction) → encode_all (xs ++ ys) ≡ encode_all xs ++ encode_all ys
all_append [] ys = refl
all_append (x ∷ xs) ys = ap (λ (s : List ℕ). encode x ++ s) (all_append xs ys) ∙ sym (append_assoc (encode x) (encode_all xs) (encode_all ys))

pub wrote_as : {s t : List ℕ} {i j : ℕ} {xs ys : List Instruction} → xs ≡ ys → Wrote s i xs t j → Wrote s i ys t j
wrote_as {s} {t} {i} {j} e w = subst (λ (x : List Instruction). Wrote s i x t j) e w

pub wrote_nothing : (s : List ℕ) (i : ℕ) → Wrote s i [] s i
wrote_nothing s i = record { next = sym (add-zero i); stored = refl }

pub wrote_on : {s t u : List ℕ} {i j k : ℕ} {xs ys : List Instruction} → Wrote s i xs t j → Wrote t j ys u k → Wrote s i (xs ++ ys) u k
wrote_on {s} {t} {u} {i} {j} {k} {xs} {ys} a b =
    let behind : instruction_size * j ≡ instruction_size * i + length (encode_all xs) = omega (arith, a.next, row_length xs) in
    record {
      next = omega (arith, a.next, b.next, length-append xs ys);
      stored =
          b.stored
          ∙ rw (a.stored, behind, all_append xs ys)
          (sym (sets_append s (instruction_size * i) (encode_all xs) (encode_all ys)));
    }

-- what is stored in front of other stores may come before or after them

store_swap : (l : List ℕ) (i j a : ℕ) (ys : List ℕ) → i < j → set (sets l j ys) i a ≡ sets (set l i a) j ys
store_swap l i j a [] h = refl
store_swap l i j a (y ∷ ys) h =
    store_swap (set l j y) i (suc j) a ys (omega arith) ∙ ap (λ (t : List ℕ). sets t (suc j) ys) (set_comm l j i y a (λ e. omega arith))

stores_swap : (l : List ℕ) (i j : ℕ) (xs ys : List ℕ) → i + length xs ≤ j → sets (sets l j ys) i xs ≡ sets (sets l i xs) j ys
stores_swap l i j [] ys h = refl
stores_swap l i j (x ∷ xs) ys h =
    ap (λ (t : List ℕ). sets t (suc i) xs) (store_swap l i j x ys (omega arith)) ∙ stores_swap (set l i x) (suc i) j xs ys (omega arith)

-- instructions for which a place was left before others are written when those stand
pub wrote_before : {s t u : List ℕ} {i j k m : ℕ} {xs ys : List Instruction} → j ≡ i + length xs → Wrote s j ys t k → Wrote t i xs u m
    → Wrote s i (xs ++ ys) u k
wrote_before {s} {t} {u} {i} {j} {k} {m} {xs} {ys} e after before =
    let there : instruction_size * j ≡ instruction_size * i + length (encode_all xs) = omega (arith, e, row_length xs) in
    record {
      next = omega (arith, e, after.next, length-append xs ys);
      stored =
          before.stored
          ∙ rw (after.stored, there, all_append xs ys)
          (stores_swap s (instruction_size * i) (instruction_size * i + length (encode_all xs)) (encode_all xs) (encode_all ys) (omega arith)
          ∙ sym (sets_append s (instruction_size * i) (encode_all xs) (encode_all ys)));
    }

-- one instruction, by its parts

abbrev stores : List ℕ → ℕ → Parts → List ℕ
stores s at p =
    let head = set (set s at p.operation) (at + 1) p.detail in
    let operand = set (set head (at + 2) (p.operand / 256 % 256)) (at + 3) (p.operand % 256) in
    sets operand (at + 4) (big_endian 16 p.constant)

parts_stored : (s : List ℕ) (at : ℕ) (p : Parts) →
    stores s at p ≡ sets s at (p.operation ∷ p.detail ∷ (big_endian 2 p.operand ++ big_endian 16 p.constant))
parts_stored s at p =
    let low : p.operand / 256 ^ 0 % 256 ≡ p.operand % 256 = omega arith in
    let a1 : at + 1 ≡ suc at = omega arith in
    let a2 : at + 2 ≡ suc (suc at) = omega arith in
    let a3 : at + 3 ≡ suc (suc (suc at)) = omega arith in
    let a4 : at + 4 ≡ suc (suc (suc (suc at))) = omega arith in
    rw (low, a1, a2, a3, a4)

pub wrote_one : (s : List ℕ) (i : ℕ) (p : Parts) (x : Instruction) → p ≡ parts_of x → Wrote s i (x ∷ []) (stores s (instruction_size * i) p) (i + 1)
wrote_one s i p x e =
    record {
      next = refl;
      stored =
          parts_stored s (instruction_size * i) p
          ∙ ap
          (λ (q : Parts). sets s (instruction_size * i) (q.operation ∷ q.detail ∷ (big_endian 2 q.operand ++ big_endian 16 q.constant)))
          e;
    }
