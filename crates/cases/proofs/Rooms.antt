-- Bytes put into a room: none, one, what there is no room for, and one part after another.
use Prim.Native.Nat.{ℕ, zero, suc, ◌+◌, ◌-◌, ◌≤◌, ◌<◌}
use mathlib.Core.Path.{◌≡◌, sym, ap, ap₂, subst, ◌∙◌}
use mathlib.Core.List.{List, [], ◌∷◌, ◌++◌, append_assoc, append-nil}
use native.Mathlib.Nat.{add-zero}
use native.Mathlib.Decide.{dec_lt}
use native.Mathlib.Omega.{arith}
use lib.ListN.{length, take, set, length-take, length-append}
use lib.Seq.{sets, length-sets, take_all, take-nil, take-append-le, take-append-add}
use Rattle.cases.specs.Words.{copies, Put}

sets_more : (l : List ℕ) (i : ℕ) (x y : List ℕ) → sets (sets l i x) (i + length x) y ≡ sets l i (x ++ y)
sets_more l i [] y = ap (λ (j : ℕ). sets l j y) (add-zero i)
sets_more l i (v ∷ x) y =
    let e : i + suc (length x) ≡ suc i + length x = omega arith in
    ap (λ (j : ℕ). sets (sets l i (v ∷ x)) j y) e ∙ sets_more (set l i v) (suc i) x y

-- of two parts, the second as far as the first leaves room
take_both : (n : ℕ) (a b : List ℕ) → take n (a ++ b) ≡ take n a ++ take (n - length a) b
take_both n a b =
    elim (dec_lt n (length a)) [
      | yes h ↦
          let none : n - length a ≡ 0 = omega arith in
          take-append-le n a b (omega arith) ∙ sym (ap (λ (m : ℕ). take n a ++ take m b) none ∙ append-nil (take n a))
      | no h ↦
          let all : n ≡ length a + (n - length a) = omega arith in
          ap (λ (m : ℕ). take m (a ++ b)) all ∙ take-append-add a b (n - length a)
          ∙ ap (λ (x : List ℕ). x ++ take (n - length a) b) (sym (take_all n a (omega arith)))
    ]

pub put_as : {room after : List ℕ} {at end : ℕ} {a b : List ℕ} → a ≡ b → Put room at a after end → Put room at b after end
put_as {room} {after} {at} {end} e h = subst (λ (n : List ℕ). Put room at n after end) e h

pub put_none : (room : List ℕ) (at : ℕ) → Put room at [] room at
put_none room at = record { holds = rw take-nil; next = rw take-nil (sym (add-zero at)) }

pub put_full : (room : List ℕ) (at : ℕ) (new : List ℕ) → length room ≤ at → Put room at new room at
put_full room at new h =
    let none : length room - at ≡ 0 = omega arith in
    record { holds = rw none; next = rw none (sym (add-zero at)) }

one_taken : (n b : ℕ) → take (suc n) (b ∷ []) ≡ b ∷ []
one_taken n b = ap (λ (r : List ℕ). b ∷ r) (take-nil n)

pub put_byte : (room : List ℕ) (at b : ℕ) → at < length room → Put room at (b ∷ []) (set room at b) (at + 1)
put_byte room at b h =
    let some : length room - at ≡ suc (length room - (at + 1)) = omega arith in
    record { holds = rw (some, one_taken); next = sym (ap (λ (l : List ℕ). at + length l) (ap (λ (n : ℕ). take n (b ∷ [])) some ∙ one_taken (length room - (at + 1)) b)) }

pub put_more : {room first last : List ℕ} {at end past : ℕ} {a b : List ℕ} → Put room at a first end → Put first end b last past → Put room at (a ++ b) last past
put_more {room} {first} {last} {at} {end} {past} {a} {b} p q =
    let free = length room - at in
    let x = take free a in
    let y = take (free - length a) b in
    let size : length first ≡ length room = ap length p.holds ∙ length-sets room at x in
    let rest : length first - end ≡ free - length a = omega (arith, length-take free a, p.next) in
    let both : take free (a ++ b) ≡ x ++ y = take_both free a b in
    let long : length (take free (a ++ b)) ≡ length x + length y = ap length both ∙ length-append x y in
    record {
      holds =
          q.holds ∙ ap₂ (λ (l : List ℕ) (j : ℕ). sets l j (take (length first - end) b)) p.holds p.next
          ∙ ap (λ (m : ℕ). sets (sets room at x) (at + length x) (take m b)) rest ∙ sets_more room at x y ∙ ap (sets room at) (sym both);
      next = omega (arith, p.next, q.next, ap (λ (m : ℕ). length (take m b)) rest);
    }

-- copies, one after another

copies_more : (n : ℕ) (w : List ℕ) → copies n w ++ w ≡ copies (suc n) w
copies_more zero w = sym (append-nil w)
copies_more (suc n) w = append_assoc w (copies n w) w ∙ ap (λ (r : List ℕ). w ++ r) (copies_more n w)

pub put_copy : {room first last : List ℕ} {at end past : ℕ} {w : List ℕ} (n : ℕ)
    → Put room at (copies n w) first end → Put first end w last past → Put room at (copies (n + 1) w) last past
put_copy {w} n p q =
    let one : n + 1 ≡ suc n = omega arith in
    rw one (put_as (copies_more n w) (put_more p q))
