-- Lists in some order: whichever of two elements is taken out first, the same is left. So what is taken out of both of two lists, of which the
-- one is the other in some order, leaves two such lists, and so does what is put back into both.
use Prim.Native.Nat.{suc}
use native.Mathlib.Omega.{arith}
use mathlib.Core.Path.{◌≡◌, refl, ap, ap₂, subst}
use mathlib.Core.Logic.{◌⊎◌, inl, inr, ◌↔◌}
use mathlib.Core.List.{List, [], ◌∷◌, ◌++◌, map, head-eq_of_cons-eq, tail-eq_of_cons-eq}
use lib.ListN.{length}
use Rattle.paper.specs.BlocksRoundTrip.{All}
use Rattle.paper.specs.Comparing.{TakenOut, at_head, past, InSomeOrder, all_used, then_use}

module _ {A : Type 0} where
  -- one element

  pub last_taken : (xs : List A) (x : A) → TakenOut x (xs ++ (x ∷ [])) xs
  last_taken [] x = at_head []
  last_taken (y ∷ xs) x = past y (last_taken xs x)

  pub one_fewer : {x : A} {ys rest : List A} → TakenOut x ys rest → length ys ≡ suc (length rest)
  one_fewer (at_head xs) = refl
  one_fewer (past y p) = ap suc (one_fewer p)

  pub all_but : {x : A} {ys rest : List A} (P : A → Type 0) → TakenOut x ys rest → All P ys → P x × All P rest
  all_but P (at_head xs) all = all
  all_but P (past y p) all = let (here, others) = all_but P p all.1 in (here, (all.0, others))

  pub all_with : {x : A} {ys rest : List A} (P : A → Type 0) → TakenOut x ys rest → P x → All P rest → All P ys
  all_with P (at_head xs) here others = (here, others)
  all_with P (past y p) here others = (others.0, all_with P p here others.1)

  -- two, one after the other
  swapped : {x y : A} {xs ys zs : List A} → TakenOut x xs ys → TakenOut y ys zs → (ws : List A) × TakenOut y xs ws × TakenOut x ws zs
  swapped {x} {zs = zs} (at_head ys) q = (x ∷ zs, past x q, at_head zs)
  swapped (past {xs = xs} y p) (at_head ys) = (xs, at_head xs, p)
  swapped (past z p) (past y q) = let (ws, first, second) = swapped p q in (z ∷ ws, past z first, past z second)

  -- two of one list: they are one, or each can be taken out after the other

  abbrev Apart : A → A → List A → List A → Type 0
  Apart x y ys zs = ((x ≡ y) × (ys ≡ zs)) ⊎ ((ws : List A) × TakenOut y ys ws × TakenOut x zs ws)

  behind : {x y : A} {ys zs : List A} (z : A) → Apart x y ys zs → Apart x y (z ∷ ys) (z ∷ zs)
  behind z (inl (e, f)) = inl (e, ap (λ (l : List A). z ∷ l) f)
  behind z (inr (ws, p, q)) = inr (z ∷ ws, past z p, past z q)

  apart : {x y : A} {xs ys zs : List A} → TakenOut x xs ys → TakenOut y xs zs → Apart x y ys zs
  apart (at_head xs) (at_head ys) = inl (refl, refl)
  apart (at_head xs) (past {rest = rest} x q) = inr (rest, q, at_head rest)
  apart (past {rest = rest} y p) (at_head xs) = inr (rest, at_head rest, p)
  apart (past z p) (past y q) = behind z (apart p q)

  -- all of them

  pub as_it_stands : (xs : List A) → InSomeOrder xs xs
  as_it_stands [] = all_used
  as_it_stands (x ∷ xs) = then_use x (at_head xs) (as_it_stands xs)

  pub as_many : {xs ys : List A} → InSomeOrder xs ys → length xs ≡ length ys
  as_many all_used = refl
  as_many (then_use x p o) = omega (arith, as_many o, one_fewer p)

  pub all_kept : {xs ys : List A} (P : A → Type 0) → InSomeOrder xs ys → All P xs ↔ All P ys
  all_kept P all_used = (λ all. all, λ all. all)
  all_kept P (then_use x p o) =
      let (there, back) = all_kept P o in
      (λ all. all_with P p all.0 (there all.1), λ all. let (here, others) = all_but P p all in (here, back others))

  -- one put back into both
  pub put_back : {x : A} {xs ys xs' ys' : List A} → TakenOut x xs xs' → TakenOut x ys ys' → InSomeOrder xs' ys' → InSomeOrder xs ys
  put_back {x} (at_head xs) q o = then_use x q o
  put_back (past y p) q (then_use z r o) = let (ws, first, second) = swapped q r in then_use y first (put_back p second o)

  -- what is taken out of the one can be taken out of the other

  pub taken_right : {x : A} {xs ys xs' : List A} → TakenOut x xs xs' → InSomeOrder xs ys → (ys' : List A) × TakenOut x ys ys' × InSomeOrder xs' ys'
  taken_right (at_head xs) (then_use {rest = rest} x p o) = (rest, p, o)
  taken_right (past y q) (then_use z p o) =
      let (rest, taken, others) = taken_right q o in
      let (ws, first, second) = swapped p taken in
      (ws, first, then_use y second others)

  taken_left : {x : A} {xs ys ys' : List A} → InSomeOrder xs ys → TakenOut x ys ys' → (xs' : List A) × TakenOut x xs xs' × InSomeOrder xs' ys'
  taken_left all_used q = elim q [ ]
  taken_left {x} {ys' = ys'} (then_use {xs = xs} {rest = rest} y p o) q = go (apart p q) (λ ws r. taken_left o r)
    where
      go : Apart y x rest ys' → ((ws : List A) → TakenOut x rest ws → (xs' : List A) × TakenOut x xs xs' × InSomeOrder xs' ws)
          → (xs' : List A) × TakenOut x (y ∷ xs) xs' × InSomeOrder xs' ys'
      go (inl (e, f)) later = (xs, subst (λ (z : A). TakenOut z (y ∷ xs) xs) e (at_head xs), subst (InSomeOrder xs) f o)
      go (inr (ws, first, second)) later =
          let (others, taken, left) = later ws first in
          (y ∷ others, past y taken, then_use y second left)

  -- and it does not matter which of its like
  pub taken_both : {x : A} {xs ys xs' ys' : List A} → TakenOut x xs xs' → TakenOut x ys ys' → InSomeOrder xs ys → InSomeOrder xs' ys'
  taken_both {x} {xs' = xs'} {ys' = ys'} p q o =
      let (rest, taken, left) = taken_right p o in
      go rest left (apart taken q)
    where
      go : (rest : List A) → InSomeOrder xs' rest → Apart x x rest ys' → InSomeOrder xs' ys'
      go rest left (inl (e, f)) = subst (InSomeOrder xs') f left
      go rest left (inr (ws, first, second)) = let (others, there, less) = taken_left left first in put_back there second less

  -- a list of one
  pub one_used : {x : A} {ys : List A} → InSomeOrder (x ∷ []) ys → ys ≡ x ∷ []
  one_used (then_use x p all_used) = alone p refl
    where
      alone : {ys rest : List A} → TakenOut x ys rest → rest ≡ [] → ys ≡ x ∷ []
      alone (at_head xs) e = ap (λ (l : List A). x ∷ l) e
      alone (past {rest = rest} y q) e = absurd (omega (arith, ap length e))

-- of images

module _ {A B : Type 0} (f : A → B) where
  taken_image : {x : A} {ys rest : List A} → TakenOut x ys rest → TakenOut (f x) (map f ys) (map f rest)
  taken_image (at_head xs) = at_head (map f xs)
  taken_image (past y p) = past (f y) (taken_image p)

  pub order_image : {xs ys : List A} → InSomeOrder xs ys → InSomeOrder (map f xs) (map f ys)
  order_image all_used = all_used
  order_image (then_use x p o) = then_use (f x) (taken_image p) (order_image o)

  -- an image that is taken out is that of an element
  pub record Taken (ys : List A) (b : B) (rest : List B) : Type 0 where
    pub one : A
    pub others : List A
    pub out : TakenOut one ys others
    pub is : f one ≡ b
    pub are : map f others ≡ rest

  taken_of : {b : B} {bs rest : List B} → TakenOut b bs rest → (ys : List A) → map f ys ≡ bs → Taken ys b rest
  taken_of (at_head bs) [] e = absurd (omega (arith, ap length e))
  taken_of (at_head bs) (y ∷ ys) e =
      record { one = y; others = ys; out = at_head ys; is = head-eq_of_cons-eq e; are = tail-eq_of_cons-eq e }
  taken_of (past b p) [] e = absurd (omega (arith, ap length e))
  taken_of (past b p) (y ∷ ys) e =
      let t = taken_of p ys (tail-eq_of_cons-eq e) in
      record { one = t.one; others = y ∷ t.others; out = past y t.out; is = t.is; are = ap₂ ◌∷◌ (head-eq_of_cons-eq e) t.are }

  pub image_taken : {b : B} {rest : List B} (ys : List A) → TakenOut b (map f ys) rest → Taken ys b rest
  image_taken ys p = taken_of p ys refl
