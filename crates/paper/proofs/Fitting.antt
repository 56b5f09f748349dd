-- `fits` finds exactly the translations of parts in some order, joined from the left: what it takes off the end is a part as it is joined, and
-- what ends with a part so is taken off, which is never in doubt.
use Prim.Native.Nat.{ℕ, zero, suc, ◌-◌}
use native.Mathlib.Omega.{arith}
use mathlib.Core.Path.{◌≡◌, refl, sym, ap, ap₂, ◌∙◌}
use mathlib.Core.Bool.{Bool, true, false, ◌&&◌, and-eq-true_iff, false≢true}
use mathlib.Core.Option.{Option, none, some, none-ne-some, some-injective}
use mathlib.Core.List.{List, [], ◌∷◌, ◌++◌, map, map-append}
use lib.ListN.{length, take, drop, length-append, length-map, take-append-drop}
use lib.Seq.{take_at, drop_at}
use lib.Dec.{leb}
use borrow.Author.Tests.{le-leb}
use Rattle.paper.specs.Tokens.{sequel, same_bytes}
use Rattle.paper.specs.Keys.{Key}
use Rattle.paper.specs.Grammar.{Tree, joined}
use Rattle.paper.specs.Types.{when}
use Rattle.paper.specs.Code.{Instruction, encode}
use Rattle.paper.specs.Translating.{code_of}
use Rattle.paper.specs.BlocksRoundTrip.{All}
use Rattle.paper.specs.PartsDecide.{JoinedLeft, alone, then}
use Rattle.paper.specs.Comparing.{TakenOut, at_head, past, InSomeOrder, all_used, then_use, written, same_records, as_joined, before_ending, Picked, nothing, picked, behind, picked_or, pick, on_picked, is_whole, fits}
use Rattle.paper.proofs.Words.{same_bytes_lem, bytes_same}
use Rattle.paper.proofs.Orders.{last_taken, one_fewer, all_but, as_many, put_back, taken_right, taken_both, one_used, image_taken}
use Rattle.paper.proofs.PartsTyped.{some_joined}
use Rattle.paper.proofs.Sole.{Good, sole}

-- the test for equal records is equality

same_records_lem : (r s : List (List ℕ)) → same_records r s ≡ true → r ≡ s
same_records_lem [] [] h = refl
same_records_lem [] (b ∷ s) h = absurd (false≢true h)
same_records_lem (a ∷ r) [] h = absurd (false≢true h)
same_records_lem (a ∷ r) (b ∷ s) h =
    let (first, rest) = (and-eq-true_iff (same_bytes a b) (same_records r s)).0 h in
    ap₂ ◌∷◌ (same_bytes_lem a b first) (same_records_lem r s rest)

pub records_same : (r : List (List ℕ)) → same_records r r ≡ true
records_same [] = refl
records_same (a ∷ r) = rw (bytes_same a) (records_same r)

-- an ending

when_some : {A : Type 0} (b : Bool) (a c : A) → when b a ≡ some c → (b ≡ true) × (a ≡ c)
when_some true a c h = (refl, some-injective a c h)
when_some false a c h = absurd (none-ne-some c h)

ending_off : (ending s r : List (List ℕ)) → before_ending ending s ≡ some r → s ≡ r ++ ending
ending_off ending s r h =
    let n = length s - length ending in
    let (test, front) = when_some (leb (length ending) (length s) && same_records (drop n s) ending) (take n s) r h in
    let ends = ((and-eq-true_iff (leb (length ending) (length s)) (same_records (drop n s) ending)).0 test).1 in
    sym (take-append-drop n s) ∙ ap₂ ◌++◌ front (same_records_lem (drop n s) ending ends)

pub ending_there : (ending r : List (List ℕ)) → before_ending ending (r ++ ending) ≡ some r
ending_there ending r =
    let size = length-append r ending in
    let before : length r ≡ length (r ++ ending) - length ending = omega (arith, size) in
    rw (
      drop_at r ending (length (r ++ ending) - length ending) before,
      take_at r ending (length (r ++ ending) - length ending) before,
      le-leb (length ending) (length (r ++ ending)) (omega (arith, size)),
      records_same ending,
    )

-- what is picked is one of the codes, as it is joined

record PickedOut (cs rest : List (List Instruction)) (s r : List (List ℕ)) : Type 0 where
  code : List Instruction
  out : TakenOut code cs rest
  ends : s ≡ r ++ written (as_joined code)

never_picked : {rest : List (List Instruction)} {r : List (List ℕ)} → nothing ≡ picked rest r → ⊥
never_picked h = let z : ◌≡◌ {A = ℕ} 0 1 = cc in omega arith

picked_out : (cs : List (List Instruction)) (s : List (List ℕ)) (rest : List (List Instruction)) (r : List (List ℕ))
    → pick cs s ≡ picked rest r → PickedOut cs rest s r
picked_out [] s rest r h = absurd (never_picked h)
picked_out (d ∷ ds) s rest r h = go (before_ending (written (as_joined d)) s) refl (pick ds s) h (picked_out ds s)
  where
    go : (o : Option (List (List ℕ))) → before_ending (written (as_joined d)) s ≡ o → (p : Picked) → picked_or o ds (behind d p) ≡ picked rest r
        → ((rest : List (List Instruction)) (r : List (List ℕ)) → p ≡ picked rest r → PickedOut ds rest s r) → PickedOut (d ∷ ds) rest s r
    go (some q) e p h later =
        let here : PickedOut (d ∷ ds) ds s q = record { code = d; out = at_head ds; ends = ending_off (written (as_joined d)) s q e } in
        let left : ds ≡ rest = cc in
        let before : q ≡ r = cc in
        rw (← left, ← before) here
    go none e nothing h later = absurd (never_picked h)
    go none e (picked others q) h later =
        let k = later others q refl in
        let here : PickedOut (d ∷ ds) (d ∷ others) s q = record { code = k.code; out = past d k.out; ends = k.ends } in
        let left : d ∷ others ≡ rest = cc in
        let before : q ≡ r = cc in
        rw (← left, ← before) here

-- and what ends with a code that is there, as it is joined, is picked
record Found (cs : List (List Instruction)) (s : List (List ℕ)) : Type 0 where
  rest : List (List Instruction)
  before : List (List ℕ)
  is : pick cs s ≡ picked rest before

found : {d : List Instruction} {cs rest : List (List Instruction)} (r : List (List ℕ)) → TakenOut d cs rest → Found cs (r ++ written (as_joined d))
found {d} r (at_head ds) = record { rest = ds; before = r; is = rw (ending_there (written (as_joined d)) r) }
found {d} r (past {xs = ds} c p) = go (before_ending (written (as_joined c)) (r ++ written (as_joined d))) refl (found r p)
  where
    go : (o : Option (List (List ℕ))) → before_ending (written (as_joined c)) (r ++ written (as_joined d)) ≡ o → Found ds (r ++ written (as_joined d))
        → Found (c ∷ ds) (r ++ written (as_joined d))
    go (some q) e later = record { rest = ds; before = q; is = rw e }
    go none e later = record { rest = c ∷ later.rest; before = later.before; is = rw (e, later.is) }

-- so one part is all that is left, and of more one is taken off

fits_one : (n : ℕ) (c : List Instruction) (s : List (List ℕ)) → 1 ≡ suc n → s ≡ written c → fits n (c ∷ []) s ≡ true
unfolding fits
fits_one zero c s few is = rw is (records_same (written c))
fits_one (suc n) c s few is = absurd (omega (arith, few))

fits_more : (n : ℕ) (cs rest : List (List Instruction)) (s r : List (List ℕ)) → pick cs s ≡ picked rest r → fits n rest r ≡ true
    → fits (suc n) cs s ≡ true
unfolding fits
fits_more n cs rest s r e h = rw e h

module _ (ks : List Key) where
  -- records that are the translation of trees in some order, joined from the left
  pub record Ordered (ts : List Tree) (s : List (List ℕ)) : Type 0 where
    pub order : List Tree
    pub once : InSomeOrder order ts
    pub root : Tree
    pub joined : JoinedLeft order root
    pub is : s ≡ written (code_of ks root)

  pub written_joined : (at : ℕ) (l r : Tree) → written (code_of ks (joined at sequel l r)) ≡ written (code_of ks l) ++ written (as_joined (code_of ks r))
  unfolding code_of
  written_joined at l r = map-append encode (code_of ks l) (as_joined (code_of ks r))

  only : (ts : List Tree) (s : List (List ℕ)) → is_whole (map (code_of ks) ts) s ≡ true → Ordered ts s
  only [] s h = absurd (false≢true h)
  only (t ∷ []) s h =
      record { order = t ∷ []; once = then_use t (at_head []) all_used; root = t; joined = alone t; is = sym (same_records_lem (written (code_of ks t)) s h) }
  only (t ∷ u ∷ ts) s h = absurd (false≢true h)

  -- one more, at the end
  one_more : (ts : List Tree) (rest : List (List Instruction)) (s r : List (List ℕ)) → PickedOut (map (code_of ks) ts) rest s r
      → ((us : List Tree) → map (code_of ks) us ≡ rest → Ordered us r) → Ordered ts s
  one_more ts rest s r k later =
      let t = image_taken (code_of ks) ts k.out in
      let o = later t.others t.are in
      record {
        order = o.order ++ (t.one ∷ []);
        once = put_back (last_taken o.order t.one) t.out o.once;
        root = joined 0 sequel o.root t.one;
        joined = then o.joined 0 t.one;
        is =
            k.ends
            ∙ ap₂ (λ (x : List (List ℕ)) (c : List Instruction). x ++ written (as_joined c)) o.is (sym t.is)
            ∙ sym (written_joined 0 o.root t.one);
      }

  pub fits_sound : (n : ℕ) (ts : List Tree) (s : List (List ℕ)) → fits n (map (code_of ks) ts) s ≡ true → Ordered ts s
  unfolding fits
  fits_sound zero ts s h = only ts s h
  fits_sound (suc n) ts s h = go (pick (map (code_of ks) ts) s) refl h (fits_sound n)
    where
      go : (p : Picked) → pick (map (code_of ks) ts) s ≡ p → on_picked p (fits n) ≡ true
          → ((us : List Tree) (r : List (List ℕ)) → fits n (map (code_of ks) us) r ≡ true → Ordered us r) → Ordered ts s
      go nothing e h later = absurd (false≢true h)
      go (picked rest r) e h later =
          one_more ts rest s r (picked_out (map (code_of ks) ts) s rest r e)
          (λ us are. later us r (ap (λ (cs : List (List Instruction)). fits n cs r) are ∙ h))

  -- the other way

  pub fits_complete : {order : List Tree} {root : Tree} → JoinedLeft order root → (n : ℕ) (cs : List (List Instruction)) (s : List (List ℕ))
      → length cs ≡ suc n → All (Good ks) cs → InSomeOrder (map (code_of ks) order) cs → s ≡ written (code_of ks root) → fits n cs s ≡ true
  fits_complete (alone t) n cs s many good once is =
      let one : cs ≡ code_of ks t ∷ [] = one_used once in
      rw one (fits_one n (code_of ks t) s (rw one at many) is)
  fits_complete (then {ts = ts} {l = l} j at r) zero cs s many good once is =
      absurd (omega (arith, some_joined j, many, as_many once, length-map (ts ++ (r ∷ [])) (code_of ks), length-append ts (r ∷ [])))
  fits_complete (then {ts = ts} {l = l} j at r) (suc n) cs s many good once is =
      let c = code_of ks r in
      let others = map (code_of ks) ts in
      let before = written (code_of ks l) in
      let used : InSomeOrder (others ++ (c ∷ [])) cs = rw (map-append (code_of ks) ts (r ∷ [])) at once in
      let (_, there, _) = taken_right (last_taken others c) used in
      let ends : s ≡ before ++ written (as_joined c) = is ∙ written_joined at l r in
      let w = found before there in
      let picks : pick cs s ≡ picked w.rest w.before = ap (pick cs) ends ∙ w.is in
      let k = picked_out cs s w.rest w.before picks in
      let (a_part, rest-good) = all_but (Good ks) k.out good in
      let (last, _) = all_but (Good ks) there good in
      let (same, front) = sole ks k.code c w.before before a_part last (sym k.ends ∙ ends) in
      let out : TakenOut c cs w.rest = rw same at k.out in
      fits_more n cs w.rest s w.before picks
      (fits_complete j n w.rest w.before (omega (arith, many, one_fewer out)) rest-good (taken_both (last_taken others c) out used) front)
