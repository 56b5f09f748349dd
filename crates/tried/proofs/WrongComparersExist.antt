-- The wrong comparisons are real: each goes through the stages of the call, and then by a rule of its own. One tries every part at the end, used or
-- not; another compares the instructions without the joins and their skips.
use Prim.Native.Nat.{ℕ, zero, suc, ◌-◌}
use native.Mathlib.Omega.{arith}
use mathlib.Core.Path.{◌≡◌, refl, sym, ap, ap₂, ◌∙◌}
use mathlib.Core.Bool.{Bool, true, false, cond, ◌||◌}
use mathlib.Core.Option.{Option, none, some}
use mathlib.Core.List.{List, [], ◌∷◌, ◌++◌, map, append_assoc, append-nil, map-append, Memᴰ}
use lib.ListN.{length, length-append, length-map}
use lib.Dec.{eqb}
use Rattle.paper.specs.Answers.{Answer, ok, ◌>>=◌}
use Rattle.paper.specs.Keys.{Key}
use Rattle.paper.specs.Grammar.{Tree}
use Rattle.paper.specs.Meaning.{both}
use Rattle.paper.specs.Code.{Instruction, connects, encode}
use Rattle.paper.specs.Loading.{program, loaded}
use Rattle.paper.specs.Translating.{code_of}
use Rattle.paper.specs.BlocksRoundTrip.{All}
use Rattle.paper.specs.Calls.{restriction}
use Rattle.paper.specs.Parts.{Part, parts}
use Rattle.paper.specs.PartsDecide.{JoinedLeft, alone, then, roots}
use Rattle.paper.specs.Comparing.{records_in, written, same_records, as_joined, before_ending, agreement}
use Rattle.paper.specs.ComparedRight.{Comparable}
use Rattle.paper.specs.Promised.{Bytes}
use Rattle.tried.specs.WrongComparers.{Comparer, Rule, SaysBy, UsesTwice, JoinedSomehow, single, joint, IgnoresShape}
use Rattle.paper.proofs.Basics.{all_parts}
use Rattle.paper.proofs.Promised.{agreement_says_lem, agreement_same, one_agreement}
use Rattle.paper.proofs.PartsTyped.{some_joined}
use Rattle.paper.proofs.Records.{program_written}
use Rattle.paper.proofs.Fitting.{records_same, ending_there, written_joined}
use Rattle.paper.proofs.Compared.{counted}

-- the stages of the call, and then the rule
module _ (rule : Rule) where
  answer_by : List ℕ → List ℕ → List ℕ → Answer Bool
  answer_by text list blocks =
      restriction text list
      >>= λ r. parts text
      >>= λ ps. loaded r.keys blocks
      >>= λ _. ok (rule r.keys ps blocks)

  comparer : Comparer
  comparer text list blocks = (one_agreement (answer_by text list blocks)).result

  says_so : SaysBy rule comparer
  unfolding answer_by comparer
  says_so text list blocks _ _ _ c =
      let said = rule c.rule.keys c.ps blocks in
      let answer : answer_by text list blocks ≡ ok said = rw (c.passes, c.divided, c.loads) in
      let told = (one_agreement (answer_by text list blocks)).satisfies in
      agreement_same (comparer text list blocks) (agreement said) (told ∙ answer ∙ sym (agreement_says_lem said))

  pub comparer_real : (x : Comparer) × SaysBy rule x
  comparer_real = (comparer, says_so)

-- the records of blocks that load and hold a code
records_there : (text list blocks : List ℕ) → Bytes blocks → (c : Comparable text list blocks) (code : List Instruction)
    → program blocks ≡ map some code → records_in blocks ≡ written code
records_there text list blocks s c code e =
    program_written blocks s (counted c.rule.keys blocks c.count c.loads).within code e

-- a part used twice: each of them is tried at the end, used or not

abbrev any_of : {A : Type 0} → (A → Bool) → List A → Bool
any_of p [] = false
any_of p (x ∷ xs) = p x || any_of p xs

any_there : {A : Type 0} (p : A → Bool) {x : A} {xs : List A} → Memᴰ x xs → p x ≡ true → any_of p xs ≡ true
any_there p (Memᴰ.head e) h = rw (← e, h)
any_there p (Memᴰ.tail {x = y} {xs = xs} m) h = go (p y) (any_there p m h)
  where
    go : (b : Bool) → any_of p xs ≡ true → b || any_of p xs ≡ true
    go true g = refl
    go false g = g

abbrev on_before : Option (List (List ℕ)) → (List (List ℕ) → Bool) → Bool
on_before none f = false
on_before (some s) f = f s

module _ (ks : List Key) (ts : List Tree) where
  fits_again : ℕ → List (List ℕ) → Bool
  fits_again zero s = any_of (λ t. same_records (written (code_of ks t)) s) ts
  fits_again (suc n) s = any_of (λ t. on_before (before_ending (written (as_joined (code_of ks t))) s) (fits_again n)) ts

  fits_again_lem : {order : List Tree} {root : Tree} → JoinedLeft order root → (n : ℕ) (s : List (List ℕ)) → length order ≡ suc n
      → All (λ t. Memᴰ t ts) order → s ≡ written (code_of ks root) → fits_again n s ≡ true
  unfolding fits_again
  fits_again_lem (alone t) zero s many among is =
      any_there (λ t. same_records (written (code_of ks t)) s) among.0 (rw is (records_same (written (code_of ks t))))
  fits_again_lem (alone t) (suc n) s many among is = absurd (omega (arith, many))
  fits_again_lem (then {ts = us} {l = l} j at r) zero s many among is =
      absurd (omega (arith, some_joined j, many, length-append us (r ∷ [])))
  fits_again_lem (then {ts = us} {l = l} j at r) (suc n) s many among is =
      let (others, last) = all_parts (λ t. Memᴰ t ts) us (r ∷ []) among in
      let before = written (code_of ks l) in
      let few : length us ≡ suc n = omega (arith, many, length-append us (r ∷ [])) in
      any_there (λ t. on_before (before_ending (written (as_joined (code_of ks t))) s) (fits_again n)) last.0
      (rw (is, written_joined ks at l r, ending_there (written (as_joined (code_of ks r))) before) (fits_again_lem j n before few others refl))

again : Rule
again ks ps blocks = fits_again ks (roots ps) (length ps - 1) (records_in blocks)

pub twice_real : (x : Comparer) × UsesTwice x
unfolding again
twice_real = (comparer again, uses)
  where
    uses : UsesTwice (comparer again)
    uses text list blocks t l s c o =
        let ks = c.rule.keys in
        let ts = roots c.ps in
        let many : length o.order ≡ suc (length c.ps - 1) =
        omega (arith, o.many, some_joined o.joined, length-map c.ps (λ (p : Part). p.root)) in
        let is = records_there text list blocks s c (code_of ks o.root) o.translated in
        let fit = fits_again_lem ks ts o.joined (length c.ps - 1) (records_in blocks) many o.among is in
        says_so again text list blocks t l s c ∙ ap agreement fit

-- any shape: without the joins and their skips, operations 10 and 13

abbrev is_join : List ℕ → Bool
is_join [] = false
is_join (operation ∷ s) = eqb operation 10 || eqb operation 13

loose : List (List ℕ) → List (List ℕ)
loose [] = []
loose (a ∷ s) = cond (is_join a) (loose s) (a ∷ loose s)

loose_append : (r s : List (List ℕ)) → loose (r ++ s) ≡ loose r ++ loose s
unfolding loose
loose_append [] s = refl
loose_append (a ∷ r) s = go (is_join a) (loose_append r s)
  where
    go : (b : Bool) → loose (r ++ s) ≡ loose r ++ loose s
        → cond b (loose (r ++ s)) (a ∷ loose (r ++ s)) ≡ cond b (loose r) (a ∷ loose r) ++ loose s
    go true h = h
    go false h = ap (λ (q : List (List ℕ)). a ∷ q) h

module _ (ks : List Key) where
  in_row : List Tree → List (List ℕ)
  in_row [] = []
  in_row (t ∷ ts) = loose (written (code_of ks t)) ++ in_row ts

  row_append : (ts us : List Tree) → in_row (ts ++ us) ≡ in_row ts ++ in_row us
  unfolding in_row
  row_append [] us = refl
  row_append (t ∷ ts) us =
      let code = loose (written (code_of ks t)) in
      ap (λ (q : List (List ℕ)). code ++ q) (row_append ts us) ∙ sym (append_assoc code (in_row ts) (in_row us))

  -- a part as it is joined
  loose_joined : (code : List Instruction) → loose (written (as_joined code)) ≡ loose (written code)
  unfolding loose
  loose_joined code =
      ap loose (map-append encode code (connects both ∷ []))
      ∙ loose_append (written code) (written (connects both ∷ []))
      ∙ append-nil (loose (written code))

  in_a_row : {ts : List Tree} {root : Tree} → JoinedSomehow ts root → loose (written (code_of ks root)) ≡ in_row ts
  unfolding in_row
  in_a_row (single t) = sym (append-nil (loose (written (code_of ks t))))
  in_a_row (joint {ts = ts} {us = us} {l = l} {r = r} i at j) =
      let part = written (as_joined (code_of ks r)) in
      ap loose (written_joined ks at l r)
      ∙ loose_append (written (code_of ks l)) part
      ∙ ap₂ ◌++◌ (in_a_row i) (loose_joined (code_of ks r) ∙ in_a_row j)
      ∙ sym (row_append ts us)

shapeless : Rule
shapeless ks ps blocks = same_records (loose (records_in blocks)) (in_row ks (roots ps))

pub shape_real : (x : Comparer) × IgnoresShape x
unfolding shapeless
shape_real = (comparer shapeless, ignores)
  where
    ignores : IgnoresShape (comparer shapeless)
    ignores text list blocks t l s c o =
        let ks = c.rule.keys in
        let row : loose (records_in blocks) ≡ in_row ks (roots c.ps) =
        ap loose (records_there text list blocks s c (code_of ks o.root) o.translated) ∙ in_a_row ks o.joined in
        let same : shapeless ks c.ps blocks ≡ true = rw row (records_same (in_row ks (roots c.ps))) in
        says_so shapeless text list blocks t l s c ∙ ap agreement same
