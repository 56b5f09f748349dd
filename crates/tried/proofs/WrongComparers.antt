-- Each wrong comparison fails at a short text with the marked keys: `true` against the blocks of `false`, and against its own;
-- `v == 1; v == 1 && true` against those of `v == 1 && true; v == 1`, which begin like its other part; `v == 1; true` against
-- `v == 1; v == 1`; `true; false; true` against `true; (false; true)`.
use Prim.Native.Nat.{ℕ}
use Prim.Native.String as S
use mathlib.Core.Path.{◌≡◌, refl, sym, ap, ◌∙◌}
use mathlib.Core.Bool.{Bool, true, false, not, true≢false}
use mathlib.Core.List.Memᴰ
use mathlib.Core.List.{List, [], ◌∷◌}
use lib.ListN.{length}
use Rattle.paper.specs.Answers.{Answer, ok, refused}
use Rattle.paper.specs.Tokens.{bytes, plain, sequel, equal}
use Rattle.paper.specs.Grammar.{Tree, truth, number, key, joined, compared}
use Rattle.paper.specs.Blocks.{blocks_of}
use Rattle.paper.specs.Loading.{loaded}
use Rattle.paper.specs.Translating.{code_of}
use Rattle.paper.specs.Calls.{Restriction, restriction}
use Rattle.tried.specs.MarkedJudgements.{the_keys}
use Rattle.paper.specs.Parts.{parts}
use Rattle.paper.specs.PartsDecide.{alone, then}
use Rattle.paper.specs.Comparing.{compare_answer, agreement_says, agreement}
use Rattle.paper.specs.ComparedRight.{Comparable}
use Rattle.paper.specs.Promised.{Bytes}
use Rattle.tried.specs.WrongComparers.{Comparer, ComparesAllRight, AlwaysAgrees, AlwaysDiffers, fits_on, MatchesFromFront, UsesTwice, single, joint, IgnoresShape, WrongComparersFail}
use Rattle.paper.proofs.Stages.{ok_same}
use Rattle.paper.proofs.ByteLists.{all_bytes, all_bytes_lem, blocks_bytes}
use Rattle.paper.proofs.DemandTwo.{right_compared}
use Rattle.tried.proofs.WrongCheckers.{keys_bytes}

-- the blocks of another text

abbrev blocks_in : Answer Restriction → List ℕ
blocks_in (ok r) = blocks_of (length r.keys) (code_of r.keys r.root)
blocks_in (refused n i at) = []

abbrev blocks_for : S.String → List ℕ
blocks_for other = blocks_in (restriction (bytes other) the_keys)

lent : (r : Answer Restriction) → Bytes (blocks_in r)
lent (ok r) = blocks_bytes (length r.keys) (code_of r.keys r.root)
lent (refused n i at) = tt

not_both : (b : Bool) → agreement b ≡ agreement (not b) → ⊥
not_both true e = true≢false (ok_same true false (ap agreement_says e))
not_both false e = true≢false (ok_same true false (sym (ap agreement_says e)))

-- a text and the blocks of another: what is right
module _ (text other : S.String) (b : Bool) where
  record Tried : Type 0 where
    small : all_bytes (bytes text) ≡ true
    right : compare_answer (bytes text) the_keys (blocks_for other) ≡ ok b

  -- a comparison that says the opposite is wrong
  fails : (x : Comparer) → ComparesAllRight x → Tried
      → (Bytes (bytes text) → Bytes (blocks_for other) → x (bytes text) the_keys (blocks_for other) ≡ agreement (not b)) → ⊥
  fails x all t says =
      let s = bytes text in
      let blocks = blocks_for other in
      let bt = all_bytes_lem s t.small in
      let bs = lent (restriction (bytes other) the_keys) in
      let rightly = right_compared s the_keys blocks bs (x s the_keys blocks) (all s the_keys blocks bt keys_bytes bs) b t.right in
      not_both b (sym rightly ∙ says bt bs)

agreeing_fails : (x : Comparer) → AlwaysAgrees x → ¬ ComparesAllRight x
unfolding restriction parts loaded code_of blocks_of compare_answer
agreeing_fails x says all =
    let c : Comparable (bytes "true") the_keys (blocks_for "false") =
    record { rule = _; passes = refl; ps = _; divided = refl; count = _; loads = refl } in
    fails "true" "false" false x all (record { small = refl; right = refl }) (λ bt bs. says _ _ _ bt keys_bytes bs c)

differing_fails : (x : Comparer) → AlwaysDiffers x → ¬ ComparesAllRight x
unfolding restriction parts loaded code_of blocks_of compare_answer
differing_fails x says all =
    let c : Comparable (bytes "true") the_keys (blocks_for "true") =
    record { rule = _; passes = refl; ps = _; divided = refl; count = _; loads = refl } in
    fails "true" "true" true x all (record { small = refl; right = refl }) (λ bt bs. says _ _ _ bt keys_bytes bs c)

from_front_fails : (x : Comparer) → MatchesFromFront x → ¬ ComparesAllRight x
unfolding restriction parts loaded code_of blocks_of compare_answer fits_on
from_front_fails x says all =
    let c : Comparable (bytes "v == 1; v == 1 && true") the_keys (blocks_for "v == 1 && true; v == 1") =
    record { rule = _; passes = refl; ps = _; divided = refl; count = _; loads = refl } in
    fails "v == 1; v == 1 && true" "v == 1 && true; v == 1" true x all (record { small = refl; right = refl })
    (λ bt bs. says _ _ _ bt keys_bytes bs c)

twice_fails : (x : Comparer) → UsesTwice x → ¬ ComparesAllRight x
unfolding restriction parts loaded code_of blocks_of compare_answer
twice_fails x says all =
    let c : Comparable (bytes "v == 1; true") the_keys (blocks_for "v == 1; v == 1") =
    record { rule = _; passes = refl; ps = _; divided = refl; count = _; loads = refl } in
    let v : Tree = compared 2 equal (key 0 (bytes "v")) (number 5 (plain 1)) in
    fails "v == 1; true" "v == 1; v == 1" false x all (record { small = refl; right = refl })
    (λ bt bs.
    says _ _ _ bt keys_bytes bs c
    (record {
      order = v ∷ v ∷ [];
      many = refl;
      among = (Memᴰ.head refl, (Memᴰ.head refl, tt));
      root = joined 0 sequel v v;
      joined = then (alone v) 0 v;
      translated = refl;
    }))

shape_fails : (x : Comparer) → IgnoresShape x → ¬ ComparesAllRight x
unfolding restriction parts loaded code_of blocks_of compare_answer
shape_fails x says all =
    let c : Comparable (bytes "true; false; true") the_keys (blocks_for "true; (false; true)") =
    record { rule = _; passes = refl; ps = _; divided = refl; count = _; loads = refl } in
    let first : Tree = truth 0 true in
    let second : Tree = truth 6 false in
    let third : Tree = truth 13 true in
    fails "true; false; true" "true; (false; true)" false x all (record { small = refl; right = refl })
    (λ bt bs.
    says _ _ _ bt keys_bytes bs c
    (record {
      root = joined 0 sequel first (joined 0 sequel second third);
      joined = joint (single first) 0 (joint (single second) 0 (single third));
      translated = refl;
    }))

pub wrong_comparers_fail : WrongComparersFail
wrong_comparers_fail =
    record { agreeing = agreeing_fails; differing = differing_fails; from_front_lem = from_front_fails; twice = twice_fails; shape = shape_fails }
