-- The truth of a tree, from those of its operands; and a tree that has the right types is worth a truth, so that what is told of it is what
-- the paper says.
use Prim.Native.Nat.{ℕ}
use mathlib.Core.Path.{◌≡◌, refl, sym, ◌∙◌, ap, subst}
use mathlib.Core.Bool.{Bool, true, false, not, cond}
use mathlib.Core.Option.{Option, none, some}
use mathlib.Core.List.{List}
use Rattle.paper.specs.Answers.{ok}
use Rattle.paper.specs.Tokens.{not_sign, minus_sign}
use Rattle.paper.specs.Keys.{Kind}
use Rattle.paper.specs.Entry.{Match, is_exact}
use Rattle.paper.specs.Grammar.{Tree}
use Rattle.paper.specs.Types.{when, and_then, typed}
use Rattle.paper.specs.Meaning.{Value, truth, whole, matched, value_of, is_true, prefix_value, Connective, both, either, if_then, connect, join_value}
use Rattle.paper.proofs.TypeSoundness.{judged}
use Rattle.keys.specs.Says.{keys_in}
use Rattle.keys.proofs.Conforming.{matches_length}
use Rattle.values.specs.Held.{Is}
use Rattle.operands.specs.Conforming.{entry_in}
use Rattle.judging.specs.Truths.{IsTruth, settles, settled}

-- what is read off a value that is right
pub of_value : (o : Option Value) (v : Value) (b : Bool) → Is o v → b ≡ is_true (some v) → IsTruth o b
of_value none v b i e = tt
of_value (some (truth a)) v b i e = e ∙ ap (λ (x : Value). is_true (some x)) i
of_value (some (whole z)) v b i e = tt
of_value (some (matched k w m)) v b i e = tt

-- "!" turns a truth

pub turned : (o : Option Value) (b : Bool) → IsTruth o b → IsTruth (and_then o (prefix_value not_sign)) (not b)
turned none b h = tt
turned (some (truth a)) b h = ap not h
turned (some (whole z)) b h = tt
turned (some (matched k w m)) b h = tt

-- "-" makes none, so any bool is right

kept_match : (t : Bool) (k : Kind) (w : ℕ) (m : Match) (b : Bool) → IsTruth (when t (matched k w m)) b
kept_match true k w m b = tt
kept_match false k w m b = tt

pub no_truth : (o : Option Value) (b : Bool) → IsTruth (and_then o (prefix_value minus_sign)) b
no_truth none b = tt
no_truth (some (truth a)) b = tt
no_truth (some (whole z)) b = tt
no_truth (some (matched k w m)) b = kept_match (is_exact k) k w _ b

-- joins

-- a bool that is the connective's, whatever truth the right operand is worth
joined : (c : Connective) (o p : Option Value) (a r : Bool) → IsTruth o a → ((b : Bool) → p ≡ some (truth b) → r ≡ connect c a b)
    → IsTruth (and_then o (λ x. and_then p (join_value c x))) r
joined c none p a r h k = tt
joined c (some (truth x)) none a r h k = tt
joined c (some (truth x)) (some (truth y)) a r h k = k y refl ∙ ap (λ (z : Bool). connect c z y) h
joined c (some (truth x)) (some (whole z)) a r h k = tt
joined c (some (truth x)) (some (matched l w m)) a r h k = tt
joined c (some (whole z)) none a r h k = tt
joined c (some (whole z)) (some y) a r h k = tt
joined c (some (matched l w m)) none a r h k = tt
joined c (some (matched l w m)) (some y) a r h k = tt

-- a join is worth what its left operand settles, or else the right one
settling : (c : Connective) (a b : Bool) → connect c a b ≡ cond (settles c a) (settled c) b
settling both true b = refl
settling both false b = refl
settling either true b = refl
settling either false b = refl
settling if_then true b = refl
settling if_then false b = refl

pub by_left : (c : Connective) (o p : Option Value) (a : Bool) → IsTruth o a → settles c a ≡ true → IsTruth (and_then o (λ x. and_then p (join_value c x))) (settled c)
by_left c o p a h e = joined c o p a (settled c) h (λ b _. sym (settling c a b ∙ ap (λ (t : Bool). cond t (settled c) b) e))

pub by_right : (c : Connective) (o p : Option Value) (a r : Bool) → IsTruth o a → settles c a ≡ false → IsTruth p r
    → IsTruth (and_then o (λ x. and_then p (join_value c x))) r
by_right c o p a r h e k =
    joined c o p a r h (λ b f. subst (λ (q : Option Value). IsTruth q r) f k ∙ sym (settling c a b ∙ ap (λ (t : Bool). cond t (settled c) b) e))

-- a tree that has the right types
pub truth_told : (list entry : List ℕ) (t : Tree) → typed (keys_in list) t ≡ ok tt → (b : Bool) → IsTruth (value_of (keys_in list) (entry_in list entry) t) b
    → b ≡ is_true (value_of (keys_in list) (entry_in list entry) t)
truth_told list entry t right b i =
    let w = judged (keys_in list) (entry_in list entry) (matches_length entry 0 (keys_in list)) t right in
    let h : b ≡ w.0 = subst (λ (o : Option Value). IsTruth o b) w.1 i in
    h ∙ sym (ap is_true w.1)
