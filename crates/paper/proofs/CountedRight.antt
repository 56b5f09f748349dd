-- The numbers of a count. Each whole entry is accepted, violated or refused, and one of these only; a number over two stretches is the sum of
-- the numbers over each; and an entry is violated exactly where some part is false on it, so that no part is false more often than entries are
-- violated, and none is violated where no part is false.
use Prim.Native.Nat.{ℕ, suc, ◌+◌, ◌*◌, ◌≤◌}
use native.Mathlib.Omega.{arith}
use mathlib.Core.Path.{◌≡◌, refl, sym, ap, ap₂, subst, ◌∙◌}
use mathlib.Core.Logic.{◌↔◌}
use mathlib.Core.Bool.{Bool, true, false, true≢false, cond}
use mathlib.Core.List.{List, [], ◌∷◌, ◌++◌, map}
use lib.ListN.{length}
use lib.Dec.{leb}
use borrow.Author.Tests.{leb-true, le-leb}
use Rattle.paper.specs.Answers.{Input, in_entry, Answer, ok, refused, ◌>>=◌}
use Rattle.paper.specs.Keys.{Key}
use Rattle.paper.specs.Entry.{Entry, entry_of}
use Rattle.paper.specs.Grammar.{Tree}
use Rattle.paper.specs.Meaning.{value_of, is_true}
use Rattle.paper.specs.Calls.{Restriction, restriction, judge_answer}
use Rattle.paper.specs.BlocksRoundTrip.{All}
use Rattle.paper.specs.Parts.{Part, parts}
use Rattle.paper.specs.Explained.{holds_on}
use Rattle.paper.specs.Counting.{entry_size, whole_in, entries_in, count_if, judged, is_accepted, is_violated, is_refused, false_of, Counts, counts_of, most_entries, few_entries, counted, totals_of, count_answer, noted, count_numbers}
use Rattle.paper.specs.CountedRight.{TotalsAddUp, sums, ChunksAddUp, NoPartBeyondViolated, NoneViolatedByNone, one, AreJudged, OneIsJudged}
use Rattle.paper.proofs.Stages.{never_ok, ok_same, bind_ok, require_ok}
use Rattle.paper.proofs.TranslationCorrect.{passing}
use Rattle.paper.proofs.PartsDecide.{Holds, parts_decide}
use Rattle.paper.proofs.EntriesLaid.{entries_length, one_entry, cut_both, entries_both}

-- how many of a list pass a test

module _ {A : Type 0} (p : A → Bool) where
  count_cons : (x : A) (xs : List A) → count_if p (x ∷ xs) ≡ one (p x) + count_if p xs
  count_cons x xs = go (p x) (count_if p xs)
    where
      go : (b : Bool) (n : ℕ) → cond b (suc n) n ≡ one b + n
      go true n = omega arith
      go false n = omega arith

  count_append : (xs ys : List A) → count_if p (xs ++ ys) ≡ count_if p xs + count_if p ys
  count_append [] ys = omega arith
  count_append (x ∷ xs) ys =
      let a = count_cons x (xs ++ ys) in
      let b = count_cons x xs in
      let c = count_append xs ys in
      omega (arith, a, b, c)

  count_alone : (x : A) → count_if p (x ∷ []) ≡ one (p x)
  count_alone x = let a = count_cons x [] in omega (arith, a)

one_more_often : (a b : Bool) → (a ≡ true → b ≡ true) → one a ≤ one b
one_more_often true b h = let e = h refl in rw e (omega arith)
one_more_often false b h = omega arith

count_grows : {A : Type 0} (p q : A → Bool) → ((x : A) → p x ≡ true → q x ≡ true) → (xs : List A) → count_if p xs ≤ count_if q xs
count_grows p q h [] = omega arith
count_grows p q h (x ∷ xs) =
    let a = count_cons p x xs in
    let b = count_cons q x xs in
    let c = one_more_often (p x) (q x) (h x) in
    let d = count_grows p q h xs in
    omega (arith, a, b, c, d)

none_here : (b : Bool) → one b ≡ 0 → b ≡ false
none_here true e = absurd (omega (arith, e))
none_here false e = refl

-- each is one of three

one_of_three : (a : Answer Bool) → one (is_accepted a) + one (is_violated a) + one (is_refused a) ≡ 1
one_of_three (ok true) = refl
one_of_three (ok false) = refl
one_of_three (refused n i at) = refl

three_add_up : {A : Type 0} (f : A → Answer Bool) (es : List A)
    → count_if (λ e. is_accepted (f e)) es + count_if (λ e. is_violated (f e)) es + count_if (λ e. is_refused (f e)) es ≡ length es
three_add_up f [] = refl
three_add_up f (e ∷ es) =
    let a = count_cons (λ x. is_accepted (f x)) e es in
    let b = count_cons (λ x. is_violated (f x)) e es in
    let c = count_cons (λ x. is_refused (f x)) e es in
    let d = one_of_three (f e) in
    let h = three_add_up f es in
    omega (arith, a, b, c, d, h)

pub totals_add_up : TotalsAddUp
unfolding counts_of
totals_add_up ks t ps s = three_add_up (judged ks t) (entries_in ks s) ∙ entries_length ks s

-- two stretches

parts_append : (ks : List Key) (es fs : List (List ℕ)) (ps : List Part)
    → map (false_of ks (es ++ fs)) ps ≡ sums (map (false_of ks es) ps) (map (false_of ks fs) ps)
parts_append ks es fs [] = refl
parts_append ks es fs (p ∷ ps) =
    ap₂ (λ (n : ℕ) (ns : List ℕ). n ∷ ns) (count_append (λ e. is_violated (judged ks p.root e)) es fs) (parts_append ks es fs ps)

pub chunks_add_up : ChunksAddUp
unfolding counts_of
chunks_add_up ks t ps first rest whole =
    let split = entries_both ks first rest whole in
    let es = entries_in ks first in
    let fs = entries_in ks rest in
    let added : (p : List ℕ → Bool) → count_if p (entries_in ks (first ++ rest)) ≡ count_if p es + count_if p fs =
    λ p. ap (count_if p) split ∙ count_append p es fs
    in
    let divided : map (false_of ks (entries_in ks (first ++ rest))) ps ≡ sums (map (false_of ks es) ps) (map (false_of ks fs) ps) =
    ap (λ (gs : List (List ℕ)). map (false_of ks gs) ps) split ∙ parts_append ks es fs ps
    in
    λ i.
    record {
      parts = divided i;
      accepted = added (λ e. is_accepted (judged ks t e)) i;
      violated = added (λ e. is_violated (judged ks t e)) i;
      refused = added (λ e. is_refused (judged ks t e)) i;
      cut = cut_both ks first rest whole i;
    }

-- parts

module _ (ks : List Key) where
  abbrev AllHold : List Part → Entry → Type 0
  AllHold ps e = All (λ p. holds_on ks e p ≡ true) ps

  holds_there : (b : Bool) → is_violated (ok b) ≡ false → b ≡ true
  holds_there true h = refl
  holds_there false h = absurd (true≢false h)

  all_hold : (e : Entry) (ps : List Part) → All (λ p. is_violated (ok (holds_on ks e p)) ≡ false) ps → AllHold ps e
  all_hold e [] h = tt
  all_hold e (p ∷ ps) h = (holds_there (holds_on ks e p) h.0, all_hold e ps h.1)

  abbrev NoneIn : List (List ℕ) → List Part → Type 0
  NoneIn es ps = All (λ n. n ≡ 0) (map (false_of ks es) ps)

  -- the first entry, and the others
  none_first : (entry : List ℕ) (es : List (List ℕ)) (ps : List Part) → NoneIn (entry ∷ es) ps
      → All (λ p. is_violated (judged ks p.root entry) ≡ false) ps × NoneIn es ps
  none_first entry es [] h = (tt, tt)
  none_first entry es (p ∷ ps) h =
      let test : List ℕ → Bool = λ e. is_violated (judged ks p.root e) in
      let a = count_cons test entry es in
      let b = h.0 in
      let (here, others) = none_first entry es ps h.1 in
      ((none_here (test entry) (omega (arith, a, b)), here), (omega (arith, a, b), others))

  -- and what they make together

  module _ (root : Tree) where
    abbrev violated_in : List (List ℕ) → ℕ
    violated_in es = count_if (λ e. is_violated (judged ks root e)) es

    -- a tree that holds wherever this one does is false only where this one is

    violated_there : (u : Tree) (x : Answer Entry) → ((e : Entry) → Holds ks e root → Holds ks e u)
        → is_violated (x >>= λ e. ok (is_true (value_of ks e u))) ≡ true → is_violated (x >>= λ e. ok (is_true (value_of ks e root))) ≡ true
    violated_there u (ok e) so h = go (is_true (value_of ks e root)) (is_true (value_of ks e u)) (so e) h
      where
        go : (a b : Bool) → (a ≡ true → b ≡ true) → is_violated (ok b) ≡ true → is_violated (ok a) ≡ true
        go false b so h = refl
        go true true so h = h
        go true false so h = absurd (true≢false (sym (so refl)))
    violated_there u (refused n i at) so h = h

    violated_too : (u : Tree) → ((e : Entry) → Holds ks e root → Holds ks e u) → (entry : List ℕ)
        → is_violated (judged ks u entry) ≡ true → is_violated (judged ks root entry) ≡ true
    unfolding judged
    violated_too u so entry h = violated_there u (entry_of ks entry) so h

    none_beyond : (es : List (List ℕ)) (ps : List Part) → ((e : Entry) → Holds ks e root → AllHold ps e)
        → All (λ n. n ≤ violated_in es) (map (false_of ks es) ps)
    none_beyond es [] so = tt
    none_beyond es (p ∷ ps) so = (
      count_grows (λ e. is_violated (judged ks p.root e)) (λ e. is_violated (judged ks root e)) (violated_too p.root (λ e h. (so e h).0)) es,
      none_beyond es ps (λ e h. (so e h).1),
    )

    -- an entry on which no part is false is not violated

    module _ (ps : List Part) (so : (e : Entry) → AllHold ps e → Holds ks e root) where
      unviolated_there : (x : Answer Entry) → All (λ p. is_violated (x >>= λ e. ok (holds_on ks e p)) ≡ false) ps
          → is_violated (x >>= λ e. ok (is_true (value_of ks e root))) ≡ false
      unviolated_there (ok e) h = ap (λ b. is_violated (ok b)) (so e (all_hold e ps h))
      unviolated_there (refused n i at) h = refl

      unviolated : (entry : List ℕ) → All (λ p. is_violated (judged ks p.root entry) ≡ false) ps
          → is_violated (judged ks root entry) ≡ false
      unfolding judged
      unviolated entry h = unviolated_there (entry_of ks entry) h

      none_violated : (es : List (List ℕ)) → NoneIn es ps → violated_in es ≡ 0
      none_violated [] h = refl
      none_violated (entry ∷ es) h =
          let (here, others) = none_first entry es ps h in
          let a = count_cons (λ e. is_violated (judged ks root e)) entry es in
          let b = ap one (unviolated entry here) in
          let c = none_violated es others in
          omega (arith, a, b, c)

-- what is counted: the text and the list pass, the text has these parts, and the entries are not too many

module _ (text list entries : List ℕ) where
  pub record CountedFrom (c : Counts) : Type 0 where
    pub rule : Restriction
    pub passes : restriction text list ≡ ok rule
    pub ps : List Part
    pub divided : parts text ≡ ok ps
    pub few : whole_in rule.keys entries ≤ most_entries
    pub is : counts_of rule.keys rule.root ps entries ≡ c

  pub counted_from : (c : Counts) → counted text list entries ≡ ok c → CountedFrom c
  unfolding counted
  counted_from c h =
      let last : Restriction → List Part → Unit {0} → Answer Counts = λ r ps _. ok (counts_of r.keys r.root ps entries) in
      let (r, passes, rest) =
      bind_ok (restriction text list) (λ r. parts text >>= λ ps. few_entries r.keys entries >>= last r ps) c h
      in
      let (ps, divided, more) = bind_ok (parts text) (λ ps. few_entries r.keys entries >>= last r ps) c rest in
      let (u, fits, end) = bind_ok (few_entries r.keys entries) (last r ps) c more in
      let whole = whole_in r.keys entries in
      let few = require_ok (leb whole most_entries) 25 in_entry (most_entries * entry_size r.keys) u fits in
      record {
        rule = r;
        passes = passes;
        ps = ps;
        divided = divided;
        few = leb-true whole most_entries few;
        is = ok_same (counts_of r.keys r.root ps entries) c end;
      }

  pub counted_there : (r : Restriction) → restriction text list ≡ ok r → (ps : List Part) → parts text ≡ ok ps
      → whole_in r.keys entries ≤ most_entries → counted text list entries ≡ ok (counts_of r.keys r.root ps entries)
  unfolding counted
  counted_there r passes ps divided few = rw (passes, divided, le-leb (whole_in r.keys entries) most_entries few)

  module _ (r : Restriction) (passes : restriction text list ≡ ok r) (ps : List Part) (divided : parts text ≡ ok ps) where
    abbrev counts : Counts
    counts = counts_of r.keys r.root ps entries

    -- it holds of an entry exactly where each part does
    decides : (e : Entry) → Holds r.keys e r.root ↔ AllHold r.keys ps e
    decides = parts_decide text r.root ps (passing text list r passes).read divided r.keys

    beyond : All (λ n. n ≤ counts.violated) counts.parts
    unfolding counts_of
    beyond = none_beyond r.keys r.root (entries_in r.keys entries) ps (λ e. (decides e).0)

    by_none : All (λ n. n ≡ 0) counts.parts → counts.violated ≡ 0
    unfolding counts_of
    by_none = none_violated r.keys r.root ps (λ e. (decides e).1) (entries_in r.keys entries)

pub no_part_beyond_violated : NoPartBeyondViolated
no_part_beyond_violated text list entries c h =
    let q = counted_from text list entries c h in
    subst (λ (d : Counts). All (λ n. n ≤ d.violated) d.parts) q.is (beyond text list entries q.rule q.passes q.ps q.divided)

all_zero : (most : ℕ) (ns : List ℕ) → most ≡ 0 → All (λ n. n ≤ most) ns → All (λ n. n ≡ 0) ns
all_zero most [] z h = tt
all_zero most (n ∷ ns) z h = (let l = h.0 in omega (arith, l, z), all_zero most ns z h.1)

pub none_violated_by_none : NoneViolatedByNone
none_violated_by_none text list entries c h =
    let q = counted_from text list entries c h in (
      λ z. all_zero c.violated c.parts z (no_part_beyond_violated text list entries c h),
      subst (λ (d : Counts). All (λ n. n ≡ 0) d.parts → d.violated ≡ 0) q.is
          (by_none text list entries q.rule q.passes q.ps q.divided),
    )

-- a refusal of the answer is one of the counts: no number that is lent is changed

refused_before : (numbers : List ℕ) (x : Answer Counts) (n : ℕ) (i : Input) (at : ℕ)
    → (x >>= λ c. ok (totals_of c)) ≡ refused n i at → noted x numbers ≡ numbers
refused_before numbers (ok c) n i at e = absurd (never_ok (sym e))
refused_before numbers (refused m j to) n i at e = refl

pub count_unchanged : (text list entries numbers : List ℕ) (n : ℕ) (i : Input) (at : ℕ)
    → count_answer text list entries ≡ refused n i at → count_numbers text list entries numbers ≡ numbers
unfolding count_answer count_numbers
count_unchanged text list entries numbers n i at e = refused_before numbers (counted text list entries) n i at e

-- one entry

judged_so : (text list entry : List ℕ) (r : Restriction) → restriction text list ≡ ok r
    → judged r.keys r.root entry ≡ judge_answer text list entry
unfolding judged judge_answer
judged_so text list entry r passes = rw passes

alone_judged : (text list entry : List ℕ) (r : Restriction) → restriction text list ≡ ok r → length entry ≡ entry_size r.keys
    → (ps : List Part) → AreJudged text list entry (counts_of r.keys r.root ps entry)
unfolding counts_of
alone_judged text list entry r passes size ps =
    let ks = r.keys in
    let alone : (f : Answer Bool → Bool)
    → count_if (λ e. f (judged ks r.root e)) (entries_in ks entry) ≡ one (f (judge_answer text list entry)) =
    λ f.
    ap (count_if (λ e. f (judged ks r.root e))) (one_entry ks entry size)
    ∙ count_alone (λ e. f (judged ks r.root e)) entry
    ∙ ap (λ (a : Answer Bool). one (f a)) (judged_so text list entry r passes)
    in
    record { accepted = alone is_accepted; violated = alone is_violated; refused = alone is_refused }

pub one_is_judged : OneIsJudged
one_is_judged text list entry r c passes size h =
    let q = counted_from text list entry c h in
    let same : r ≡ q.rule = ok_same r q.rule (sym passes ∙ q.passes) in
    let fits = size ∙ ap (λ (x : Restriction). entry_size x.keys) same in
    subst (AreJudged text list entry) q.is (alone_judged text list entry q.rule q.passes fits q.ps)
