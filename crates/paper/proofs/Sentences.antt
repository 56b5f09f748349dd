-- Sentences, level limit and contents of address strings aside: none continues where the reading is stuck, and none has two
-- trees. Nor does one of as many levels continue where a level too many opens, or one with good strings at a bad string.
use Prim.Native.Nat.{ℕ, ◌+◌, ◌≤◌}
use mathlib.Core.Path.{◌≡◌, refl, sym, subst, ◌∙◌}
use mathlib.Core.Option.{Option, none, some}
use mathlib.Core.List.{List, [], ◌∷◌, ◌++◌, append_assoc}
use native.Mathlib.Omega.{arith}
use Rattle.paper.specs.Tokens.{bytes, Token}
use Rattle.paper.specs.Addresses.{Scheme, ipv4, ipv6, mac, address}
use Rattle.paper.specs.Grammar.{Tree, End, got, stuck, Out, ends, deep, bad, Reader, whole, most_levels}
use Rattle.paper.specs.Sentences.{Prefixed, Whole, or_zero, lenient, Sentence, WellSpelled, Continues, StuckIsFirstBad, ValidIsSentence, OneTree}
use Rattle.paper.proofs.ParserTakes.{same_next, Kind, exact, deeper, laxer}
use Rattle.paper.proofs.Atoms.{Readers}
use Rattle.paper.proofs.Complete.{got_not_stuck}
use Rattle.paper.proofs.Levels.{readings, whole_says, phrase_read, read_phrase}
use Rattle.paper.proofs.Laxer.{Keeps, whole_keeps}

-- both readers read some string of each scheme, and the lenient one reads all

lenient_keeps : (s : Scheme) (q : List ℕ) (n : ℕ) → address s q ≡ some n → lenient s q ≡ some n
unfolding lenient
lenient_keeps s q n h = rw h

lenient_any : (s : Scheme) (q : List ℕ) → (n : ℕ) × (lenient s q ≡ some n)
unfolding lenient
lenient_any s q = go (address s q)
  where
    go : (o : Option ℕ) → (n : ℕ) × (or_zero o ≡ some n)
    go none = (0, refl)
    go (some n) = (n, refl)

good_string : (s : Scheme) → (q : List ℕ) × (address s q ≡ some 0)
unfolding address
good_string ipv4 = (bytes "0.0.0.0", refl)
good_string ipv6 = (bytes "::", refl)
good_string mac = (bytes "00:00:00:00:00:00", refl)

pub address_readers : Readers (readings address)
address_readers =
    record {
      good = λ s. ((good_string s).0, 0, all s (good_string s).0 0 (good_string s).1);
      kept = all;
      any = lenient_any;
    }
  where
    all : (s : Scheme) (q : List ℕ) (n : ℕ) → address s q ≡ some n → (k : Kind) → readings address k s q ≡ some n
    all s q n h exact = h
    all s q n h deeper = h
    all s q n h laxer = lenient_keeps s q n h

pub lenient_readers : Readers (readings lenient)
lenient_readers =
    record {
      good = λ s. ((good_string s).0, 0, all s (good_string s).0 0 (lenient_keeps s _ 0 (good_string s).1));
      kept = all;
      any = lenient_any;
    }
  where
    all : (s : Scheme) (q : List ℕ) (n : ℕ) → lenient s q ≡ some n → (k : Kind) → readings lenient k s q ≡ some n
    all s q n h exact = h
    all s q n h deeper = h
    all s q n h laxer = h

-- which answers last: trees and stuck ones with more levels and the lenient reader, too deep ones with the lenient reader,
-- those at a bad string with more levels

lasts_strict : (l m : ℕ) → l ≤ m → (ts : List Token) (e : End) (us : List Token)
    → whole address l ts ≡ ends e us → whole lenient m ts ≡ ends e us
lasts_strict l m h ts e us is =
    subst (λ (o : Out). Keeps ⊥ ⊥ o (whole lenient m ts)) is
    (whole_keeps ⊥ ⊥ address lenient lenient_keeps (λ c. absurd c) l m h (λ c. absurd c) ts)

lasts_deep : (l : ℕ) (ts : List Token) (at : ℕ) → whole address l ts ≡ deep at → whole lenient l ts ≡ deep at
lasts_deep l ts at is =
    subst (λ (o : Out). Keeps (Unit {0}) ⊥ o (whole lenient l ts)) is
    (whole_keeps (Unit {0}) ⊥ address lenient lenient_keeps (λ c. absurd c) l l (omega arith) (λ _. refl) ts) tt

module _ (read : Reader) (l m : ℕ) (h : l ≤ m) (ts : List Token) where
  levels_keep : Keeps ⊥ (Unit {0}) (whole read l ts) (whole read m ts)
  levels_keep = whole_keeps ⊥ (Unit {0}) read read (λ s q n e. e) (λ _ s q e. e) l m h (λ c. absurd c) ts

  lasts : (e : End) (us : List Token) → whole read l ts ≡ ends e us → whole read m ts ≡ ends e us
  lasts e us is = subst (λ (o : Out). Keeps ⊥ (Unit {0}) o (whole read m ts)) is levels_keep

  lasts_bad : (at : ℕ) → whole read l ts ≡ bad at → whole read m ts ≡ bad at
  lasts_bad at is = subst (λ (o : Out). Keeps ⊥ (Unit {0}) o (whole read m ts)) is levels_keep tt

-- at any number of levels, no sentence continues where the parser is stuck

pub not_both : (l : ℕ) (ts us : List Token) (t : Tree) → whole address l ts ≡ ends stuck us → ¬ Sentence t ts
not_both l ts us t e (m, h) =
    got_not_stuck
    (sym (lasts lenient m (l + m) (omega arith) ts (got t) [] (phrase_read lenient lenient_readers m t ts h))
    ∙ lasts_strict l (l + m) (omega arith) ts stuck us e)

pub no_further : (l : ℕ) (taken : List Token) (u : Token)
    → ((us : List Token) → whole address l (taken ++ (u ∷ us)) ≡ ends stuck (u ∷ us)) → ¬ Continues Sentence (taken ++ (u ∷ []))
no_further l taken u h (t, rest, s) = not_both l (taken ++ (u ∷ rest)) (u ∷ rest) t (h rest) (rw append_assoc at s)

pub stuck_is_first_bad : StuckIsFirstBad
stuck_is_first_bad l ts us e =
    let h = whole_says address address_readers l ts (ends stuck us) e in
    let (t, rest, s) = h.front laxer in
    record {
      taken = h.taken;
      split = h.split;
      before = (t, rest, (l, s));
      after = λ u vs next. no_further l h.taken u (λ ws. h.local (u ∷ ws) (rw next same_next));
      short = λ none t. not_both l ts us t e;
    }

pub deep_further : (l : ℕ) (taken : List Token) (u : Token) (at : ℕ)
    → ((us : List Token) → whole address l (taken ++ (u ∷ us)) ≡ deep at)
    → ¬ Continues (Whole (Prefixed lenient l)) (taken ++ (u ∷ []))
deep_further l taken u at h (t, rest, b) =
    let is-deep = lasts_deep l (taken ++ (u ∷ rest)) at (h rest) in
    let is-got = phrase_read lenient lenient_readers l t (taken ++ (u ∷ rest)) (rw append_assoc at b) in
    let z : ◌≡◌ {A = ℕ} 0 1 = cc (is-deep, is-got) in
    omega arith

pub bad_further : (l : ℕ) (taken : List Token) (u : Token) (at : ℕ)
    → ((us : List Token) → whole address l (taken ++ (u ∷ us)) ≡ bad at) → ¬ Continues WellSpelled (taken ++ (u ∷ []))
bad_further l taken u at h (t, rest, (m, s)) =
    let ts = taken ++ (u ∷ rest) in
    let is-bad = lasts_bad address l (l + m) (omega arith) ts at (h rest) in
    let is-phrase = phrase_read address address_readers m t ts (rw append_assoc at s) in
    let is-got = lasts address m (l + m) (omega arith) ts (got t) [] is-phrase in
    let z : ◌≡◌ {A = ℕ} 0 1 = cc (is-bad, is-got) in
    omega arith

-- good address strings are read alike
pub strict_lenient : (l : ℕ) (t : Tree) (ts : List Token) → Whole (Prefixed address l) t ts → Whole (Prefixed lenient l) t ts
strict_lenient l t ts h =
    read_phrase lenient lenient_readers l t ts []
    (lasts_strict l l (omega arith) ts (got t) [] (phrase_read address address_readers l t ts h))

pub valid_is_sentence : ValidIsSentence
valid_is_sentence t ts h = (most_levels, strict_lenient most_levels t ts h)

pub one_tree : OneTree
one_tree t r ts (l, h) (m, g) =
    cc (
      lasts lenient l (l + m) (omega arith) ts (got t) [] (phrase_read lenient lenient_readers l t ts h),
      lasts lenient m (l + m) (omega arith) ts (got r) [] (phrase_read lenient lenient_readers m r ts g),
    )
