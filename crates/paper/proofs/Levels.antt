-- Reading agrees with the grammar, at any number of levels: what is read is a phrase with that tree, and every phrase is read;
-- and what the answers on a whole text say of its tokens.
use Prim.Native.Nat.{ℕ, zero, suc}
use mathlib.Core.Path.{◌≡◌, refl, ap, subst, fun_ext, ◌∙◌}
use mathlib.Core.Bool.{true, false}
use mathlib.Core.Option.{Option}
use mathlib.Core.List.{List, [], ◌∷◌, ◌++◌, append-nil}
use Rattle.paper.specs.Tokens.{plain, Join, sequel, implies, or_else, and_also, Comparison, join, comparison, closing, Token}
use Rattle.paper.specs.Grammar.{Tree, got, stuck, Out, ends, deep, bad, ◌>>>◌, Parser, Make, Reader, once, chain, joins, compares, implication, sequence, prefixes, finished, whole}
use Rattle.paper.specs.Sentences.{sign_at, Operator, Joining, joining, Comparing, comparing, Once, Chain, none_of, first, Operand, a_numeral, Implication, Sequence, Prefixed, Whole, lenient}
use Rattle.paper.proofs.ParserTakes.{of_end, of_next, Kind, exact, deeper, laxer, Family, Says, Tells, stays, bind}
use Rattle.paper.proofs.Ladder.{tells_shrinks, once_tells, chain_tells}
use Rattle.paper.proofs.Atoms.{Readers}
use Rattle.paper.proofs.Operators.{Finds, joins_finds, compares_finds}
use Rattle.paper.proofs.Operands.{lowest_tells, higher_tells}
use Rattle.paper.proofs.Complete.{Complete, Past, once_complete, chain_complete, trailing_takes, AfterAtom, operand_complete}

-- what is said of the tokens that are taken, and that phrases are taken whole where a token of F follows, or none
pub record Reads (p : Parser) (S : Family) (F : Token → Type 0) : Type 0 where
  pub tells : Tells p S
  pub complete : Complete p (S exact) F

module _ {fn : Token → Option Make} {op : Operator} (finds : Finds fn op) {p : Parser} {S : Family} {F : Token → Type 0}
    (between : (u : Token) (make : Make) → op u make → F u) (reads : Reads p S F) where
  once_reads : Reads (once fn p) (λ k. Once op (S k)) (Past F fn)
  once_reads =
      record {
        tells = once_tells fn op finds.said reads.tells;
        complete = once_complete finds between reads.complete;
      }

  chain_reads : Reads (chain false fn p) (λ k. Chain op (S k)) (Past F fn)
  chain_reads =
      record {
        tells = chain_tells fn op finds.said reads.tells false;
        complete = chain_complete finds between reads.complete false (tells_shrinks reads.tells);
      }

joining_is : (P : Token → Type 0) {o : Join} → ((at : ℕ) → P (sign_at at (join o))) → (u : Token) (make : Make)
    → Joining o u make → P u
joining_is P h u make (joining at) = h at

comparing_is : (P : Token → Type 0) → ((at : ℕ) (c : Comparison) → P (sign_at at (comparison c))) → (u : Token) (make : Make)
    → Comparing u make → P u
comparing_is P h u make (comparing at c) = h at c

-- what may follow an implication, and a sequence in parentheses

abbrev AfterImplication : Token → Type 0
AfterImplication = Past (Past (Past (Past AfterAtom compares) (joins and_also)) (joins or_else)) (joins implies)

abbrev AfterSequence : Token → Type 0
AfterSequence = Past AfterImplication (joins sequel)

closing_after : (at : ℕ) → AfterSequence (sign_at at closing)
closing_after at = (((((refl, refl), refl), refl), refl), refl)

module _ {p : Parser} {S : Family} (reads : Reads p S AfterAtom) where
  implication_reads : Reads (implication p) (λ k. Implication (S k)) AfterImplication
  unfolding implication
  implication_reads =
      once_reads (joins_finds implies) (joining_is _ λ at. (((refl, refl), refl), refl))
      (chain_reads (joins_finds or_else) (joining_is _ λ at. ((refl, refl), refl))
      (chain_reads (joins_finds and_also) (joining_is _ λ at. (refl, refl))
      (once_reads compares_finds (comparing_is _ λ at c. refl) reads)))

  before_sequel : (u : Token) (make : Make) → Joining sequel u make → AfterImplication u
  before_sequel = joining_is _ λ at. ((((refl, refl), refl), refl), refl)

  sequence_reads : Reads (sequence false p) (λ k. Sequence (S k)) AfterSequence
  unfolding sequence
  sequence_reads = chain_reads (joins_finds sequel) before_sequel implication_reads

  top_tells : Tells (sequence true p) (λ k. Whole (S k))
  unfolding sequence
  top_tells = chain_tells (joins sequel) (Joining sequel) (joins_finds sequel).said implication_reads.tells true

  top_takes : (t : Tree) (ts : List Token) → Whole (S exact) t ts → sequence true p ts ≡ ends (got t) []
  unfolding sequence
  top_takes =
      trailing_takes (joins_finds sequel) before_sequel implication_reads.complete (tells_shrinks implication_reads.tells)

-- the readers of address strings: a parser's own, and the lenient one
abbrev pub readings : Reader → Kind → Reader
readings read exact = read
readings read deeper = read
readings read laxer = lenient

abbrev levels_of : Kind → ℕ → ℕ
levels_of exact zero = zero
levels_of deeper zero = suc zero
levels_of laxer zero = zero
levels_of k (suc levels) = suc (levels_of k levels)

abbrev Level : Reader → ℕ → Family
Level read levels k = Prefixed (readings read k) (levels_of k levels)

level_exact : (l : ℕ) → levels_of exact l ≡ l
level_exact zero = refl
level_exact (suc l) = ap suc (level_exact l)

level_deeper : (l : ℕ) → levels_of deeper l ≡ suc l
level_deeper zero = refl
level_deeper (suc l) = ap suc (level_deeper l)

level_laxer : (l : ℕ) → levels_of laxer l ≡ l
level_laxer zero = refl
level_laxer (suc l) = ap suc (level_laxer l)

-- a whole text leaves no token

abbrev Emptied : Out → Type 0
Emptied (ends (got t) us) = us ≡ []
Emptied (ends stuck us) = Unit {0}
Emptied (deep at) = Unit {0}
Emptied (bad at) = Unit {0}

then_emptied : (o : Out) → Emptied (o >>> finished)
then_emptied (ends (got t) []) = refl
then_emptied (ends (got t) (u ∷ us)) = tt
then_emptied (ends stuck us) = tt
then_emptied (deep at) = tt
then_emptied (bad at) = tt

module _ (read : Reader) (readers : Readers (readings read)) where
  -- no level is left, but for phrases with one level more
  abbrev inner₀ : Family
  inner₀ exact = λ t ts. ⊥
  inner₀ deeper = Prefixed read zero
  inner₀ laxer = λ t ts. ⊥

  abbrev outer₀ : Family
  outer₀ exact = λ t ts. ⊥
  outer₀ deeper = Sequence (Prefixed read zero)
  outer₀ laxer = λ t ts. ⊥

  into₀ : (k : Kind) (t : Tree) (ts : List Token) → Operand (readings read k) (inner₀ k) (outer₀ k) t ts
      → Level read zero k t ts
  unfolding Prefixed
  into₀ exact t ts h = h
  into₀ deeper t ts h = h
  into₀ laxer t ts h = h

  prefixes_reads : (levels : ℕ) → Reads (prefixes read levels) (Level read levels) AfterAtom
  unfolding prefixes Prefixed
  prefixes_reads zero =
      record {
        tells =
            lowest_tells (readings read) readers inner₀ outer₀ (Level read zero) into₀ (a_numeral 0 (plain 0))
            (first (none_of (first (first (none_of (a_numeral 0 (plain 0)))))));
        complete =
            operand_complete read (λ at us. deep at) (λ at us. deep at) (inner₀ exact) (outer₀ exact) AfterSequence
            (λ at t ts us h. absurd h) (λ at t ts us h. absurd h) closing_after;
      }
  prefixes_reads (suc levels) =
      let below = prefixes_reads levels in
      let inside = sequence_reads below in
      record {
        tells =
            higher_tells (readings read) readers (prefixes read levels) (sequence false (prefixes read levels))
            (Level read levels) (λ k. Sequence (Level read levels k)) (Level read (suc levels)) (λ k t ts h. h)
            below.tells inside.tells;
        complete =
            operand_complete read (λ at. prefixes read levels) (λ at. sequence false (prefixes read levels))
            (Level read levels exact) (Sequence (Level read levels exact)) AfterSequence
            (λ at. below.complete.takes) (λ at. inside.complete.takes) closing_after;
      }

  finished_says : (S : Family) (t : Tree) (vs us : List Token) → ((k : Kind) → S k t vs)
      → Says (finished t) (λ k r ws. S k r (vs ++ ws)) us (finished t us)
  finished_says S t vs [] h = stays (of_end _ refl) (λ k. rw append-nil (h k))
  finished_says S t vs (u ∷ us) h = stays (of_next _ λ ws. refl) (λ k. (t, [], rw append-nil (h k)))

  abbrev Text : ℕ → Family
  Text levels k = Whole (Level read levels k)

  text_tells : (levels : ℕ) → Tells (whole read levels) (Text levels)
  unfolding whole
  text_tells levels =
      record {
        says = λ ts.
            bind (sequence true (prefixes read levels)) finished (Text levels) (Text levels)
            (λ k t vs h. (t, [], rw append-nil h)) ts
            (λ t vs us e h. finished_says (Text levels) t vs us h) ((top_tells (prefixes_reads levels)).says ts);
      }

  text_takes : (levels : ℕ) (t : Tree) (ts : List Token) → Whole (Level read levels exact) t ts
      → whole read levels ts ≡ ends (got t) []
  unfolding whole
  text_takes levels t ts h = rw (top_takes (prefixes_reads levels) t ts h)

  -- with the levels written out
  abbrev pub Limited : ℕ → Family
  Limited levels exact = Whole (Prefixed read levels)
  Limited levels deeper = Whole (Prefixed read (suc levels))
  Limited levels laxer = Whole (Prefixed lenient levels)

  limited : (levels : ℕ) (k : Kind) → Text levels k ≡ Limited levels k
  limited levels exact = rw level_exact
  limited levels deeper = rw level_deeper
  limited levels laxer = rw level_laxer

  whole_tells : (levels : ℕ) → Tells (whole read levels) (Limited levels)
  whole_tells levels = subst (λ (S : Family). Tells (whole read levels) S) (fun_ext (limited levels)) (text_tells levels)

  pub whole_says : (levels : ℕ) (ts : List Token) (o : Out) → whole read levels ts ≡ o
      → Says (whole read levels) (Limited levels) ts o
  whole_says levels ts o e =
      subst (λ (o : Out). Says (whole read levels) (Limited levels) ts o) e ((whole_tells levels).says ts)

  -- every phrase is read, to its tree
  pub phrase_read : (levels : ℕ) (t : Tree) (ts : List Token) → Whole (Prefixed read levels) t ts
      → whole read levels ts ≡ ends (got t) []
  phrase_read levels t ts h = text_takes levels t ts (rw level_exact h)

  -- what is read is a phrase with that tree, and all tokens are read

  whole_emptied : (levels : ℕ) (ts : List Token) → Emptied (whole read levels ts)
  unfolding whole
  whole_emptied levels ts = then_emptied (sequence true (prefixes read levels) ts)

  pub read_phrase : (levels : ℕ) (t : Tree) (ts us : List Token) → whole read levels ts ≡ ends (got t) us
      → Whole (Prefixed read levels) t ts
  read_phrase levels t ts us e =
      let h = whole_says levels ts (ends (got t) us) e in
      let none_left : us ≡ [] = subst (λ (o : Out). Emptied o) e (whole_emptied levels ts) in
      let all-taken : ts ≡ h.taken = h.split ∙ ap (h.taken ++◌) none_left ∙ append-nil h.taken in
      rw all-taken (h.front exact)
