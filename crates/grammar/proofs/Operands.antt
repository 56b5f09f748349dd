-- Operands: after a prefix operator, in parentheses, and where neither is the next token.
use Prim.Native.Nat.{ℕ, zero, suc, ◌+◌, ◌-◌, ◌≤◌, ◌<◌}
use Rattle.paper.specs.declared.Refusal.{Refusal}
use Rattle.std.specs.Prelude.{Result, Ok, Err, None}
use mathlib.Core.Path.{◌≡◌, refl, sym, ap, ◌∙◌}
use mathlib.Core.Bool.{false, cond}
use mathlib.Core.Logic.{◌⊎◌, ⊎_elim, inl, inr}
use mathlib.Core.List.{List, ◌∷◌}
use native.Mathlib.Omega.{arith}
use native.Mathlib.Decide.{dec_lt}
use lib.ListN.{length}
use lib.Seq.{sets}
use Rattle.paper.specs.declared.Place.{Place}
use Rattle.paper.specs.Tokens.{Sign, join, comparison, prefix, opening, closing, colons, Prefix, not_sign, minus_sign, Tok, sign, Token}
use Rattle.paper.specs.Addresses.{address}
use Rattle.paper.specs.Grammar as G
use Rattle.paper.specs.Grammar.{Tree, Out, got, stuck, deep, Parser, Reader, ◌>>>◌, closed, is_sign, operand, operand_at, signed, prefixes, sequence}
use Rattle.tokens.specs.Tape.{Tape, kind_at, first_prefix, last_prefix, token_on, sign_no}
use Rattle.grammar.specs.declared.steps.Taken.{Taken}
use Rattle.grammar.specs.Ladder as L
use Rattle.trees.specs.Words.{prefix_no, words, operator_words}
use Rattle.trees.proofs.Stored.{words_length}
use Rattle.grammar.specs.Places.{place_on, onward, past, node_at, prefixed_kind}
use Rattle.grammar.specs.Reading.{Seen, Finds, Took, Meets, Closes, Closed, Unclosed}
use Rattle.grammar.proofs.Tapes.{tokens_here, tokens_none, Stands, by_kind, sign_at}
use Rattle.grammar.proofs.Stores.{sets_on}
use Rattle.grammar.proofs.Outcomes.{Up, refuses, stuck_at}

-- with a level left
levels_left : (l : ℕ) → (l ≡ 0 → ⊥) → L.prefix l ≡ operand address (λ _. L.prefix (l - 1)) (λ _. L.sequence false (l - 1))
unfolding prefixes
levels_left zero h = absurd (h refl)
levels_left (suc l) h = let e : suc l - 1 ≡ l = omega arith in rw e

prefix_of : (k : ℕ) → first_prefix ≤ k → k ≤ last_prefix → (o : Prefix) × (k ≡ sign_no (prefix o))
prefix_of k l h =
    elim (dec_lt k 14) [ yes a ↦ let e : k ≡ 13 = omega arith in (not_sign, e) | no a ↦ let e : k ≡ 14 = omega arith in (minus_sign, e) ]

-- the kind of a prefix operator's node by that of its token
prefixed_no : (o : Prefix) → prefix_no o ≡ prefixed_kind (sign_no (prefix o))
prefixed_no not_sign = refl
prefixed_no minus_sign = refl

pub prefix_no_lem : (o : Prefix) → (first_prefix ≤ sign_no (prefix o)) × (sign_no (prefix o) ≤ last_prefix)
prefix_no_lem not_sign = omega arith
prefix_no_lem minus_sign = omega arith

-- a ")" after a tree

module _ (T : Tape) (n i : ℕ) where
  abbrev kind_there : ℕ
  kind_there = kind_at T.rows i

  close_here : {f f' i' : ℕ} (t : Tree) → Closed T.rows n f i f' i' → closed t (onward T n i) ≡ G.ends (got t) (onward T n i')
  close_here t h = rw (tokens_here T n i h.here, sign_at T i closing h.told, h.next)

  close_not : {k : ℕ} {p : Place} (t : Tree) → Unclosed (length T.text) T.rows n i k p
      → closed t (onward T n i) ≡ G.ends stuck (onward T n i)
  close_not t h =
      elim (dec_lt i n) [
        | yes l ↦
            rw (tokens_here T n i l)
            (by_kind T i (λ t'. follows t' ≡ G.ends stuck (token_on T i ∷ past T n i))
            (λ _. refl) (λ _. refl) (λ _. refl) (go l))
        | no l ↦ rw (tokens_none T n i (omega arith))
      ]
    where
      follows : Tok → Out
      follows t' = cond (is_sign closing t') (G.ends (got t) (past T n i)) (G.ends stuck (token_on T i ∷ past T n i))

      go : i < n → (g : Sign) → Stands kind_there g → follows (sign g) ≡ G.ends stuck (token_on T i ∷ past T n i)
      go l (join j) e = refl
      go l (comparison c) e = refl
      go l (prefix p) e = refl
      go l opening e = refl
      go l closing e = absurd (h.missing l e)
      go l colons e = refl

module _ (T : Tape) (n at at' b : ℕ) (o : Out) (before after : List ℕ) (f i : ℕ) where
  pub close_on : Took T n at' b o before after f i → at ≤ at' → (r : Result Taken Refusal)
      → Closes (length T.text) T.rows n f i r → Meets T n at b (o >>> closed) before after r
  close_on h l (Ok r) c =
      record {
        tree = h.tree;
        spelled = h.spelled;
        out = rw h.out (close_here T n i _ c);
        built =
            record {
              next = omega (arith, h.built);
              stored = h.built.stored;
              grown = omega (arith, h.built);
              moved = omega (arith, h.built);
              inside = omega arith;
            };
      }
  close_on h l (Err v) c =
      rw (h.out, close_not T n i _ c, c.number, c.place) (stuck_at T n i)

module _ (read : Reader) (inner outer : ℕ → Parser) (T : Tape) (n at : ℕ) where
  abbrev here : List Token
  here = onward T n at

  abbrev kind : ℕ
  kind = kind_at T.rows at

  -- a prefix operator

  module _ {k : ℕ} (h : Seen T.rows n at first_prefix last_prefix k) where
    abbrev which : Prefix
    which = (prefix_of k h.low h.high).0

    prefix_here : operand read inner outer here ≡ (inner (place_on T at) (past T n at) >>> λ t vs. G.ends (got (G.prefixed (place_on T at) which t)) vs)
    unfolding operand
    prefix_here =
        rw (tokens_here T n at h.here, sign_at T at (prefix which) (sym h.told ∙ (prefix_of k h.low h.high).1))

    pub prefix_up : Up (length T.text) (inner (place_on T at) (past T n at)) (operand read inner outer here)
    prefix_up = rw prefix_here (refuses (length T.text) (inner (place_on T at) (past T n at)) _)

    pub prefix_took : {b f i : ℕ} {before after last : List ℕ} → Took T n (at + 1) b (inner (place_on T at) (past T n at)) before after f i
        → last ≡ sets after (node_at f) (operator_words (prefixed_kind k) (place_on T at) 0) → Took T n at b (operand read inner outer here) before last (f + 1) i
    prefix_took {b} {f} {i} {before} {after} {last} r put =
        let no : prefixed_kind k ≡ prefix_no which = ap prefixed_kind (prefix_of k h.low h.high).1 ∙ sym (prefixed_no which) in
        let g = r.built in
        record {
          tree = G.prefixed (place_on T at) which r.tree;
          spelled = r.spelled;
          out = prefix_here ∙ rw r.out;
          built =
              record {
                next = omega (arith, g.next);
                stored =
                    sets_on before after last (words b r.tree) _ b f (G.nodes r.tree) g.stored (words_length b r.tree) g.next
                    (put ∙ rw no);
                grown = omega (arith, g.grown);
                moved = omega (arith, g.moved);
                inside = g.inside;
              };
        }

  -- another token: what a prefix operator would stand before does not matter
  pub prefix_not : Finds T.rows n at first_prefix last_prefix None → (inner' : ℕ → Parser) → operand read inner outer here ≡ operand read inner' outer here
  unfolding operand
  prefix_not h inner' =
      elim (dec_lt at n) [
        | yes l ↦
            rw (tokens_here T n at l)
            (by_kind T at (λ t. operand_at read inner outer t (token_on T at) (past T n at) ≡ operand_at read inner' outer t (token_on T at) (past T n at))
            (λ _. refl) (λ _. refl) (λ _. refl) (go (h l)))
        | no l ↦ rw (tokens_none T n at (omega arith))
      ]
    where
      go : (kind < first_prefix) ⊎ (last_prefix < kind) → (g : Sign) → Stands kind g
          → signed inner outer g (token_on T at) (past T n at) ≡ signed inner' outer g (token_on T at) (past T n at)
      go d (join j) e = refl
      go d (comparison c) e = refl
      go d (prefix p) e = let b = prefix_no_lem p in ⊎_elim (λ l. absurd (omega arith)) (λ l. absurd (omega arith)) d
      go d opening e = refl
      go d closing e = refl
      go d colons e = refl

  -- a parenthesis

  module _ {k : ℕ} (h : Seen T.rows n at (sign_no opening) (sign_no opening) k) where
    paren_here : operand read inner outer here ≡ (outer (place_on T at) (past T n at) >>> closed)
    unfolding operand
    paren_here = rw (tokens_here T n at h.here, sign_at T at opening (omega arith))

    pub paren_up : Up (length T.text) (outer (place_on T at) (past T n at)) (operand read inner outer here)
    paren_up = rw paren_here (refuses (length T.text) (outer (place_on T at) (past T n at)) closed)

    pub paren_close : {b f i : ℕ} {before after : List ℕ} → Took T n (at + 1) b (outer (place_on T at) (past T n at)) before after f i
        → (r : Result Taken Refusal) → Closes (length T.text) T.rows n f i r → Meets T n at b (operand read inner outer here) before after r
    paren_close {b} {f} {i} {before} {after} t r c = rw paren_here (close_on T n at (at + 1) b _ before after f i t (omega arith) r c)

  pub paren_not : Finds T.rows n at (sign_no opening) (sign_no opening) None → (outer' : ℕ → Parser) → operand read inner outer here ≡ operand read inner outer' here
  unfolding operand
  paren_not h outer' =
      elim (dec_lt at n) [
        | yes l ↦
            rw (tokens_here T n at l)
            (by_kind T at (λ t. operand_at read inner outer t (token_on T at) (past T n at) ≡ operand_at read inner outer' t (token_on T at) (past T n at))
            (λ _. refl) (λ _. refl) (λ _. refl) (go (h l)))
        | no l ↦ rw (tokens_none T n at (omega arith))
      ]
    where
      go : (kind < sign_no opening) ⊎ (sign_no opening < kind) → (g : Sign) → Stands kind g
          → signed inner outer g (token_on T at) (past T n at) ≡ signed inner outer' g (token_on T at) (past T n at)
      go d (join j) e = refl
      go d (comparison c) e = refl
      go d (prefix p) e = refl
      go d opening e = ⊎_elim (λ l. absurd (omega arith)) (λ l. absurd (omega arith)) d
      go d closing e = refl
      go d colons e = refl

-- an atom, where no parenthesis is next, is a leaf
pub leaf_only : (l : ℕ) (T : Tape) (n at : ℕ) → Finds T.rows n at (sign_no opening) (sign_no opening) None
    → L.atom l (onward T n at) ≡ L.prefix 0 (onward T n at)
unfolding prefixes
leaf_only l T n at h = paren_not address (λ place us. deep place) (λ _. L.sequence false (l - 1)) T n at h (λ place us. deep place)

-- with l levels left, one at least

module _ (l : ℕ) (some : l ≡ 0 → ⊥) (T : Tape) (n at : ℕ) where
  level : L.prefix l (onward T n at) ≡ operand address (λ _. L.prefix (l - 1)) (λ _. L.sequence false (l - 1)) (onward T n at)
  level = ap (λ (p : Parser). p (onward T n at)) (levels_left l some)

  module _ {k : ℕ} (h : Seen T.rows n at first_prefix last_prefix k) where
    pub level_up : Up (length T.text) (L.prefix (l - 1) (past T n at)) (L.prefix l (onward T n at))
    level_up = rw level (prefix_up address _ _ T n at h)

    pub level_took : {b f i : ℕ} {before after last : List ℕ} → Took T n (at + 1) b (L.prefix (l - 1) (past T n at)) before after f i
        → last ≡ sets after (node_at f) (operator_words (prefixed_kind k) (place_on T at) 0) → Took T n at b (L.prefix l (onward T n at)) before last (f + 1) i
    level_took r put = rw level (prefix_took address _ _ T n at h r put)

  pub level_not : Finds T.rows n at first_prefix last_prefix None → L.prefix l (onward T n at) ≡ L.atom l (onward T n at)
  level_not h = level ∙ prefix_not address _ _ T n at h (λ place us. deep place)

-- where no token opens a level, it does not matter how many are left
pub leaf_first : (l : ℕ) (T : Tape) (n at : ℕ) → Finds T.rows n at first_prefix (sign_no opening) None
    → L.prefix l (onward T n at) ≡ L.prefix 0 (onward T n at)
leaf_first zero T n at h = refl
leaf_first (suc l) T n at h =
    level_not (suc l) (λ e. omega arith) T n at (λ here. ⊎_elim (λ low. inl low) (λ high. inr (omega arith)) (h here))
    ∙ leaf_only (suc l) T n at (λ here. ⊎_elim (λ low. inl (omega arith)) (λ high. inr high) (h here))
