-- Rungs of the ladder: "p, or p operator p", and "p, p operator p, ..", as one form. One law for each outcome.
use Prim.Native.Nat.{ℕ, zero, suc, ◌+◌, ◌-◌, ◌≤◌, ◌<◌}
use mathlib.Core.Path.{◌≡◌, refl, sym, ap, ◌∙◌, subst}
use mathlib.Core.Bool.{Bool, true, false, ◌&&◌, true≢false}
use mathlib.Core.Option.{Option, none, some}
use mathlib.Core.List.{List, [], ◌∷◌, ◌++◌}
use native.Mathlib.Omega.{arith}
use borrow.Author.Tests.{eqb-true, eqb-false}
use lib.ListN.{length, length-append}
use lib.Seq.{sets, length-sets}
use lib.Dec.{eqb}
use Rattle.paper.specs.Tokens.{Token}
use Rattle.paper.specs.Grammar as G
use Rattle.paper.specs.Grammar.{Tree, Out, got, stuck, deep, bad, Parser, Make, ◌>>>◌, once_with, once_more, after_operator}
use Rattle.tokens.specs.Tape.{Tape}
use Rattle.trees.specs.Words.{words, operator_words, Spelled}
use Rattle.trees.proofs.Stored.{words_length}
use Rattle.grammar.specs.declared.steps.Rung.{Rung}
use Rattle.grammar.specs.declared.steps.Rung.TheVariants as R
use Rattle.grammar.specs.Ladder as L
use Rattle.grammar.specs.Places.{place_on, onward, past, node_at, joined_kind}
use Rattle.grammar.specs.Reading.{Built, Took}
use Rattle.grammar.proofs.Tapes.{tokens_here, tokens_none, length_tokens}
use Rattle.grammar.proofs.Stores.{sets_on}
use Rattle.grammar.proofs.Outcomes.{Up, refuses}
use Rattle.grammar.proofs.Operators.{Operator, Joining, first, Apart}

-- the node of an operator after those of its operands
pub built_joined : {T : Tape} {n i k at b f g j : ℕ} {op : Operator} {before mid after last : List ℕ} {x y : Tree}
    → Built n at b before mid x f i → (J : Joining T n i op k) → Built n (i + 1) f mid after y g j
    → last ≡ sets after (node_at g) (operator_words (joined_kind k) (place_on T i) (f - 1)) → Built n at b before last (J.make x y) (g + 1) j
built_joined {b = b} {f = f} {g = g} {before = before} {mid = mid} {after = after} {last = last} {x = x} {y = y} l J r put =
    let s = J.sizes x y in
    record {
      next = omega arith;
      stored =
          rw (J.stored b x y, ← l.next)
          (sets_on before after last (words b x ++ words f y) _ b g (G.nodes x + G.nodes y)
          (sets_on before mid after (words b x) (words f y) b f (G.nodes x) l.stored (words_length b x) l.next r.stored)
          (simp length-append (omega (arith, words_length b x, words_length f y)))
          (omega arith)
          put);
      grown = omega arith;
      moved = omega arith;
      inside = r.inside;
    }

-- a rung as one form: its first operand, and so many turns of an operator and an operand, one or as many as there are tokens

abbrev pub turns_of : Bool → List Token → ℕ
turns_of true us = 1
turns_of false us = length us

abbrev pub Runs : Bool → Bool → Operator → Parser → List Token → Out → Type 0
Runs once top op p ts o = o ≡ (p ts >>> λ t us. G.more top op p (turns_of once us) t us)

once_more_lem : (op : Operator) (p : Parser) (t : Tree) (us : List Token) → once_more op p t us ≡ G.more false op p 1 t us
unfolding G.more
once_more_lem op p t [] = refl
once_more_lem op p t (u ∷ us) = go (op u)
  where
    go : (m : Option Make) → once_with p t u us m ≡ G.more_with t u us m (λ make. p us >>> λ r vs. G.ends (got (make t r)) vs)
    go none = refl
    go (some make) = refl

then_same : (o : Out) (f g : Tree → List Token → Out) → ((t : Tree) (us : List Token) → f t us ≡ g t us) → (o >>> f) ≡ (o >>> g)
then_same (G.ends (got t) us) f g e = e t us
then_same (G.ends stuck us) f g e = refl
then_same (deep at) f g e = refl
then_same (bad at) f g e = refl

once_runs : (op : Operator) (p : Parser) (ts : List Token) → Runs true false op p ts (G.once op p ts)
unfolding G.once
once_runs op p ts = then_same (p ts) (once_more op p) _ (once_more_lem op p)

chain_runs : (top : Bool) (op : Operator) (p : Parser) (ts : List Token) → Runs false top op p ts (G.chain top op p ts)
unfolding G.chain
chain_runs top op p ts = refl

pub rung_runs : (rung : Rung) (levels : ℕ) (ts : List Token)
    → Runs (L.at_most_once rung) (L.may_end rung) (L.operators rung) (L.operand_of rung levels) ts (L.rung_of rung levels ts)
rung_runs R.Whole levels ts = chain_runs _ _ _ ts
rung_runs R.Sequence levels ts = chain_runs _ _ _ ts
rung_runs R.Implication levels ts = once_runs _ _ ts
rung_runs R.Disjunction levels ts = chain_runs _ _ _ ts
rung_runs R.Conjunction levels ts = chain_runs _ _ _ ts
rung_runs R.Comparison levels ts = once_runs _ _ ts

pub rung_first : (size : ℕ) (rung : Rung) (levels : ℕ) (ts : List Token) → Up size (L.operand_of rung levels ts) (L.rung_of rung levels ts)
rung_first size rung levels ts = rw (rung_runs rung levels ts) (refuses size (L.operand_of rung levels ts) _)

-- the turns that are left after the tokens up to i are read
abbrev pub Left : Bool → ℕ → ℕ → ℕ → Type 0
Left true n i turns = turns ≡ 1
Left false n i turns = n ≤ i + turns

some_left : (once : Bool) {n i turns : ℕ} → Left once n i turns → i < n → turns ≡ suc (turns - 1)
some_left true e h = omega arith
some_left false e h = omega arith

-- what is left of a rung once its tokens up to i are read
pub record Going (T : Tape) (n : ℕ) (once top : Bool) (op : Operator) (p : Parser) (at b : ℕ) (o : Out) (before after : List ℕ) (f i : ℕ)
    : Type 0 where
  pub tree : Tree
  pub turns : ℕ
  pub enough : Left once n i turns
  pub out : o ≡ G.more top op p turns tree (onward T n i)
  pub spelled : Spelled T.text tree
  pub built : Built n at b before after tree f i

more_stop : (top : Bool) (op : Operator) (p : Parser) (m : ℕ) (t : Tree) (us : List Token) → first op us ≡ none
    → G.more top op p m t us ≡ G.ends (got t) us
unfolding G.more
more_stop top op p zero t us e = refl
more_stop top op p (suc m) t [] e = refl
more_stop top op p (suc m) t (u ∷ us) e = rw e

more_none : (top : Bool) (op : Operator) (p : Parser) (m : ℕ) (t : Tree) (us : List Token) → m ≡ 0 → G.more top op p m t us ≡ G.ends (got t) us
unfolding G.more
more_none top op p m t us e = rw e

-- where the text does not end after the operator
operator_on : (top : Bool) (T : Tape) (n i : ℕ) (t : Tree) (o : Out) → i ≤ n → (top && eqb i n) ≡ false
    → after_operator top t (onward T n i) o ≡ o
operator_on false T n i t o h e = refl
operator_on true T n i t o h e = let d = eqb-false i n e in rw (tokens_here T n i (omega arith))

both : (s t : Bool) → (s && t) ≡ true → (s ≡ true) × (t ≡ true)
both true t e = (refl, e)
both false t e = absurd (true≢false (sym e))

module _ {T : Tape} {n : ℕ} {once top : Bool} {op : Operator} {p : Parser} {at b : ℕ} where
  pub going_start : (ts : List Token) {o : Out} {before after : List ℕ} {f i : ℕ} → Runs once top op p ts o → Took T n at b (p ts) before after f i
      → Going T n once top op p at b o before after f i
  going_start ts {i = i} e h =
      record {
        tree = h.tree;
        spelled = h.spelled;
        turns = turns_of once (onward T n i);
        enough = start once;
        out = e ∙ rw h.out;
        built = h.built;
      }
    where
      start : (once : Bool) → Left once n i (turns_of once (onward T n i))
      start true = refl
      start false = omega (arith, length_tokens T i (n - i))

  module _ {o : Out} {before after : List ℕ} {f i : ℕ} (w : Going T n once top op p at b o before after f i) where
    pub going_stop : Apart T n i op → Took T n at b o before after f i
    going_stop e =
        record { tree = w.tree; spelled = w.spelled; out = w.out ∙ more_stop top op p w.turns _ _ e; built = w.built }

    module _ {k : ℕ} (J : Joining T n i op k) where
      left : w.turns ≡ suc (w.turns - 1)
      left = some_left once w.enough J.here

      turn : (m : ℕ) → w.turns ≡ suc m
          → o ≡ after_operator top w.tree (past T n i) (p (past T n i) >>> λ r vs. G.more top op p m (J.make w.tree r) vs)
      unfolding G.more
      turn m e = w.out ∙ rw (e, tokens_here T n i J.here, J.told)

      pub going_end : (top && eqb (i + 1) n) ≡ true → Took T n at b o before after f (i + 1)
      going_end e =
          let l : i + 1 ≡ n = eqb-true (i + 1) n (both top _ e).1 in
          record {
            tree = w.tree;
            spelled = w.spelled;
            out = turn _ left ∙ rw ((both top _ e).0, tokens_none T n (i + 1) (omega arith));
            built =
                record {
                  next = w.built.next;
                  stored = w.built.stored;
                  grown = w.built.grown;
                  moved = omega (arith, w.built.moved);
                  inside = omega arith;
                };
          }

      module _ (on : (top && eqb (i + 1) n) ≡ false) where
        going_more : o ≡ (p (past T n i) >>> λ r vs. G.more top op p (w.turns - 1) (J.make w.tree r) vs)
        going_more =
            turn _ left ∙ operator_on top T n (i + 1) w.tree _ (omega (arith, J.here)) on

        pub going_next : Up (length T.text) (p (past T n i)) o
        going_next = rw going_more (refuses (length T.text) (p (past T n i)) _)

        module _ {mid last : List ℕ} {g j : ℕ} (r : Took T n (i + 1) f (p (past T n i)) after mid g j)
            (put : last ≡ sets mid (node_at g) (operator_words (joined_kind k) (place_on T i) (f - 1)))
          where
            joined_out : o ≡ G.more top op p (w.turns - 1) (J.make w.tree r.tree) (onward T n j)
            joined_out = going_more ∙ rw r.out

            joined_spelled : Spelled T.text (J.make w.tree r.tree)
            joined_spelled = J.spelled w.tree r.tree w.spelled r.spelled

            -- the only turn
            pub going_last : once ≡ true → Took T n at b o before last (g + 1) j
            going_last e =
                let one : w.turns ≡ 1 = subst (λ (s : Bool). Left s n i w.turns) e w.enough in
                record {
                  tree = J.make w.tree r.tree;
                  spelled = joined_spelled;
                  out = joined_out ∙ more_none top op p (w.turns - 1) _ _ (omega arith);
                  built = built_joined w.built J r.built put;
                }

            pub going_on : once ≡ false → Going T n once top op p at b o before last (g + 1) j
            going_on e =
                let enough : n ≤ i + w.turns = subst (λ (s : Bool). Left s n i w.turns) e w.enough in
                record {
                  tree = J.make w.tree r.tree;
                  spelled = joined_spelled;
                  turns = w.turns - 1;
                  enough = subst (λ (s : Bool). Left s n j (w.turns - 1)) (sym e) (omega (arith, w.built, r.built, J.here));
                  out = joined_out;
                  built = built_joined w.built J r.built put;
                }

-- what the loop over a rung keeps, from where it begins: the nodes' number, how far it is, and whatever the rung comes to
pub record Turned (T : Tape) (n : ℕ) (once top : Bool) (op : Operator) (p : Parser) (start : List ℕ) (f₀ i₀ : ℕ) (nodes : List ℕ) (f i : ℕ)
    : Type 0 where
  pub kept : length nodes ≡ length start
  pub some : 0 < f
  pub used : f ≤ i
  pub moved : i₀ ≤ i
  pub inside : i ≤ n
  pub going : (at b : ℕ) (o : Out) (before : List ℕ) → Going T n once top op p at b o before start f₀ i₀ → Going T n once top op p at b o before nodes f i

module _ {T : Tape} {n : ℕ} {once top : Bool} {op : Operator} {p : Parser} where
  pub turned_start : {nodes : List ℕ} {f i : ℕ} → 0 < f → f ≤ i → i ≤ n → Turned T n once top op p nodes f i nodes f i
  turned_start grown used inside =
      record {
        kept = refl;
        some = grown;
        used = used;
        moved = omega arith;
        inside = inside;
        going = λ at b o before w. w;
      }

  module _ {start nodes : List ℕ} {f₀ i₀ f i : ℕ} (w : Turned T n once top op p start f₀ i₀ nodes f i) where
    pub turned_on : {k : ℕ} → Joining T n i op k → (top && eqb (i + 1) n) ≡ false → once ≡ false → {mid last : List ℕ} {g j : ℕ}
        → Took T n (i + 1) f (p (past T n i)) nodes mid g j → last ≡ sets mid (node_at g) (operator_words (joined_kind k) (place_on T i) (f - 1))
        → Turned T n once top op p start f₀ i₀ last (g + 1) j
    turned_on J on many {mid} {last} {g} r put =
        record {
          kept =
              (ap length put ∙ simp length-sets) ∙ (ap length r.built.stored ∙ simp length-sets) ∙ w.kept;
          some = omega arith;
          used = omega (arith, w.used, r.built);
          moved = omega (arith, w.moved, r.built);
          inside = r.built.inside;
          going = λ at b o before v. going_on (w.going at b o before v) J on r put many;
        }
