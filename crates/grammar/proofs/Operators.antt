-- The operators between two operands: which token is one, and what node it makes.
use Rattle.std.specs.Prelude.{None}
use Prim.Native.Nat.{ℕ, ◌+◌, ◌-◌, ◌≤◌, ◌<◌}
use mathlib.Core.Path.{◌≡◌, refl, sym, ap, ◌∙◌}
use mathlib.Core.Logic.{◌⊎◌, ⊎_elim}
use mathlib.Core.Option.{Option, none, some}
use mathlib.Core.List.{List, [], ◌∷◌, ◌++◌}
use native.Mathlib.Omega.{arith}
use native.Mathlib.Decide.{dec_lt}
use borrow.Author.Tests.{eq-eqb, ne_eqb}
use Rattle.paper.specs.Tokens.{Sign, join, comparison, prefix, opening, closing, colons, Join, sequel, implies, or_else, and_also, Comparison, equal, unequal, greater, at_least, less, at_most, Token}
use Rattle.paper.specs.Grammar as G
use Rattle.paper.specs.Grammar.{Tree, Make, by_sign, sign_joins, sign_compares, joins, compares}
use Rattle.tokens.specs.Tape.{Tape, kind_at, first_join, last_join, first_comparison, last_comparison, token_on, sign_no}
use Rattle.trees.specs.Words.{words, operator_words, join_no, comparison_no, Spelled}
use Rattle.grammar.specs.Places.{place_on, onward, joined_kind}
use Rattle.grammar.specs.declared.steps.Rung.{Rung}
use Rattle.grammar.specs.declared.steps.Rung.TheVariants as R
use Rattle.grammar.specs.Ladder as L
use Rattle.grammar.specs.Reading.{Seen, Finds}
use Rattle.grammar.proofs.Tapes.{tokens_here, tokens_none, Stands, by_kind, sign_at}

abbrev pub Operator : Type 0
Operator = Token → Option Make

-- the token of index i is an operator, of kind k
pub record Joining (T : Tape) (n i : ℕ) (op : Operator) (k : ℕ) : Type 0 where
  pub here : i < n
  pub make : Make
  pub told : op (token_on T i) ≡ some make
  pub spelled : (l r : Tree) → Spelled T.text l → Spelled T.text r → Spelled T.text (make l r)
  pub sizes : (l r : Tree) → G.nodes (make l r) ≡ G.nodes l + G.nodes r + 1
  pub stored : (b : ℕ) (l r : Tree)
      → words b (make l r) ≡ words b l ++ words (b + G.nodes l) r ++ operator_words (joined_kind k) (place_on T i) (b + G.nodes l - 1)

-- the first of some tokens as an operator
abbrev pub first : Operator → List Token → Option Make
first op [] = none
first op (u ∷ us) = op u

abbrev pub Apart : Tape → ℕ → ℕ → Operator → Type 0
Apart T n i op = first op (onward T n i) ≡ none

apart : (T : Tape) (n i : ℕ) (op : Operator) → (i < n → op (token_on T i) ≡ none) → Apart T n i op
apart T n i op h = elim (dec_lt i n) [ yes e ↦ rw (tokens_here T n i e) (h e) | no e ↦ rw (tokens_none T n i (omega arith)) ]

sign_no_join : (o : Join) → sign_no (join o) ≡ 3 + G.join_no o
sign_no_join sequel = refl
sign_no_join implies = refl
sign_no_join or_else = refl
sign_no_join and_also = refl

comparison_of : (k : ℕ) → first_comparison ≤ k → k ≤ last_comparison → (c : Comparison) × (k ≡ sign_no (comparison c))
comparison_of k l h =
    elim (dec_lt k 8) [
      | yes m ↦ let e : k ≡ 7 = omega arith in (equal, e)
      | no a ↦
          elim (dec_lt k 9) [
            | yes m ↦ let e : k ≡ 8 = omega arith in (unequal, e)
            | no b ↦
                elim (dec_lt k 10) [
                  | yes m ↦ let e : k ≡ 9 = omega arith in (greater, e)
                  | no c ↦
                      elim (dec_lt k 11) [
                        | yes m ↦ let e : k ≡ 10 = omega arith in (at_least, e)
                        | no d ↦
                            elim (dec_lt k 12) [ yes m ↦ let e : k ≡ 11 = omega arith in (less, e) | no f ↦ let e : k ≡ 12 = omega arith in (at_most, e) ]
                      ]
                ]
          ]
    ]

-- each join's kind, and each comparison's
pub join_no_lem : (o : Join) → (first_join ≤ sign_no (join o)) × (sign_no (join o) ≤ last_join)
join_no_lem sequel = omega arith
join_no_lem implies = omega arith
join_no_lem or_else = omega arith
join_no_lem and_also = omega arith

pub comparison_no_lem : (c : Comparison) → (first_comparison ≤ sign_no (comparison c)) × (sign_no (comparison c) ≤ last_comparison)
comparison_no_lem equal = omega arith
comparison_no_lem unequal = omega arith
comparison_no_lem greater = omega arith
comparison_no_lem at_least = omega arith
comparison_no_lem less = omega arith
comparison_no_lem at_most = omega arith

-- the kind of a node by that of its operator's token
joined_no : (o : Join) → join_no o ≡ joined_kind (sign_no (join o))
joined_no sequel = refl
joined_no implies = refl
joined_no or_else = refl
joined_no and_also = refl

compared_no : (c : Comparison) → comparison_no c ≡ joined_kind (sign_no (comparison c))
compared_no equal = refl
compared_no unequal = refl
compared_no greater = refl
compared_no at_least = refl
compared_no less = refl
compared_no at_most = refl

module _ (T : Tape) (n i : ℕ) where
  abbrev kind : ℕ
  kind = kind_at T.rows i

  -- the token of a join, whose number is its own
  pub joining : (o : Join) {k : ℕ} → Seen T.rows n i (sign_no (join o)) (sign_no (join o)) k → Joining T n i (joins o) k
  joining o {k} h =
      let e : k ≡ sign_no (join o) = omega arith in
      record {
        here = h.here;
        make = G.joined (place_on T i) o;
        told = rw (sign_at T i (join o) (sym h.told ∙ e), eq-eqb (G.join_no o) (G.join_no o) refl);
        spelled = λ l r x y. (x, y);
        sizes = λ p q. refl;
        stored = λ b p q. rw (e, joined_no o);
      }

  pub comparing : {k : ℕ} → Seen T.rows n i first_comparison last_comparison k → Joining T n i compares k
  comparing {k} h = let c = comparison_of k h.low h.high in go c.0 c.1
    where
      go : (c : Comparison) → k ≡ sign_no (comparison c) → Joining T n i compares k
      go c e =
          record {
            here = h.here;
            make = G.compared (place_on T i) c;
            told = rw (sign_at T i (comparison c) (sym h.told ∙ e));
            spelled = λ l r x y. (x, y);
            sizes = λ p q. refl;
            stored = λ b p q. rw (e, compared_no c);
          }

  pub no_join : (o : Join) → Finds T.rows n i (sign_no (join o)) (sign_no (join o)) None → Apart T n i (joins o)
  no_join o h =
      apart T n i (joins o) λ lt.
      by_kind T i (λ t. by_sign t (sign_joins o (place_on T i)) ≡ none) (λ _. refl) (λ _. refl) (λ _. refl) (go (h lt))
    where
      go : (kind < sign_no (join o)) ⊎ (sign_no (join o) < kind) → (g : Sign) → Stands kind g → sign_joins o (place_on T i) g ≡ none
      go d (join j) e =
          rw (ne_eqb (G.join_no j) (G.join_no o) λ same.
          let z : kind ≡ sign_no (join o) = e ∙ sign_no_join j ∙ ap (λ m. 3 + m) same ∙ sym (sign_no_join o) in
          ⊎_elim (λ l. absurd (omega arith)) (λ l. absurd (omega arith)) d)
      go d (comparison c) e = refl
      go d (prefix p) e = refl
      go d opening e = refl
      go d closing e = refl
      go d colons e = refl

  pub no_comparison : Finds T.rows n i first_comparison last_comparison None → Apart T n i compares
  no_comparison h =
      apart T n i compares λ lt.
      by_kind T i (λ t. by_sign t (sign_compares (place_on T i)) ≡ none) (λ _. refl) (λ _. refl) (λ _. refl) (go (h lt))
    where
      go : (kind < first_comparison) ⊎ (last_comparison < kind) → (g : Sign) → Stands kind g → sign_compares (place_on T i) g ≡ none
      go d (join j) e = refl
      go d (comparison c) e = let b = comparison_no_lem c in ⊎_elim (λ l. absurd (omega arith)) (λ l. absurd (omega arith)) d
      go d (prefix p) e = refl
      go d opening e = refl
      go d closing e = refl
      go d colons e = refl

  -- the operator of a rung, and none

  pub operating : (rung : Rung) {k : ℕ} → Seen T.rows n i (L.lowest rung) (L.highest rung) k → Joining T n i (L.operators rung) k
  operating R.Whole h = joining sequel h
  operating R.Sequence h = joining sequel h
  operating R.Implication h = joining implies h
  operating R.Disjunction h = joining or_else h
  operating R.Conjunction h = joining and_also h
  operating R.Comparison h = comparing h

  pub no_operator : (rung : Rung) → Finds T.rows n i (L.lowest rung) (L.highest rung) None → Apart T n i (L.operators rung)
  no_operator R.Whole h = no_join sequel h
  no_operator R.Sequence h = no_join sequel h
  no_operator R.Implication h = no_join implies h
  no_operator R.Disjunction h = no_join or_else h
  no_operator R.Conjunction h = no_join and_also h
  no_operator R.Comparison h = no_comparison h

-- its kind is that of a join or of a comparison
pub operators_low : (rung : Rung) → first_join ≤ L.lowest rung
operators_low R.Whole = omega arith
operators_low R.Sequence = omega arith
operators_low R.Implication = omega arith
operators_low R.Disjunction = omega arith
operators_low R.Conjunction = omega arith
operators_low R.Comparison = omega arith

pub operators_high : (rung : Rung) → L.highest rung ≤ last_comparison
operators_high R.Whole = omega arith
operators_high R.Sequence = omega arith
operators_high R.Implication = omega arith
operators_high R.Disjunction = omega arith
operators_high R.Conjunction = omega arith
operators_high R.Comparison = omega arith
