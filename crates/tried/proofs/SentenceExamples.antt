-- Each text is derived by the constructors that its form names; its tokens are computed.
use Prim.Native.Nat.{ℕ}
use Prim.Native.String as S
use mathlib.Core.Path.{◌≡◌, refl, sym, ap, ◌∙◌}
use mathlib.Core.Bool.{false, true≢false}
use mathlib.Core.List.{List, [], ◌∷◌}
use lib.ListN.{length}
use lib.Dec.{eqb}
use Rattle.paper.specs.Tokens.{plain, bytes, Token, word, or_else, and_also, less, not_sign, minus_sign, tokens}
use Rattle.paper.specs.Addresses.{mac, address}
use Rattle.paper.specs.Grammar.{Tree, key}
use Rattle.paper.specs.Sentences.{Phrases, token_at, Joining, joining, Comparing, comparing, Once, none_of, one_of, Chain, first, further, Implication, Name, Prefixed, Whole, without, lenient, by_prefix, by_parenthesis, a_string}
use Rattle.paper.specs.Sentences as G
use Rattle.tried.specs.SentenceExamples.{Derived, SentenceExamples}

-- a word that is neither as long as "true" nor as "false"
name : (w : List ℕ) → eqb (length w) 4 ≡ false → eqb (length w) 5 ≡ false → Name w
name w p q =
    (λ h. true≢false (sym (ap (λ v. eqb (length v) 4) h) ∙ p), λ h. true≢false (sym (ap (λ v. eqb (length v) 5) h) ∙ q))

-- an operand as a phrase of each step of the ladder: a chain of "&&" that is one comparison, a chain of "||", "->" at most once, all

and : {S : Phrases} {t : Tree} {ts : List Token} → S t ts → Chain (Joining and_also) (Once Comparing S) t ts
and s = first (none_of s)

or : {S : Phrases} {t : Tree} {ts : List Token} → S t ts → Chain (Joining or_else) (Chain (Joining and_also) (Once Comparing S)) t ts
or s = first (and s)

up : {S : Phrases} {t : Tree} {ts : List Token} → S t ts → Implication S t ts
up s = none_of (or s)

alone : {S : Phrases} {t : Tree} {ts : List Token} → S t ts → Whole S t ts
alone s = without (first (up s))

-- keys of one letter

a_key : (at : ℕ) (w : S.String) → eqb (length (bytes w)) 4 ≡ false → eqb (length (bytes w)) 5 ≡ false
    → Prefixed address 0 (key at (bytes w)) (token_at at (word (bytes w)) ∷ [])
unfolding Prefixed
a_key at w p q = G.a_key at (bytes w) (name (bytes w) p q)

a : (at : ℕ) → Prefixed address 0 (key at (bytes "a")) (token_at at (word (bytes "a")) ∷ [])
a at = a_key at "a" refl refl

b : (at : ℕ) → Prefixed address 0 (key at (bytes "b")) (token_at at (word (bytes "b")) ∷ [])
b at = a_key at "b" refl refl

c : (at : ℕ) → Prefixed address 0 (key at (bytes "c")) (token_at at (word (bytes "c")) ∷ [])
c at = a_key at "c" refl refl

derived : Derived
unfolding tokens Prefixed address lenient
derived =
    record {
      a_true = (0, alone (G.a_true 0));
      a_false = (0, alone (G.a_false 0));
      a_numeral = (0, alone (G.a_numeral 1 (plain 12)));
      an_address = (0, alone (G.an_address 0 (bytes "mac") mac 3 4 23 (bytes "00:00:00:00:00:05") 5 refl refl));
      a_key = (0, alone (a_key 0 "a.b" refl refl));
      a_field = (0, alone (G.a_field 0 (bytes "a") 1 3 (bytes "true") (name (bytes "a") refl refl) refl));
      an_attribute = (0, alone (G.an_attribute 0 2 (bytes "b") refl));
      a_not = (1, alone (G.a_prefixed 0 not_sign (a 1)));
      a_minus = (1, alone (G.a_prefixed 0 minus_sign (a 1)));
      a_parenthesis = (1, alone (G.a_parenthesis 0 4 (further (first (up (a 1))) (joining 2) (up (b 3)))));
      a_comparison = (0, without (first (none_of (first (first (one_of (a 0) (comparing 1 less) (b 2)))))));
      ands =
          (0, without (first (none_of (first (further (further (and (a 0)) (joining 1) (none_of (b 3))) (joining 4) (none_of (c 6)))))));
      ors = (0, without (first (none_of (further (further (or (a 0)) (joining 1) (and (b 3))) (joining 4) (and (c 6))))));
      one_implication = (0, without (first (one_of (or (a 0)) (joining 1) (or (b 3)))));
      sequels = (0, without (further (further (first (up (a 0))) (joining 1) (up (b 2))) (joining 3) (up (c 4))));
      trailing = (0, G.trailing (first (up (a 0))) (joining 1));
      valid = alone (G.a_true 0);
      sentence = (0, alone (G.an_address 0 (bytes "mac") mac 3 4 7 (bytes "x") 0 refl refl));
      bounded = alone (G.an_address 0 (bytes "mac") mac 3 4 7 (bytes "x") 0 refl refl);
    }

pub sentence_examples : SentenceExamples
unfolding lenient address
sentence_examples =
    record {
      derived = derived;
      good_string_read = refl;
      bad_string_read = refl;
      not_opens = by_prefix 3 not_sign;
      minus_opens = by_prefix 3 minus_sign;
      parenthesis_opens = by_parenthesis 3;
      string_is_one = a_string 3 (bytes "x");
      at_a_token = refl;
      at_the_end = refl;
    }
