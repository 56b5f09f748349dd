-- What once and chain say of the tokens that they take, from what the parser below them says.
use Prim.Native.Nat.{ℕ, zero, suc, ◌≤◌}
use mathlib.Core.Path.{◌≡◌, refl, ap, ◌∙◌}
use mathlib.Core.Bool.{Bool, true, false}
use mathlib.Core.Option.{Option, none, some}
use mathlib.Core.List.{List, [], ◌∷◌, ◌++◌, append_assoc, append-nil}
use lib.ListN.{length, length-append}
use native.Mathlib.Nat.{le_refl}
use native.Mathlib.Omega.{arith}
use Rattle.paper.specs.Tokens.{Token}
use Rattle.paper.specs.Grammar.{Tree, got, stuck, Out, ends, deep, bad, ◌>>>◌, Parser, Make, once_with, once_more, once, after_operator, more_with, chain}
use Rattle.paper.specs.Sentences.{Phrases, Operator, Once, none_of, one_of, Chain, first, further, Trailing, without, trailing}
use Rattle.paper.proofs.ParserTakes.{of_end, of_next, Kind, Family, Says, Tells, stays, extend, bind}
use Rattle.paper.proofs.Turns.{Leaves, Shrinks, turns, turns_end, turns_next}

-- a chain after which an operator may stand
abbrev pub Ended : Bool → Operator → Phrases → Phrases
Ended false op S = Chain op S
Ended true op S = Trailing op S

ended : (last : Bool) {op : Operator} {S : Phrases} {t : Tree} {ts : List Token} → Chain op S t ts → Ended last op S t ts
ended false h = h
ended true h = without h

leaves : (p : Parser) (S : Family) (ts : List Token) (o : Out) → Says p S ts o → Leaves (length ts) o
leaves p S ts (ends (got t) us) h = omega (arith, ap length h.split, length-append h.taken us)
leaves p S ts (ends stuck us) h = tt
leaves p S ts (deep at) h = tt
leaves p S ts (bad at) h = tt

pub tells_shrinks : {p : Parser} {S : Family} → Tells p S → Shrinks p
tells_shrinks {p} {S} tells ts = leaves p S ts (p ts) (tells.says ts)

-- where the text may end after an operator
last_says : (last : Bool) (q : Parser) (R : Family) (t : Tree) (us : List Token) → (last ≡ true → (k : Kind) → R k t [])
    → Says q R us (q us) → Says (λ ws. after_operator last t ws (q ws)) R us (after_operator last t us (q us))
last_says false q R t us front h = h
last_says true q R t [] front h = stays (of_end _ refl) (front refl)
last_says true q R t (u ∷ us) front h =
    extend (λ ws. after_operator true t ws (q ws)) q R (u ∷ us) [] (u ∷ us) refl (of_next _ λ ws. refl) h

module _ (fn : Token → Option Make) (op : Operator) (said : (u : Token) (make : Make) → fn u ≡ some make → op u make)
    {p : Parser} {S : Family} (tells : Tells p S) where
  once_rest : (t : Tree) (vs us : List Token) → ((k : Kind) → S k t vs)
      → Says (once_more fn p t) (λ k r ws. Once op (S k) r (vs ++ ws)) us (once_more fn p t us)
  once_rest t vs [] h = stays (of_end _ refl) (λ k. rw append-nil (none_of (h k)))
  once_rest t vs (u ∷ us) h = go (fn u) refl
    where
      R : Family
      R k r ws = Once op (S k) r (vs ++ ws)

      go : (o : Option Make) → fn u ≡ o → Says (once_more fn p t) R (u ∷ us) (once_with p t u us o)
      go none e = stays (of_next _ λ ws. rw e) (λ k. rw append-nil (none_of (h k)))
      go (some make) e =
          extend (once_more fn p t) (λ ws. p ws >>> λ r xs. ends (got (make t r)) xs) R (u ∷ us) (u ∷ []) us refl (λ ws s. rw e)
          (bind p (λ r xs. ends (got (make t r)) xs) S (λ k r ws. R k r (u ∷ ws))
          (λ k r ws g. (make t r, [], rw append-nil (one_of (h k) (said u make e) g))) us
          (λ r ws xs _ g. stays (λ ys s. refl) (λ k. rw append-nil (one_of (h k) (said u make e) (g k)))) (tells.says us))

  pub once_tells : Tells (once fn p) (λ k. Once op (S k))
  unfolding once
  once_tells =
      record {
        says = λ ts.
            bind p (once_more fn p) S (λ k. Once op (S k)) (λ k t vs h. (t, [], rw append-nil (none_of h))) ts
            (λ t vs us e h. once_rest t vs us h) (tells.says ts);
      }

  module _ (last : Bool) where
    shrinks : Shrinks p
    shrinks = tells_shrinks tells

    -- after an operator
    operator_says : (t : Tree) (vs : List Token) (u : Token) (make : Make) → op u make → ((k : Kind) → Chain op (S k) t vs)
        → (us : List Token)
        → ((r : Tree) (ws xs : List Token) → length xs ≤ length us → ((k : Kind) → Chain op (S k) r ws)
        → Says (turns last fn p r) (λ k s ys. Ended last op (S k) s (ws ++ ys)) xs (turns last fn p r xs))
        → Says (λ ws. p ws >>> λ r. turns last fn p (make t r)) (λ k r ws. Ended last op (S k) r (vs ++ (u ∷ ws))) us
        (p us >>> λ r. turns last fn p (make t r))
    operator_says t vs u make o h us step =
        bind p (λ r. turns last fn p (make t r)) S (λ k r ws. Ended last op (S k) r (vs ++ (u ∷ ws)))
        (λ k r ws g. (make t r, [], rw append-nil (ended last (further (h k) o g)))) us
        (λ r ws xs e g.
        simp append_assoc at
        (step (make t r) (vs ++ (u ∷ ws)) xs (omega (arith, ap length e, length-append ws xs)) (λ k. further (h k) o (g k))))
        (tells.says us)

    turns_says_end : (t : Tree) (vs : List Token) → ((k : Kind) → Chain op (S k) t vs)
        → Says (turns last fn p t) (λ k r ws. Ended last op (S k) r (vs ++ ws)) [] (turns last fn p t [])
    turns_says_end t vs h =
        rw turns_end (stays (of_end _ (turns_end last fn p t)) (λ k. rw append-nil (ended last (h k))))

    turns_says : (n : ℕ) (t : Tree) (vs us : List Token) → length us ≤ n → ((k : Kind) → Chain op (S k) t vs)
        → Says (turns last fn p t) (λ k r ws. Ended last op (S k) r (vs ++ ws)) us (turns last fn p t us)
    turns_says zero t vs [] l h = turns_says_end t vs h
    turns_says zero t vs (u ∷ us) l h = absurd (omega arith)
    turns_says (suc n) t vs [] l h = turns_says_end t vs h
    turns_says (suc n) t vs (u ∷ us) l h =
        rw (turns_next last fn p shrinks t u us) (go (fn u) refl λ r ws xs m g. turns_says n r ws xs (omega arith) g)
      where
        R : Family
        R k r ws = Ended last op (S k) r (vs ++ ws)

        after : Make → Parser
        after make ws = p ws >>> λ r. turns last fn p (make t r)

        go : (o : Option Make) → fn u ≡ o
            → ((r : Tree) (ws xs : List Token) → length xs ≤ length us → ((k : Kind) → Chain op (S k) r ws)
            → Says (turns last fn p r) (λ k s ys. Ended last op (S k) s (ws ++ ys)) xs (turns last fn p r xs))
            → Says (turns last fn p t) R (u ∷ us) (more_with t u us o (λ make. after_operator last t us (after make us)))
        go none e step =
            stays (of_next _ λ ws. turns_next last fn p shrinks t u ws ∙ rw e) (λ k. rw append-nil (ended last (h k)))
        go (some make) e step =
            extend (turns last fn p t) (λ ws. after_operator last t ws (after make ws)) R (u ∷ us) (u ∷ []) us refl
            (λ ws s. turns_next last fn p shrinks t u ws ∙ rw e)
            (last_says last (after make) (λ k r ws. R k r (u ∷ ws)) t us
            (λ yes k. rw yes (trailing (h k) (said u make e))) (operator_says t vs u make (said u make e) h us step))

    pub chain_tells : Tells (chain last fn p) (λ k. Ended last op (S k))
    unfolding chain turns
    chain_tells =
        record {
          says = λ ts.
              bind p (turns last fn p) S (λ k. Ended last op (S k))
              (λ k t vs h. (t, [], rw append-nil (ended last (first h)))) ts
              (λ t vs us e h. turns_says (length us) t vs us (le_refl _) (λ k. first (h k))) (tells.says ts);
        }
