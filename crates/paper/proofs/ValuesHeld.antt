-- Every tree that a text is read as has numbers below 2^128, and its code holds at most 326 values at once: on each of 65 ladders a
-- left operand waits at ";", "->", "||", "&&" and a comparison, and one value is the last.
use Prim.Native.Nat.{ℕ, zero, suc, ◌+◌, ◌*◌, ◌≤◌}
use native.Mathlib.Omega.{arith}
use mathlib.Core.Path.{◌≡◌, subst}
use mathlib.Core.Bool.{Bool, true, false}
use mathlib.Core.List.{List, [], ◌∷◌}
use lib.ListN.{length}
use Rattle.paper.specs.Answers.{ok}
use Rattle.paper.specs.Tokens.{Join, implies, or_else, and_also, sequel, Token, tokens}
use Rattle.paper.specs.Addresses.{address}
use Rattle.paper.specs.Grammar.{Tree, got, stuck, Out, ends, deep, bad, Parser, joins, compares, once, chain, sequence, operand, prefixes, finished, whole, most_levels, outcome, parsed}
use Rattle.paper.specs.Calls.{tree}
use Rattle.paper.specs.CodeCorrect.{needs, FewHeld}
use Rattle.paper.specs.BlocksRoundTrip.{NumbersFit, NumbersRead}
use Rattle.paper.proofs.Stages.{Of, bind_ok}
use Rattle.paper.proofs.AddressNumbers.{address_fits}
use Rattle.paper.proofs.TokenNumbers.{AllGood, tokens_within}
use Rattle.paper.proofs.Yields.{Got, Yields, got_all, got_then, join_makes, comparison_makes, once_yields, chain_yields, operand_yields}

-- a tree whose code holds at most so many values below the last one
pub record Shallow (waiting : ℕ) (t : Tree) : Type 0 where
  pub held : needs t ≤ waiting + 1
  pub numbers : NumbersFit t

wider : (a b : ℕ) → a ≤ b → (t : Tree) → Shallow a t → Shallow b t
wider a b le t h = record { held = omega arith; numbers = h.numbers }

module _ (a b : ℕ) (one_more : a + 1 ≤ b) (p : Parser) (yields : Yields (Shallow a) p) where
  alone : (t : Tree) → Shallow a t → Shallow b t
  alone t h = wider a b (omega arith) t h

  chain_step : (last : Bool) (o : Join) → Yields (Shallow b) (chain last (joins o) p)
  chain_step last o =
      chain_yields (Shallow a) (Shallow b) (joins o) p yields alone
      (λ u.
      join_makes (Shallow b) (Shallow a) (Shallow b)
      (λ at j l r h k. record { held = omega arith; numbers = (h.numbers, k.numbers) }) o u.at u.tok)
      last

  once_step : (o : Join) → Yields (Shallow b) (once (joins o) p)
  once_step o =
      once_yields (Shallow a) (Shallow b) (joins o) p yields alone
      (λ u.
      join_makes (Shallow a) (Shallow a) (Shallow b)
      (λ at j l r h k. record { held = omega arith; numbers = (h.numbers, k.numbers) }) o u.at u.tok)

  compare_step : Yields (Shallow b) (once compares p)
  compare_step =
      once_yields (Shallow a) (Shallow b) compares p yields alone
      (λ u.
      comparison_makes (Shallow a) (Shallow a) (Shallow b)
      (λ at c l r h k. record { held = omega arith; numbers = (h.numbers, k.numbers) }) u.at u.tok)

-- a ladder
sequence_step : (a : ℕ) (p : Parser) → Yields (Shallow a) p → (last : Bool) → Yields (Shallow (a + 5)) (sequence last p)
unfolding sequence
sequence_step a p h last =
    let compared = once compares p in
    let anded = chain false (joins and_also) compared in
    let ored = chain false (joins or_else) anded in
    let implied = once (joins implies) ored in
    let c = compare_step a (a + 1) (omega arith) p h in
    let n = chain_step (a + 1) (a + 2) (omega arith) compared c false and_also in
    let o = chain_step (a + 2) (a + 3) (omega arith) anded n false or_else in
    let i = once_step (a + 3) (a + 4) (omega arith) ored o implies in
    chain_step (a + 4) (a + 5) (omega arith) implied i last sequel

-- a level
operand_step : (a : ℕ) (inner outer : ℕ → Parser) → ((at : ℕ) → Yields (Shallow a) (inner at)) → ((at : ℕ) → Yields (Shallow a) (outer at))
    → Yields (Shallow a) (operand address inner outer)
operand_step a inner outer inside around =
    operand_yields (Shallow a) (λ at b. record { held = omega arith; numbers = tt }) (λ at w. record { held = omega arith; numbers = tt })
    (λ at w to f. record { held = omega arith; numbers = tt }) (λ at to f. record { held = omega arith; numbers = tt })
    (λ at n fits. record { held = omega arith; numbers = fits }) (λ at o t h. record { held = h.held; numbers = h.numbers }) address address_fits
    inner outer inside around

prefixes_step : (levels : ℕ) → Yields (Shallow (5 * levels)) (prefixes address levels)
unfolding prefixes
prefixes_step zero = operand_step 0 (λ at us. deep at) (λ at us. deep at) (λ at us gs. tt) (λ at us gs. tt)
prefixes_step (suc levels) =
    operand_step (5 * suc levels) (λ at. prefixes address levels) (λ at. sequence false (prefixes address levels))
    (λ at us gs. got_all (Shallow (5 * levels)) _ (wider _ _ (omega arith)) (prefixes address levels us) (prefixes_step levels us gs))
    (λ at us gs.
    got_all (Shallow (5 * levels + 5)) _ (wider _ _ (omega arith)) (sequence false (prefixes address levels) us)
    (sequence_step (5 * levels) (prefixes address levels) (prefixes_step levels) false us gs))

-- a text

finished_got : (P : Tree → Type 0) (t : Tree) (us : List Token) → P t → AllGood us → Got P (finished t us)
finished_got P t [] h gs = (h, tt)
finished_got P t (u ∷ us) h gs = tt

outcome_of : (P : Tree → Type 0) (size : ℕ) (o : Out) → Got P o → Of P (outcome size o)
outcome_of P size (ends (got t) us) h = h.0
outcome_of P size (ends stuck []) h = tt
outcome_of P size (ends stuck (u ∷ us)) h = tt
outcome_of P size (deep at) h = tt
outcome_of P size (bad at) h = tt

parsed_shallow : (size : ℕ) (ts : List Token) → AllGood ts → Of (Shallow 325) (parsed size ts)
unfolding parsed
parsed_shallow size ts gs =
    outcome_of (Shallow 325) size (whole address most_levels ts)
    (got_then (Shallow 325) (Shallow 325) (sequence true (prefixes address most_levels) ts) finished
    (sequence_step 320 (prefixes address most_levels) (prefixes_step 64) true ts gs) (finished_got (Shallow 325)))

tree_shallow : (text : List ℕ) (t : Tree) → tree text ≡ ok t → Shallow 325 t
unfolding tree
tree_shallow text t h =
    let cut = bind_ok (tokens text) (parsed (length text)) t h in
    subst (Of (Shallow 325)) cut.2 (parsed_shallow (length text) cut.0 (tokens_within text cut.0 cut.1).good)

pub few_held : FewHeld
few_held text t h = (tree_shallow text t h).held

pub numbers_read : NumbersRead
numbers_read text t h = (tree_shallow text t h).numbers
