-- Refusal 21 by the table: of bytes that are to be lent, and of a text over the limits of its tokens and levels.
use Prim.Native.Nat.{ℕ}
use native.Mathlib.Omega.{arith}
use mathlib.Core.Path.{◌≡◌, refl}
use mathlib.Core.Bool.{Bool, true, ◌&&◌}
use mathlib.Core.List.{List}
use lib.ListN.{length}
use lib.Dec.{leb}
use borrow.Author.Tests.{leb-true, leb-false}
use Rattle.paper.specs.Answers.{require, in_buffer}
use Rattle.paper.specs.Tokens.{most_text, most_tokens}
use Rattle.paper.specs.Grammar.{Tree, most_levels}
use Rattle.paper.specs.Sized.{levels, count}
use Rattle.paper.specs.Calls.{lends}
use Rattle.paper.specs.Faults.{LendingSize, over_limit, over_buffer, TextLimits, tokens_many, levels_many}
use Rattle.paper.specs.Table.{Free}
use Rattle.paper.proofs.StagesInOrder.{Tells, tells_as, two_tests_tell}

module _ (new buffer : List ℕ) where
  abbrev low : Bool
  low = leb (length new) most_text

  abbrev fits : Bool
  fits = leb (length new) (length buffer)

  lending_free : low ≡ true → fits ≡ true → Free (LendingSize new buffer)
  lending_free h k n at (over_limit l) = let e = leb-true (length new) most_text h in omega arith
  lending_free h k n at (over_buffer l) = let e = leb-true (length new) (length buffer) k in omega arith

  lending_only : (m to : ℕ) → LendingSize new buffer m to → (m ≡ 21) × (to ≡ length buffer)
  lending_only m to (over_limit l) = (refl, refl)
  lending_only m to (over_buffer l) = (refl, refl)

  pub lending_tells : Tells in_buffer (LendingSize new buffer) (lends new buffer)
  lending_tells =
      tells_as in_buffer (LendingSize new buffer) (require (low && fits) 21 in_buffer (length buffer)) (λ _. new)
      (two_tests_tell (LendingSize new buffer) low fits 21 in_buffer (length buffer) lending_free
      (λ e. over_limit (leb-false (length new) most_text e)) (λ e. over_buffer (leb-false (length new) (length buffer) e)) lending_only)

module _ (t : Tree) (buffer : List ℕ) where
  abbrev few : Bool
  few = leb (count t) most_tokens

  abbrev shallow : Bool
  shallow = leb (levels t) most_levels

  limits_free : few ≡ true → shallow ≡ true → Free (TextLimits t buffer)
  limits_free h k n at (tokens_many l) = let e = leb-true (count t) most_tokens h in omega arith
  limits_free h k n at (levels_many l) = let e = leb-true (levels t) most_levels k in omega arith

  limits_only : (m to : ℕ) → TextLimits t buffer m to → (m ≡ 21) × (to ≡ length buffer)
  limits_only m to (tokens_many l) = (refl, refl)
  limits_only m to (levels_many l) = (refl, refl)

  pub limits_tell : Tells in_buffer (TextLimits t buffer) (require (few && shallow) 21 in_buffer (length buffer))
  limits_tell =
      two_tests_tell (TextLimits t buffer) few shallow 21 in_buffer (length buffer) limits_free
      (λ e. tokens_many (leb-false (count t) most_tokens e)) (λ e. levels_many (leb-false (levels t) most_levels e)) limits_only
