-- The paper asks of a token whether it is a ";", a "(" or a ")": its kind tells.
use Prim.Native.Nat.{ℕ, zero, suc, ◌-◌}
use native.Mathlib.Numerals.{add-one}
use native.Mathlib.Omega.{arith}
use mathlib.Core.Path.{◌≡◌, refl, sym}
use mathlib.Core.Bool.{false}
use lib.Dec.{eqb}
use borrow.Author.Tests.{ne_eqb}
use Rattle.paper.specs.Tokens.{Sign, join, comparison, prefix, opening, closing, colons, sequel, implies, or_else, and_also, Token, sign}
use Rattle.paper.specs.Grammar.{is_sign}
use Rattle.paper.specs.Parts.{is_sequel, outside, divides, one_less, open_after}
use Rattle.tokens.specs.Tape.{Tape, kind_at, start_at, token_on, sign_no}
use Rattle.grammar.proofs.Tapes.{Stands, by_kind}
use Rattle.grammar.proofs.Operators.{comparison_no_lem}
use Rattle.grammar.proofs.Operands.{prefix_no_lem}
use Rattle.parts.specs.Cutting.{kind_divides, kind_opens}

pub record Told (kind : ℕ) (u : Token) : Type 0 where
  pub divides : (depth : ℕ) → divides depth u ≡ kind_divides depth kind
  pub opens : (depth : ℕ) → open_after depth u.tok ≡ kind_opens depth kind

outside_is : (depth : ℕ) → outside depth ≡ eqb depth 0
outside_is zero = refl
outside_is (suc depth) = sym (ne_eqb (suc depth) 0 (λ e. omega arith))

one_less_is : (depth : ℕ) → one_less depth ≡ depth - 1
one_less_is zero = refl
one_less_is (suc depth) = omega arith

-- a token that is none of the three
other : (kind : ℕ) (u : Token) → is_sequel u ≡ false → is_sign opening u.tok ≡ false → is_sign closing u.tok ≡ false
    → (kind ≡ sign_no (join sequel) → ⊥) → (kind ≡ sign_no opening → ⊥) → (kind ≡ sign_no closing → ⊥) → Told kind u
other kind u no-sequel no-opening no-closing a b c =
    record {
      divides = λ depth. rw (no-sequel, ne_eqb kind (sign_no (join sequel)) a);
      opens = λ depth. rw (no-opening, no-closing, ne_eqb kind (sign_no opening) b, ne_eqb kind (sign_no closing) c);
    }

module _ (T : Tape) (i : ℕ) where
  abbrev kind : ℕ
  kind = kind_at T.rows i

  abbrev at : ℕ
  at = start_at T.rows i

  told_sign : (g : Sign) → Stands kind g → Told kind (record { at = at; tok = sign g })
  told_sign (join sequel) e = rw e (record { divides = outside_is; opens = λ depth. refl })
  told_sign opening e = rw e (record { divides = λ depth. refl; opens = λ depth. sym (add-one depth) })
  told_sign closing e = rw e (record { divides = λ depth. refl; opens = one_less_is })
  told_sign (join implies) e = other kind _ refl refl refl (λ a. omega arith) (λ b. omega arith) (λ c. omega arith)
  told_sign (join or_else) e = other kind _ refl refl refl (λ a. omega arith) (λ b. omega arith) (λ c. omega arith)
  told_sign (join and_also) e = other kind _ refl refl refl (λ a. omega arith) (λ b. omega arith) (λ c. omega arith)
  told_sign (comparison d) e =
      let h = comparison_no_lem d in
      other kind _ refl refl refl (λ a. omega arith) (λ b. omega arith) (λ c. omega arith)
  told_sign (prefix p) e =
      let h = prefix_no_lem p in
      other kind _ refl refl refl (λ a. omega arith) (λ b. omega arith) (λ c. omega arith)
  told_sign colons e = other kind _ refl refl refl (λ a. omega arith) (λ b. omega arith) (λ c. omega arith)

  pub told : Told kind (token_on T i)
  told =
      by_kind T i (λ t. Told kind (record { at = at; tok = t }))
      (λ e. other kind _ refl refl refl (λ a. omega arith) (λ b. omega arith) (λ c. omega arith))
      (λ e. other kind _ refl refl refl (λ a. omega arith) (λ b. omega arith) (λ c. omega arith))
      (λ e. other kind _ refl refl refl (λ a. omega arith) (λ b. omega arith) (λ c. omega arith))
      told_sign
