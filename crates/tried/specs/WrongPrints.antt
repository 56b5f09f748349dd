-- Printers that are wrong: one that copies the text, one without parentheses, one with all of them, one that writes "&&" for ";", one that
-- writes every numeral in decimal, and one that writes the numbers of a text with an address in hex. Each fails what 02 a and e ask of a print; as programs they stand
-- in WrongPrograms.
use Rattle.std.specs.Prelude.{ℕ, ◌≤◌, ◌≡◌, ◌↔◌, Bool, true, false, not, cond, List, ◌++◌, length, eqb}
use Rattle.paper.specs.Answers.{ok}
use Rattle.paper.specs.Tokens.{bytes, is, span, hex, Literal, literal_in, Join, sequel, implies, or_else, and_also, Token, tokens}
use Rattle.paper.specs.Grammar.{Tree, truth, number, key, field, attribute, prefixed, joined, compared}
use Rattle.paper.specs.Print.{bare, numeral_in, literal_bytes, prefix_bytes, join_bytes, comparison_bytes, spaced, tightest, left_of, right_of, looser, enclosed, truth_bytes, print}
use Rattle.paper.specs.Calls.{tree}

-- what a text is printed as
abbrev pub Printer : Type 0
Printer = List ℕ → List ℕ

-- a read text is printed as its tree says
abbrev pub PrintsBy : (Tree → List ℕ) → Printer → Type 0
PrintsBy f p = (text : List ℕ) (t : Tree) → tree text ≡ ok t → p text ≡ f t

-- what 02 asks of it

abbrev pub ReadsBack : Printer → Type 0
ReadsBack p = (text : List ℕ) (t : Tree) → tree text ≡ ok t → (r : Tree) × (tree (p text) ≡ ok r) × (bare r ≡ bare t)

abbrev pub Tells : Printer → Type 0
Tells p = (v w : List ℕ) (t r : Tree) → tree v ≡ ok t → tree w ≡ ok r → (p v ≡ p w) ↔ (bare t ≡ bare r)

abbrev pub SparesNothing : Printer → Type 0
SparesNothing p =
    (v w : List ℕ) (t r : Tree) (ps ws : List Token) → tree v ≡ ok t → tokens (p v) ≡ ok ps → tree w ≡ ok r → tokens w ≡ ok ws
    → bare r ≡ bare t → length ps ≤ length ws

pub record Right (p : Printer) : Type 0 where
  pub reads_back : ReadsBack p
  pub tells : Tells p
  pub spares_nothing : SparesNothing p

-- a print with other numerals, other signs for joins, or parentheses by another rule
abbrev pub print_with : (Literal → List ℕ) → (Join → List ℕ) → (ℕ → Tree → Bool) → Tree → List ℕ
print_with numerals signs needs (truth at b) = truth_bytes b
print_with numerals signs needs (number at n) = numerals n
print_with numerals signs needs (key at w) = w
print_with numerals signs needs (field at w to f) = w ++ bytes "::" ++ f
print_with numerals signs needs (attribute at to f) = bytes "::" ++ f
print_with numerals signs needs (prefixed at o t) = prefix_bytes o ++ enclosed (needs tightest t) (print_with numerals signs needs t)
print_with numerals signs needs (joined at o l r) =
    enclosed (needs (left_of o) l) (print_with numerals signs needs l)
    ++ spaced (signs o)
    ++ enclosed (needs (right_of o) r) (print_with numerals signs needs r)
print_with numerals signs needs (compared at c l r) =
    enclosed (needs tightest l) (print_with numerals signs needs l)
    ++ spaced (comparison_bytes c)
    ++ enclosed (needs tightest r) (print_with numerals signs needs r)

abbrev pub without_parentheses : Tree → List ℕ
without_parentheses = print_with literal_bytes join_bytes (λ k t. false)

abbrev pub with_all_parentheses : Tree → List ℕ
with_all_parentheses = print_with literal_bytes join_bytes (λ k t. true)

abbrev pub and_for_sequel : Join → List ℕ
and_for_sequel sequel = bytes "&&"
and_for_sequel implies = bytes "->"
and_for_sequel or_else = bytes "||"
and_for_sequel and_also = bytes "&&"

abbrev pub with_and_for_sequel : Tree → List ℕ
with_and_for_sequel = print_with literal_bytes and_for_sequel looser

-- as before 02 e
abbrev pub in_decimal : Tree → List ℕ
in_decimal = print_with (λ n. numeral_in 10 n.value) join_bytes looser

abbrev pub in_hex : Tree → List ℕ
in_hex = print_with (λ n. literal_bytes (literal_in hex n.value)) join_bytes looser

-- in a text that is read, a quote stands in an address or in a comment. All numbers of such a text are written in hex
abbrev pub quotes : List ℕ → Bool
quotes text = not (eqb (span (λ b. not (is "'" b)) text) (length text))

abbrev pub addresses_in_hex : List ℕ → Tree → List ℕ
addresses_in_hex text t = cond (quotes text) (in_hex t) (print t)

pub record WrongPrintsFail : Type 0 where
  pub right : (p : Printer) → PrintsBy print p → Right p
  -- with the numerals, the signs and the rule of `print` it is the print
  pub otherwise_same : (t : Tree) → print_with literal_bytes join_bytes looser t ≡ print t
  pub copies_text : (p : Printer) → ((text : List ℕ) (t : Tree) → tree text ≡ ok t → p text ≡ text) → ¬ Tells p
  pub without_parentheses_lem : (p : Printer) → PrintsBy without_parentheses p → ¬ ReadsBack p
  pub with_all_parentheses_lem : (p : Printer) → PrintsBy with_all_parentheses p → ¬ SparesNothing p
  pub and_for_sequel_lem : (p : Printer) → PrintsBy with_and_for_sequel p → ¬ ReadsBack p
  pub in_decimal_lem : (p : Printer) → PrintsBy in_decimal p → ¬ ReadsBack p
  pub addresses_in_hex_lem : (p : Printer) → ((text : List ℕ) (t : Tree) → tree text ≡ ok t → p text ≡ addresses_in_hex text t) → ¬ ReadsBack p
