-- `tokens::scan` meets its contract, by the class of the byte: each test that fails leaves the paper's later cases.
use Prim.Native.Nat.{ℕ, ◌+◌}
use mathlib.Core.Path.{◌≡◌, refl, sym, ◌∙◌}
use mathlib.Core.Bool.{false}
use mathlib.Core.List.{List}
use borrow.Author.Rules.{rules}
use borrow.Author.Tests.{eq-eqb, ne_eqb}
use lib.Dec.{eqb}
use lib.ListN.{get_or, drop}
use Rattle.paper.specs.Tokens.{is_blank, is_id_start}
use Rattle.tokens.proofs.Scans.{stands_as, as_blank, as_comment, as_string, as_word, as_numeral, as_sign, blank_stands}
use Rattle.tokens.proofs.scan.scan.Goals as goal

abbrev text : goal.After-unnumbered → List ℕ
text c = c.args.text.now

abbrev at : goal.After-unnumbered → ℕ
at c = c.args.at

abbrev byte : goal.After-unnumbered → ℕ
byte c = get_or (text c) (at c) 0

abbrev rest : goal.After-unnumbered → List ℕ
rest c = drop (at c + 1) (text c)

pub returns-then-is_blank : goal.returns-then-is_blank
returns-then-is_blank c =
    stands_as c.unnumbered.ensures.0 c.unnumbered.ensures.1 (as_blank (byte c) (rest c) (sym c.is_blank.ensures ∙ c.if-is_blank.true))
    (blank_stands (text c) (at c) (search rules))

abbrev text_2 : goal.After-unnumbered-then-byte-eq47 → List ℕ
text_2 c = c.args.text.now

abbrev at_2 : goal.After-unnumbered-then-byte-eq47 → ℕ
at_2 c = c.args.at

abbrev byte_2 : goal.After-unnumbered-then-byte-eq47 → ℕ
byte_2 c = get_or (text_2 c) (at_2 c) 0

abbrev rest_2 : goal.After-unnumbered-then-byte-eq47 → List ℕ
rest_2 c = drop (at_2 c + 1) (text_2 c)

blank_not : (c : goal.After-unnumbered-then-byte-eq47) → is_blank (byte_2 c) ≡ false
blank_not c = sym c.is_blank.ensures ∙ c.if-is_blank.false

pub returns-then-byte-eq47 : goal.returns-then-byte-eq47
returns-then-byte-eq47 c =
    stands_as c.unnumbered-then-byte-eq47.ensures.0 c.unnumbered-then-byte-eq47.ensures.1 (as_comment (byte_2 c) (rest_2 c) (blank_not c) (eq-eqb (byte_2 c) 47 c.if-byte-eq47.true))
    c.comment.ensures

abbrev text_3 : goal.After-unnumbered-then-byte-eq39 → List ℕ
text_3 c = c.args.text.now

abbrev at_3 : goal.After-unnumbered-then-byte-eq39 → ℕ
at_3 c = c.args.at

abbrev byte_3 : goal.After-unnumbered-then-byte-eq39 → ℕ
byte_3 c = get_or (text_3 c) (at_3 c) 0

abbrev rest_3 : goal.After-unnumbered-then-byte-eq39 → List ℕ
rest_3 c = drop (at_3 c + 1) (text_3 c)

blank_not_2 : (c : goal.After-unnumbered-then-byte-eq39) → is_blank (byte_3 c) ≡ false
blank_not_2 c = sym c.is_blank.ensures ∙ c.if-is_blank.false

slash_not : (c : goal.After-unnumbered-then-byte-eq39) → eqb (byte_3 c) 47 ≡ false
slash_not c = ne_eqb (byte_3 c) 47 c.if-byte-eq47.false

pub returns-then-byte-eq39 : goal.returns-then-byte-eq39
returns-then-byte-eq39 c =
    stands_as c.unnumbered-then-byte-eq39.ensures.0 c.unnumbered-then-byte-eq39.ensures.1 (as_string (byte_3 c) (rest_3 c) (blank_not_2 c) (slash_not c) (eq-eqb (byte_3 c) 39 c.if-byte-eq39.true))
    c.string.ensures

abbrev text_4 : goal.After-unnumbered-then-is_id_start → List ℕ
text_4 c = c.args.text.now

abbrev at_4 : goal.After-unnumbered-then-is_id_start → ℕ
at_4 c = c.args.at

abbrev byte_4 : goal.After-unnumbered-then-is_id_start → ℕ
byte_4 c = get_or (text_4 c) (at_4 c) 0

abbrev rest_4 : goal.After-unnumbered-then-is_id_start → List ℕ
rest_4 c = drop (at_4 c + 1) (text_4 c)

blank_not_3 : (c : goal.After-unnumbered-then-is_id_start) → is_blank (byte_4 c) ≡ false
blank_not_3 c = sym c.is_blank.ensures ∙ c.if-is_blank.false

slash_not_2 : (c : goal.After-unnumbered-then-is_id_start) → eqb (byte_4 c) 47 ≡ false
slash_not_2 c = ne_eqb (byte_4 c) 47 c.if-byte-eq47.false

quote_not : (c : goal.After-unnumbered-then-is_id_start) → eqb (byte_4 c) 39 ≡ false
quote_not c = ne_eqb (byte_4 c) 39 c.if-byte-eq39.false

pub returns-then-is_id_start : goal.returns-then-is_id_start
returns-then-is_id_start c =
    stands_as c.unnumbered-then-is_id_start.ensures.0 c.unnumbered-then-is_id_start.ensures.1
    (as_word (byte_4 c) (rest_4 c) (blank_not_3 c) (slash_not_2 c) (quote_not c) (sym c.is_id_start.ensures ∙ c.if-is_id_start.true))
    c.word.ensures

abbrev text_5 : goal.After-numeral → List ℕ
text_5 c = c.args.text.now

abbrev at_5 : goal.After-numeral → ℕ
at_5 c = c.args.at

abbrev byte_5 : goal.After-numeral → ℕ
byte_5 c = get_or (text_5 c) (at_5 c) 0

abbrev rest_5 : goal.After-numeral → List ℕ
rest_5 c = drop (at_5 c + 1) (text_5 c)

blank_not_4 : (c : goal.After-numeral) → is_blank (byte_5 c) ≡ false
blank_not_4 c = sym c.is_blank.ensures ∙ c.if-is_blank.false

slash_not_3 : (c : goal.After-numeral) → eqb (byte_5 c) 47 ≡ false
slash_not_3 c = ne_eqb (byte_5 c) 47 c.if-byte-eq47.false

quote_not_2 : (c : goal.After-numeral) → eqb (byte_5 c) 39 ≡ false
quote_not_2 c = ne_eqb (byte_5 c) 39 c.if-byte-eq39.false

letter_not : (c : goal.After-numeral) → is_id_start (byte_5 c) ≡ false
letter_not c = sym c.is_id_start.ensures ∙ c.if-is_id_start.false

pub returns-then-is_digit : goal.returns-then-is_digit
returns-then-is_digit c =
    stands_as refl refl
    (as_numeral (byte_5 c) (rest_5 c) (blank_not_4 c) (slash_not_3 c) (quote_not_2 c) (letter_not c) (sym c.is_digit.ensures ∙ c.if-is_digit.true))
    c.numeral.ensures

abbrev text_6 : goal.After-unnumbered-2 → List ℕ
text_6 c = c.args.text.now

abbrev at_6 : goal.After-unnumbered-2 → ℕ
at_6 c = c.args.at

abbrev byte_6 : goal.After-unnumbered-2 → ℕ
byte_6 c = get_or (text_6 c) (at_6 c) 0

abbrev rest_6 : goal.After-unnumbered-2 → List ℕ
rest_6 c = drop (at_6 c + 1) (text_6 c)

blank_not_5 : (c : goal.After-unnumbered-2) → is_blank (byte_6 c) ≡ false
blank_not_5 c = sym c.is_blank.ensures ∙ c.if-is_blank.false

slash_not_4 : (c : goal.After-unnumbered-2) → eqb (byte_6 c) 47 ≡ false
slash_not_4 c = ne_eqb (byte_6 c) 47 c.if-byte-eq47.false

quote_not_3 : (c : goal.After-unnumbered-2) → eqb (byte_6 c) 39 ≡ false
quote_not_3 c = ne_eqb (byte_6 c) 39 c.if-byte-eq39.false

letter_not_2 : (c : goal.After-unnumbered-2) → is_id_start (byte_6 c) ≡ false
letter_not_2 c = sym c.is_id_start.ensures ∙ c.if-is_id_start.false

pub returns : goal.returns
returns c =
    stands_as c.unnumbered-2.ensures.0 c.unnumbered-2.ensures.1
    (as_sign (byte_6 c) (rest_6 c) (blank_not_5 c) (slash_not_4 c) (quote_not_3 c) (letter_not_2 c) (sym c.is_digit.ensures ∙ c.if-is_digit.false))
    c.sign.ensures
