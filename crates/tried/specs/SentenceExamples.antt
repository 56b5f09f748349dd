-- 01, "Tokens and grammar", second paragraph, as a grammar, by example: a text of each form, derived with its tree.
use Prim.Native.String as S
use Rattle.std.specs.Prelude.{◌≡◌, true, false, List, [], ◌∷◌}
use Rattle.std.proofs.Math.Option.{some}
use Rattle.paper.specs.Answers.{Answer, ok, refused}
use Rattle.paper.specs.Tokens.{plain, bytes, Token, sequel, implies, or_else, and_also, less, prefix, not_sign, minus_sign, opening, string, tokens}
use Rattle.paper.specs.Addresses.{mac}
use Rattle.paper.specs.Grammar.{truth, number, field, attribute, prefixed, joined, compared}
use Rattle.paper.specs.Sentences.{token_at, sign_at, lenient, Sentence, Bounded, WellSpelled, Valid, OpensLevel, IsString, place_from}
use Rattle.tried.specs.TreeExamples.{key_at}

-- the tokens of a text that is cut into some
abbrev pub when_cut : Answer (List Token) → List Token
when_cut (ok ts) = ts
when_cut (refused n i at) = []

abbrev pub words : S.String → List Token
words text = when_cut (tokens (bytes text))

-- "Loosest to tightest: ";" left, "->" at most once, "||" left, "&&" left, one comparison at most, prefix "!" and "-", atoms."
pub record Derived : Type 0 where
  pub a_true : WellSpelled (truth 0 true) (words "true")
  pub a_false : WellSpelled (truth 0 false) (words "false")
  pub a_numeral : WellSpelled (number 1 (plain 12)) (words " 12")
  pub an_address : WellSpelled (number 0 (plain 5)) (words "mac('00:00:00:00:00:05')")
  pub a_key : WellSpelled (key_at 0 "a.b") (words "a.b")
  pub a_field : WellSpelled (field 0 (bytes "a") 3 (bytes "true")) (words "a::true")
  pub an_attribute : WellSpelled (attribute 0 2 (bytes "b")) (words "::b")
  pub a_not : WellSpelled (prefixed 0 not_sign (key_at 1 "a")) (words "!a")
  pub a_minus : WellSpelled (prefixed 0 minus_sign (key_at 1 "a")) (words "-a")
  pub a_parenthesis : WellSpelled (joined 2 sequel (key_at 1 "a") (key_at 3 "b")) (words "(a;b)")
  pub a_comparison : WellSpelled (compared 1 less (key_at 0 "a") (key_at 2 "b")) (words "a<b")
  pub ands : WellSpelled (joined 4 and_also (joined 1 and_also (key_at 0 "a") (key_at 3 "b")) (key_at 6 "c")) (words "a&&b&&c")
  pub ors : WellSpelled (joined 4 or_else (joined 1 or_else (key_at 0 "a") (key_at 3 "b")) (key_at 6 "c")) (words "a||b||c")
  pub one_implication : WellSpelled (joined 1 implies (key_at 0 "a") (key_at 3 "b")) (words "a->b")
  pub sequels : WellSpelled (joined 3 sequel (joined 1 sequel (key_at 0 "a") (key_at 2 "b")) (key_at 4 "c")) (words "a;b;c")
  pub trailing : WellSpelled (key_at 0 "a") (words "a;")
  -- within 64 levels, and "level limit and contents of address strings aside", where a bad string reads as 0
  pub valid : Valid (truth 0 true) (words "true")
  pub sentence : Sentence (number 0 (plain 0)) (words "mac('x')")
  pub bounded : Bounded (number 0 (plain 0)) (words "mac('x')")

pub record SentenceExamples : Type 0 where
  pub derived : Derived
  pub good_string_read : lenient mac (bytes "00:00:00:00:00:05") ≡ some 5
  pub bad_string_read : lenient mac (bytes "x") ≡ some 0
  -- "A level is opened by each prefix operator and each parenthesis"
  pub not_opens : OpensLevel (sign_at 3 (prefix not_sign))
  pub minus_opens : OpensLevel (sign_at 3 (prefix minus_sign))
  pub parenthesis_opens : OpensLevel (sign_at 3 opening)
  pub string_is_one : IsString (token_at 3 (string (bytes "x")))
  -- 8: "token, or text length"
  pub at_a_token : place_from 9 (sign_at 3 opening ∷ []) ≡ 3
  pub at_the_end : place_from 9 [] ≡ 9
