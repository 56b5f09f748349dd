-- 02 h's pass, by example: texts with what it makes of them, what it refuses, and what a buffer holds afterwards.
use Rattle.std.specs.Prelude.{ℕ, ◌≡◌, List, [], ◌∷◌, ◌++◌, replicate}
use Rattle.paper.specs.Answers.{Answer, ok, refused, ◌>>=◌, in_text, in_buffer}
use Rattle.paper.specs.Tokens.{bytes}
use Rattle.paper.specs.Fixing.{old_tokens, fixed, fix_answer, fix_buffer}
use Rattle.tried.specs.Examples.{on, OnText, AgreeOnTexts, Agree, On, repeat}

-- what the pass makes of a text that passes by the old rules
abbrev pub passing : List ℕ → Answer (List ℕ)
passing text = old_tokens text >>= λ _. ok (fixed text)

abbrev pub passes : List (OnText (List ℕ))
passes =
    on "" (ok [])
    ∷ on "0o10" (ok (bytes "0x8"))
    ∷ on "0O17" (ok (bytes "0xf"))
    ∷ on "0o0" (ok (bytes "0x0"))
    ∷ on "0O0017" (ok (bytes "0xf"))
    ∷ on "v==0o377;d==0o7" (ok (bytes "v==0xff;d==0x7"))
    -- "all other bytes as they stood, strings and comments included"
    ∷ on "0b101 0XFF 007 0d9 10" (ok (bytes "0b101 0XFF 007 0d9 10"))
    ∷ on "'0o7' 0o7 //0o7" (ok (bytes "'0o7' 0x7 //0o7"))
    ∷ on "a0o7 o7" (ok (bytes "a0o7 o7"))
    -- it asks no grammar
    ∷ on ")) 0o7 ((" (ok (bytes ")) 0x7 (("))
    ∷ on "0o7!0o7" (ok (bytes "0x7!0x7"))
    -- "It refuses first with .. 5, 6 or 7 by the old rules"
    ∷ on "0o7 0o8" (refused 5 in_text 4)
    ∷ on "0o" (refused 5 in_text 0)
    ∷ on "0o1_" (refused 5 in_text 0)
    ∷ on "0o7 @" (refused 5 in_text 4)
    ∷ []

-- both sides of 2^128, and of 1,024 tokens
abbrev pub limits : List (On (List ℕ))
limits =
    on (bytes "0o3" ++ repeat 42 (bytes "7")) (ok (bytes "0x" ++ repeat 32 (bytes "f")))
    ∷ on (bytes "0o4" ++ repeat 42 (bytes "0")) (refused 6 in_text 0)
    ∷ on (repeat 1023 (bytes "a ") ++ bytes "0o7") (ok (repeat 1023 (bytes "a ") ++ bytes "0x7"))
    ∷ on (repeat 1024 (bytes "a ") ++ bytes "0o7") (refused 7 in_text 2048)
    ∷ on (repeat 1024 (bytes "a ") ++ bytes "0o4" ++ repeat 42 (bytes "0")) (refused 6 in_text 2048)
    ∷ []

-- 21: "a result over the lent buffer", at its length; a buffer of exactly the result, one byte short and one byte more; 1 at 4096
pub record Lent : Type 0 where
  pub exact : fix_answer (bytes "0o0017") (replicate 3 0xAA) ≡ ok 3
  pub exact_holds : fix_buffer (bytes "0o0017") (replicate 3 0xAA) ≡ bytes "0xf"
  pub short : fix_answer (bytes "0o0017") (replicate 2 0xAA) ≡ refused 21 in_buffer 2
  pub short_unchanged : fix_buffer (bytes "0o0017") (replicate 2 0xAA) ≡ replicate 2 0xAA
  pub later_stays : fix_buffer (bytes "0o0017") (replicate 5 0xAA) ≡ bytes "0xf" ++ replicate 2 0xAA
  pub none : fix_answer [] [] ≡ ok 0
  pub longest : fix_answer (replicate 4096 32) (replicate 4096 0xAA) ≡ ok 4096
  pub too_long : fix_answer (replicate 4097 32) [] ≡ refused 1 in_text 4096
  pub text_first : fix_answer (bytes "@") [] ≡ refused 5 in_text 0
  pub refused_unchanged : fix_buffer (bytes "@") (replicate 2 0xAA) ≡ replicate 2 0xAA

pub record FixExamples : Type 0 where
  pub texts : AgreeOnTexts passing passes
  pub at_limits_lem : Agree passing limits
  pub lent : Lent
