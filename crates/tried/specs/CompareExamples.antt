-- 02 l by example: a text against blocks of its parts in every order, of parts that are alike, that begin or end like one another, or that are
-- joined otherwise; blocks without skips; and what is refused before blocks are compared.
use Rattle.std.specs.Prelude.{ℕ, ◌-◌, ◌≡◌, Bool, true, false, List, [], ◌∷◌, map, length}
use Prim.Native.String as S
use Rattle.paper.specs.Answers.{Answer, ok, refused, ◌>>=◌, in_text, in_list, in_blocks}
use Rattle.paper.specs.Tokens.{bytes}
use Rattle.paper.specs.Meaning.{both}
use Rattle.paper.specs.Code.{Instruction, push_bool, connects}
use Rattle.paper.specs.Blocks.{blocks_of}
use Rattle.paper.specs.Translating.{code_of}
use Rattle.paper.specs.Calls.{restriction}
use Rattle.paper.specs.Parts.{parts}
use Rattle.tried.specs.MarkedJudgements.{the_keys}
use Rattle.tried.specs.Examples.{Example, on, Agree}
use Rattle.tried.specs.TranslationExamples.{skips}
use Rattle.tried.specs.AnswerExamples.{repeating_list, short_list, bad_code, bad_block}
use Rattle.paper.specs.Comparing.{InSomeOrder, written, fits, part_codes, compare_answer}

-- "each used once, in some order"
pub record Orders : Type 0 where
  pub turned : InSomeOrder {A = ℕ} (3 ∷ 1 ∷ 2 ∷ []) (1 ∷ 2 ∷ 3 ∷ [])
  pub equal : InSomeOrder {A = ℕ} (2 ∷ 1 ∷ 1 ∷ []) (1 ∷ 2 ∷ 1 ∷ [])
  pub twice : ¬ InSomeOrder {A = ℕ} (1 ∷ 1 ∷ []) (1 ∷ 2 ∷ [])
  pub fewer : ¬ InSomeOrder {A = ℕ} (1 ∷ []) (1 ∷ 1 ∷ [])
  pub more : ¬ InSomeOrder {A = ℕ} (1 ∷ 1 ∷ []) (1 ∷ [])

-- with the marked keys
abbrev pub three : S.String
three = "v == 1; ::priority < 10; true"

-- a text against the blocks of another
abbrev pub against : S.String → S.String → Answer Bool
against text other =
    restriction (bytes other) the_keys
    >>= λ r. compare_answer (bytes text) the_keys (blocks_of (length r.keys) (code_of r.keys r.root))

-- all orders of three parts; one is missing; one twice in another's place; one byte of a constant is another, with the check that it asks for
abbrev pub of_three : List (Example S.String (Answer Bool))
of_three =
    on "v == 1; ::priority < 10; true" (ok true)
    ∷ on "v == 1; true; ::priority < 10" (ok true)
    ∷ on "::priority < 10; v == 1; true" (ok true)
    ∷ on "::priority < 10; true; v == 1" (ok true)
    ∷ on "true; v == 1; ::priority < 10" (ok true)
    ∷ on "true; ::priority < 10; v == 1" (ok true)
    ∷ on "v == 1; ::priority < 10" (ok false)
    ∷ on "true; ::priority < 10; ::priority < 10" (ok false)
    ∷ on "v == 1; ::priority < 11; true" (ok false)
    ∷ []

-- a text, and one whose code agrees or differs, without the blocks round it

pub record Pair : Type 0 where
  pub text : S.String
  pub other : S.String
  pub says : Answer Bool

abbrev pub agrees : S.String → S.String → Pair
agrees text other = record { text = text; other = other; says = ok true }

abbrev pub differs : S.String → S.String → Pair
differs text other = record { text = text; other = other; says = ok false }

abbrev pub pairs : List Pair
pairs =
    -- a trailing ";", blanks and parentheses round a part are not translated
    agrees three "(true) ;((v == 1));::priority<10 ;"
    -- one more; another constant, another comparison, operands in another order
    ∷ differs three "v == 1; ::priority < 10; true; true"
    ∷ differs three "v == 0; ::priority < 10; true"
    ∷ differs three "v == 1; ::priority <= 10; true"
    ∷ differs three "1 == v; ::priority < 10; true"
    -- "joined from the left": ";" and "&&" both give 10, so that the same code is joined so
    ∷ agrees three "(v == 1; ::priority < 10); true"
    ∷ agrees three "v == 1 && ::priority < 10 && true"
    ∷ agrees three "true && v == 1; ::priority < 10"
    ∷ differs three "v == 1; (::priority < 10; true)"
    ∷ differs three "true; v == 1 && ::priority < 10"
    -- joined by another
    ∷ differs three "v == 1 || ::priority < 10; true"
    ∷ differs three "(v == 1 -> ::priority < 10); true"
    -- one part
    ∷ agrees "v == 1" "v == 1"
    ∷ agrees "v == 1" "(v == 1);"
    ∷ agrees "v == 1;" "v == 1"
    ∷ differs "v == 1" "1 == v"
    ∷ differs "v == 1" "v == 1; true"
    ∷ differs "v == 1; true" "v == 1"
    ∷ agrees "(true; false)" "true; false"
    ∷ differs "(true; false)" "false; true"
    -- "(a;b);c" has two parts, and "a;b;c" is the same code
    ∷ agrees "(v == 1; ::priority < 10); true" "true; (v == 1; ::priority < 10)"
    ∷ agrees "(v == 1; ::priority < 10); true" "v == 1; ::priority < 10; true"
    ∷ differs "(v == 1; ::priority < 10); true" "::priority < 10; v == 1; true"
    ∷ differs "(v == 1; ::priority < 10); true" "true; v == 1; ::priority < 10"
    ∷ agrees "v == 1; (::priority < 10; true)" "::priority < 10; true; v == 1"
    ∷ differs "v == 1; (::priority < 10; true)" "v == 1; ::priority < 10; true"
    -- equal parts: each as often
    ∷ agrees "true; true" "true; true"
    ∷ agrees "true; v == 1; true" "v == 1; true; true"
    ∷ differs "true; true" "true; true; true"
    ∷ differs "true; v == 1; true" "true; v == 1; v == 1"
    ∷ differs "true; v == 1" "true; true"
    -- spelled otherwise, and translated alike
    ∷ agrees "v == 1; true" "true; v == 0x1"
    ∷ agrees "v == ipv4('0.0.0.1'); true" "true; v == 1"
    ∷ agrees "v == 1 && true; false" "false; (v == 1; true)"
    -- a part whose code begins another's: whoever takes the first that fits at the front finds `v == 1`, and then no part
    ∷ agrees "v == 1; v == 1 && true" "v == 1 && true; v == 1"
    ∷ agrees "true; !true" "!true; true"
    ∷ differs "v == 1; v == 1 && true" "v == 1; true; v == 1; true"
    -- a part whose code ends another's
    ∷ agrees "true; false && true" "false && true; true"
    ∷ agrees "false && true; true" "true; (false; true)"
    ∷ agrees "false && true; true" "false; true; true"
    ∷ agrees "false; true; true" "true && true; false"
    ∷ differs "false; true; true" "true; true && false"
    ∷ []

abbrev pub of_code : Pair → Answer Bool
of_code p =
    restriction (bytes p.other) the_keys
    >>= λ r. parts (bytes p.text)
    >>= λ ps. ok (fits (length ps - 1) (part_codes r.keys ps) (written (code_of r.keys r.root)))

abbrev pub AreCompared : List Pair → Type 0
AreCompared ps = map of_code ps ≡ map (λ (p : Pair). p.says) ps

-- "Skips are those g) would place": of "true; false" the skip is on false, to false, over two. The others load and differ
abbrev pub codes : List (Example (List Instruction) (Answer Bool))
codes =
    on (push_bool true ∷ skips false false 2 ∷ push_bool false ∷ connects both ∷ []) (ok true)
    ∷ on (push_bool false ∷ skips false false 2 ∷ push_bool true ∷ connects both ∷ []) (ok true)
    ∷ on (push_bool true ∷ push_bool false ∷ connects both ∷ []) (ok false)
    ∷ on (push_bool true ∷ skips true false 2 ∷ push_bool false ∷ connects both ∷ []) (ok false)
    ∷ on (push_bool true ∷ skips false true 2 ∷ push_bool false ∷ connects both ∷ []) (ok false)
    ∷ on (push_bool true ∷ skips true true 2 ∷ push_bool false ∷ connects both ∷ []) (ok false)
    ∷ on (push_bool true ∷ skips false false 2 ∷ push_bool false ∷ skips false false 1 ∷ connects both ∷ []) (refused 18 in_blocks 24)
    ∷ []

-- text and list first, then the blocks: 16; 17; 18
pub record Refusals : Type 0 where
  pub text_first : compare_answer (bytes "") the_keys [] ≡ refused 8 in_text 0
  pub list_before_text : compare_answer (bytes "") short_list [] ≡ refused 2 in_list 79
  pub types_before_blocks : compare_answer (bytes "d > 3") the_keys [] ≡ refused 13 in_text 2
  pub other_list : compare_answer (bytes "true") repeating_list bad_code ≡ refused 4 in_list 80
  pub octal : compare_answer (bytes "v == 0o1") the_keys [] ≡ refused 22 in_text 5
  pub bits_lost : compare_answer (bytes "v == 2") the_keys [] ≡ refused 23 in_text 5
  pub no_blocks : compare_answer (bytes "true") the_keys [] ≡ refused 16 in_blocks 0
  pub bad_block_lem : compare_answer (bytes "true") the_keys bad_block ≡ refused 17 in_blocks 0
  pub bad_code_lem : compare_answer (bytes "true") the_keys bad_code ≡ refused 18 in_blocks 4

pub record CompareExamples : Type 0 where
  pub orders : Orders
  pub of_three_lem : Agree (against three) of_three
  pub of_pairs : AreCompared pairs
  pub of_codes : Agree (λ code. compare_answer (bytes "true; false") the_keys (blocks_of 5 code)) codes
  pub refusals : Refusals
