-- 01, "Marked judgements", as they stand there: the keys, the entry, and the sixteen cases.
use Rattle.std.specs.Prelude.{ℕ, ◌≡◌, Bool, true, false, List, [], ◌∷◌, ◌++◌, map}
use Prim.Native.String as S
use Rattle.paper.specs.Answers.{Answer, ok, refused, in_text}
use Rattle.paper.specs.Numbers.{big_endian}
use Rattle.paper.specs.Tokens.{bytes}
use Rattle.paper.specs.Keys.{key_record}
use Rattle.paper.specs.Entry.{match_record}
use Rattle.paper.specs.Calls.{judge_answer}

-- "Keys: v exact 1, d ternary 8, p lpm 8, r range 16, o optional 4."
abbrev pub the_keys : List ℕ
the_keys =
    key_record (bytes "v") 0 1
    ++ key_record (bytes "d") 1 8
    ++ key_record (bytes "p") 2 8
    ++ key_record (bytes "r") 3 16
    ++ key_record (bytes "o") 4 4

-- "Entry: priority 10, v 1, d 0x20 mask 0xF0, p 0xC0 length 2, r 80 to 443, o absent."
abbrev pub the_entry : List ℕ
the_entry =
    big_endian 4 10
    ++ match_record 1 0 1 0
    ++ match_record 1 0 0x20 0xF0
    ++ match_record 1 2 0xC0 0
    ++ match_record 1 0 80 443
    ++ match_record 0 0 0 0

pub record Case : Type 0 where
  pub text : S.String
  pub says : Answer Bool

abbrev pub accepted : S.String → Case
accepted t = record { text = t; says = ok true }

abbrev pub violated : S.String → Case
violated t = record { text = t; says = ok false }

abbrev pub refused_at : S.String → ℕ → ℕ → Case
refused_at t number at = record { text = t; says = refused number in_text at }

abbrev pub cases : List Case
cases =
    refused_at "" 8 0
    ∷ accepted "true;"
    ∷ refused_at "true;;" 8 5
    ∷ accepted "v == 1"
    ∷ refused_at "v == 1 == 1" 8 7
    ∷ refused_at "!v == 1" 13 0
    ∷ violated "d == 0x20"
    ∷ accepted "d::mask == -16"
    ∷ violated "-1 < v::value"
    ∷ accepted "p::prefix_length <= 64"
    ∷ accepted "o::mask == 0"
    ∷ violated "::priority < 10"
    ∷ refused_at "d > 3" 13 2
    ∷ refused_at "v == true" 13 2
    ∷ refused_at "true -> false -> true" 8 14
    ∷ accepted "-v == 1"
    ∷ []

-- each case is judged as it is marked

abbrev pub AreJudged : List ℕ → List ℕ → List Case → Type 0
AreJudged list entry cs = map (λ (c : Case). judge_answer (bytes c.text) list entry) cs ≡ map (λ (c : Case). c.says) cs

abbrev pub Marked : Type 0
Marked = AreJudged the_keys the_entry cases
