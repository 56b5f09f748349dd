-- 01, "For case 4 below, bytes 0 to 3 are 00 00 00 04. The instructions are: 03, zeros; 02, zeros, last constant byte 01;
-- 08 00 00 01, zeros; 09, zeros. Bytes 504 to 511 are 00 04 00 05 EB E4 16 0F. All other bytes are zero."
use Rattle.std.specs.Prelude.{ℕ, ◌≡◌, true, List, [], ◌∷◌, ◌++◌, replicate}
use Rattle.paper.specs.Answers.{ok}
use Rattle.paper.specs.Tokens.{bytes}
use Rattle.paper.specs.Calls.{translate_answer, translate_buffer, load_answer, run_answer}
use Rattle.tried.specs.MarkedJudgements.{the_keys, the_entry}

abbrev pub the_block : List ℕ
the_block =
    0x00 ∷ 0x00 ∷ 0x00 ∷ 0x04 ∷ []
    ++ (0x03 ∷ replicate 19 0)
    ++ (0x02 ∷ (replicate 18 0 ++ (0x01 ∷ [])))
    ++ (0x08 ∷ 0x00 ∷ 0x00 ∷ 0x01 ∷ replicate 16 0)
    ++ (0x09 ∷ replicate 19 0)
    ++ replicate 420 0
    ++ (0x00 ∷ 0x04 ∷ 0x00 ∷ 0x05 ∷ 0xEB ∷ 0xE4 ∷ 0x16 ∷ 0x0F ∷ [])

-- a buffer of 514 bytes: the last two stay
pub record CaseFour : Type 0 where
  pub written : translate_answer (bytes "v == 1") the_keys (replicate 514 0xAA) ≡ ok 4
  pub block : translate_buffer (bytes "v == 1") the_keys (replicate 514 0xAA) ≡ the_block ++ (0xAA ∷ 0xAA ∷ [])
  pub loads : load_answer the_keys the_block ≡ ok 4
  pub runs : run_answer the_keys the_block the_entry ≡ ok (record { accepted = true; steps = 4 })
