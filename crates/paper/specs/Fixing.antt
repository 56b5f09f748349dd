-- 02 h, "Supply a pass for texts on file that copies a text and turns each octal numeral into "0x" and lower-case hex of the same number without
-- leading zeros, with all other bytes as they stood, strings and comments included. It refuses first with 1, 5, 6 or 7 by the old rules, then
-- a result over the lent buffer with 21".
use Rattle.std.specs.Prelude.{ℕ, zero, suc, List, [], ◌∷◌, ◌++◌, length, take, Result, Ok, Err}
use Rattle.paper.specs.declared.Refusal.{Refusal}
use Rattle.paper.specs.Answers.{Answer, ok, refused, ◌>>=◌, input_of, offset_of, refused_by}
use Rattle.paper.specs.Tokens.{bytes, hex, Token, Scan, blank, token, octal_numeral, no_token, too_large, taken, literal_scan, scan, Scanner, tokens_by, most_tokens}
use Rattle.paper.specs.Grammar.{Tree, parsed}
use Rattle.paper.specs.Print.{numeral_in}
use Rattle.paper.specs.Calls.{sized, lends, laid}

-- The old rules, kept for this pass alone: an octal numeral is a token as any other, and 6 where it is too large. The token has the base that the
-- pass writes it in.
abbrev pub by_old_rules : Scan → Scan
by_old_rules (blank n) = blank n
by_old_rules (token t n) = token t n
by_old_rules (octal_numeral v n) = literal_scan hex v n
by_old_rules no_token = no_token
by_old_rules too_large = too_large

abbrev pub old_scan : Scanner
old_scan b s = by_old_rules (scan b s)

-- 5 to 7 by the old rules
unfoldable pub old_tokens : List ℕ → Answer (List Token)
unfolding tokens_by scan
old_tokens text = tokens_by old_scan 0 0 most_tokens text

-- and 8 to 10
unfoldable pub old_tree : List ℕ → Answer Tree
unfolding old_tokens parsed
old_tree text = old_tokens text >>= parsed (length text)

-- what is written for a byte and those that are taken with it
abbrev pub piece_for : Scan → ℕ → List ℕ → List ℕ
piece_for (octal_numeral v n) b s = bytes "0x" ++ numeral_in 16 v
piece_for (blank n) b s = b ∷ take n s
piece_for (token t n) b s = b ∷ take n s
piece_for no_token b s = b ∷ []
piece_for too_large b s = b ∷ []

-- the text from a byte on, of which so many bytes are taken already
unfoldable pub fixed_from : ℕ → List ℕ → List ℕ
unfolding scan
fixed_from n [] = []
fixed_from (suc n) (b ∷ s) = fixed_from n s
fixed_from zero (b ∷ s) = piece_for (scan b s) b s ++ fixed_from (taken (scan b s)) s

unfoldable pub fixed : List ℕ → List ℕ
unfolding fixed_from
fixed text = fixed_from 0 text

-- 1; 5 to 7 by the old rules; 21
unfoldable pub fixable : List ℕ → List ℕ → Answer (List ℕ)
unfolding old_tokens fixed
fixable text buffer = sized text >>= λ _. old_tokens text >>= λ _. lends (fixed text) buffer

-- what is answered is our choice: the length of the result
unfoldable pub fix_answer : List ℕ → List ℕ → Answer ℕ
unfolding fixable
fix_answer text buffer = fixable text buffer >>= λ s. ok (length s)

unfoldable pub fix_buffer : List ℕ → List ℕ → List ℕ
unfolding fixable
fix_buffer text buffer = laid (fixable text buffer) buffer
