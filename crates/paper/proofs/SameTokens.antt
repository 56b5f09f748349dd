-- The result has the tokens of the text, an octal numeral in hex. Piece by piece: what is copied is scanned as it was, since what follows it begins
-- with the same byte, and that is no dot, which forms no token; and what is written for an octal numeral is scanned as the numeral in hex.
use Prim.Native.Nat.{ℕ, zero, suc, ◌+◌, ◌^◌, ◌≤◌, ◌<◌}
use mathlib.Core.Path.{◌≡◌, refl, sym, ap, subst, ◌∙◌}
use mathlib.Core.Bool.{Bool, true, false, cond}
use mathlib.Core.List.{List, [], ◌∷◌, ◌++◌}
use lib.ListN.{length, take, drop, take-append-drop}
use lib.Seq.{length-take-le, drop-append_seam}
use lib.Dec.{ltb}
use borrow.Author.Tests.{eqb-true, ltb-true}
use Rattle.paper.specs.Answers.{Answer, ok, ◌>>=◌}
use Rattle.paper.specs.Tokens.{bytes, is, span, is_id_byte, hex, literal_in, Tok, numeral, Token, Scan, blank, token, octal_numeral, no_token, too_large, taken, scan, onward, tokens_by, tokens, most_tokens}
use Rattle.paper.specs.Print.{numeral_in}
use Rattle.paper.specs.Sentences.{token_at}
use Rattle.paper.specs.Fixing.{by_old_rules, old_scan, old_tokens, piece_for, fixed_from, fixed}
use Rattle.paper.specs.FixedRight.{toks_of, SameTokens}
use Rattle.paper.proofs.Stages.{never_ok, ok_same, bind_ok}
use Rattle.paper.proofs.TokenFaults.{skip}
use Rattle.paper.proofs.ScansFit.{scan_fits}
use Rattle.paper.proofs.ScansLocal.{Alike, covers, scan_local}
use Rattle.paper.proofs.WordsScanned.{Loose}
use Rattle.paper.proofs.NumeralsScanned.{announced_scanned}
use Rattle.paper.proofs.OctalNumerals.{IsOctal, IfOctal, if_octal}

-- the tokens by the old rules, from what stands at a byte on
abbrev old_onward : Scan → List ℕ → ℕ → ℕ → Answer (List Token)
old_onward c s at room = onward (by_old_rules c) at room (λ n left. tokens_by old_scan n (suc at) left s)

-- what follows a piece begins with the same byte, and that is no dot

dot_scanned : (s : List ℕ) → scan 46 s ≡ no_token
unfolding scan
dot_scanned [] = refl
dot_scanned (c ∷ s) = refl

no_dot : (b : ℕ) (s : List ℕ) (at room : ℕ) (ts : List Token) → old_onward (scan b s) s at room ≡ ok ts → is "." b ≡ false
no_dot b s at room ts h = go (is "." b) refl
  where
    go : (t : Bool) → is "." b ≡ t → t ≡ false
    go true e =
        let none : scan b s ≡ no_token = ap (λ c. scan c s) (eqb-true b 46 e) ∙ dot_scanned s in
        absurd (never_ok (subst (λ c. old_onward c s at room ≡ ok ts) none h))
    go false e = refl

begins_alike : (s : List ℕ) (n at room : ℕ) (ts : List Token) → tokens_by old_scan n at room s ≡ ok ts → Alike (drop n s) (fixed_from n s)
unfolding tokens_by fixed_from
begins_alike [] zero at room ts h = tt
begins_alike [] (suc n) at room ts h = tt
begins_alike (b ∷ s) (suc n) at room ts h = begins_alike s n (suc at) room ts h
begins_alike (b ∷ s) zero at room ts h = go (scan b s) (if_octal b s) (fixed_from (taken (scan b s)) s)
  where
    go : (c : Scan) → IfOctal b s c → (rest : List ℕ) → Alike (b ∷ s) (piece_for c b s ++ rest)
    go (octal_numeral v n) o rest = (o.first, no_dot b s at room ts h)
    go (blank n) o rest = (refl, no_dot b s at room ts h)
    go (token t n) o rest = (refl, no_dot b s at room ts h)
    go no_token o rest = (refl, no_dot b s at room ts h)
    go too_large o rest = (refl, no_dot b s at room ts h)

-- what is copied is scanned as it was: something of a kind, which takes n bytes more
module _ (kind : ℕ → Scan) (takes : (n : ℕ) → (covers (kind n) ≡ suc n) × (taken (kind n) ≡ n)) where
  copied_scanned : (b n : ℕ) (s rest : List ℕ) → scan b s ≡ kind n → Alike (drop n s) rest → scan b (take n s ++ rest) ≡ kind (length (take n s))
  copied_scanned b n s rest e alike =
      let fits : n ≤ length s = subst (λ m. m ≤ length s) (ap taken e ∙ (takes n).1) (scan_fits b s) in
      let same : take n s ++ drop n s ≡ s = take-append-drop n s in
      let size : length (take n s) ≡ n = length-take-le n s fits in
      scan_local b (take n s) (drop n s) rest alike (ap (λ r. covers (scan b r)) same ∙ ap covers e ∙ (takes n).0 ∙ ap suc (sym size))
      ∙ ap (scan b) same ∙ e ∙ ap kind (sym size)

-- what follows an octal numeral goes on with no numeral
loose_after : (s rest : List ℕ) → Alike (drop (span is_id_byte s) s) rest → Loose rest
loose_after [] [] a = tt
loose_after [] (d ∷ t) a = absurd a
loose_after (b ∷ s) rest a = go (is_id_byte b) refl a (loose_after s rest)
  where
    go : (t : Bool) → is_id_byte b ≡ t → Alike (drop (cond t (suc (span is_id_byte s)) 0) (b ∷ s)) rest
        → (Alike (drop (span is_id_byte s) s) rest → Loose rest) → Loose rest
    go true e a later = later a
    go false e a later = stops rest a
      where
        stops : (r : List ℕ) → Alike (b ∷ s) r → Loose r
        stops [] a = absurd a
        stops (d ∷ t) a = (ap is_id_byte (sym a.0) ∙ e, ap (is ".") (sym a.0) ∙ a.1)

octal_scanned : (b : ℕ) (s : List ℕ) (v n : ℕ) (rest : List ℕ) → IsOctal b s v n → v < 2 ^ 128 → Alike (drop n s) rest
    → let p : List ℕ = 120 ∷ numeral_in 16 v in scan 48 (p ++ rest) ≡ token (numeral (literal_in hex v)) (length p)
octal_scanned b s v n rest o small alike =
    announced_scanned 120 hex refl refl v small rest (loose_after s rest (subst (λ m. Alike (drop m s) rest) o.whole_run alike))

-- the result, from an offset on, has these tokens
abbrev Same : List ℕ → ℕ → ℕ → List Token → Type 0
Same r to room ts = (us : List Token) × (tokens_by scan 0 to room r ≡ ok us) × (toks_of us ≡ toks_of ts)

-- a piece is passed over once it is scanned
passed : (p rest : List ℕ) (to room : ℕ) → tokens_by scan (length p) to room (p ++ rest) ≡ tokens_by scan 0 (to + length p) room rest
passed p rest to room = skip scan (length p) to room (p ++ rest) ∙ ap (tokens_by scan 0 (to + length p) room) (drop-append_seam p rest)

-- so from any byte of s on, of which n bytes are taken already
abbrev Kept : List ℕ → Type 0
Kept s = (n at room : ℕ) (ts : List Token) (to : ℕ) → tokens_by old_scan n at room s ≡ ok ts → Same (fixed_from n s) to room ts

module _ (s : List ℕ) (later : Kept s) where
  -- a piece b ∷ p for what is blank, or is a token k, and takes n bytes more in the text
  module _ (b : ℕ) (p : List ℕ) (n at : ℕ) where
    a_blank : (room : ℕ) (ts : List Token) (to : ℕ) → tokens_by old_scan n (suc at) room s ≡ ok ts
        → (Alike (drop n s) (fixed_from n s) → scan b (p ++ fixed_from n s) ≡ blank (length p)) → Same ((b ∷ p) ++ fixed_from n s) to room ts
    unfolding tokens_by
    a_blank room ts to h scanned =
        let (us, read, same) = later n (suc at) room ts (suc to + length p) h in
        let rest = fixed_from n s in
        let e = scanned (begins_alike s n (suc at) room ts h) in
        (us, ap (λ c. onward c to room (λ m left. tokens_by scan m (suc to) left (p ++ rest))) e ∙ passed p rest (suc to) room ∙ read, same)

    a_token : (k : Tok) (room : ℕ) (ts : List Token) (to : ℕ) → onward (token k n) at room (λ m left. tokens_by old_scan m (suc at) left s) ≡ ok ts
        → (Alike (drop n s) (fixed_from n s) → scan b (p ++ fixed_from n s) ≡ token k (length p)) → Same ((b ∷ p) ++ fixed_from n s) to room ts
    unfolding tokens_by
    a_token k zero ts to h scanned = absurd (never_ok h)
    a_token k (suc room) ts to h scanned =
        let (vs, cut, first) = bind_ok (tokens_by old_scan n (suc at) room s) (λ us. ok (token_at at k ∷ us)) ts h in
        let (us, read, same) = later n (suc at) room vs (suc to + length p) cut in
        let rest = fixed_from n s in
        let e = scanned (begins_alike s n (suc at) room vs cut) in (
          token_at to k ∷ us,
          ap (λ c. onward c to (suc room) (λ m left. tokens_by scan m (suc to) left (p ++ rest))) e
              ∙ ap (λ (a : Answer (List Token)). a >>= λ us. ok (token_at to k ∷ us)) (passed p rest (suc to) room ∙ read),
          ap (λ ks. k ∷ ks) same ∙ ap toks_of (ok_same (token_at at k ∷ vs) ts first),
        )

  step : (c : Scan) (b at room : ℕ) (ts : List Token) (to : ℕ) → scan b s ≡ c → old_onward c s at room ≡ ok ts
      → Same (piece_for c b s ++ fixed_from (taken c) s) to room ts
  step (blank n) b at room ts to e h =
      a_blank b (take n s) n at room ts to h (copied_scanned blank (λ m. (refl, refl)) b n s (fixed_from n s) e)
  step (token k n) b at room ts to e h =
      a_token b (take n s) n at k room ts to h (copied_scanned (token k) (λ m. (refl, refl)) b n s (fixed_from n s) e)
  step (octal_numeral v n) b at room ts to e h = go (ltb v (2 ^ 128)) refl h
    where
      k : Tok
      k = numeral (literal_in hex v)

      go : (t : Bool) → ltb v (2 ^ 128) ≡ t → onward (cond t (token k n) too_large) at room (λ m left. tokens_by old_scan m (suc at) left s) ≡ ok ts
          → Same ((bytes "0x" ++ numeral_in 16 v) ++ fixed_from n s) to room ts
      go true small h =
          let o : IsOctal b s v n = subst (IfOctal b s) e (if_octal b s) in
          a_token 48 (120 ∷ numeral_in 16 v) n at k room ts to h (octal_scanned b s v n (fixed_from n s) o (ltb-true v (2 ^ 128) small))
      go false large h = absurd (never_ok h)
  step no_token b at room ts to e h = absurd (never_ok h)
  step too_large b at room ts to e h = absurd (never_ok h)

from_same : (s : List ℕ) → Kept s
unfolding tokens_by fixed_from
from_same [] n at room ts to h = ([], refl, ap toks_of (ok_same [] ts h))
from_same (b ∷ s) (suc n) at room ts to h = from_same s n (suc at) room ts to h
from_same (b ∷ s) zero at room ts to h = step s (from_same s) (scan b s) b at room ts to refl h

pub same_tokens : SameTokens
unfolding tokens old_tokens fixed
same_tokens text ts h = from_same text 0 0 most_tokens ts 0 h
