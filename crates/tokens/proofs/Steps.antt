-- The tokens from a byte on by any scanner, for code that goes by an offset.
use Prim.Native.Nat.{ℕ, zero, suc, ◌+◌, ◌-◌, ◌≤◌, ◌<◌}
use mathlib.Core.Path.{◌≡◌, refl, ap, sym, ◌∙◌, fun_ext}
use mathlib.Core.List.{List, [], ◌∷◌, ◌++◌}
use native.Mathlib.Nat.{add-zero}
use native.Mathlib.Omega.{arith}
use lib.ListN.{length, get_or, drop, drop_of_length-le}
use lib.Seq.{drop-drop, append_snoc}
use Rattle.paper.specs.Answers.{Answer, ok, refused, ◌>>=◌, in_text}
use Rattle.paper.specs.Tokens.{Token, Tok, Scanner, blank, token, octal_numeral, no_token, too_large, onward, tokens_by}
use Rattle.spelling.proofs.Spans.{cut}

module _ (look : Scanner) where
  passed : (n at room : ℕ) (s : List ℕ) → tokens_by look n at room s ≡ tokens_by look 0 (at + n) room (drop n s)
  unfolding tokens_by
  passed zero at room s = rw add-zero
  passed (suc n) at room [] = refl
  passed (suc n) at room (b ∷ s) =
      let e : suc at + n ≡ at + suc n = omega arith in
      passed n (suc at) room s ∙ ap (λ i. tokens_by look 0 i room (drop n s)) e

  -- what is left of a text after a number of bytes more
  abbrev pub left : List ℕ → ℕ → ℕ → ℕ → Answer (List Token)
  left s at n room = tokens_by look 0 (at + 1 + n) room (drop (at + 1 + n) s)

  pub tokens_at : (s : List ℕ) (at room : ℕ) → at < length s
      → tokens_by look 0 at room (drop at s) ≡ onward (look (get_or s at 0) (drop (at + 1) s)) at room (left s at)
  unfolding tokens_by
  tokens_at s at room h =
      let e : suc at ≡ at + 1 = omega arith in
      rw (cut s at h)
      (ap (onward (look (get_or s at 0) (drop (at + 1) s)) at room)
      (fun_ext λ n. fun_ext λ r. ap (λ i. tokens_by look n i r (drop (at + 1) s)) e ∙ passed n (at + 1) r (drop (at + 1) s) ∙ ap (tokens_by look 0 (at + 1 + n) r) (drop-drop n (at + 1) s)))

  pub end_step : (s : List ℕ) (at room : ℕ) → length s ≤ at → tokens_by look 0 at room (drop at s) ≡ ok []
  unfolding tokens_by
  end_step s at room h = rw (drop_of_length-le s h)

module _ (look : Scanner) (s : List ℕ) (at room : ℕ) (h : at < length s) where
  onto : (end : ℕ) → at < end → left look s at (end - (at + 1)) room ≡ tokens_by look 0 end room (drop end s)
  onto end l =
      let e : at + 1 + (end - (at + 1)) ≡ end = omega arith in
      ap (λ i. tokens_by look 0 i room (drop i s)) e

  pub blank_step : (end : ℕ) → at < end → look (get_or s at 0) (drop (at + 1) s) ≡ blank (end - (at + 1))
      → tokens_by look 0 at room (drop at s) ≡ tokens_by look 0 end room (drop end s)
  blank_step end l e = tokens_at look s at room h ∙ rw e (onto end l)

  pub token_step : (t : Tok) (end : ℕ) → at < end → look (get_or s at 0) (drop (at + 1) s) ≡ token t (end - (at + 1))
      → tokens_by look 0 at (suc room) (drop at s)
      ≡ (tokens_by look 0 end room (drop end s) >>= λ ts. ok (record { at = at; tok = t } ∷ ts))
  token_step t end l e = tokens_at look s at (suc room) h ∙ rw (e, onto end l)

  pub full_step : (t : Tok) (n : ℕ) → look (get_or s at 0) (drop (at + 1) s) ≡ token t n
      → tokens_by look 0 at 0 (drop at s) ≡ refused 7 in_text at
  full_step t n e = tokens_at look s at 0 h ∙ rw e

  pub octal_full_step : (v n : ℕ) → look (get_or s at 0) (drop (at + 1) s) ≡ octal_numeral v n
      → tokens_by look 0 at 0 (drop at s) ≡ refused 7 in_text at
  octal_full_step v n e = tokens_at look s at 0 h ∙ rw e

  pub octal_step : (v n : ℕ) → look (get_or s at 0) (drop (at + 1) s) ≡ octal_numeral v n
      → tokens_by look 0 at (suc room) (drop at s) ≡ refused 22 in_text at
  octal_step v n e = tokens_at look s at (suc room) h ∙ rw e

  pub no_step : look (get_or s at 0) (drop (at + 1) s) ≡ no_token → tokens_by look 0 at room (drop at s) ≡ refused 5 in_text at
  no_step e = tokens_at look s at room h ∙ rw e

  pub large_step : look (get_or s at 0) (drop (at + 1) s) ≡ too_large → tokens_by look 0 at room (drop at s) ≡ refused 6 in_text at
  large_step e = tokens_at look s at room h ∙ rw e

-- tokens after others
abbrev pub following : List Token → Answer (List Token) → Answer (List Token)
following ts a = a >>= λ us. ok (ts ++ us)

pub following_one : (ts : List Token) (t : Token) (a : Answer (List Token))
    → following ts (a >>= λ us. ok (t ∷ us)) ≡ following (ts ++ (t ∷ [])) a
following_one ts t (ok us) = ap ok (sym (append_snoc ts t us))
following_one ts t (refused k i at) = refl
