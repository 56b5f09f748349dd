-- The pass over a text, piece by piece. What is written so far, and what the rest of the text is to be written as, make the whole result; and what
-- the old rules say of the rest they say of the text. No piece is longer than the bytes that it stands for (`if_octal`), so what is written is never
-- longer than what was read.
use Prim.Native.Nat.{ℕ, zero, suc, ◌+◌, ◌-◌, ◌≤◌, ◌<◌}
use native.Mathlib.Omega.{arith}
use mathlib.Core.Path.{◌≡◌, refl, ap, ap₂, sym, subst, ◌∙◌}
use mathlib.Core.Bool.{Bool, true, false, cond}
use mathlib.Core.List.{List, [], ◌∷◌, ◌++◌, append-nil, append_assoc}
use lib.ListN.{length, get_or, take, drop, length-append, length-take, drop_of_length-le}
use lib.Seq.{sets, sets-eq, take_at, length-take-le, drop-drop}
use lib.Dec.{eqb}
use Rattle.std.specs.Prelude.{Result, Ok, Err}
use borrow.Author.Tests.{eqb-true, eqb-false}
use Rattle.paper.specs.Answers.{Answer, ok, refused, ◌>>=◌, in_text}
use Rattle.paper.specs.Tokens.{hex, Literal, literal_in, Tok, numeral, Token, Scan, token, too_large, taken, scan, tokens_by, most_tokens}
use Rattle.paper.specs.Fixing.{by_old_rules, old_scan, old_tokens, piece_for, fixed_from, fixed}
use Rattle.paper.proofs.OctalNumerals.{IfOctal, if_octal}
use Rattle.spelling.proofs.Spans.{cut}
use Rattle.number.proofs.BigEndian.{sets_append}
use Rattle.tokens.specs.Tape.{tok_of}
use Rattle.tokens.specs.Fixes.{step_for, hex_numeral, Put}
use Rattle.tokens.specs.declared.found.Lexeme.{Lexeme}
use Rattle.tokens.specs.declared.found.Lexeme.TheVariants as F
use Rattle.tokens.specs.declared.fixing.Step.{Step}
use Rattle.tokens.specs.declared.fixing.Step.TheVariants as S
use Rattle.tokens.proofs.Going.{Here}
use Rattle.tokens.proofs.Parts.{part_first}
use Rattle.tokens.proofs.Steps.{blank_step, token_step, full_step, no_step, large_step, end_step}

-- one piece written after another

pub put_as : {a b : List ℕ} {at r : ℕ} {s t : List ℕ} → s ≡ t → Put a at s b r → Put a at t b r
put_as {a} {b} {at} {r} e w = subst (λ (x : List ℕ). Put a at x b r) e w

pub put_on : {a b c : List ℕ} {at i j : ℕ} {s t : List ℕ} → Put a at s b i → Put b i t c j → Put a at (s ++ t) c j
put_on {a} {at = at} {s = s} {t = t} v w =
    record {
      stored = w.stored ∙ rw (v.stored, v.ends) (sym (sets_append a at s t));
      ends = omega (arith, length-append s t, v.ends, w.ends);
    }

-- what was written stands after what stood before it
taken_so_far : (l s : List ℕ) (at : ℕ) → at + length s ≤ length l → take (at + length s) (sets l at s) ≡ take at l ++ s
taken_so_far l s at h =
    rw (sets-eq s l at h) (take_at (take at l ++ s) _ (at + length s) (length-append (take at l) s ∙ rw (length-take-le at l (omega arith))))

-- the rest of a text

rest_fixed : (n : ℕ) (s : List ℕ) → fixed_from n s ≡ fixed_from 0 (drop n s)
unfolding fixed_from
rest_fixed zero s = refl
rest_fixed (suc n) [] = refl
rest_fixed (suc n) (b ∷ s) = rest_fixed n s

-- after n tokens, by the old rules
abbrev old_from : List ℕ → ℕ → ℕ → Answer (List Token)
old_from text n at = tokens_by old_scan 0 at (most_tokens - n) (drop at text)

-- of the tokens only whether there are any matters: a number is told in their place
abbrev pub telling : ℕ → Answer (List Token) → Answer ℕ
telling k a = a >>= λ _. ok k

telling_one : (k : ℕ) (t : Token) (a : Answer (List Token)) → telling k (a >>= λ ts. ok (t ∷ ts)) ≡ telling k a
telling_one k t (ok ts) = refl
telling_one k t (refused n i at) = refl

-- p is written for the bytes from an offset on up to another, before which there are m tokens
pub record Onward (text : List ℕ) (n at : ℕ) (p : List ℕ) (end m : ℕ) : Type 0 where
  pub forward : at < end
  pub inside : end ≤ length text
  pub few : m ≤ most_tokens
  pub short : length p ≤ end - at
  pub says : (k : ℕ) → telling k (old_from text m end) ≡ telling k (old_from text n at)
  pub written : p ++ fixed_from 0 (drop end text) ≡ fixed_from 0 (drop at text)

-- what holds of a step after n tokens, where an octal numeral counts v
abbrev pub Right : List ℕ → ℕ → ℕ → ℕ → Result Step ℕ → Type 0
Right text n at v (Ok (S.Copied end m)) = Onward text n at (take (end - at) (drop at text)) end m
Right text n at v (Ok (S.InHex end m)) = Onward text n at (hex_numeral v) end m
Right text n at v (Err number) = (k : ℕ) → refused number in_text at ≡ telling k (old_from text n at)

module _ (text : List ℕ) (n at : ℕ) (few : n ≤ most_tokens) (h : at < length text) where
  -- the byte at the offset, those after it, and what the paper scans there

  abbrev byte : ℕ
  byte = get_or text at 0

  abbrev after : List ℕ
  after = drop (at + 1) text

  abbrev here : Scan
  here = scan byte after

  fixed_here : (p : List ℕ) (end : ℕ) → at < end → piece_for here byte after ≡ p → taken here ≡ end - (at + 1)
      → p ++ fixed_from 0 (drop end text) ≡ fixed_from 0 (drop at text)
  unfolding fixed_from
  fixed_here p end l e f =
      let all : at + 1 + (end - (at + 1)) ≡ end = omega arith in
      let rest : fixed_from (taken here) after ≡ fixed_from 0 (drop end text) =
      ap (λ i. fixed_from i after) f ∙ rest_fixed (end - (at + 1)) after ∙ ap (fixed_from 0) (drop-drop (end - (at + 1)) (at + 1) text ∙ ap (λ i. drop i text) all)
      in
      sym (rw (cut text at h) (ap₂ (λ (q r : List ℕ). q ++ r) e rest))

  -- bytes that are copied are as many as were read
  copied_here : (end : ℕ) → at < end → piece_for here byte after ≡ byte ∷ take (end - (at + 1)) after
      → taken here ≡ end - (at + 1) → take (end - at) (drop at text) ++ fixed_from 0 (drop end text) ≡ fixed_from 0 (drop at text)
  copied_here end l e f = fixed_here _ end l (e ∙ sym (part_first text at (end - (at + 1)) end h (omega arith))) f

  part_short : (end : ℕ) → length (take (end - at) (drop at text)) ≤ end - at
  part_short end = omega (arith, length-take (end - at) (drop at text))

  full : n ≡ most_tokens → most_tokens - n ≡ 0
  full e = omega arith

  room : (n ≡ most_tokens → ⊥) → most_tokens - n ≡ suc (most_tokens - (n + 1))
  room e = omega arith

  -- one token more, by the old rules
  token_says : (t : Tok) (end : ℕ) → at < end → old_scan byte after ≡ token t (end - (at + 1)) → (n ≡ most_tokens → ⊥)
      → (k : ℕ) → telling k (old_from text (n + 1) end) ≡ telling k (old_from text n at)
  token_says t end l e some k =
      let step : old_from text n at ≡ (old_from text (n + 1) end >>= λ ts. ok (record { at = at; tok = t } ∷ ts)) =
      rw (room some) (token_step old_scan text at (most_tokens - (n + 1)) h t end l e)
      in
      sym (ap (telling k) step ∙ telling_one k _ (old_from text (n + 1) end))

  token_full : {t : Tok} {m : ℕ} → old_scan byte after ≡ token t m → n ≡ most_tokens
      → (k : ℕ) → refused 7 in_text at ≡ telling k (old_from text n at)
  token_full e none k =
      let step : old_from text n at ≡ refused 7 in_text at = rw (full none) (full_step old_scan text at 0 h _ _ e) in
      ap (telling k) (sym step)

  module _ (l : Literal) where
    a_blank : (end : ℕ) → Here text at l (F.Blank end) → Right text n at l.value (Ok (S.Copied end n))
    a_blank end w =
        let e = sym w.says in
        let forward : at < end = w.ends.0 in
        record {
          forward = forward;
          inside = w.ends.1;
          few = few;
          short = part_short end;
          says = λ k. ap (telling k) (sym (blank_step old_scan text at (most_tokens - n) h end forward (ap by_old_rules e)));
          written = copied_here end forward (ap (λ (c : Scan). piece_for c byte after) e) (ap taken e);
        }

    a_token : (kind end : ℕ) → Here text at l (F.Token kind end) → Right text n at l.value (step_for (F.Token kind end) n)
    a_token kind end w = go (eqb n most_tokens) refl
      where
        old : old_scan byte after ≡ token (tok_of text kind at end l) (end - (at + 1))
        old = ap by_old_rules (sym w.says)

        go : (t : Bool) → eqb n most_tokens ≡ t → Right text n at l.value (cond t (Err 7) (Ok (S.Copied end (n + 1))))
        go true f = token_full old (eqb-true n most_tokens f)
        go false f =
            let e = sym w.says in
            let some = eqb-false n most_tokens f in
            record {
              forward = w.ends.taken;
              inside = w.ends.inside;
              few = omega (arith, some);
              short = part_short end;
              says = token_says (tok_of text kind at end l) end w.ends.taken old some;
              written = copied_here end w.ends.taken (ap (λ (c : Scan). piece_for c byte after) e) (ap taken e);
            }

    an_octal : (end : ℕ) → Here text at l (F.Octal end) → Right text n at l.value (step_for (F.Octal end) n)
    an_octal end w = go (eqb n most_tokens) refl
      where
        old : old_scan byte after ≡ token (numeral (literal_in hex l.value)) (end - (at + 1))
        old = ap by_old_rules (sym w.says.is) ∙ rw w.says.fits

        shorter : length (hex_numeral l.value) ≤ length (byte ∷ take (end - (at + 1)) after)
        shorter = (subst (IfOctal byte after) (sym w.says.is) (if_octal byte after)).shorter

        go : (t : Bool) → eqb n most_tokens ≡ t → Right text n at l.value (cond t (Err 7) (Ok (S.InHex end (n + 1))))
        go true f = token_full old (eqb-true n most_tokens f)
        go false f =
            let e = sym w.says.is in
            let some = eqb-false n most_tokens f in
            record {
              forward = w.ends.0;
              inside = w.ends.1;
              few = omega (arith, some);
              short = omega (arith, shorter, length-take (end - (at + 1)) after, w.ends.0);
              says = token_says (numeral (literal_in hex l.value)) end w.ends.0 old some;
              written = fixed_here _ end w.ends.0 (ap (λ (c : Scan). piece_for c byte after) e) (ap taken e);
            }

    pub step_right : (found : Lexeme) → Here text at l found → Right text n at l.value (step_for found n)
    step_right (F.Blank end) w = a_blank end w
    step_right (F.Token kind end) w = a_token kind end w
    step_right (F.Octal end) w = an_octal end w
    step_right F.OctalTooLarge w =
        let old : old_scan byte after ≡ too_large = ap by_old_rules (sym w.says.is) ∙ rw w.says.large in
        λ k. ap (telling k) (sym (large_step old_scan text at (most_tokens - n) h old))
    step_right F.NoToken w = λ k. ap (telling k) (sym (no_step old_scan text at (most_tokens - n) h (ap by_old_rules (sym w.says))))
    step_right F.TooLarge w = λ k. ap (telling k) (sym (large_step old_scan text at (most_tokens - n) h (ap by_old_rules (sym w.says))))

-- and of whatever it is
pub right_as : {text : List ℕ} {n at : ℕ} → n ≤ most_tokens → at < length text → (l : Literal) (found : Lexeme) → Here text at l found
    → {r : Result Step ℕ} → r ≡ step_for found n → {s : Result Step ℕ} → r ≡ s → Right text n at l.value s
right_as {text = text} {n = n} {at = at} few h l found here made is =
    subst (Right text n at l.value) (sym made ∙ is) (step_right text n at few h l found here)

-- n tokens are before an offset, and so many bytes are written for what is before it
pub record Passing (text out : List ℕ) (n at written : ℕ) : Type 0 where
  pub few : n ≤ most_tokens
  pub inside : at ≤ length text
  pub short : written ≤ at
  pub says : (k : ℕ) → telling k (old_from text n at) ≡ telling k (old_tokens text)
  pub stands : take written out ++ fixed_from 0 (drop at text) ≡ fixed text

pub passing_start : (text out : List ℕ) → Passing text out 0 0 0
unfolding old_tokens fixed
passing_start text out = record { few = omega arith; inside = omega arith; short = omega arith; says = λ k. refl; stands = refl }

module _ {text out : List ℕ} {n at written : ℕ} (going : Passing text out n at written) (large : length text ≤ length out) where
  pub room_there : {p : List ℕ} {end m : ℕ} → Onward text n at p end m → written + length p ≤ length out
  room_there on = omega (arith, on.short, on.inside, on.forward, going.short)

  pub passing_on : {p after : List ℕ} {end m r : ℕ} → Onward text n at p end m → Put out written p after r → Passing text after m end r
  passing_on {p} {after} {end} {m} {r} on put =
      record {
        few = on.few;
        inside = on.inside;
        short = omega (arith, put.ends, on.short, on.forward, going.short);
        says = λ k. on.says k ∙ going.says k;
        stands =
            rw (put.ends, put.stored, taken_so_far out p written (room_there on))
            (append_assoc (take written out) p (fixed_from 0 (drop end text)) ∙ ap (λ s. take written out ++ s) on.written ∙ going.stands);
      }

  pub passing_refused : {number : ℕ} → ((k : ℕ) → refused number in_text at ≡ telling k (old_from text n at))
      → refused number in_text at ≡ telling (length (fixed text)) (old_tokens text)
  passing_refused e = e (length (fixed text)) ∙ going.says (length (fixed text))

  module _ (end : length text ≤ at) where
    pub all_stands : take written out ≡ fixed text
    unfolding fixed_from
    all_stands = sym (append-nil (take written out)) ∙ rw (drop_of_length-le text end) at going.stands

    pub all_counted : ok written ≡ telling (length (fixed text)) (old_tokens text)
    all_counted =
        let count : length (fixed text) ≡ written =
        sym (ap length all_stands) ∙ length-take-le written out (omega (arith, going.short, going.inside))
        in
        ap ok (sym count) ∙ ap (telling (length (fixed text))) (sym (end_step old_scan text at (most_tokens - n) end)) ∙ going.says (length (fixed text))
