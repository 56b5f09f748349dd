-- Refusals 5, 6, 7 and 22 by the table, for any scanner: by the one that holds, and by the old rules, under which there is no 22.
use Prim.Native.Nat.{ℕ, zero, suc, ◌+◌, ◌-◌, ◌^◌, ◌≤◌, ◌<◌}
use native.Mathlib.Nat.{add-zero}
use native.Mathlib.Decide.{dec_lt, ℕ_discrete}
use native.Mathlib.Omega.{arith}
use mathlib.Core.Logic.{◌↔◌, inl, inr}
use mathlib.Core.Bool.{Bool, true, false, true≢false, cond}
use mathlib.Core.Path.{◌≡◌, refl, sym, ap, ap₂, subst, fun_ext, ◌∙◌}
use mathlib.Core.List.{List, [], ◌∷◌, ◌++◌, append_assoc, append-nil, head-eq_of_cons-eq, tail-eq_of_cons-eq}
use lib.ListN.{length, drop, length-append, length-drop, drop_of_length-le}
use lib.Seq.{drop-cons, drop-drop}
use lib.Dec.{ltb}
use Rattle.paper.specs.Answers.{Answer, ok, refused, ◌>>=◌, in_text}
use Rattle.paper.specs.Tokens.{hex, literal_in, numeral, Token, Scan, blank, token, octal_numeral, no_token, too_large, Scanner, scan, onward, tokens_by, tokens, most_tokens}
use Rattle.paper.specs.Faults.{look_at, CutBy, CutsBy, at_start, a_blank, a_token, TokenFaults, scan_at, no_token_lem, numeral_large, one_more_token, one_more_octal, octal_numeral_lem, Cut, TextTokens}
use Rattle.paper.specs.Fixing.{by_old_rules, old_scan, old_tokens}
use Rattle.paper.specs.Table.{TokensAreCut}
use Rattle.paper.proofs.Stages.{never_ok}
use Rattle.paper.proofs.StagesInOrder.{Tells, RefusedFor, soonest_tells}

-- bytes that are taken already are passed over
module _ (look : Scanner) where
  pub skip : (n at room : ℕ) (s : List ℕ) → tokens_by look n at room s ≡ tokens_by look 0 (at + n) room (drop n s)
  unfolding tokens_by
  skip zero at room s = rw add-zero
  skip (suc n) at room [] = refl
  skip (suc n) at room (b ∷ s) =
      let e : suc at + n ≡ at + suc n = omega arith in
      skip n (suc at) room s ∙ ap (λ m. tokens_by look 0 m room (drop n s)) e

module _ (look : Scanner) (text : List ℕ) where
  -- the tokens by this scanner
  abbrev found : Answer (List Token)
  found = tokens_by look 0 0 most_tokens text

  -- after the tokens cut so far: a refusal is a fault, and what passes cuts the text

  abbrev Told : List Token → Answer (List Token) → Type 0
  Told ts (ok us) = CutsBy look text (ts ++ us)
  Told ts (refused n j at) = (j ≡ in_text) × TokenFaults look text n at

  with_first : (ts : List Token) (u : Token) (a : Answer (List Token)) → Told (ts ++ (u ∷ [])) a → Told ts (a >>= λ us. ok (u ∷ us))
  with_first ts u (ok us) h = subst (CutsBy look text) (append_assoc ts (u ∷ []) us) h
  with_first ts u (refused n j at) h = h

  -- what follows a cut there, whatever was cut
  abbrev Goes : ℕ → (ℕ → ℕ → Answer (List Token)) → Type 0
  Goes at go = (n left : ℕ) (ts : List Token) → CutBy look text (suc at + n) ts → length ts + left ≡ most_tokens → Told ts (go n left)

  onward_told : (c : Scan) (at room : ℕ) (ts : List Token) (go : ℕ → ℕ → Answer (List Token)) → CutBy look text at ts → at < length text
      → length ts + room ≡ most_tokens → look_at look text at ≡ c → Goes at go → Told ts (onward c at room go)
  onward_told (blank n) at room ts go cut inside whole e later = later n room ts (a_blank n cut inside e) whole
  onward_told (token k n) at zero ts go cut inside whole e later = (refl, one_more_token k n cut (omega arith) inside e)
  onward_told (token k n) at (suc room) ts go cut inside whole e later =
      let u : Token = record { at = at; tok = k } in
      with_first ts u (go n room) (later n room (ts ++ (u ∷ [])) (a_token k n cut inside e) (rw length-append (omega arith)))
  onward_told (octal_numeral v n) at zero ts go cut inside whole e later = (refl, one_more_octal v n cut (omega arith) inside e)
  onward_told (octal_numeral v n) at (suc room) ts go cut inside whole e later = (refl, octal_numeral_lem v n cut inside e)
  onward_told no_token at room ts go cut inside whole e later = (refl, no_token_lem cut inside e)
  onward_told too_large at room ts go cut inside whole e later = (refl, numeral_large cut inside e)

  -- a byte that is there
  record There (at b : ℕ) (s : List ℕ) : Type 0 where
    inside : at < length text
    scanned : look_at look text at ≡ look b s
    next : drop (suc at) text ≡ s

  there : (at b : ℕ) (s : List ℕ) → drop at text ≡ b ∷ s → There at b s
  there at b s e =
      let inside : at < length text = omega (arith, length-drop at text, ap length e) in
      let cons = sym (drop-cons text at 0 inside) ∙ e in
      record {
        inside = inside;
        scanned = ap₂ look (head-eq_of_cons-eq cons) (tail-eq_of_cons-eq cons);
        next = tail-eq_of_cons-eq cons;
      }

  from_told : (s : List ℕ) (n at room : ℕ) (ts : List Token) → drop at text ≡ s → CutBy look text (at + n) ts
      → length ts + room ≡ most_tokens → Told ts (tokens_by look n at room s)
  unfolding tokens_by
  from_told [] n at room ts here cut whole =
      let out : length text ≤ at + n = omega (arith, length-drop at text, ap length here) in
      subst (CutsBy look text) (sym (append-nil ts)) (at + n, cut, out, omega arith)
  from_told (b ∷ s) (suc n) at room ts here cut whole =
      let e : at + suc n ≡ suc at + n = omega arith in
      from_told s n (suc at) room ts (there at b s here).next (subst (λ m. CutBy look text m ts) e cut) whole
  from_told (b ∷ s) zero at room ts here cut whole =
      let t = there at b s here in
      onward_told (look b s) at room ts (λ n left. tokens_by look n (suc at) left s) (subst (λ m. CutBy look text m ts) (add-zero at) cut)
      t.inside whole t.scanned (λ n left ts cut whole. from_told s n (suc at) left ts t.next cut whole)

  found_told : Told [] found
  found_told = from_told text 0 0 most_tokens [] refl at_start refl

  -- what was cut stays

  abbrev after : List Token → Answer (List Token) → Answer (List Token)
  after ts a = a >>= λ us. ok (ts ++ us)

  after_none : (a : Answer (List Token)) → after [] a ≡ a
  after_none (ok us) = refl
  after_none (refused n i at) = refl

  after_one : (ts : List Token) (u : Token) (a : Answer (List Token)) → after ts (a >>= λ us. ok (u ∷ us)) ≡ after (ts ++ (u ∷ [])) a
  after_one ts u (ok us) = ap (λ (s : List Token). ok s) (sym (append_assoc ts (u ∷ []) us))
  after_one ts u (refused n i at) = refl

  abbrev reading : ℕ → ℕ → Answer (List Token)
  reading at room = tokens_by look 0 at room (drop at text)

  reads_on : (at room : ℕ) → at < length text → reading at room ≡ onward (look_at look text at) at room (λ n left. reading (suc at + n) left)
  unfolding tokens_by
  reads_on at room inside =
      ap (tokens_by look 0 at room) (drop-cons text at 0 inside)
      ∙ ap (onward (look_at look text at) at room)
      (fun_ext λ n. fun_ext λ left.
      skip look n (suc at) left (drop (suc at) text) ∙ ap (tokens_by look 0 (suc at + n) left) (drop-drop n (suc at) text))

  cut_reads : (at : ℕ) (ts : List Token) → CutBy look text at ts → length ts ≤ most_tokens
      → found ≡ after ts (reading at (most_tokens - length ts))
  cut_reads at ts at_start few = sym (after_none (reading 0 most_tokens))
  cut_reads at ts (a_blank {at = from} n cut inside e) few =
      cut_reads from ts cut few
      ∙ ap (after ts)
      (reads_on from (most_tokens - length ts) inside
      ∙ ap (λ c. onward c from (most_tokens - length ts) (λ n left. reading (suc from + n) left)) e)
  cut_reads at ts (a_token {at = from} {ts = vs} k n cut inside e) few =
      let u : Token = record { at = from; tok = k } in
      let more : length (vs ++ (u ∷ [])) ≡ suc (length vs) = length-append vs (u ∷ []) ∙ omega arith in
      let room : most_tokens - length vs ≡ suc (most_tokens - length (vs ++ (u ∷ []))) = omega (arith, more) in
      cut_reads from vs cut (omega (arith, more))
      ∙ ap (after vs)
      (reads_on from (most_tokens - length vs) inside
      ∙ ap₂ (λ c m. onward c from m (λ n left. reading (suc from + n) left)) e room)
      ∙ after_one vs u (reading (suc from + n) (most_tokens - length (vs ++ (u ∷ []))))

  -- a fault is refused

  abbrev goes_on : ℕ → ℕ → ℕ → Answer (List Token)
  goes_on at n left = reading (suc at + n) left

  stopped : (at : ℕ) (ts : List Token) (room n : ℕ) (c : Scan) → CutBy look text at ts → length ts ≤ most_tokens
      → most_tokens - length ts ≡ room → at < length text → look_at look text at ≡ c → onward c at room (goes_on at) ≡ refused n in_text at
      → found ≡ refused n in_text at
  stopped at ts room n c cut few left inside e gives =
      cut_reads at ts cut few
      ∙ ap (after ts) (reads_on at (most_tokens - length ts) inside ∙ ap₂ (λ c m. onward c at m (goes_on at)) e left ∙ gives)

  -- what would be one token more
  full_refused : (at : ℕ) (ts : List Token) (c : Scan) → CutBy look text at ts → length ts ≡ most_tokens → at < length text
      → look_at look text at ≡ c → onward c at 0 (goes_on at) ≡ refused 7 in_text at → found ≡ refused 7 in_text at
  full_refused at ts c cut full inside e gives = stopped at ts 0 7 c cut (omega arith) (omega arith) inside e gives

  abbrev SevenBefore : ℕ → Type 0
  SevenBefore at = (to : ℕ) × (found ≡ refused 7 in_text to) × (to < at)

  -- more tokens than there is room for: one of them was the first too many
  too_many : (at : ℕ) (ts : List Token) → CutBy look text at ts → most_tokens < length ts → SevenBefore at
  too_many at ts at_start many = absurd (omega arith)
  too_many at ts (a_blank {at = from} n cut inside e) many =
      let (to, given, l) = too_many from ts cut many in
      (to, given, omega arith)
  too_many at ts (a_token {at = from} {ts = vs} k n cut inside e) many = go (ℕ_discrete (length vs) most_tokens) (λ l. too_many from vs cut l)
    where
      more : length ts ≡ suc (length vs)
      more = length-append vs (record { at = from; tok = k } ∷ []) ∙ omega arith

      go : Dec (length vs ≡ most_tokens) → (most_tokens < length vs → SevenBefore from) → SevenBefore at
      go (yes full) before = (from, full_refused from vs (token k n) cut full inside e refl, omega arith)
      go (no other) before = let (to, given, l) = before (omega (arith, more)) in (to, given, omega arith)

  -- so there are no more in a text that passes, however far it is cut
  few_cut : (at : ℕ) (ts us : List Token) → CutBy look text at ts → found ≡ ok us → length ts ≤ most_tokens
  few_cut at ts us cut passed = go (dec_lt most_tokens (length ts))
    where
      go : Dec (most_tokens < length ts) → length ts ≤ most_tokens
      go (yes many) = let (to, given, _) = too_many at ts cut many in absurd (never_ok (sym given ∙ passed))
      go (no few) = omega arith

  -- that fault itself
  given_itself : (n at : ℕ) → found ≡ refused n in_text at → RefusedFor found in_text n at
  given_itself n at e = (n, at, e, inr (refl, omega arith))

  -- 5, 6 or 22, unless there are too many tokens before it
  refused_for : (at : ℕ) (ts : List Token) (n : ℕ) → CutBy look text at ts → (length ts ≤ most_tokens → RefusedFor found in_text n at)
      → RefusedFor found in_text n at
  refused_for at ts n cut given = go (dec_lt most_tokens (length ts))
    where
      go : Dec (most_tokens < length ts) → RefusedFor found in_text n at
      go (yes many) = let (to, earlier, l) = too_many at ts cut many in (7, to, earlier, inl l)
      go (no few) = given (omega arith)

  -- an octal numeral: 7 where it would be one token more, else 22
  octal_refused : (at : ℕ) (ts : List Token) (v n : ℕ) → CutBy look text at ts → at < length text
      → look_at look text at ≡ octal_numeral v n → length ts ≤ most_tokens → RefusedFor found in_text 22 at
  octal_refused at ts v n cut inside e few = go (ℕ_discrete (length ts) most_tokens)
    where
      go : Dec (length ts ≡ most_tokens) → RefusedFor found in_text 22 at
      go (yes full) = (7, at, full_refused at ts (octal_numeral v n) cut full inside e refl, inr (refl, omega arith))
      go (no other) =
          let room : most_tokens - length ts ≡ suc (most_tokens - suc (length ts)) = omega arith in
          given_itself 22 at (stopped at ts (suc (most_tokens - suc (length ts))) 22 (octal_numeral v n) cut few room inside e refl)

  fault_refused : (n at : ℕ) → TokenFaults look text n at → RefusedFor found in_text n at
  fault_refused n at (no_token_lem {ts = ts} cut inside e) =
      refused_for at ts 5 cut
      (λ few. given_itself 5 at (stopped at ts (most_tokens - length ts) 5 no_token cut few refl inside e refl))
  fault_refused n at (numeral_large {ts = ts} cut inside e) =
      refused_for at ts 6 cut
      (λ few. given_itself 6 at (stopped at ts (most_tokens - length ts) 6 too_large cut few refl inside e refl))
  fault_refused n at (one_more_token {ts = ts} k m cut full inside e) =
      given_itself 7 at (full_refused at ts (token k m) cut full inside e refl)
  fault_refused n at (one_more_octal {ts = ts} v m cut full inside e) =
      given_itself 7 at (full_refused at ts (octal_numeral v m) cut full inside e refl)
  fault_refused n at (octal_numeral_lem {ts = ts} v m cut inside e) = refused_for at ts 22 cut (octal_refused at ts v m cut inside e)

  found_tells : Tells in_text (TokenFaults look text) found
  found_tells =
      soonest_tells in_text (TokenFaults look text) found (λ n j at e. subst (Told []) e found_told) fault_refused

  -- all of it cut
  cuts_read : (ts : List Token) → CutsBy look text ts → found ≡ ok ts
  unfolding tokens_by
  cuts_read ts (end, cut, out, few) =
      cut_reads end ts cut few
      ∙ ap (λ s. after ts (tokens_by look 0 end (most_tokens - length ts) s)) (drop_of_length-le text out)
      ∙ ap (λ (s : List Token). ok s) (append-nil ts)

  found_is_cut : (ts : List Token) → (found ≡ ok ts) ↔ CutsBy look text ts
  found_is_cut ts = (λ e. subst (Told []) e found_told, cuts_read ts)

-- by the rules that hold

pub tokens_tell : (text : List ℕ) → Tells in_text (TextTokens text) (tokens text)
unfolding tokens
tokens_tell text = found_tells scan text

pub tokens_are_cut : TokensAreCut
unfolding tokens
tokens_are_cut text ts = found_is_cut scan text ts

pub few_tokens : (text : List ℕ) (at : ℕ) (ts us : List Token) → Cut text at ts → tokens text ≡ ok us → length ts ≤ most_tokens
unfolding tokens
few_tokens text at ts us cut passed = few_cut scan text at ts us cut passed

-- by the old ones

pub old_tokens_tell : (text : List ℕ) → Tells in_text (TokenFaults old_scan text) (old_tokens text)
unfolding old_tokens
old_tokens_tell text = found_tells old_scan text

pub old_tokens_are_cut : (text : List ℕ) (ts : List Token) → (old_tokens text ≡ ok ts) ↔ CutsBy old_scan text ts
unfolding old_tokens
old_tokens_are_cut text ts = found_is_cut old_scan text ts

-- by which no octal numeral is left over

abbrev left_over : Scan → Bool
left_over (blank n) = false
left_over (token t n) = false
left_over (octal_numeral v n) = true
left_over no_token = false
left_over too_large = false

none_left_over : (c : Scan) → left_over (by_old_rules c) ≡ false
none_left_over (blank n) = refl
none_left_over (token t n) = refl
none_left_over (octal_numeral v n) = go (ltb v (2 ^ 128))
  where
    go : (b : Bool) → left_over (cond b (token (numeral (literal_in hex v)) n) too_large) ≡ false
    go true = refl
    go false = refl
none_left_over no_token = refl
none_left_over too_large = refl

pub never_octal : (c : Scan) (v n : ℕ) → ¬ (by_old_rules c ≡ octal_numeral v n)
never_octal c v n e = true≢false (sym (ap left_over e) ∙ none_left_over c)

pub old_numbers : (text : List ℕ) (n at : ℕ) → TokenFaults old_scan text n at → n ≤ 7
old_numbers text n at (no_token_lem cut inside e) = omega arith
old_numbers text n at (numeral_large cut inside e) = omega arith
old_numbers text n at (one_more_token k m cut full inside e) = omega arith
old_numbers text n at (one_more_octal v m cut full inside e) = omega arith
old_numbers text n at (octal_numeral_lem v m cut inside e) = absurd (never_octal (scan_at text at) v m e)
