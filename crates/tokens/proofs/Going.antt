-- The loop over a text: the tokens that are on the tape, and those from the next byte on, are the text's.
use Prim.Native.Nat.{ℕ, suc, ◌+◌, ◌*◌, ◌-◌, ◌≤◌, ◌<◌}
use Rattle.std.specs.Prelude.{Err}
use mathlib.Core.Path.{◌≡◌, refl, ap, sym, ◌∙◌}
use mathlib.Core.Bool.{Bool, true, false, cond}
use mathlib.Core.List.{List, [], append-nil}
use native.Mathlib.Omega.{arith}
use lib.ListN.{length, get_or, drop}
use lib.Seq.{sets, length-sets}
use lib.Dec.{eqb}
use borrow.Author.Tests.{eqb-true, eqb-false, ne_eqb}
use Rattle.paper.specs.Answers.{Answer, ok, refused, in_text}
use Rattle.paper.specs.Tokens.{is_blank, Literal, plain, Token, Scan, octal_numeral, taken, scan, tokens_from, tokens, most_tokens}
use Rattle.paper.specs.Parts.{token_end}
use Rattle.number.specs.Bases.{literal_meant}
use Rattle.number.specs.declared.base.Literal as N
use Rattle.tokens.specs.Scanned.{Stands, kind_in, plain_end, plain_scan, plain_found}
use Rattle.tokens.specs.Tape.{Tape, tape_of, row_words, row_at, Has, Room, RoomFor, row_of, tokens_on}
use Rattle.tokens.specs.Tokenized.{CutSays, Placed, octal_refusal, row_refusal, Sound, SpansOn, EndsOn, refused_there}
use Rattle.tokens.specs.declared.Stop.TheVariants.{Over}
use Rattle.tokens.specs.declared.found.Lexeme.{Lexeme}
use Rattle.tokens.specs.declared.found.Lexeme.TheVariants as F
use Rattle.tokens.proofs.SignBytes.{plain_scanned}
use Rattle.tokens.proofs.Scans.{stands_as, as_blank, blank_stands}
use Rattle.tokens.proofs.Steps.{following, following_one, blank_step, token_step, full_step, octal_full_step, octal_step, no_step, large_step, end_step}
use Rattle.tokens.proofs.Storing.{tokens_stored, spans_stored, ends_stored}

-- what the paper scans at a byte
abbrev pub Here : List ℕ → ℕ → Literal → Lexeme → Type 0
Here text at literal found = Stands text at literal (scan (get_or text at 0) (drop (at + 1) text)) found

-- n tokens are stored of the bytes before `at`, each of which took a byte at least and has its row
pub record Going (T : Tape) (n at : ℕ) : Type 0 where
  pub few : n ≤ most_tokens
  pub taken : n ≤ at
  pub inside : at ≤ length T.text
  pub has : n * row_words ≤ length T.rows
  pub says : following (tokens_on T 0 n) (tokens_from 0 at (most_tokens - n) (drop at T.text)) ≡ tokens T.text
  pub placed : (i : ℕ) → i < n → SpansOn T i
  pub ended : (i : ℕ) → i < n → EndsOn T i

following_none : (a : Answer (List Token)) → following [] a ≡ a
following_none (ok ts) = refl
following_none (refused k i at) = refl

pub going_start : (T : Tape) → Going T 0 0
unfolding tokens_on tokens
going_start T =
    record {
      few = omega arith;
      taken = omega arith;
      inside = omega arith;
      has = omega arith;
      says = following_none (tokens_from 0 0 most_tokens T.text);
      placed = λ i h. absurd (omega arith);
      ended = λ i h. absurd (omega arith);
    }

module _ (text rows : List ℕ) (n at : ℕ) (g : Going (tape_of text rows) n at) (h : at < length text) where
  from_here : (a : Answer (List Token)) → tokens_from 0 at (most_tokens - n) (drop at text) ≡ a → following (tokens_on (tape_of text rows) 0 n) a ≡ tokens text
  from_here a e = ap (following (tokens_on (tape_of text rows) 0 n)) (sym e) ∙ g.says

  pub going_blank : (v : Literal) (end : ℕ) → Here text at v (F.Blank end) → Going (tape_of text rows) n end
  going_blank v end w =
      record {
        few = g.few;
        taken = omega (arith, g.taken, w.ends);
        inside = w.ends.1;
        has = g.has;
        says = from_here _ (blank_step scan text at (most_tokens - n) h end w.ends.0 (sym w.says));
        placed = g.placed;
        ended = g.ended;
      }

  -- a byte that is a blank by itself
  pub going_past : is_blank (get_or text at 0) ≡ true → Going (tape_of text rows) n (at + 1)
  going_past e =
      going_blank (plain 0) (at + 1) (stands_as refl refl (as_blank (get_or text at 0) (drop (at + 1) text) e) (blank_stands text at h))

  -- a slice with no row for the next token has none for each that the text could have
  pub going_over : n < most_tokens → length rows < (n + 1) * row_words → Room text rows → ⊥
  going_over few none room = omega (arith, none, room (n + 1) (omega arith) (omega (arith, g.taken)))

  -- a token ends where the paper's scan has taken it
  scanned_end : (v : Literal) (kind end : ℕ) → Here text at v (F.Token kind end) → end ≡ token_end text at
  unfolding token_end
  scanned_end v kind end w =
      let all : suc at + (end - (at + 1)) ≡ end = omega (arith, w.ends.taken) in
      let next : at + 1 ≡ suc at = omega arith in
      sym all ∙ ap (λ (s : Scan). suc at + taken s) w.says ∙ ap (λ (i : ℕ). suc at + taken (scan (get_or text at 0) (drop i text))) next

  pub going_token : (after : List ℕ) (kind end : ℕ) (l : N.Literal) → n < most_tokens → Has rows n
      → after ≡ sets rows (row_at n) (row_of kind at end l) → Here text at (literal_meant l) (F.Token kind end)
      → Going (tape_of text after) (n + 1) end
  going_token after kind end l few room put w =
      let e : most_tokens - n ≡ suc (most_tokens - (n + 1)) = omega arith in
      let rest = tokens_from 0 end (most_tokens - (n + 1)) (drop end text) in
      let step = token_step scan text at (most_tokens - (n + 1)) h _ end w.ends.taken (sym w.says) in
      record {
        few = omega arith;
        taken = omega (arith, g.taken, w.ends.taken);
        inside = w.ends.inside;
        has = omega (arith, room, ap length put, length-sets rows (row_at n) (row_of kind at end l));
        says =
            ap (λ (ts : List Token). following ts rest) (tokens_stored text rows after n kind at end l room put)
            ∙ sym (following_one (tokens_on (tape_of text rows) 0 n) _ rest)
            ∙ from_here _ (ap (λ k. tokens_from 0 at k (drop at text)) e ∙ step);
        placed = spans_stored text rows after n kind at end l room put w.ends g.placed;
        ended = ends_stored text rows after n kind at end l room put (scanned_end (literal_meant l) kind end w) g.ended;
      }

  pub going_full : (v : Literal) (kind end : ℕ) → n ≡ most_tokens → Here text at v (F.Token kind end)
      → refused 7 in_text at ≡ tokens text
  going_full v kind end full w =
      let e : most_tokens - n ≡ 0 = omega arith in
      from_here (refused 7 in_text at) (rw e (full_step scan text at 0 h _ _ (sym w.says)))

  -- a token for which there is no row
  pub going_no_row : (v : Literal) (kind end : ℕ) → RoomFor (length rows) n → Here text at v (F.Token kind end)
      → CutSays (tape_of text rows) (Err (row_refusal n at)) × Placed (tape_of text rows) (Err (row_refusal n at))
  going_no_row v kind end room w = go (eqb n most_tokens) refl
    where
      go : (full : Bool) → eqb n most_tokens ≡ full
          → CutSays (tape_of text rows) (Err (cond full (refused_there 7 at) Over)) × Placed (tape_of text rows) (Err (cond full (refused_there 7 at) Over))
      go true e = (going_full v kind end (eqb-true n most_tokens e) w, tt)
      go false e =
          let few : n < most_tokens = omega (arith, g.few, eqb-false n most_tokens e) in
          (going_over few (room.most few), tt)

  -- a word or a sign
  pub plain_here : is_blank (get_or text at 0) ≡ false → (code : ℕ) → (code ≡ 0 → ⊥)
      → Stands text at (plain 0) (plain_scan (get_or text at 0) (drop (at + 1) text)) (plain_found text at code)
      → Here text at (plain 0) (F.Token (kind_in code) (plain_end text at code))
  plain_here blank_not code some w =
      let is : Stands text at (plain 0) (plain_scan (get_or text at 0) (drop (at + 1) text)) (F.Token (kind_in code) (plain_end text at code)) = rw (ne_eqb code 0 some) at w in
      stands_as refl refl (plain_scanned (get_or text at 0) (drop (at + 1) text) _ _ is.says blank_not) is

  -- an octal numeral: there is room for a token or not
  pub going_octal : (v m : ℕ) → octal_numeral v m ≡ scan (get_or text at 0) (drop (at + 1) text)
      → CutSays (tape_of text rows) (Err (octal_refusal n at))
  going_octal v m e = go (eqb n most_tokens) refl
    where
      go : (full : Bool) → eqb n most_tokens ≡ full → refused (cond full 7 22) in_text at ≡ tokens text
      go true f =
          let none : most_tokens - n ≡ 0 = omega (arith, eqb-true n most_tokens f) in
          from_here (refused 7 in_text at) (rw none (octal_full_step scan text at 0 h v m (sym e)))
      go false f =
          let some : most_tokens - n ≡ suc (most_tokens - (n + 1)) = omega (arith, g.few, eqb-false n most_tokens f) in
          from_here (refused 22 in_text at) (rw some (octal_step scan text at (most_tokens - (n + 1)) h v m (sym e)))

  pub going_none : (v : Literal) → Here text at v F.NoToken
      → refused 5 in_text at ≡ tokens text
  going_none v w = from_here (refused 5 in_text at) (no_step scan text at (most_tokens - n) h (sym w.says))

  pub going_large : (v : Literal) → Here text at v F.TooLarge
      → refused 6 in_text at ≡ tokens text
  going_large v w = from_here (refused 6 in_text at) (large_step scan text at (most_tokens - n) h (sym w.says))

module _ (T : Tape) (n at : ℕ) (g : Going T n at) where
  pub going_end : length T.text ≤ at → ok (tokens_on T 0 n) ≡ tokens T.text
  going_end h =
      ap ok (sym (append-nil (tokens_on T 0 n)))
      ∙ ap (following (tokens_on T 0 n)) (sym (end_step scan T.text at (most_tokens - n) h)) ∙ g.says

  pub going_sound : Sound T n
  going_sound =
      record {
        cut = record { few = g.few; short = omega (arith, g.taken, g.inside); spans = g.placed; ends = g.ended };
        has = g.has;
      }
