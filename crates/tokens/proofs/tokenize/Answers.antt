-- `tokens::tokenize` meets its contract. The invariant of its loop (`Going`): the tokens on the tape, and those from the next byte
-- on, are the text's; and there are no more than the tape has room for. A blank is passed over at once; a word or a sign (`plain_here`) is stored
-- at once. What is scanned at another byte is a comment, which the loop passes over, a token, which it stores in the next row, or a refusal.
-- Where there is no row for a token, it is one more than a text may have, or there is no `Room` (`going_no_row`). The measure is the number of
-- bytes that are left: each turn takes one at least.
use Prim.Native.Nat.{ℕ, ◌≤◌, ◌<◌}
use native.Mathlib.Omega.{arith}
use mathlib.Core.Path.{◌≡◌, refl, ap, sym, subst, ◌∙◌}
use mathlib.Core.List.{List}
use lib.ListN.{length}
use Rattle.paper.specs.Tokens.{Literal, plain, most_tokens}
use Rattle.number.specs.Bases.{literal_meant}
use Rattle.tokens.specs.Tape.{tape_of, Has, RoomFor}
use Rattle.tokens.specs.Scanned.{kind_in, plain_end}
use Rattle.tokens.specs.declared.found.Lexeme.{Lexeme}
use Rattle.tokens.specs.declared.found.Lexeme.TheVariants as F
use Rattle.tokens.proofs.Scans.{stands_as}
use Rattle.tokens.proofs.Going.{Here, Going, going_start, going_blank, going_past, plain_here, going_token, going_no_row, going_octal, going_none, going_large, going_end, going_sound}
use Rattle.tokens.proofs.tokenize.Goals as goal

pub loop-at-init : goal.loop-at-init
loop-at-init c = (refl, omega arith, going_start _)

abbrev text : goal.Then-is_blank → List ℕ
text c = c.args.text.now

abbrev rows : goal.Then-is_blank → List ℕ
rows c = c.loop-at.tape

abbrev room : goal.Then-is_blank → ℕ
room c = c.room-room.result

abbrev n : goal.Then-is_blank → ℕ
n c = c.loop-at.n

abbrev at : goal.Then-is_blank → ℕ
at c = c.loop-at.at

same : (c : goal.Then-is_blank) → length (rows c) ≡ length c.args.tape.now
same c = c.loop-at.invariant.0

within : (c : goal.Then-is_blank) → n c ≤ room c
within c = c.loop-at.invariant.1

going : (c : goal.Then-is_blank) → Going (tape_of (text c) (rows c)) (n c) (at c)
going c = c.loop-at.invariant.2

more : (c : goal.Then-is_blank) → at c < length (text c)
more c = c.loop-at-test.true

-- a blank
pub loop-at-preserved-then-is_blank : goal.loop-at-preserved-then-is_blank
loop-at-preserved-then-is_blank c =
    (same c, within c, going_past (text c) (rows c) (n c) (at c) (going c) (more c) (sym c.is_blank.ensures ∙ c.if-is_blank.true))

abbrev text_2 : goal.After-no_row → List ℕ
text_2 c = c.args.text.now

abbrev rows_2 : goal.After-no_row → List ℕ
rows_2 c = c.loop-at.tape

abbrev room_2 : goal.After-no_row → ℕ
room_2 c = c.room-room.result

abbrev n_2 : goal.After-no_row → ℕ
n_2 c = c.loop-at.n

abbrev at_2 : goal.After-no_row → ℕ
at_2 c = c.loop-at.at

same_2 : (c : goal.After-no_row) → length (rows_2 c) ≡ length c.args.tape.now
same_2 c = c.loop-at.invariant.0

going_2 : (c : goal.After-no_row) → Going (tape_of (text_2 c) (rows_2 c)) (n_2 c) (at_2 c)
going_2 c = c.loop-at.invariant.2

more_2 : (c : goal.After-no_row) → at_2 c < length (text_2 c)
more_2 c = c.loop-at-test.true

rooms : (c : goal.After-no_row) → RoomFor (length (rows_2 c)) (room_2 c)
rooms c = subst (λ k. RoomFor k (room_2 c)) (sym (same_2 c)) c.room-room.ensures

-- as many tokens are stored as there is room for
full : (c : goal.After-no_row) → n_2 c ≡ room_2 c → RoomFor (length (rows_2 c)) (n_2 c)
full c e = subst (RoomFor (length (rows_2 c))) (sym e) (rooms c)

abbrev code : goal.After-no_row → ℕ
code c = c.code_at-code.result

plain_stands : (c : goal.After-no_row)
    → Here (text_2 c) (at_2 c) (plain 0) (F.Token (kind_in (code c)) (plain_end (text_2 c) (at_2 c) (code c)))
plain_stands c =
    plain_here (text_2 c) (rows_2 c) (n_2 c) (at_2 c) (going_2 c) (more_2 c) (sym c.is_blank.ensures ∙ c.if-is_blank.false) (code c) c.if-code-ne0.true c.code_at-code.ensures

pub returns-then-n-room : goal.returns-then-n-room
returns-then-n-room c =
    let both = going_no_row (text_2 c) (rows_2 c) (n_2 c) (at_2 c) (going_2 c) (more_2 c) (plain 0) _ _ (full c c.if-n-room.true) (plain_stands c) in
    rw c.no_row.ensures (record { says = both.0; placed = both.1 })

abbrev text_3 : goal.After-slice_known-then-code-ne0-1 → List ℕ
text_3 c = c.args.text.now

abbrev rows_3 : goal.After-slice_known-then-code-ne0-1 → List ℕ
rows_3 c = c.loop-at.tape

abbrev room_3 : goal.After-slice_known-then-code-ne0-1 → ℕ
room_3 c = c.room-room.result

abbrev n_3 : goal.After-slice_known-then-code-ne0-1 → ℕ
n_3 c = c.loop-at.n

abbrev at_3 : goal.After-slice_known-then-code-ne0-1 → ℕ
at_3 c = c.loop-at.at

same_3 : (c : goal.After-slice_known-then-code-ne0-1) → length (rows_3 c) ≡ length c.args.tape.now
same_3 c = c.loop-at.invariant.0

within_2 : (c : goal.After-slice_known-then-code-ne0-1) → n_3 c ≤ room_3 c
within_2 c = c.loop-at.invariant.1

going_3 : (c : goal.After-slice_known-then-code-ne0-1) → Going (tape_of (text_3 c) (rows_3 c)) (n_3 c) (at_3 c)
going_3 c = c.loop-at.invariant.2

more_3 : (c : goal.After-slice_known-then-code-ne0-1) → at_3 c < length (text_3 c)
more_3 c = c.loop-at-test.true

rooms_2 : (c : goal.After-slice_known-then-code-ne0-1) → RoomFor (length (rows_3 c)) (room_3 c)
rooms_2 c = subst (λ k. RoomFor k (room_3 c)) (sym (same_3 c)) c.room-room.ensures

-- or there is a row for another
has_row : (c : goal.After-slice_known-then-code-ne0-1) → (n_3 c ≡ room_3 c → ⊥) → Has (rows_3 c) (n_3 c)
has_row c e = omega (arith, (rooms_2 c).has, within_2 c, e)

below : (c : goal.After-slice_known-then-code-ne0-1) → (n_3 c ≡ room_3 c → ⊥) → n_3 c < most_tokens
below c e = omega (arith, (rooms_2 c).few, within_2 c, e)

abbrev code_2 : goal.After-slice_known-then-code-ne0-1 → ℕ
code_2 c = c.code_at-code.result

plain_stands_2 : (c : goal.After-slice_known-then-code-ne0-1)
    → Here (text_3 c) (at_3 c) (plain 0) (F.Token (kind_in (code_2 c)) (plain_end (text_3 c) (at_3 c) (code_2 c)))
plain_stands_2 c =
    plain_here (text_3 c) (rows_3 c) (n_3 c) (at_3 c) (going_3 c) (more_3 c) (sym c.is_blank.ensures ∙ c.if-is_blank.false) (code_2 c) c.if-code-ne0.true c.code_at-code.ensures

no_more : (c : goal.After-slice_known-then-code-ne0-1) → n_3 c ≡ room_3 c → ⊥
no_more c = c.if-n-room.false

pub loop-at-preserved-then-code-ne0 : goal.loop-at-preserved-then-code-ne0
loop-at-preserved-then-code-ne0 c =
    let row = c.put_plain.ensures in
    let here = stands_as (ap (F.Token (kind_in (code_2 c))) c.end_of-end.ensures) row.zero refl (plain_stands_2 c) in
    (omega (arith, c.put_plain.auto, same_3 c), omega (arith, within_2 c, no_more c), going_token (text_3 c) (rows_3 c) (n_3 c) (at_3 c) (going_3 c) (more_3 c) _ (kind_in (code_2 c)) c.end_of-end.result row.literal (below c (no_more c)) (has_row c (no_more c)) row.stored here)

abbrev text_4 : goal.In-Blank → List ℕ
text_4 c = c.args.text.now

abbrev rows_4 : goal.In-Blank → List ℕ
rows_4 c = c.loop-at.tape

abbrev room_4 : goal.In-Blank → ℕ
room_4 c = c.room-room.result

abbrev n_4 : goal.In-Blank → ℕ
n_4 c = c.loop-at.n

abbrev at_4 : goal.In-Blank → ℕ
at_4 c = c.loop-at.at

same_4 : (c : goal.In-Blank) → length (rows_4 c) ≡ length c.args.tape.now
same_4 c = c.loop-at.invariant.0

within_3 : (c : goal.In-Blank) → n_4 c ≤ room_4 c
within_3 c = c.loop-at.invariant.1

going_4 : (c : goal.In-Blank) → Going (tape_of (text_4 c) (rows_4 c)) (n_4 c) (at_4 c)
going_4 c = c.loop-at.invariant.2

more_4 : (c : goal.In-Blank) → at_4 c < length (text_4 c)
more_4 c = c.loop-at-test.true

abbrev literal : goal.In-Blank → Literal
literal c = literal_meant c.scan-scanned.result.literal

here : (c : goal.In-Blank) (f : Lexeme) → c.scan-scanned.result.found ≡ f → Here (text_4 c) (at_4 c) (literal c) f
here c f e = rw e at c.scan-scanned.ensures

-- a comment
pub loop-at-preserved-in-Blank : goal.loop-at-preserved-in-Blank
loop-at-preserved-in-Blank c =
    (same_4 c, within_3 c, going_blank (text_4 c) (rows_4 c) (n_4 c) (at_4 c) (going_4 c) (more_4 c) (literal c) c.in-Blank.end (here c _ c.in-Blank.is))

abbrev text_5 : goal.After-no_row-then-n-room-2 → List ℕ
text_5 c = c.args.text.now

abbrev rows_5 : goal.After-no_row-then-n-room-2 → List ℕ
rows_5 c = c.loop-at.tape

abbrev room_5 : goal.After-no_row-then-n-room-2 → ℕ
room_5 c = c.room-room.result

abbrev n_5 : goal.After-no_row-then-n-room-2 → ℕ
n_5 c = c.loop-at.n

abbrev at_5 : goal.After-no_row-then-n-room-2 → ℕ
at_5 c = c.loop-at.at

same_5 : (c : goal.After-no_row-then-n-room-2) → length (rows_5 c) ≡ length c.args.tape.now
same_5 c = c.loop-at.invariant.0

going_5 : (c : goal.After-no_row-then-n-room-2) → Going (tape_of (text_5 c) (rows_5 c)) (n_5 c) (at_5 c)
going_5 c = c.loop-at.invariant.2

more_5 : (c : goal.After-no_row-then-n-room-2) → at_5 c < length (text_5 c)
more_5 c = c.loop-at-test.true

rooms_3 : (c : goal.After-no_row-then-n-room-2) → RoomFor (length (rows_5 c)) (room_5 c)
rooms_3 c = subst (λ k. RoomFor k (room_5 c)) (sym (same_5 c)) c.room-room.ensures

-- as many tokens are stored as there is room for
full_2 : (c : goal.After-no_row-then-n-room-2) → n_5 c ≡ room_5 c → RoomFor (length (rows_5 c)) (n_5 c)
full_2 c e = subst (RoomFor (length (rows_5 c))) (sym e) (rooms_3 c)

abbrev literal_2 : goal.After-no_row-then-n-room-2 → Literal
literal_2 c = literal_meant c.scan-scanned.result.literal

here_2 : (c : goal.After-no_row-then-n-room-2) (f : Lexeme) → c.scan-scanned.result.found ≡ f → Here (text_5 c) (at_5 c) (literal_2 c) f
here_2 c f e = rw e at c.scan-scanned.ensures

abbrev kind : goal.After-no_row-then-n-room-2 → ℕ
kind c = c.in-Token.kind

abbrev end : goal.After-no_row-then-n-room-2 → ℕ
end c = c.in-Token.end

token_here : (c : goal.After-no_row-then-n-room-2) → Here (text_5 c) (at_5 c) (literal_2 c) (F.Token (kind c) (end c))
token_here c = here_2 c _ c.in-Token.is

pub returns-then-n-room-2 : goal.returns-then-n-room-2
returns-then-n-room-2 c =
    let both = going_no_row (text_5 c) (rows_5 c) (n_5 c) (at_5 c) (going_5 c) (more_5 c) (literal_2 c) (kind c) (end c) (full_2 c c.if-n-room-2.true) (token_here c) in
    rw c.no_row-then-n-room-2.ensures (record { says = both.0; placed = both.1 })

abbrev text_6 : goal.After-slice_known-in-Token-1 → List ℕ
text_6 c = c.args.text.now

abbrev rows_6 : goal.After-slice_known-in-Token-1 → List ℕ
rows_6 c = c.loop-at.tape

abbrev room_6 : goal.After-slice_known-in-Token-1 → ℕ
room_6 c = c.room-room.result

abbrev n_6 : goal.After-slice_known-in-Token-1 → ℕ
n_6 c = c.loop-at.n

abbrev at_6 : goal.After-slice_known-in-Token-1 → ℕ
at_6 c = c.loop-at.at

same_6 : (c : goal.After-slice_known-in-Token-1) → length (rows_6 c) ≡ length c.args.tape.now
same_6 c = c.loop-at.invariant.0

within_4 : (c : goal.After-slice_known-in-Token-1) → n_6 c ≤ room_6 c
within_4 c = c.loop-at.invariant.1

going_6 : (c : goal.After-slice_known-in-Token-1) → Going (tape_of (text_6 c) (rows_6 c)) (n_6 c) (at_6 c)
going_6 c = c.loop-at.invariant.2

more_6 : (c : goal.After-slice_known-in-Token-1) → at_6 c < length (text_6 c)
more_6 c = c.loop-at-test.true

rooms_4 : (c : goal.After-slice_known-in-Token-1) → RoomFor (length (rows_6 c)) (room_6 c)
rooms_4 c = subst (λ k. RoomFor k (room_6 c)) (sym (same_6 c)) c.room-room.ensures

-- or there is a row for another
has_row_2 : (c : goal.After-slice_known-in-Token-1) → (n_6 c ≡ room_6 c → ⊥) → Has (rows_6 c) (n_6 c)
has_row_2 c e = omega (arith, (rooms_4 c).has, within_4 c, e)

below_2 : (c : goal.After-slice_known-in-Token-1) → (n_6 c ≡ room_6 c → ⊥) → n_6 c < most_tokens
below_2 c e = omega (arith, (rooms_4 c).few, within_4 c, e)

abbrev literal_3 : goal.After-slice_known-in-Token-1 → Literal
literal_3 c = literal_meant c.scan-scanned.result.literal

here_3 : (c : goal.After-slice_known-in-Token-1) (f : Lexeme) → c.scan-scanned.result.found ≡ f → Here (text_6 c) (at_6 c) (literal_3 c) f
here_3 c f e = rw e at c.scan-scanned.ensures

abbrev kind_2 : goal.After-slice_known-in-Token-1 → ℕ
kind_2 c = c.in-Token.kind

abbrev end_2 : goal.After-slice_known-in-Token-1 → ℕ
end_2 c = c.in-Token.end

token_here_2 : (c : goal.After-slice_known-in-Token-1) → Here (text_6 c) (at_6 c) (literal_3 c) (F.Token (kind_2 c) (end_2 c))
token_here_2 c = here_3 c _ c.in-Token.is

pub loop-at-preserved : goal.loop-at-preserved
loop-at-preserved c =
    let none = c.if-n-room-2.false in
    (omega (arith, c.put.auto, same_6 c), omega (arith, within_4 c, none), going_token (text_6 c) (rows_6 c) (n_6 c) (at_6 c) (going_6 c) (more_6 c) _ (kind_2 c) (end_2 c) c.scan-scanned.result.literal (below_2 c none) (has_row_2 c none) c.put.ensures (token_here_2 c))

abbrev text_7 : goal.After-octal_refused → List ℕ
text_7 c = c.args.text.now

abbrev rows_7 : goal.After-octal_refused → List ℕ
rows_7 c = c.loop-at.tape

abbrev n_7 : goal.After-octal_refused → ℕ
n_7 c = c.loop-at.n

abbrev at_7 : goal.After-octal_refused → ℕ
at_7 c = c.loop-at.at

going_7 : (c : goal.After-octal_refused) → Going (tape_of (text_7 c) (rows_7 c)) (n_7 c) (at_7 c)
going_7 c = c.loop-at.invariant.2

more_7 : (c : goal.After-octal_refused) → at_7 c < length (text_7 c)
more_7 c = c.loop-at-test.true

abbrev literal_4 : goal.After-octal_refused → Literal
literal_4 c = literal_meant c.scan-scanned.result.literal

here_4 : (c : goal.After-octal_refused) (f : Lexeme) → c.scan-scanned.result.found ≡ f → Here (text_7 c) (at_7 c) (literal_4 c) f
here_4 c f e = rw e at c.scan-scanned.ensures

-- an octal numeral
pub returns-in-Octal : goal.returns-in-Octal
returns-in-Octal c =
    let found = here_4 c _ c.in-Octal.is in
    rw c.octal_refused.ensures (record { says = going_octal (text_7 c) (rows_7 c) (n_7 c) (at_7 c) (going_7 c) (more_7 c) _ _ found.says.is; placed = tt })

abbrev text_8 : goal.After-octal_refused-in-OctalTooLarge → List ℕ
text_8 c = c.args.text.now

abbrev rows_8 : goal.After-octal_refused-in-OctalTooLarge → List ℕ
rows_8 c = c.loop-at.tape

abbrev n_8 : goal.After-octal_refused-in-OctalTooLarge → ℕ
n_8 c = c.loop-at.n

abbrev at_8 : goal.After-octal_refused-in-OctalTooLarge → ℕ
at_8 c = c.loop-at.at

going_8 : (c : goal.After-octal_refused-in-OctalTooLarge) → Going (tape_of (text_8 c) (rows_8 c)) (n_8 c) (at_8 c)
going_8 c = c.loop-at.invariant.2

more_8 : (c : goal.After-octal_refused-in-OctalTooLarge) → at_8 c < length (text_8 c)
more_8 c = c.loop-at-test.true

abbrev literal_5 : goal.After-octal_refused-in-OctalTooLarge → Literal
literal_5 c = literal_meant c.scan-scanned.result.literal

here_5 : (c : goal.After-octal_refused-in-OctalTooLarge) (f : Lexeme) → c.scan-scanned.result.found ≡ f → Here (text_8 c) (at_8 c) (literal_5 c) f
here_5 c f e = rw e at c.scan-scanned.ensures

pub returns-in-OctalTooLarge : goal.returns-in-OctalTooLarge
returns-in-OctalTooLarge c =
    let found = here_5 c _ c.in-OctalTooLarge.is in
    rw c.octal_refused-in-OctalTooLarge.ensures (record { says = going_octal (text_8 c) (rows_8 c) (n_8 c) (at_8 c) (going_8 c) (more_8 c) _ _ found.says.is; placed = tt })

-- no token, and a numeral that is too large
pub returns-in-NoToken : goal.returns-in-NoToken
returns-in-NoToken c =
    let l = c.loop-at in
    let here : Here c.args.text.now l.at _ F.NoToken = rw c.in-NoToken.is at c.scan-scanned.ensures in
    rw c.refused.ensures (record { says = going_none c.args.text.now l.tape l.n l.at l.invariant.2 c.loop-at-test.true _ here; placed = tt })

pub returns-in-TooLarge : goal.returns-in-TooLarge
returns-in-TooLarge c =
    let l = c.loop-at in
    let here : Here c.args.text.now l.at _ F.TooLarge = rw c.in-TooLarge.is at c.scan-scanned.ensures in
    rw c.refused-in-TooLarge.ensures (record { says = going_large c.args.text.now l.tape l.n l.at l.invariant.2 c.loop-at-test.true _ here; placed = tt })

-- the end
pub returns : goal.returns
returns c =
    let loop = c.loop-at in
    record { says = going_end _ loop.n loop.at loop.invariant.2 c.loop-at-test.false; placed = going_sound _ loop.n loop.at loop.invariant.2 }
