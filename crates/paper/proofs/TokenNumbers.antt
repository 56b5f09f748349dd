-- A text that is cut into tokens has at most 1,024, its numerals are below 2^128, and its words have the form of a key.
use Prim.Native.Nat.{ℕ, zero, suc, ◌^◌, ◌≤◌, ◌<◌, zero-le, suc-le-suc}
use mathlib.Core.Path.{◌≡◌, refl, sym, ap, subst}
use mathlib.Core.Bool.{Bool, true, false, not, cond, ◌&&◌, ◌||◌, true≢false}
use mathlib.Core.Option.{Option, none, some}
use mathlib.Core.List.{List, [], ◌∷◌}
use lib.ListN.{length, take, drop}
use lib.Dec.{eqb, ltb}
use borrow.Author.Tests.{ltb-true, eq-eqb}
use Rattle.paper.specs.Answers.{Answer, ok}
use Rattle.paper.specs.Tokens.{is, span, starts, is_id_byte, is_id_start, is_digit, is_blank, word_more, is_key, spelling, is_numeral, numeral_value, Notation, based, octal, literal_in, Sign, one_byte, two_bytes, Tok, word, numeral, string, sign, Token, Scan, blank, token, octal_numeral, no_token, too_large, numeral_scan, scan_comment, scan_one, scan_two, scan_sign, is_space, is_slash, is_quote, is_letter, is_figure, is_other, class_of, scan_class, scan, onward, tokens_by, tokens_from, tokens, most_tokens}
use Rattle.paper.specs.BlocksRoundTrip.{All}
use Rattle.paper.proofs.Stages.{Of, of_bind}

abbrev pub Good : Tok → Type 0
Good (word w) = is_key w ≡ true
Good (numeral n) = n.value < 2 ^ 128
Good (string q) = Unit {0}
Good (sign g) = Unit {0}

abbrev pub AllGood : List Token → Type 0
AllGood us = All (λ u. Good u.tok) us

abbrev Scanned : Scan → Type 0
Scanned (blank n) = Unit {0}
Scanned (token t n) = Good t
Scanned (octal_numeral v n) = Unit {0}
Scanned no_token = Unit {0}
Scanned too_large = Unit {0}

sign_good : (o : Option Sign) → Scanned (scan_one o)
sign_good none = tt
sign_good (some g) = tt

two_good : (o : Option Sign) (b : ℕ) → Scanned (scan_two o b)
two_good none b = sign_good (one_byte b)
two_good (some g) b = tt

either : (b : Bool) (x y : Scan) → Scanned x → Scanned y → Scanned (cond b x y)
either true x y h k = h
either false x y h k = k

comment_good : (s : List ℕ) → Scanned (scan_comment s)
comment_good [] = tt
comment_good (c ∷ s) = either (is "/" c) (blank _) no_token tt tt

signs_good : (b : ℕ) (s : List ℕ) → Scanned (scan_sign b s)
signs_good b [] = sign_good (one_byte b)
signs_good b (c ∷ s) = two_good (two_bytes b c) b

numeral_good : (o : Notation) (v more : ℕ) → Scanned (numeral_scan o v more)
numeral_good octal v more = tt
numeral_good (based base) v more = go (ltb v (2 ^ 128)) refl
  where
    go : (b : Bool) → ltb v (2 ^ 128) ≡ b → Scanned (cond b (token (numeral (literal_in base v)) more) too_large)
    go true e = ltb-true v (2 ^ 128) e
    go false e = tt

-- the bytes that a word takes are a word as a whole

starts_take : (s : List ℕ) → starts is_id_start s ≡ true → starts is_id_start (take (word_more s) s) ≡ true
starts_take [] h = absurd (true≢false (sym h))
starts_take (b ∷ s) h = rw h h

word_taken : (s : List ℕ) → word_more (take (word_more s) s) ≡ length (take (word_more s) s)
word_taken [] = refl
word_taken (b ∷ s) = go (is_id_byte b) (is "." b) (starts is_id_start s) refl refl refl (word_taken s)
  where
    Taken : ℕ → Type 0
    Taken n = word_more (take n (b ∷ s)) ≡ length (take n (b ∷ s))

    go : (x y z : Bool) → is_id_byte b ≡ x → is "." b ≡ y → starts is_id_start s ≡ z
        → word_more (take (word_more s) s) ≡ length (take (word_more s) s)
        → Taken (cond (x || y && z) (suc (word_more s)) 0)
    go true y z e f d h = rw e (ap suc h)
    go false true true e f d h = rw (e, f, starts_take s d) (ap suc h)
    go false true false e f d h = refl
    go false false z e f d h = refl

-- by the tests that give a byte its class, in their order
class_good : (b : ℕ) (s : List ℕ) → Scanned (scan_class (class_of b) b s)
class_good b s = go (is_blank b) (is "/" b) (is "'" b) (is_id_start b) (is_digit b) refl
  where
    go : (blank slash quote letter digit : Bool) → is_id_start b ≡ letter
        → Scanned (scan_class (cond blank is_space (cond slash is_slash (cond quote is_quote (cond letter is_letter (cond digit is_figure is_other))))) b s)
    go true slash quote letter digit e = tt
    go false true quote letter digit e = comment_good s
    go false false true letter digit e =
        let n = span (λ c. not (is "'" c || eqb c 10)) s in
        either (starts (is "'") (drop n s)) (token (string (take n s)) (suc n)) no_token tt tt
    go false false false true digit e = rw (e, eq-eqb _ _ (word_taken s))
    go false false false false true e =
        let n = spelling (b ∷ take (span is_id_byte s) s) in
        either (is_numeral n) (numeral_scan n.notation (numeral_value n) (span is_id_byte s)) no_token
        (numeral_good n.notation (numeral_value n) (span is_id_byte s)) tt
    go false false false false false e = signs_good b s

-- good tokens, and not more than there is room for
pub record Within (room : ℕ) (ts : List Token) : Type 0 where
  pub good : AllGood ts
  pub few : length ts ≤ room

onward_within : (c : Scan) (at room : ℕ) (go : ℕ → ℕ → Answer (List Token)) → Scanned c → ((n left : ℕ) → Of (Within left) (go n left))
    → Of (Within room) (onward c at room go)
onward_within (blank n) at room go h k = k n room
onward_within (token t n) at zero go h k = tt
onward_within (token t n) at (suc room) go h k =
    of_bind (Within room) (Within (suc room)) (go n room) _ (k n room) (λ ts w. record { good = (h, w.good); few = suc-le-suc w.few })
onward_within (octal_numeral v n) at zero go h k = tt
onward_within (octal_numeral v n) at (suc room) go h k = tt
onward_within no_token at room go h k = tt
onward_within too_large at room go h k = tt

from_within : (s : List ℕ) (n at room : ℕ) → Of (Within room) (tokens_from n at room s)
unfolding tokens_by scan
from_within [] n at room = record { good = tt; few = zero-le }
from_within (b ∷ s) (suc n) at room = from_within s n (suc at) room
from_within (b ∷ s) zero at room =
    onward_within (scan b s) at room (λ n left. tokens_from n (suc at) left s) (class_good b s) (λ n left. from_within s n (suc at) left)

pub tokens_within : (text : List ℕ) (ts : List Token) → tokens text ≡ ok ts → Within most_tokens ts
unfolding tokens
tokens_within text ts h = subst (Of (Within most_tokens)) h (from_within text 0 0 most_tokens)
