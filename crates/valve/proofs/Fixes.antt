-- From the answer of the pass to that of `fix_octal`: a refusal by the old rules leaves the buffer, and a result, which is never longer than the text
-- and so not past the limit, is lent where the buffer has room.
use Prim.Native.Nat.{ℕ, ◌≤◌, ◌<◌}
use Rattle.std.specs.Prelude.{Result, Ok, Err}
use Rattle.paper.specs.declared.Refusal.{Refusal}
use native.Mathlib.Omega.{arith}
use mathlib.Core.Path.{◌≡◌, refl, ap, sym, subst, ◌∙◌}
use mathlib.Core.Bool.{true}
use mathlib.Core.List.{List}
use lib.ListN.{length, take}
use lib.Dec.{leb}
use borrow.Author.Tests.{le-leb, lt-leb}
use Rattle.paper.specs.declared.Place.TheVariants as P
use Rattle.paper.specs.Answers.{Answer, ok, refused, ◌>>=◌, in_text, in_buffer, says, refused_by}
use Rattle.paper.specs.Tokens.{Token, most_text}
use Rattle.paper.specs.Calls.{over, laid, lends}
use Rattle.paper.specs.Fixing.{old_tokens, fixed, fixable, fix_answer, fix_buffer}
use Rattle.paper.specs.Promised.{FixResult, FixPromised}
use Rattle.paper.proofs.NeverLonger.{never_longer}
use Rattle.tokens.specs.Fixes.{StandsFirst, Fixes}

-- a refusal leaves the buffer
abbrev pub unfixed : Refusal → List ℕ → FixResult
unfixed v buffer = record { answer = Err v; buffer = buffer }

-- by what the call is to lend, or the refusal in its place
promised : {text buffer : List ℕ} {a : Answer (List ℕ)} → fixable text buffer ≡ a → (r : FixResult)
    → says r.answer ≡ (a >>= λ s. ok (length s)) → r.buffer ≡ laid a buffer → FixPromised text buffer r
unfolding fix_answer fix_buffer
promised e r says holds = record { says = rw e says; holds = rw e holds }

pub too_long : (text buffer : List ℕ) → most_text < length text → FixPromised text buffer (unfixed (record { number = 1; place = P.Text most_text }) buffer)
unfolding fixable
too_long text buffer h =
    let past : fixable text buffer ≡ refused 1 in_text most_text = rw (lt-leb (length text) most_text h) in
    promised past _ refl refl

-- the result stands first in the scratch
pub record Fixed (text scratch : List ℕ) (n : ℕ) : Type 0 where
  pub tokens : List Token
  pub cut : old_tokens text ≡ ok tokens
  pub count : n ≡ length (fixed text)
  pub bytes : take n scratch ≡ fixed text
  pub short : n ≤ length text

module _ (text scratch : List ℕ) (r : Result ℕ Refusal) (fixes : Fixes text scratch r) where
  pub not_fixed : {v : Refusal} (buffer : List ℕ) → length text ≤ most_text → r ≡ Err v → FixPromised text buffer (unfixed v buffer)
  unfolding fixable
  not_fixed {v} buffer few e = go (old_tokens text) refl (ap says (sym e) ∙ fixes.says)
    where
      go : (a : Answer (List Token)) → old_tokens text ≡ a → refused_by v ≡ (a >>= λ _. ok (length (fixed text)))
          → FixPromised text buffer (unfixed v buffer)
      go (ok ts) o f = let z : ◌≡◌ {A = ℕ} 0 1 = cc in absurd (omega arith)
      go (refused m i at) o f =
          let old : fixable text buffer ≡ refused m i at = rw (le-leb (length text) most_text few, o) in
          promised old _ f refl

  pub is_fixed : {n : ℕ} → r ≡ Ok n → Fixed text scratch n
  is_fixed {n} e = go (old_tokens text) refl (ap says (sym e) ∙ fixes.says) (subst (StandsFirst (fixed text) scratch) e fixes.holds)
    where
      go : (a : Answer (List Token)) → old_tokens text ≡ a → ok n ≡ (a >>= λ _. ok (length (fixed text))) → take n scratch ≡ fixed text → Fixed text scratch n
      go (ok ts) o f s =
          let count : n ≡ length (fixed text) = cc in
          record { tokens = ts; cut = o; count = count; bytes = s; short = omega (arith, never_longer text) }
      go (refused m i at) o f s = let z : ◌≡◌ {A = ℕ} 0 1 = cc in absurd (omega arith)

module _ {text scratch : List ℕ} {n : ℕ} (f : Fixed text scratch n) (few : length text ≤ most_text) (buffer : List ℕ) where
  lends_it : {a : Answer (List ℕ)} → lends (fixed text) buffer ≡ a → fixable text buffer ≡ a
  unfolding fixable
  lends_it e = rw (le-leb (length text) most_text few, f.cut) e

  within_limit : leb (length (fixed text)) most_text ≡ true
  within_limit = le-leb (length (fixed text)) most_text (omega (arith, f.count, f.short))

  pub no_room : length buffer < n → FixPromised text buffer (unfixed (record { number = 21; place = P.Buffer (length buffer) }) buffer)
  no_room h =
      let past : lends (fixed text) buffer ≡ refused 21 in_buffer (length buffer) =
      rw (within_limit, lt-leb (length (fixed text)) (length buffer) (omega (arith, f.count)))
      in
      promised (lends_it past) _ refl refl

  pub lent : (exit : List ℕ) → n ≤ length buffer → exit ≡ over (take n scratch) buffer
      → FixPromised text buffer (record { answer = Ok n; buffer = exit })
  lent exit h e =
      let fits : lends (fixed text) buffer ≡ ok (fixed text) =
      rw (within_limit, le-leb (length (fixed text)) (length buffer) (omega (arith, f.count)))
      in
      promised (lends_it fits) _ (ap ok f.count) (rw f.bytes at e)
