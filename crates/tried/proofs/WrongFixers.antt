-- Each wrong pass fails at a text of one numeral: `'0o7'` and `//0o7`, which stay as they are, `0o07`, which is 0x7, and `0o7`, which is that too.
use Prim.Native.Nat.{ℕ, ◌≤◌}
use native.Mathlib.Omega.{arith}
use mathlib.Core.Path.{◌≡◌, refl, sym, ap, ◌∙◌}
use mathlib.Core.List.{List, []}
use lib.ListN.{length, get_or, take, replicate, length-replicate}
use lib.Seq.{take_at}
use Rattle.paper.specs.Tokens.{bytes, most_text}
use Rattle.paper.specs.Calls.{over}
use Rattle.paper.specs.Fixing.{fixed}
use Rattle.paper.specs.Promised.{Bytes, FixResult}
use Rattle.tried.specs.WrongFixers.{Fixer, FixesAllRight, Octal, Makes, ChangesStrings, ChangesComments, KeepsZeros, DropsPrefix, WrongFixersFail}
use Rattle.paper.proofs.ByteLists.{zero_bytes, all_bytes_lem}

-- a pass that is right makes nothing else of a text
makes_fixed : (x : Fixer) (text made : List ℕ) → Bytes text → length text ≤ most_text → FixesAllRight x → Makes x text made → made ≡ fixed text
makes_fixed x text made lent short right makes =
    let n = length made in
    let buffer : List ℕ = replicate n 0 in
    let given = makes buffer (zero_bytes n) short (omega (arith, length-replicate {A = ℕ} n 0)) in
    let true-one = right text buffer lent (zero_bytes n) in
    let f = (true-one.fixes n).0 (ap (λ (r : FixResult). r.answer) given) in
    let same : over made buffer ≡ over (fixed text) buffer = sym (ap (λ (r : FixResult). r.buffer) given) ∙ true-one.written n f in
    sym (take_at made _ n refl) ∙ ap (take n) same ∙ take_at (fixed text) _ n (sym f.count)

-- bytes that differ at one offset
differ : (v w : List ℕ) (i : ℕ) → v ≡ w → get_or v i 0 ≡ get_or w i 0
differ v w i e = ap (λ s. get_or s i 0) e

seven_octal : Octal (bytes "7")
seven_octal = (omega arith, refl)

-- what is made of the four texts

string_stays : fixed (bytes "'0o7'") ≡ bytes "'0o7'"
unfolding fixed
string_stays = refl

comment_stays : fixed (bytes "//0o7") ≡ bytes "//0o7"
unfolding fixed
comment_stays = refl

zero_goes : fixed (bytes "0o07") ≡ bytes "0x7"
unfolding fixed
zero_goes = refl

seven_fixed : fixed (bytes "0o7") ≡ bytes "0x7"
unfolding fixed
seven_fixed = refl

strings_fail : (x : Fixer) → ChangesStrings x → ¬ FixesAllRight x
strings_fail x changes right =
    let text = bytes "'0o7'" in
    let same = makes_fixed x text (bytes "'0x7'") (all_bytes_lem text refl) (omega arith) right (changes (bytes "7") seven_octal) in
    omega (arith, differ (bytes "'0x7'") text 2 (same ∙ string_stays))

comments_fail : (x : Fixer) → ChangesComments x → ¬ FixesAllRight x
comments_fail x changes right =
    let text = bytes "//0o7" in
    let same = makes_fixed x text (bytes "//0x7") (all_bytes_lem text refl) (omega arith) right (changes (bytes "7") seven_octal) in
    omega (arith, differ (bytes "//0x7") text 3 (same ∙ comment_stays))

zeros_fail : (x : Fixer) → KeepsZeros x → ¬ FixesAllRight x
zeros_fail x keeps right =
    let text = bytes "0o07" in
    let same = makes_fixed x text (bytes "0x07") (all_bytes_lem text refl) (omega arith) right (keeps 1 55 [] seven_octal (omega arith)) in
    omega (arith, differ (bytes "0x07") (bytes "0x7") 2 (same ∙ zero_goes))

dropped_fails : (x : Fixer) → DropsPrefix x → ¬ FixesAllRight x
dropped_fails x drops right =
    let text = bytes "0o7" in
    let same = makes_fixed x text (bytes "7") (all_bytes_lem text refl) (omega arith) right (drops (bytes "7") seven_octal) in
    omega (arith, differ (bytes "7") (bytes "0x7") 0 (same ∙ seven_fixed))

pub wrong_fixers_fail : WrongFixersFail
wrong_fixers_fail = record { strings = strings_fail; comments = comments_fail; zeros = zeros_fail; dropped = dropped_fails }
