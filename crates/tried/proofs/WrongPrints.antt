-- Each wrong printer fails on a short text: `a;b` and `a ; b`, `!(a==b)`, `0x10`, or `ipv4('0.0.0.16')`.
use Prim.Native.Nat.{ℕ, ◌≤◌}
use native.Mathlib.Omega.{arith}
use mathlib.Core.Path.{◌≡◌, refl, sym, ap, ◌∙◌}
use mathlib.Core.List.{List, [], ◌∷◌}
use lib.ListN.{length}
use Rattle.paper.specs.Answers.{ok}
use Rattle.paper.specs.Tokens.{bytes, hex, radix, literal_in, not_sign, sequel, and_also, equal, closing, opening, join, word, Token, tokens}
use Rattle.paper.specs.Tokens as T
use Rattle.paper.specs.Grammar.{Tree, truth, number, key, field, attribute, prefixed, joined, compared}
use Rattle.paper.specs.Sentences.{token_at, sign_at}
use Rattle.paper.specs.Print.{bare, literal_bytes, join_bytes, looser, print, rung}
use Rattle.paper.specs.Calls.{tree}
use Rattle.tried.specs.WrongPrints.{Printer, PrintsBy, ReadsBack, SparesNothing, print_with, with_all_parentheses, WrongPrintsFail}
use Rattle.paper.proofs.Stages.{ok_same}
use Rattle.paper.proofs.PrintReadsBack.{print_reads_back, prints_tell, nothing_to_spare}

same_print : (t : Tree) → print_with literal_bytes join_bytes looser t ≡ print t
unfolding print
same_print (truth at b) = refl
same_print (number at n) = refl
same_print (key at w) = refl
same_print (field at w to f) = refl
same_print (attribute at to f) = refl
same_print (prefixed at o t) = rw (same_print t)
same_print (joined at o l r) = rw (same_print l, same_print r)
same_print (compared at c l r) = rw (same_print l, same_print r)

-- the texts

abbrev a : Tree
a = key 0 (bytes "a")

abbrev pub close : Tree
close = joined 1 sequel a (key 2 (bytes "b"))

abbrev apart : Tree
apart = joined 2 sequel a (key 4 (bytes "b"))

abbrev both : Tree
both = joined 2 and_also a (key 5 (bytes "b"))

abbrev pub negated : Tree
negated = prefixed 0 not_sign (compared 3 equal (key 2 (bytes "a")) (key 5 (bytes "b")))

abbrev negated_left : Tree
negated_left = compared 3 equal (prefixed 0 not_sign (key 1 (bytes "a"))) (key 6 (bytes "b"))

pub reads_close : tree (bytes "a;b") ≡ ok close
unfolding tree
reads_close = refl

reads_apart : tree (bytes "a ; b") ≡ ok apart
unfolding tree
reads_apart = refl

reads_both : tree (bytes "a && b") ≡ ok both
unfolding tree
reads_both = refl

pub reads_negated : tree (bytes "!(a==b)") ≡ ok negated
unfolding tree
reads_negated = refl

reads_negated_left : tree (bytes "!a == b") ≡ ok negated_left
unfolding tree
reads_negated_left = refl

abbrev pub sixteen : Tree
sixteen = number 0 (T.plain 16)

abbrev pub sixteen_in_hex : Tree
sixteen_in_hex = number 0 (literal_in hex 16)

reads_sixteen : tree (bytes "16") ≡ ok sixteen
unfolding tree
reads_sixteen = refl

pub reads_hex : tree (bytes "0x10") ≡ ok sixteen_in_hex
unfolding tree
reads_hex = refl

pub reads_address : tree (bytes "ipv4('0.0.0.16')") ≡ ok sixteen
unfolding tree
reads_address = refl

-- a print that is read to another tree: one that a number told of trees tells apart
other_tree : (told : Tree → ℕ) (p : Printer) (text s : List ℕ) (t r : Tree) → tree text ≡ ok t → p text ≡ s → tree s ≡ ok r → ReadsBack p
    → told (bare r) ≡ told (bare t)
other_tree told p text s t r h e g back =
    let (x, read, same) = back text t h in
    let one : r ≡ x = ok_same r x (sym g ∙ ap tree (sym e) ∙ read) in
    ap told (ap bare one ∙ same)

-- the base of a numeral
abbrev radix_of : Tree → ℕ
radix_of (truth at b) = 0
radix_of (number at n) = radix n.base
radix_of (key at w) = 0
radix_of (field at w to f) = 0
radix_of (attribute at to f) = 0
radix_of (prefixed at o t) = 0
radix_of (joined at o l r) = 0
radix_of (compared at c l r) = 0

-- with all parentheses `a;b` has seven tokens

abbrev wrapped : List Token
wrapped =
    sign_at 0 opening
    ∷ token_at 1 (word (bytes "a"))
    ∷ sign_at 2 closing
    ∷ sign_at 4 (join sequel)
    ∷ sign_at 6 opening
    ∷ token_at 7 (word (bytes "b"))
    ∷ sign_at 8 closing
    ∷ []

wrapped_cut : tokens (bytes "(a) ; (b)") ≡ ok wrapped
unfolding tokens
wrapped_cut = refl

abbrev plain : List Token
plain = token_at 0 (word (bytes "a")) ∷ sign_at 1 (join sequel) ∷ token_at 2 (word (bytes "b")) ∷ []

plain_cut : tokens (bytes "a;b") ≡ ok plain
unfolding tokens
plain_cut = refl

spared : (p : Printer) → PrintsBy with_all_parentheses p → SparesNothing p → 7 ≤ 3
spared p prints spares =
    spares (bytes "a;b") (bytes "a;b") close close wrapped plain reads_close (ap tokens (prints (bytes "a;b") close reads_close) ∙ wrapped_cut) reads_close plain_cut refl

pub wrong_prints_fail : WrongPrintsFail
wrong_prints_fail =
    record {
      right = λ p prints.
          record {
            reads_back = λ text t h. let (r, read, same) = print_reads_back text t h in (r, ap tree (prints text t h) ∙ read, same);
            tells = λ v w t r h g.
                let (there, back) = prints_tell v w t r h g in (
                  λ e. there (sym (prints v t h) ∙ e ∙ prints w r g),
                  λ e. prints v t h ∙ back e ∙ sym (prints w r g),
                );
            spares_nothing = λ v w t r ps ws h cut. nothing_to_spare v w t r ps ws h (ap tokens (sym (prints v t h)) ∙ cut);
          };
      otherwise_same = same_print;
      copies_text = λ p copies tells.
          let same = (tells (bytes "a;b") (bytes "a ; b") close apart reads_close reads_apart).1 refl in
          let e : bytes "a;b" ≡ bytes "a ; b" = sym (copies (bytes "a;b") close reads_close) ∙ same ∙ copies (bytes "a ; b") apart reads_apart in
          let z : ◌≡◌ {A = ℕ} 3 5 = ap length e in
          omega arith;
      without_parentheses_lem = λ p prints back.
          let z : ◌≡◌ {A = ℕ} 4 5 =
          other_tree rung p (bytes "!(a==b)") (bytes "!a == b") negated negated_left reads_negated (prints (bytes "!(a==b)") negated reads_negated) reads_negated_left back
          in
          omega arith;
      with_all_parentheses_lem = λ p prints spares.
          let z : 7 ≤ 3 = spared p prints spares in
          omega arith;
      and_for_sequel_lem = λ p prints back.
          let z : ◌≡◌ {A = ℕ} 3 0 =
          other_tree rung p (bytes "a;b") (bytes "a && b") close both reads_close (prints (bytes "a;b") close reads_close) reads_both back
          in
          omega arith;
      in_decimal_lem = λ p prints back.
          let z : ◌≡◌ {A = ℕ} 10 16 =
          other_tree radix_of p (bytes "0x10") (bytes "16") sixteen_in_hex sixteen reads_hex (prints (bytes "0x10") sixteen_in_hex reads_hex) reads_sixteen back
          in
          omega arith;
      addresses_in_hex_lem = λ p prints back.
          let z : ◌≡◌ {A = ℕ} 16 10 =
          other_tree radix_of p (bytes "ipv4('0.0.0.16')") (bytes "0x10") sixteen sixteen_in_hex reads_address
          (prints (bytes "ipv4('0.0.0.16')") sixteen reads_address) reads_hex back
          in
          omega arith;
    }
