-- The print of a clean tree is cut into tokens that are a phrase on the rung of the tree, with the same tree, places aside: by one
-- induction on the tree, for any place in a text and any number of levels that is enough.
use Prim.Native.Nat.{ℕ, zero, suc, ◌+◌, ◌-◌, ◌^◌, ◌≤◌, ◌<◌, max}
use native.Mathlib.Nat.{le-max_left, le-max_right, le_trans}
use native.Mathlib.Omega.{arith}
use mathlib.Core.Path.{◌≡◌, refl, sym, ap, ap₂, subst, ◌∙◌}
use mathlib.Core.Bool.{Bool, true, false, true≢false, and-eq-true_iff}
use mathlib.Core.Option.{some}
use mathlib.Core.List.{List, [], ◌∷◌, ◌++◌, map, append_assoc, append-nil}
use lib.ListN.{length, drop, length-append}
use lib.Dec.{eqb, ltb}
use borrow.Author.Tests.{ltb-false}
use Rattle.paper.specs.Tokens.{bytes, is_digit, is_id_start, is_id_byte, word_more, is_key, Base, decimal, binary, hex, radix, based, notation_of, Literal, literal_in, Prefix, not_sign, minus_sign, Join, sequel, implies, or_else, and_also, Comparison, equal, unequal, greater, at_least, less, at_most, join, comparison, prefix, opening, closing, colons, Tok, word, numeral, sign, Token, token, scan}
use Rattle.paper.specs.Addresses.{address}
use Rattle.paper.specs.Grammar.{Tree, truth, number, key, field, attribute, prefixed, joined, compared}
use Rattle.paper.specs.BlocksRoundTrip.{All}
use Rattle.paper.specs.Sentences.{Phrases, token_at, sign_at, Operand, a_true, a_false, a_numeral, a_key, a_field, an_attribute, a_prefixed, Prefixed}
use Rattle.paper.specs.Print.{bare, most_digits, digits_in, digit_byte, numeral_in, literal_bytes, prefix_bytes, join_bytes, comparison_bytes, spaced, tightest, rung, rung_of, left_of, right_of, enclosed, looser, print}
use Rattle.paper.specs.Sized.{deeper, wider, levels, count, Clean}
use Rattle.paper.proofs.DigitsReadBack.{digits_below}
use Rattle.paper.proofs.Rungs.{Rung, looser_rung, join_rung, comparison_rung, enclosed_rung}
use Rattle.paper.proofs.WordsScanned.{unlike, Loose, low_is_digit, scan_word}
use Rattle.paper.proofs.NumeralsScanned.{digits_some, decimal_scanned, announced_scanned}
use Rattle.paper.proofs.PiecesCut.{Lexed, lexed_then, lexed_token, lexed_blank, after}

-- signs

scan_opening : (s : List ℕ) → scan 40 s ≡ token (sign opening) 0
unfolding scan
scan_opening [] = refl
scan_opening (c ∷ s) = refl

scan_closing : (s : List ℕ) → scan 41 s ≡ token (sign closing) 0
unfolding scan
scan_closing [] = refl
scan_closing (c ∷ s) = refl

-- an operand has no prefix of leaves that are no levels deep
atom : (l : ℕ) (t : Tree) (ts : List Token) → ((Inner Outer : Phrases) → Operand address Inner Outer t ts) → Prefixed address l t ts
unfolding Prefixed
atom zero t ts h = h _ _
atom (suc l) t ts h = h _ _

on_rung : (l k at to : ℕ) (t : Tree) (ts : List Token) → k ≤ 5 → Rung l 0 t ts
    → Rung (suc l) k t (sign_at at opening ∷ (ts ++ (sign_at to closing ∷ [])))
on_rung l k at to t ts le h = looser_rung (5 - k) 5 (suc l) k t _ (omega arith) (enclosed_rung l at to t ts h)

module _ (text : List ℕ) where
  pub record Back (at : ℕ) (s : List ℕ) (l k c : ℕ) (t : Tree) : Type 0 where
    pub tree : Tree
    pub toks : List Token
    pub same : bare tree ≡ bare t
    pub many : length toks ≡ c
    pub phrase : Rung l k tree toks
    pub lexed : Lexed text at s toks

  abbrev pub Reads : ℕ → List ℕ → ℕ → ℕ → Tree → Type 0
  Reads k s n c t = (l at : ℕ) (rest : List ℕ) → n ≤ l → drop at text ≡ s ++ rest → Loose rest → Back at s l k c t

  -- one sign of one byte
  one_byte : (at b : ℕ) (rest : List ℕ) (k : Tok) → drop at text ≡ b ∷ rest → scan b rest ≡ token k 0 → Lexed text at (b ∷ []) (token_at at k ∷ [])
  one_byte at b rest k here e = lexed_token text at b [] rest k here e

  enclose : (t : Tree) (k : ℕ) (s : List ℕ) (n c : ℕ) → (b : Bool) → ltb (rung t) k ≡ b → k ≤ 5 → Reads (rung t) s n c t
      → Reads k (enclosed b s) (deeper b n) (wider b c) t
  enclose t k s n c true e le h zero at rest lv here loose = absurd (omega arith)
  enclose t k s n c true e le h (suc l) at rest lv here loose =
      let x : List ℕ = 41 ∷ rest in
      let one : List ℕ = 40 ∷ [] in
      let h₁ : drop at text ≡ 40 ∷ (s ++ x) = here ∙ ap (λ (y : List ℕ). 40 ∷ y) (append_assoc s (41 ∷ []) rest) in
      let h₂ : drop (at + 1) text ≡ s ++ x = after text at one (s ++ x) h₁ in
      let h₃ : drop (at + 1 + length s) text ≡ x = after text (at + 1) s x h₂ in
      let b = h l (at + 1) x (omega arith) h₂ (refl, refl) in
      let a = sign_at at opening in
      let z = sign_at (at + 1 + length s) closing in
      let opens : Lexed text at one (a ∷ []) = one_byte at 40 (s ++ x) (sign opening) h₁ (scan_opening (s ++ x)) in
      let closes : Lexed text (at + 1 + length s) (41 ∷ []) (z ∷ []) =
      one_byte (at + 1 + length s) 41 rest (sign closing) h₃ (scan_closing rest)
      in
      let far : at + 1 + length s ≡ at + length (40 ∷ s) = omega arith in
      record {
        tree = b.tree;
        toks = a ∷ (b.toks ++ (z ∷ []));
        same = b.same;
        many = omega (arith, length-append b.toks (z ∷ []), b.many);
        phrase = on_rung l k at (at + 1 + length s) b.tree b.toks le (looser_rung (rung t) (rung t) l 0 b.tree b.toks (omega arith) b.phrase);
        lexed =
            lexed_then text at (40 ∷ s) (41 ∷ []) (a ∷ b.toks) (z ∷ [])
            (lexed_then text at one s (a ∷ []) b.toks opens b.lexed)
            (subst (λ n. Lexed text n (41 ∷ []) (z ∷ [])) far closes);
      }
  enclose t k s n c false e le h l at rest lv here loose =
      let b = h l at rest lv here loose in
      let m = ltb-false (rung t) k e in
      record {
        tree = b.tree;
        toks = b.toks;
        same = b.same;
        many = b.many;
        phrase = looser_rung (rung t - k) (rung t) l k b.tree b.toks (omega arith) b.phrase;
        lexed = b.lexed;
      }

  -- a leaf of one token
  leaf : (t r : Tree) (b : ℕ) (s : List ℕ) (k : Tok) (l at : ℕ) (rest : List ℕ) → bare r ≡ bare t
      → ((Inner Outer : Phrases) → Operand address Inner Outer r (token_at at k ∷ []))
      → drop at text ≡ b ∷ (s ++ rest) → scan b (s ++ rest) ≡ token k (length s) → Back at (b ∷ s) l 5 1 t
  leaf t r b s k l at rest same h here e =
      record {
        tree = r;
        toks = token_at at k ∷ [];
        same = same;
        many = refl;
        phrase = atom l r (token_at at k ∷ []) h;
        lexed = lexed_token text at b s rest k here e;
      }

  -- numerals: in decimal digits alone, in any other base after a 0 and the letter that announces it

  decimal_reads : (p v : ℕ) → v < 2 ^ 128 → Reads tightest (numeral_in 10 v) 0 1 (number p (literal_in decimal v))
  decimal_reads p v small l at rest lv here loose =
      let n = literal_in decimal v in
      let (b, s, digits, scanned) = decimal_scanned v small rest loose in
      subst (λ (w : List ℕ). Back at w l 5 1 (number p n)) (sym digits)
      (leaf (number p n) (number at n) b s (numeral n) l at rest refl (λ I O. a_numeral at n) (here ∙ ap (λ (w : List ℕ). w ++ rest) digits) scanned)

  announced_reads : (letter : ℕ) (base : Base) → is_id_byte letter ≡ true → notation_of letter ≡ some (based base) → (p v : ℕ) → v < 2 ^ 128
      → Reads tightest (48 ∷ letter ∷ numeral_in (radix base) v) 0 1 (number p (literal_in base v))
  announced_reads letter base id announces p v small l at rest lv here loose =
      let n = literal_in base v in
      leaf (number p n) (number at n) 48 (letter ∷ numeral_in (radix base) v) (numeral n) l at rest refl (λ I O. a_numeral at n) here
      (announced_scanned letter base id announces v small rest loose)

  in_base_reads : (base : Base) (p v : ℕ) → v < 2 ^ 128 → Reads tightest (literal_bytes (literal_in base v)) 0 1 (number p (literal_in base v))
  in_base_reads decimal = decimal_reads
  in_base_reads binary = announced_reads 98 binary refl refl
  in_base_reads hex = announced_reads 120 hex refl refl

  number_reads : (p : ℕ) (n : Literal) → n.value < 2 ^ 128 → Reads tightest (literal_bytes n) 0 1 (number p n)
  number_reads p n small = in_base_reads n.base p n.value small

  -- words; one that is a key has a first byte

  word_lexed : (w : List ℕ) (at : ℕ) (rest : List ℕ) → is_key w ≡ true → drop at text ≡ w ++ rest → Loose rest
      → Lexed text at w (token_at at (word w) ∷ [])
  word_lexed [] at rest h here loose = absurd (true≢false (sym h))
  word_lexed (b ∷ w) at rest h here loose = lexed_token text at b w rest (word (b ∷ w)) here (scan_word b w rest h loose)

  colons_lexed : (at : ℕ) (rest : List ℕ) → drop at text ≡ bytes "::" ++ rest → Lexed text at (bytes "::") (sign_at at colons ∷ [])
  unfolding scan
  colons_lexed at rest here = lexed_token text at 58 (58 ∷ []) rest (sign colons) here refl

  key_reads : (p : ℕ) (w : List ℕ) → Clean (key p w) → Reads 5 w 0 1 (key p w)
  key_reads p w clean l at rest lv here loose =
      record {
        tree = key at w;
        toks = token_at at (word w) ∷ [];
        same = refl;
        many = refl;
        phrase = atom l (key at w) (token_at at (word w) ∷ []) (λ I O. a_key at w clean.1);
        lexed = word_lexed w at rest clean.0 here loose;
      }

  attribute_reads : (p q : ℕ) (f : List ℕ) → Clean (attribute p q f) → Reads 5 (bytes "::" ++ f) 0 2 (attribute p q f)
  attribute_reads p q f clean l at rest lv here loose =
      let h₂ : drop (at + 2) text ≡ f ++ rest = after text at (bytes "::") (f ++ rest) here in
      record {
        tree = attribute at (at + 2) f;
        toks = sign_at at colons ∷ token_at (at + 2) (word f) ∷ [];
        same = refl;
        many = refl;
        phrase = atom l (attribute at (at + 2) f) _ (λ I O. an_attribute at (at + 2) f clean.1);
        lexed =
            lexed_then text at (bytes "::") f (sign_at at colons ∷ []) (token_at (at + 2) (word f) ∷ [])
            (colons_lexed at (f ++ rest) here) (word_lexed f (at + 2) rest clean.0 h₂ loose);
      }

  field_reads : (p : ℕ) (w : List ℕ) (q : ℕ) (f : List ℕ) → Clean (field p w q f) → Reads 5 (w ++ bytes "::" ++ f) 0 3 (field p w q f)
  field_reads p w q f clean l at rest lv here loose =
      let to = at + length w in
      let past = at + length (w ++ bytes "::") in
      let x : List ℕ = f ++ rest in
      let e₁ : w ++ bytes "::" ++ f ++ rest ≡ w ++ bytes "::" ++ x = append_assoc (w ++ bytes "::") f rest in
      let e₂ : w ++ bytes "::" ++ x ≡ w ++ (bytes "::" ++ x) = append_assoc w (bytes "::") x in
      let h₁ : drop at text ≡ w ++ (bytes "::" ++ x) = here ∙ e₁ ∙ e₂ in
      let h₂ : drop to text ≡ bytes "::" ++ x = after text at w (bytes "::" ++ x) h₁ in
      let h₃ : drop past text ≡ x = after text at (w ++ bytes "::") x (here ∙ e₁) in
      record {
        tree = field at w past f;
        toks = token_at at (word w) ∷ sign_at to colons ∷ token_at past (word f) ∷ [];
        same = refl;
        many = refl;
        phrase = atom l (field at w past f) _ (λ I O. a_field at w to past f clean.1 clean.3);
        lexed =
            lexed_then text at (w ++ bytes "::") f (token_at at (word w) ∷ sign_at to colons ∷ []) (token_at past (word f) ∷ [])
            (lexed_then text at w (bytes "::") (token_at at (word w) ∷ []) (sign_at to colons ∷ [])
            (word_lexed w at (bytes "::" ++ x) clean.0 h₁ (refl, refl)) (colons_lexed to x h₂))
            (word_lexed f past rest clean.2 h₃ loose);
      }

  -- a binary operator between its blanks
  spaced_lexed : (b : ℕ) (s : List ℕ) (k : Tok) (at : ℕ) (rest : List ℕ) → drop at text ≡ spaced (b ∷ s) ++ rest
      → scan b (s ++ (32 ∷ rest)) ≡ token k (length s) → Lexed text at (spaced (b ∷ s)) (token_at (at + 1) k ∷ [])
  spaced_lexed b s k at rest here e =
      let x : List ℕ = 32 ∷ rest in
      let h₁ : drop at text ≡ 32 ∷ b ∷ (s ++ x) = here ∙ ap (λ (y : List ℕ). 32 ∷ b ∷ y) (append_assoc s (32 ∷ []) rest) in
      let h₂ : drop (at + 1) text ≡ b ∷ (s ++ x) = after text at (32 ∷ []) (b ∷ (s ++ x)) h₁ in
      let h₃ : drop (at + length (32 ∷ b ∷ s)) text ≡ x = after text at (32 ∷ b ∷ s) x h₁ in
      lexed_then text at (32 ∷ b ∷ s) (32 ∷ []) (token_at (at + 1) k ∷ []) []
      (lexed_then text at (32 ∷ []) (b ∷ s) [] (token_at (at + 1) k ∷ []) (lexed_blank text at (b ∷ (s ++ x)) h₁) (lexed_token text (at + 1) b s x k h₂ e))
      (lexed_blank text (at + length (32 ∷ b ∷ s)) rest h₃)

  join_lexed : (o : Join) (at : ℕ) (rest : List ℕ) → drop at text ≡ spaced (join_bytes o) ++ rest
      → Lexed text at (spaced (join_bytes o)) (sign_at (at + 1) (join o) ∷ [])
  unfolding scan
  join_lexed sequel at rest here = spaced_lexed 59 [] (sign (join sequel)) at rest here refl
  join_lexed implies at rest here = spaced_lexed 45 (62 ∷ []) (sign (join implies)) at rest here refl
  join_lexed or_else at rest here = spaced_lexed 124 (124 ∷ []) (sign (join or_else)) at rest here refl
  join_lexed and_also at rest here = spaced_lexed 38 (38 ∷ []) (sign (join and_also)) at rest here refl

  comparison_lexed : (c : Comparison) (at : ℕ) (rest : List ℕ) → drop at text ≡ spaced (comparison_bytes c) ++ rest
      → Lexed text at (spaced (comparison_bytes c)) (sign_at (at + 1) (comparison c) ∷ [])
  unfolding scan
  comparison_lexed equal at rest here = spaced_lexed 61 (61 ∷ []) (sign (comparison equal)) at rest here refl
  comparison_lexed unequal at rest here = spaced_lexed 33 (61 ∷ []) (sign (comparison unequal)) at rest here refl
  comparison_lexed greater at rest here = spaced_lexed 62 [] (sign (comparison greater)) at rest here refl
  comparison_lexed at_least at rest here = spaced_lexed 62 (61 ∷ []) (sign (comparison at_least)) at rest here refl
  comparison_lexed less at rest here = spaced_lexed 60 [] (sign (comparison less)) at rest here refl
  comparison_lexed at_most at rest here = spaced_lexed 60 (61 ∷ []) (sign (comparison at_most)) at rest here refl

  -- a prefix operator: what follows it does not go on with its sign

  abbrev Apart : List ℕ → Type 0
  Apart [] = ⊥
  Apart (c ∷ s) = (eqb c 61 ≡ false) × (eqb c 62 ≡ false)

  prefix_lexed : (o : Prefix) (at : ℕ) (s rest : List ℕ) → Apart s → drop at text ≡ prefix_bytes o ++ (s ++ rest)
      → Lexed text at (prefix_bytes o) (sign_at at (prefix o) ∷ [])
  unfolding scan
  prefix_lexed o at [] rest apart here = absurd apart
  prefix_lexed not_sign at (c ∷ s) rest apart here =
      lexed_token text at 33 [] (c ∷ (s ++ rest)) (sign (prefix not_sign)) here (rw apart.0)
  prefix_lexed minus_sign at (c ∷ s) rest apart here =
      lexed_token text at 45 [] (c ∷ (s ++ rest)) (sign (prefix minus_sign)) here (rw apart.1)

  prefix_reads : (p : ℕ) (o : Prefix) (t : Tree) (s : List ℕ) (n c : ℕ) → Apart s → Reads 5 s n c t
      → Reads 5 (prefix_bytes o ++ s) (suc n) (1 + c) (prefixed p o t)
  unfolding Prefixed
  prefix_reads p o t s n c apart h zero at rest lv here loose = absurd (omega arith)
  prefix_reads p o t s n c apart h (suc l) at rest lv here loose =
      let to = at + length (prefix_bytes o) in
      let h₁ : drop at text ≡ prefix_bytes o ++ (s ++ rest) = here ∙ append_assoc (prefix_bytes o) s rest in
      let b = h l to rest (omega arith) (after text at (prefix_bytes o) (s ++ rest) h₁) loose in
      record {
        tree = prefixed at o b.tree;
        toks = sign_at at (prefix o) ∷ b.toks;
        same = ap (prefixed 0 o) b.same;
        many = omega (arith, b.many);
        phrase = a_prefixed at o b.phrase;
        lexed = lexed_then text at (prefix_bytes o) s (sign_at at (prefix o) ∷ []) b.toks (prefix_lexed o at s rest apart h₁) b.lexed;
      }

  -- two operands
  module _ (u : ℕ → Token) (mid : List ℕ) (make : ℕ → Tree → Tree → Tree)
      (mid-lexed : (at : ℕ) (rest : List ℕ) → drop at text ≡ mid ++ rest → Lexed text at mid (u (at + 1) ∷ []))
      (mid-loose : (rest : List ℕ) → Loose (mid ++ rest))
      (same-make : (p q : ℕ) (l r x y : Tree) → bare l ≡ bare x → bare r ≡ bare y → bare (make p l r) ≡ bare (make q x y))
      (i j k : ℕ)
      (rungs : (l at : ℕ) (x y : Tree) (xs ys : List Token) → Rung l i x xs → Rung l j y ys → Rung l k (make at x y) (xs ++ (u at ∷ ys))) where
    two_reads : (p : ℕ) (x y : Tree) (s t : List ℕ) (m n c d : ℕ) → Reads i s m c x → Reads j t n d y
        → Reads k (s ++ mid ++ t) (max m n) (c + 1 + d) (make p x y)
    two_reads p x y s t m n c d g h l at rest lv here loose =
        let e₁ : s ++ mid ++ t ++ rest ≡ s ++ mid ++ (t ++ rest) = append_assoc (s ++ mid) t rest in
        let e₂ : s ++ mid ++ (t ++ rest) ≡ s ++ (mid ++ (t ++ rest)) = append_assoc s mid (t ++ rest) in
        let h₁ : drop at text ≡ s ++ (mid ++ (t ++ rest)) = here ∙ e₁ ∙ e₂ in
        let h₂ : drop (at + length s) text ≡ mid ++ (t ++ rest) = after text at s (mid ++ (t ++ rest)) h₁ in
        let h₃ : drop (at + length (s ++ mid)) text ≡ t ++ rest = after text at (s ++ mid) (t ++ rest) (here ∙ e₁) in
        let a = g l at (mid ++ (t ++ rest)) (le_trans (le-max_left m n) lv) h₁ (mid-loose (t ++ rest)) in
        let b = h l (at + length (s ++ mid)) rest (le_trans (le-max_right m n) lv) h₃ loose in
        let v = u (at + length s + 1) in
        let e₃ : a.toks ++ (v ∷ []) ++ b.toks ≡ a.toks ++ (v ∷ b.toks) = append_assoc a.toks (v ∷ []) b.toks in
        record {
          tree = make (at + length s + 1) a.tree b.tree;
          toks = a.toks ++ (v ∷ b.toks);
          same = same-make (at + length s + 1) p a.tree b.tree x y a.same b.same;
          many = omega (arith, length-append a.toks (v ∷ b.toks), a.many, b.many);
          phrase = rungs l (at + length s + 1) a.tree b.tree a.toks b.toks a.phrase b.phrase;
          lexed =
              subst (Lexed text at (s ++ mid ++ t)) e₃
              (lexed_then text at (s ++ mid) t (a.toks ++ (v ∷ [])) b.toks
              (lexed_then text at s mid a.toks (v ∷ []) a.lexed (mid-lexed (at + length s) (t ++ rest) h₂)) b.lexed);
        }

  digits_apart : (n : ℕ) → Apart (numeral_in 10 n)
  digits_apart n = go (digits_in 10 most_digits n) (digits_some 10 n) (digits_below 10 most_digits n (omega arith))
    where
      go : (ds : List ℕ) → 0 < length ds → All (λ d. d < 10) ds → Apart (map digit_byte ds)
      go [] one h = absurd (omega arith)
      go (d ∷ ds) one h =
          let e = low_is_digit d h.0 in
          (unlike is_digit (digit_byte d) 61 e refl, unlike is_digit (digit_byte d) 62 e refl)

  literal_apart : (base : Base) (v : ℕ) → Apart (literal_bytes (literal_in base v))
  literal_apart decimal v = digits_apart v
  literal_apart binary v = (refl, refl)
  literal_apart hex v = (refl, refl)

  key_apart : (w s : List ℕ) → is_key w ≡ true → Apart (w ++ s)
  key_apart [] s h = absurd (true≢false (sym h))
  key_apart (b ∷ w) s h =
      let e = ((and-eq-true_iff (is_id_start b) (eqb (word_more w) (length w))).0 h).0 in
      (unlike is_id_start b 61 e refl, unlike is_id_start b 62 e refl)

  operand_apart : (t : Tree) → Clean t → Apart (enclosed (looser tightest t) (print t))
  unfolding print
  operand_apart (truth p true) h = (refl, refl)
  operand_apart (truth p false) h = (refl, refl)
  operand_apart (number p n) h = literal_apart n.base n.value
  operand_apart (key p w) h = subst Apart (append-nil w) (key_apart w [] h.0)
  operand_apart (field p w q f) h = subst Apart (sym (append_assoc w (bytes "::") f)) (key_apart w (bytes "::" ++ f) h.0)
  operand_apart (attribute p q f) h = (refl, refl)
  operand_apart (prefixed p not_sign t) h = (refl, refl)
  operand_apart (prefixed p minus_sign t) h = (refl, refl)
  operand_apart (joined p sequel l r) h = (refl, refl)
  operand_apart (joined p implies l r) h = (refl, refl)
  operand_apart (joined p or_else l r) h = (refl, refl)
  operand_apart (joined p and_also l r) h = (refl, refl)
  operand_apart (compared p c l r) h = (refl, refl)

  left_low : (o : Join) → left_of o ≤ 5
  left_low sequel = omega arith
  left_low implies = omega arith
  left_low or_else = omega arith
  left_low and_also = omega arith

  right_low : (o : Join) → right_of o ≤ 5
  right_low sequel = omega arith
  right_low implies = omega arith
  right_low or_else = omega arith
  right_low and_also = omega arith

  pub back : (t : Tree) → Clean t → Reads (rung t) (print t) (levels t) (count t) t
  unfolding print scan
  back (truth p true) clean = λ l at rest lv here loose.
      leaf (truth p true) (truth at true) 116 (114 ∷ 117 ∷ 101 ∷ []) (word (bytes "true")) l at rest refl (λ I O. a_true at) here
      (scan_word 116 (114 ∷ 117 ∷ 101 ∷ []) rest refl loose)
  back (truth p false) clean = λ l at rest lv here loose.
      leaf (truth p false) (truth at false) 102 (97 ∷ 108 ∷ 115 ∷ 101 ∷ []) (word (bytes "false")) l at rest refl (λ I O. a_false at) here
      (scan_word 102 (97 ∷ 108 ∷ 115 ∷ 101 ∷ []) rest refl loose)
  back (number p n) clean = number_reads p n clean
  back (key p w) clean = key_reads p w clean
  back (field p w q f) clean = field_reads p w q f clean
  back (attribute p q f) clean = attribute_reads p q f clean
  back (prefixed p o t) clean =
      prefix_reads p o t (enclosed (looser tightest t) (print t)) _ _ (operand_apart t clean)
      (enclose t 5 (print t) (levels t) (count t) (looser tightest t) refl (omega arith) (back t clean))
  back (joined p o x y) clean =
      two_reads (λ at. sign_at at (join o)) (spaced (join_bytes o)) (λ at. joined at o) (join_lexed o) (λ rest. (refl, refl))
      (λ p q l r x y e f. ap₂ (joined 0 o) e f) (left_of o) (right_of o) (rung_of o) (λ l at x y xs ys. join_rung l o at x y xs ys) p x y
      (enclosed (looser (left_of o) x) (print x)) (enclosed (looser (right_of o) y) (print y)) _ _ _ _
      (enclose x (left_of o) (print x) (levels x) (count x) (looser (left_of o) x) refl (left_low o) (back x clean.0))
      (enclose y (right_of o) (print y) (levels y) (count y) (looser (right_of o) y) refl (right_low o) (back y clean.1))
  back (compared p c x y) clean =
      two_reads (λ at. sign_at at (comparison c)) (spaced (comparison_bytes c)) (λ at. compared at c) (comparison_lexed c) (λ rest. (refl, refl))
      (λ p q l r x y e f. ap₂ (compared 0 c) e f) 5 5 4 (λ l at x y xs ys. comparison_rung l c at x y xs ys) p x y
      (enclosed (looser tightest x) (print x)) (enclosed (looser tightest y) (print y)) _ _ _ _
      (enclose x 5 (print x) (levels x) (count x) (looser tightest x) refl (omega arith) (back x clean.0))
      (enclose y 5 (print y) (levels y) (count y) (looser tightest y) refl (omega arith) (back y clean.1))
