-- What is said of the tokens of an atom.
use Prim.Native.Nat.{ℕ}
use mathlib.Core.Path.{◌≡◌, refl}
use mathlib.Core.Bool.{Bool, true, false, cond}
use mathlib.Core.Option.{Option, none, some}
use mathlib.Core.List.{List, [], ◌∷◌}
use Rattle.paper.specs.Tokens.{plain, bytes, same_bytes, undotted, join, comparison, prefix, opening, closing, colons, Tok, word, numeral, string, sign, Token}
use Rattle.paper.specs.Addresses.{Scheme, scheme_of}
use Rattle.paper.specs.Grammar.{Tree, truth, number, key, field, got, stuck, ends, Reader, closed, named, address_with, addressed, opens_address, keyed, worded}
use Rattle.paper.specs.Sentences.{token_at, sign_at, Name, Operand, a_true, a_false, an_address, a_key, a_field, a_string}
use Rattle.paper.proofs.ParserTakes.{of_end, of_next, Kind, exact, laxer, Family, Begun, Says, stays, extend}
use Rattle.paper.proofs.Words.{same_bytes_lem, not_bytes}

-- what an address string is read as, for each kind of phrase
pub record Readers (reads : Kind → Reader) : Type 0 where
  pub good : (s : Scheme) → (q : List ℕ) × (n : ℕ) × ((k : Kind) → reads k s q ≡ some n)
  pub kept : (s : Scheme) (q : List ℕ) (n : ℕ) → reads exact s q ≡ some n → (k : Kind) → reads k s q ≡ some n
  pub any : (s : Scheme) (q : List ℕ) → (n : ℕ) × (reads laxer s q ≡ some n)

-- ")"
module _ (R : Family) (t : Tree) (close : (k : Kind) (at : ℕ) → R k t (sign_at at closing ∷ [])) where
  closes_begun : Begun R []
  closes_begun k = (t, sign_at 0 closing ∷ [], close k 0)

  closes_at : (at : ℕ) (x : Tok) (us : List Token) → Says (closed t) R (token_at at x ∷ us) (closed t (token_at at x ∷ us))
  closes_at at (word w) us = stays (of_next _ λ ws. refl) closes_begun
  closes_at at (numeral n) us = stays (of_next _ λ ws. refl) closes_begun
  closes_at at (string q) us = stays (of_next _ λ ws. refl) closes_begun
  closes_at at (sign (join j)) us = stays (of_next _ λ ws. refl) closes_begun
  closes_at at (sign (comparison c)) us = stays (of_next _ λ ws. refl) closes_begun
  closes_at at (sign (prefix o)) us = stays (of_next _ λ ws. refl) closes_begun
  closes_at at (sign opening) us = stays (of_next _ λ ws. refl) closes_begun
  closes_at at (sign closing) us =
      record { taken = sign_at at closing ∷ []; split = refl; front = λ k. close k at; local = λ vs s. refl }
  closes_at at (sign colons) us = stays (of_next _ λ ws. refl) closes_begun

  pub closes_says : (us : List Token) → Says (closed t) R us (closed t us)
  closes_says [] = stays (of_end _ refl) closes_begun
  closes_says (u ∷ us) = closes_at u.at u.tok us

-- an undotted word after "::"
module _ (R : Family) (make : ℕ → List ℕ → Tree)
    (name : (k : Kind) (at : ℕ) (f : List ℕ) → undotted f ≡ true → R k (make at f) (token_at at (word f) ∷ [])) where
  named_begun : Begun R []
  named_begun k = (make 0 (bytes "value"), token_at 0 (word (bytes "value")) ∷ [], name k 0 (bytes "value") refl)

  named_at : (at : ℕ) (x : Tok) (us : List Token) → Says (named make) R (token_at at x ∷ us) (named make (token_at at x ∷ us))
  named_at at (word f) us = go (undotted f) refl
    where
      go : (b : Bool) → undotted f ≡ b
          → Says (named make) R (token_at at (word f) ∷ us)
          (cond b (ends (got (make at f)) us) (ends stuck (token_at at (word f) ∷ us)))
      go true e = record { taken = token_at at (word f) ∷ []; split = refl; front = λ k. name k at f e; local = λ vs s. rw e }
      go false e = stays (of_next _ λ ws. rw e) named_begun
  named_at at (numeral n) us = stays (of_next _ λ ws. refl) named_begun
  named_at at (string q) us = stays (of_next _ λ ws. refl) named_begun
  named_at at (sign g) us = stays (of_next _ λ ws. refl) named_begun

  pub named_says : (us : List Token) → Says (named make) R us (named make us)
  named_says [] = stays (of_end _ refl) named_begun
  named_says (u ∷ us) = named_at u.at u.tok us

module _ (reads : Kind → Reader) (readers : Readers reads) where
  -- the string and ")" of an address
  module _ (R : Family) (s : Scheme) (at : ℕ)
      (string-of : (k : Kind) (b : ℕ) (q : List ℕ) (n c : ℕ) → reads k s q ≡ some n
      → R k (number at (plain n)) (token_at b (string q) ∷ sign_at c closing ∷ [])) where
    address_begun : Begun R []
    address_begun k =
        let (q, n, e) = readers.good s in
        (number at (plain n), token_at 0 (string q) ∷ sign_at 0 closing ∷ [], string-of k 0 q n 0 (e k))

    address_at : (b : ℕ) (x : Tok) (us : List Token)
        → Says (addressed (reads exact) s at) R (token_at b x ∷ us) (addressed (reads exact) s at (token_at b x ∷ us))
    address_at b (word w) us = stays (of_next _ λ ws. refl) address_begun
    address_at b (numeral n) us = stays (of_next _ λ ws. refl) address_begun
    address_at b (string q) us = go (reads exact s q) refl
      where
        go : (o : Option ℕ) → reads exact s q ≡ o
            → Says (addressed (reads exact) s at) R (token_at b (string q) ∷ us) (address_with o at (token_at b (string q)) us)
        go none e =
            let (n, found) = readers.any s q in (
              token_at b (string q),
              us,
              refl,
              a_string b q,
              stays (of_next _ λ ws. rw e) (address_begun, (number at (plain n), sign_at 0 closing ∷ [], string-of laxer b q n 0 found)),
            )
        go (some n) e =
            extend (addressed (reads exact) s at) (closed (number at (plain n))) R (token_at b (string q) ∷ us)
            (token_at b (string q) ∷ []) us refl (λ vs s. rw e)
            (closes_says (λ k r ws. R k r (token_at b (string q) ∷ ws)) (number at (plain n))
            (λ k c. string-of k b q n c (readers.kept s q n e k)) us)
    address_at b (sign g) us = stays (of_next _ λ ws. refl) address_begun

    address_says : (us : List Token) → Says (addressed (reads exact) s at) R us (addressed (reads exact) s at us)
    address_says [] = stays (of_end _ refl) address_begun
    address_says (u ∷ us) = address_at u.at u.tok us

  module _ (Inner Outer S : Family)
      (into : (k : Kind) (t : Tree) (ts : List Token) → Operand (reads k) (Inner k) (Outer k) t ts → S k t ts) where
    -- a word, after it
    module _ (at : ℕ) (w : List ℕ) where
      abbrev pub Behind : Family
      Behind k t ws = S k t (token_at at (word w) ∷ ws)

      module _ (name : Name w) where
        a_key_here : (k : Kind) → Behind k (key at w) []
        a_key_here k = into k _ _ (a_key at w name)

        key_at : (a : ℕ) (x : Tok) (us : List Token)
            → Says (keyed (reads exact) at w) Behind (token_at a x ∷ us) (keyed (reads exact) at w (token_at a x ∷ us))
        key_at a (word v) us = stays (of_next _ λ ws. refl) a_key_here
        key_at a (numeral n) us = stays (of_next _ λ ws. refl) a_key_here
        key_at a (string q) us = stays (of_next _ λ ws. refl) a_key_here
        key_at a (sign (join j)) us = stays (of_next _ λ ws. refl) a_key_here
        key_at a (sign (comparison c)) us = stays (of_next _ λ ws. refl) a_key_here
        key_at a (sign (prefix o)) us = stays (of_next _ λ ws. refl) a_key_here
        key_at a (sign opening) us = go (scheme_of w) refl
          where
            go : (o : Option Scheme) → scheme_of w ≡ o
                → Says (keyed (reads exact) at w) Behind (sign_at a opening ∷ us)
                (opens_address (reads exact) o at w (sign_at a opening) us)
            go none e = stays (of_next _ λ ws. rw e) a_key_here
            go (some s) e =
                extend (keyed (reads exact) at w) (addressed (reads exact) s at) Behind (sign_at a opening ∷ us)
                (sign_at a opening ∷ []) us refl (λ vs _. rw e)
                (address_says (λ k t ws. Behind k t (sign_at a opening ∷ ws)) s at
                (λ k b q n c found. into k _ _ (an_address at w s a b c q n e found)) us)
        key_at a (sign closing) us = stays (of_next _ λ ws. refl) a_key_here
        key_at a (sign colons) us =
            extend (keyed (reads exact) at w) (named (field at w)) Behind (sign_at a colons ∷ us) (sign_at a colons ∷ [])
            us refl (λ vs _. refl)
            (named_says (λ k t ws. Behind k t (sign_at a colons ∷ ws)) (field at w)
            (λ k to f plain. into k _ _ (a_field at w a to f name plain)) us)

        key_says : (us : List Token) → Says (keyed (reads exact) at w) Behind us (keyed (reads exact) at w us)
        key_says [] = stays (of_end _ refl) a_key_here
        key_says (u ∷ us) = key_at u.at u.tok us

      pub word_says : (us : List Token) → Says (worded (reads exact) at w) Behind us (worded (reads exact) at w us)
      word_says us = go (same_bytes w (bytes "true")) refl (same_bytes w (bytes "false")) refl
        where
          go : (b : Bool) → same_bytes w (bytes "true") ≡ b → (c : Bool) → same_bytes w (bytes "false") ≡ c
              → Says (worded (reads exact) at w) Behind us
              (cond b (ends (got (truth at true)) us) (cond c (ends (got (truth at false)) us) (keyed (reads exact) at w us)))
          go true e c d = stays (λ vs _. rw e) (λ k. rw (same_bytes_lem w (bytes "true") e) (into k _ _ (a_true at)))
          go false e true d = stays (λ vs _. rw (e, d)) (λ k. rw (same_bytes_lem w (bytes "false") d) (into k _ _ (a_false at)))
          go false e false d =
              extend (worded (reads exact) at w) (keyed (reads exact) at w) Behind us [] us refl (λ vs _. rw (e, d))
              (key_says (not_bytes w _ e, not_bytes w _ d) us)
