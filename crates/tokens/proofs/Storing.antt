-- One token more on a tape: its row comes after the rows that were there, and those stay.
use Prim.Native.Nat.{ℕ, zero, suc, ◌+◌, ◌≤◌, ◌<◌}
use mathlib.Core.Path.{◌≡◌, refl, sym, ap, ◌∙◌}
use mathlib.Core.List.{List, [], ◌∷◌, ◌++◌}
use native.Mathlib.Nat.{add-zero, zero-add}
use native.Mathlib.Numerals.{add-one}
use native.Mathlib.Omega.{arith}
use borrow.Author.Count.{below_more}
use lib.ListN.{length, get_or, set, length-set}
use lib.Seq.{sets, get_or-set_same, get_or-set_other}
use Rattle.paper.specs.Tokens.{Literal, literal_in, Token}
use Rattle.paper.specs.Parts.{token_end}
use Rattle.number.specs.Values.{value, nested}
use Rattle.number.specs.Bases.{base_meant, of_radix, literal_meant}
use Rattle.number.specs.declared.base.Literal as N
use Rattle.number.proofs.Bases.{radix_back}
use Rattle.tokens.specs.Scanned.{Spans}
use Rattle.tokens.specs.Tape.{tape_of, row_words, row_at, Has, word_at, literal_at, row_of, tok_of, token_on, tokens_on}
use Rattle.tokens.specs.Tokenized.{SpansOn, EndsOn}
use Rattle.tokens.proofs.Tapes.{tape_snoc, tape_same}

sets_below : (vs l : List ℕ) (at i : ℕ) → i < at → get_or (sets l at vs) i 0 ≡ get_or l i 0
sets_below [] l at i h = refl
sets_below (x ∷ vs) l at i h =
    sets_below vs (set l at x) (suc at) i (omega arith) ∙ get_or-set_other l at i x 0 (λ e. omega arith)

sets_at : (vs l : List ℕ) (at k : ℕ) → k < length vs → at + length vs ≤ length l → get_or (sets l at vs) (at + k) 0 ≡ get_or vs k 0
sets_at [] l at k h g = absurd (omega arith)
sets_at (x ∷ vs) l at zero h g =
    rw add-zero (sets_below vs (set l at x) (suc at) at (omega arith) ∙ get_or-set_same l at x 0 (omega arith))
sets_at (x ∷ vs) l at (suc k) h g =
    let e : at + suc k ≡ suc at + k = omega arith in
    rw e (sets_at vs (set l at x) (suc at) k (omega arith) (simp length-set (omega arith)))

-- a token by the words of its row
abbrev made : List ℕ → ℕ → ℕ → ℕ → Literal → Token
made text kind from to literal = record { at = from; tok = tok_of text kind from to literal }

-- a literal by its words
abbrev held : ℕ → ℕ → ℕ → ℕ → ℕ → Literal
held base a b c d = literal_in (base_meant (of_radix base)) (nested a b c d)

-- the rows after a token was stored as the one of index n
module _ (text rows after : List ℕ) (n kind from to : ℕ) (l : N.Literal)
    (room : Has rows n) (put : after ≡ sets rows (row_at n) (row_of kind from to l))
  where
    kept : (i k : ℕ) → i < n → k < row_words → word_at rows i k ≡ word_at after i k
    kept i k h few = rw put (sym (sets_below (row_of kind from to l) rows (row_at n) (row_at i + k) (omega arith)))

    new : (k : ℕ) → k < row_words → word_at after n k ≡ get_or (row_of kind from to l) k 0
    new k few = rw put (sets_at (row_of kind from to l) rows (row_at n) k few room)

    token_kept : (i : ℕ) → i < n → token_on (tape_of text rows) i ≡ token_on (tape_of text after) i
    token_kept i h =
        let literal : literal_at rows i ≡ literal_at after i =
        λ j. held (kept i 7 h (omega arith) j) (kept i 3 h (omega arith) j) (kept i 4 h (omega arith) j) (kept i 5 h (omega arith) j) (kept i 6 h (omega arith) j)
        in
        λ j. made text (kept i 0 h (omega arith) j) (kept i 1 h (omega arith) j) (kept i 2 h (omega arith) j) (literal j)

    literal_new : literal_at after n ≡ literal_meant l
    unfolding value
    literal_new =
        (λ j. held (new 7 (omega arith) j) (new 3 (omega arith) j) (new 4 (omega arith) j) (new 5 (omega arith) j) (new 6 (omega arith) j))
        ∙ ap (λ b. literal_in b (value l.number)) (radix_back (base_meant l.base))

    token_new : token_on (tape_of text after) n ≡ made text kind from to (literal_meant l)
    token_new = λ j. made text (new 0 (omega arith) j) (new 1 (omega arith) j) (new 2 (omega arith) j) (literal_new j)

    pub tokens_stored : tokens_on (tape_of text after) 0 (n + 1) ≡ tokens_on (tape_of text rows) 0 n ++ (made text kind from to (literal_meant l) ∷ [])
    tokens_stored =
        let same = tape_same (tape_of text rows) (tape_of text after) 0 n (λ k h. token_kept k (omega arith)) in
        let last : token_on (tape_of text after) (0 + n) ≡ made text kind from to (literal_meant l) = rw zero-add token_new in
        rw (add-one n) (tape_snoc (tape_of text after) 0 n ∙ λ j. sym same j ++ (last j ∷ []))

    pub spans_stored : Spans text kind from to → ((i : ℕ) → i < n → SpansOn (tape_of text rows) i)
        → (i : ℕ) → i < n + 1 → SpansOn (tape_of text after) i
    spans_stored here old =
        below_more (SpansOn (tape_of text after)) n
        (λ i h. rw (← kept i 0 h (omega arith), ← kept i 1 h (omega arith), ← kept i 2 h (omega arith)) (old i h))
        (rw (new 0 (omega arith), new 1 (omega arith), new 2 (omega arith)) here)

    pub ends_stored : to ≡ token_end text from → ((i : ℕ) → i < n → EndsOn (tape_of text rows) i)
        → (i : ℕ) → i < n + 1 → EndsOn (tape_of text after) i
    ends_stored here old =
        below_more (EndsOn (tape_of text after)) n
        (λ i h. rw (← kept i 1 h (omega arith), ← kept i 2 h (omega arith)) (old i h))
        (rw (new 1 (omega arith), new 2 (omega arith)) here)
