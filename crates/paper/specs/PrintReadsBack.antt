-- 02 a: "Reading the print gives the same tree, places aside, and two texts have equal prints exactly when their trees are equal in
-- that sense." "Only parentheses that the grammar needs."
use Rattle.std.specs.Prelude.{ℕ, ◌≤◌, ◌≡◌, ◌↔◌, List, length}
use Rattle.paper.specs.Answers.{ok}
use Rattle.paper.specs.Tokens.{Token, tokens, most_tokens}
use Rattle.paper.specs.Addresses.{address}
use Rattle.paper.specs.Grammar.{Tree, most_levels}
use Rattle.paper.specs.Sentences.{Prefixed, Whole}
use Rattle.paper.specs.Print.{bare, print}
use Rattle.paper.specs.Sized.{levels, count, Clean}
use Rattle.paper.specs.Calls.{tree, read_answer, printable}

-- a print of any length, since only the call has a limit of bytes
abbrev pub PrintReadsBack : Type 0
PrintReadsBack = (text : List ℕ) (t : Tree) → tree text ≡ ok t → (r : Tree) × (tree (print t) ≡ ok r) × (bare r ≡ bare t)

abbrev pub PrintsTell : Type 0
PrintsTell = (v w : List ℕ) (t r : Tree) → tree v ≡ ok t → tree w ≡ ok r → (print t ≡ print r) ↔ (bare t ≡ bare r)

-- no text with that tree has fewer tokens than the print: without any one pair of parentheses the tree is another, or none
abbrev pub NothingToSpare : Type 0
NothingToSpare =
    (v w : List ℕ) (t r : Tree) (ps ws : List Token) → tree v ≡ ok t → tokens (print t) ≡ ok ps → tree w ≡ ok r → tokens w ≡ ok ws
    → bare r ≡ bare t → length ps ≤ length ws

-- the print has no more tokens than its text, and no more levels: where so many do for the text, they do for the print
abbrev pub PrintNoLarger : Type 0
PrintNoLarger =
    (text : List ℕ) (t : Tree) (ts : List Token) (l : ℕ) → tree text ≡ ok t → tokens text ≡ ok ts → Whole (Prefixed address l) t ts
    → (r : Tree) × (ps : List Token) × (tokens (print t) ≡ ok ps) × Whole (Prefixed address l) r ps × (bare r ≡ bare t)
    × (length ps ≤ length ts)

-- a print that is lent passes `read`, with as many nodes
abbrev pub LentPrintReads : Type 0
LentPrintReads = (text buffer s : List ℕ) → printable text buffer ≡ ok s → read_answer s ≡ read_answer text

-- a tree that is within the limits is read back, wherever it came from
abbrev pub CleanPrintReads : Type 0
CleanPrintReads = (t : Tree) → Clean t → levels t ≤ most_levels → count t ≤ most_tokens
    → (r : Tree) × (tree (print t) ≡ ok r) × (bare r ≡ bare t)
