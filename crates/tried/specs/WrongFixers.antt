-- Passes that are wrong: one that changes octal numerals in strings or in comments, one that keeps leading zeros, one that turns `0o10` into `10`.
-- Each is described so that a sloppy maker's is one, and fails what 02 h asks. As programs they stand in WrongPrograms, and there they are
-- shown to be real.
use Rattle.std.specs.Prelude.{ℕ, ◌≤◌, ◌<◌, ◌≡◌, List, ◌∷◌, ◌++◌, map, length, replicate, Ok}
use Rattle.paper.specs.Numbers.{in_base}
use Rattle.paper.specs.Tokens.{bytes, span, within, digit_of, most_text}
use Rattle.paper.specs.Print.{numeral_in}
use Rattle.paper.specs.Calls.{over}
use Rattle.paper.specs.Promised.{Bytes, FixResult}
use Rattle.paper.specs.Demands.{FixesRight}

-- what is answered for a text and a buffer
abbrev pub Fixer : Type 0
Fixer = List ℕ → List ℕ → FixResult

-- what demand 2 asks of it
abbrev pub FixesAllRight : Fixer → Type 0
FixesAllRight x = (text buffer : List ℕ) → Bytes text → Bytes buffer → FixesRight text buffer (x text buffer)

-- digits of octal, at least one, and their number
abbrev pub Octal : List ℕ → Type 0
Octal ds = (0 < length ds) × (span (within 48 55) ds ≡ length ds)

abbrev pub in_hex : List ℕ → List ℕ
in_hex ds = bytes "0x" ++ numeral_in 16 (in_base 8 (map digit_of ds))

-- these bytes are lent for that text, in a buffer that has room
abbrev pub Makes : Fixer → List ℕ → List ℕ → Type 0
Makes x text made =
    (buffer : List ℕ) → Bytes buffer → length text ≤ most_text → length made ≤ length buffer
    → x text buffer ≡ record { answer = Ok (length made); buffer = over made buffer }

-- a numeral alone in a string, and alone in a comment
abbrev pub ChangesStrings : Fixer → Type 0
ChangesStrings x = (ds : List ℕ) → Octal ds → Makes x (bytes "'0o" ++ ds ++ bytes "'") (bytes "'" ++ in_hex ds ++ bytes "'")

abbrev pub ChangesComments : Fixer → Type 0
ChangesComments x = (ds : List ℕ) → Octal ds → Makes x (bytes "//0o" ++ ds) (bytes "//" ++ in_hex ds)

-- as many zeros as stood there before the other digits
abbrev pub KeepsZeros : Fixer → Type 0
KeepsZeros x =
    (k d : ℕ) (ds : List ℕ) → Octal (d ∷ ds) → 48 < d
    → Makes x (bytes "0o" ++ replicate k 48 ++ (d ∷ ds)) (bytes "0x" ++ replicate k 48 ++ numeral_in 16 (in_base 8 (map digit_of (d ∷ ds))))

-- the digits, without the letters
abbrev pub DropsPrefix : Fixer → Type 0
DropsPrefix x = (ds : List ℕ) → Octal ds → Makes x (bytes "0o" ++ ds) ds

-- the claim

pub record WrongFixersFail : Type 0 where
  pub strings : (x : Fixer) → ChangesStrings x → ¬ FixesAllRight x
  pub comments : (x : Fixer) → ChangesComments x → ¬ FixesAllRight x
  pub zeros : (x : Fixer) → KeepsZeros x → ¬ FixesAllRight x
  pub dropped : (x : Fixer) → DropsPrefix x → ¬ FixesAllRight x
