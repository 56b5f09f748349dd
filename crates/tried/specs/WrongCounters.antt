-- Counts that are wrong: one that counts only the first false part of an entry, one that counts refused entries in a part, one that counts the cut
-- entry, and one that takes its parts from the left spine of the tree; and a program that writes its lines of parts before it knows that there are
-- not too many entries. Each is described so that a sloppy maker's is one, and fails what 02 m asks. As programs the first four stand in
-- WrongPrograms, and there they are shown to be real; the last is shown to be so here.
use Rattle.std.specs.Prelude.{ℕ, suc, ◌≤◌, ◌<◌, ◌≡◌, Bool, false, not, List, ◌++◌, map, length, eqb}
use Rattle.std.proofs.Math.Option.{Option, none, some}
use Rattle.paper.specs.Answers.{Answer, ok, refused}
use Rattle.paper.specs.Keys.{Key}
use Rattle.paper.specs.Entry.{Entry, entry_of}
use Rattle.paper.specs.Grammar.{Tree}
use Rattle.paper.specs.Calls.{Restriction, restriction, over}
use Rattle.paper.specs.Parts.{Part, parts}
use Rattle.paper.specs.Explained.{holds_on, first_false}
use Rattle.paper.specs.Counting.{whole_in, cut_in, entries_in, count_if, judged, is_accepted, is_violated, Counts, most_entries, Totals, counting_says, part_lines, count_output}
use Rattle.paper.specs.Promised.{Bytes, PartNumbers, CountResult}
use Rattle.paper.specs.Demands.{Countable, counts_in, CountRight}
use Rattle.tried.specs.WrongExplainers.{spine}

-- what is answered for a text, a list, entries and the numbers that are lent
abbrev pub Counter : Type 0
Counter = List ℕ → List ℕ → List ℕ → List ℕ → CountResult

-- what demand 2 asks of it
abbrev pub CountsAllRight : Counter → Type 0
CountsAllRight x =
    (text list entries numbers : List ℕ) → Bytes text → Bytes list → Bytes entries → PartNumbers numbers
    → CountRight text list entries numbers (x text list entries numbers)

-- the numbers of the parts, by the keys, the text's tree, its parts, and the whole entries
abbrev pub Rule : Type 0
Rule = List Key → Tree → List Part → List (List ℕ) → List ℕ

-- they are told for every text, list and entries that can be counted
abbrev pub NumbersBy : Rule → Counter → Type 0
NumbersBy rule x =
    (text list entries numbers : List ℕ) → Bytes text → Bytes list → Bytes entries → PartNumbers numbers → (c : Countable text list entries)
    → (x text list entries numbers).numbers
    ≡ over (rule c.passes.ks c.passes.root c.ps (entries_in c.passes.ks entries)) numbers

-- only the first false part
abbrev pub is_named : Option Part → Part → Bool
is_named none p = false
is_named (some q) p = eqb q.number p.number

abbrev pub is_first : List Key → List Part → Part → Answer Entry → Bool
is_first ks ps p (ok e) = is_named (first_false (holds_on ks e) ps) p
is_first ks ps p (refused n i at) = false

abbrev pub first_only : Rule
first_only ks t ps es = map (λ p. count_if (λ e. is_first ks ps p (entry_of ks e)) es) ps

abbrev pub CountsFirst : Counter → Type 0
CountsFirst = NumbersBy first_only

-- refused entries in every part
abbrev pub with_refused : Rule
with_refused ks t ps es = map (λ (p : Part). count_if (λ e. not (is_accepted (judged ks p.root e))) es) ps

abbrev pub CountsRefused : Counter → Type 0
CountsRefused = NumbersBy with_refused

-- the left spine, with parentheses or without
abbrev pub along_spine : Rule
along_spine ks t ps es = map (λ u. count_if (λ e. is_violated (judged ks u e)) es) (spine t)

abbrev pub CountsBySpine : Counter → Type 0
CountsBySpine = NumbersBy along_spine

-- a cut entry is one more that is refused
abbrev pub one_more_refused : Counts → Totals
one_more_refused c =
    record { parts = length c.parts; accepted = c.accepted; violated = c.violated; refused = suc c.refused; cut = c.cut }

abbrev pub CountsCut : Counter → Type 0
CountsCut x =
    (text list entries numbers : List ℕ) → Bytes text → Bytes list → Bytes entries → PartNumbers numbers → (c : Countable text list entries)
    → 0 < cut_in c.passes.ks entries
    → counting_says (x text list entries numbers).answer ≡ ok (one_more_refused (counts_in text list entries c))

-- what a program writes for a text, a list and a file of entries
abbrev pub Reporter : Type 0
Reporter = List ℕ → List ℕ → List ℕ → List ℕ

abbrev pub ReportsRight : Reporter → Type 0
ReportsRight x = (text list entries : List ℕ) → Bytes text → Bytes list → Bytes entries → x text list entries ≡ count_output text list entries

-- lines of parts as soon as there are some, with whatever numbers, and then whatever it finds
pub record PartsFirst (ps : List Part) (output : List ℕ) : Type 0 where
  pub numbers : List ℕ
  pub each : length numbers ≡ length ps
  pub rest : List ℕ
  pub written : output ≡ part_lines 1 numbers ++ rest

abbrev pub WritesPartsFirst : Reporter → Type 0
WritesPartsFirst x =
    (text list entries : List ℕ) → Bytes text → Bytes list → Bytes entries → (r : Restriction) → restriction text list ≡ ok r
    → (ps : List Part) → parts text ≡ ok ps → PartsFirst ps (x text list entries)

-- right of every file that is not too long
abbrev pub ReportsFewRight : Reporter → Type 0
ReportsFewRight x =
    (text list entries : List ℕ) → Bytes text → Bytes list → Bytes entries → (r : Restriction) → restriction text list ≡ ok r
    → whole_in r.keys entries ≤ most_entries → x text list entries ≡ count_output text list entries

-- the claim

pub record WrongCountersFail : Type 0 where
  pub first : (x : Counter) → CountsFirst x → ¬ CountsAllRight x
  pub refused : (x : Counter) → CountsRefused x → ¬ CountsAllRight x
  pub spine : (x : Counter) → CountsBySpine x → ¬ CountsAllRight x
  pub cut : (x : Counter) → CountsCut x → ¬ CountsAllRight x
  pub parts_first : (x : Reporter) → WritesPartsFirst x → ¬ ReportsRight x
  pub parts_first_is_real : (x : Reporter) × WritesPartsFirst x × ReportsFewRight x
