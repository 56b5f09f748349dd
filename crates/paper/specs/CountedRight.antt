-- 02 m's numbers against each other, against the entries as they lie in the file, and against the judge.
use Rattle.std.specs.Prelude.{ℕ, ◌+◌, ◌≤◌, ◌<◌, ◌≡◌, ◌↔◌, Bool, true, false, List, [], ◌∷◌, ◌++◌, length}
use Rattle.paper.specs.Answers.{ok}
use Rattle.paper.specs.Keys.{Key}
use Rattle.paper.specs.Grammar.{Tree}
use Rattle.paper.specs.Calls.{Restriction, restriction, judge_answer}
use Rattle.paper.specs.BlocksRoundTrip.{All}
use Rattle.paper.specs.Parts.{Part}
use Rattle.paper.specs.Counting.{entry_size, whole_in, cut_in, entries_in, is_accepted, is_violated, is_refused, Counts, counts_of, counted}

-- "a file of entries laid end to end": the whole ones, one after the other, and then what is cut, which is no whole one

abbrev pub end_to_end : List (List ℕ) → List ℕ
end_to_end [] = []
end_to_end (e ∷ es) = e ++ end_to_end es

pub record LiesEndToEnd (ks : List Key) (s : List ℕ) : Type 0 where
  pub whole : length (entries_in ks s) ≡ whole_in ks s
  pub each : All (λ e. length e ≡ entry_size ks) (entries_in ks s)
  pub rest : List ℕ
  pub all : s ≡ end_to_end (entries_in ks s) ++ rest
  pub cut : length rest ≡ cut_in ks s
  pub short : cut_in ks s < entry_size ks

abbrev pub FileIsItsEntries : Type 0
FileIsItsEntries = (ks : List Key) (s : List ℕ) → LiesEndToEnd ks s

-- "The three totals add up to the number of whole entries"
abbrev pub TotalsAddUp : Type 0
TotalsAddUp =
    (ks : List Key) (t : Tree) (ps : List Part) (s : List ℕ)
    → (counts_of ks t ps s).accepted + (counts_of ks t ps s).violated + (counts_of ks t ps s).refused ≡ whole_in ks s

-- counts of two stretches of a file together

abbrev pub sums : List ℕ → List ℕ → List ℕ
sums [] ns = []
sums (m ∷ ms) [] = []
sums (m ∷ ms) (n ∷ ns) = (m + n) ∷ sums ms ns

abbrev pub together : Counts → Counts → Counts
together c d =
    record {
      parts = sums c.parts d.parts;
      accepted = c.accepted + d.accepted;
      violated = c.violated + d.violated;
      refused = c.refused + d.refused;
      cut = c.cut + d.cut;
    }

-- whole entries first, and then anything: a file may be counted a stretch at a time
abbrev pub ChunksAddUp : Type 0
ChunksAddUp =
    (ks : List Key) (t : Tree) (ps : List Part) (first rest : List ℕ) → cut_in ks first ≡ 0
    → counts_of ks t ps (first ++ rest) ≡ together (counts_of ks t ps first) (counts_of ks t ps rest)

-- a part that is false makes the entry violated, and a violated entry has one

abbrev pub NoPartBeyondViolated : Type 0
NoPartBeyondViolated = (text list entries : List ℕ) (c : Counts) → counted text list entries ≡ ok c → All (λ n. n ≤ c.violated) c.parts

abbrev pub NoneViolatedByNone : Type 0
NoneViolatedByNone =
    (text list entries : List ℕ) (c : Counts) → counted text list entries ≡ ok c → (c.violated ≡ 0) ↔ All (λ n. n ≡ 0) c.parts

-- of one entry the totals are what it is judged

abbrev pub one : Bool → ℕ
one true = 1
one false = 0

pub record AreJudged (text list entry : List ℕ) (c : Counts) : Type 0 where
  pub accepted : c.accepted ≡ one (is_accepted (judge_answer text list entry))
  pub violated : c.violated ≡ one (is_violated (judge_answer text list entry))
  pub refused : c.refused ≡ one (is_refused (judge_answer text list entry))

abbrev pub OneIsJudged : Type 0
OneIsJudged =
    (text list entry : List ℕ) (r : Restriction) (c : Counts) → restriction text list ≡ ok r → length entry ≡ entry_size r.keys
    → counted text list entry ≡ ok c → AreJudged text list entry c
