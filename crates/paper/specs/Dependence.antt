-- 02 n, "What an entry may depend on": "Show, for the judge, for loaded translations and for the explanation of c): two entries that conform
-- to the same list, hold equal records for every key the text names, and have equal priority where it names ::priority, get the same answer
-- and reason. Show too that replacing a conforming entry's absent record by the present one that spells out its reading changes no answer.
-- Refused entries are not covered." Each is said of any programs that keep the promises. And it says something: what is named can matter.
use Rattle.std.specs.Prelude.{ℕ, suc, ◌+◌, ◌*◌, ◌-◌, ◌^◌, ◌≡◌, ◌≢◌, Bool, true, false, List, [], ◌∷◌, ◌++◌, take, drop, eqb, Ok}
use Rattle.paper.specs.declared.Verdict.TheVariants.{Accepted, Violated}
use Rattle.std.proofs.Math.Option.{some}
use Rattle.std.proofs.Math.ListN.{get_elem?}
use Rattle.paper.specs.Answers.{ok}
use Rattle.paper.specs.Numbers.{byte_at}
use Rattle.paper.specs.Tokens.{bytes}
use Rattle.paper.specs.Keys.{Kind, exact, ternary, lpm, range, optional, Key, keys}
use Rattle.paper.specs.Entry.{Entry, head_size, match_size, match_record, match_at, priority_of, entry_of}
use Rattle.paper.specs.Grammar.{Tree, truth, number, key, field, attribute, prefixed, joined, compared}
use Rattle.paper.specs.Print.{print}
use Rattle.paper.specs.BlocksRoundTrip.{All}
use Rattle.paper.specs.Calls.{Restriction, restriction}
use Rattle.paper.specs.Named.{names, marked, summed}
use Rattle.paper.specs.RecheckedRight.{bit_at, SameNamed, BothConform}
use Rattle.paper.specs.Promised.{Bytes, Programs, Kept}
use Rattle.paper.specs.Demands.{blocks_written}

-- "get the same answer and reason": the judge's answer, what is explained, and what a run of the text's blocks comes to, its steps included
pub record Alike (p : Programs) (text list entry other : List ℕ) : Type 0 where
  pub judged : p.judge text list entry ≡ p.judge text list other
  pub explained : p.explain text list entry ≡ p.explain text list other
  pub ran : (buffer : List ℕ) (n : ℕ) → Bytes buffer → (p.translate text list buffer).answer ≡ Ok n
      → let blocks = blocks_written n (p.translate text list buffer).buffer in
      p.run list blocks entry ≡ p.run list blocks other

-- "hold equal records for every key the text names, and have equal priority where it names ::priority": SameNamed, as 02 f has it
abbrev pub UnnamedDoesNotMatter : Type 0
UnnamedDoesNotMatter =
    (p : Programs) → Kept p → (text list entry other : List ℕ) → Bytes text → Bytes list → Bytes entry → Bytes other
    → (both : BothConform text list entry other) → SameNamed both.rule.keys both.rule.root entry other
    → Alike p text list entry other

-- and by the summary of 02 f: entries that are the same in every record whose bit is set and, where it is marked, in their priority
abbrev pub SummaryTellsAll : Type 0
SummaryTellsAll =
    (p : Programs) → Kept p → (text list entry other : List ℕ) → Bytes text → Bytes list → Bytes entry → Bytes other
    → BothConform text list entry other → (named : ℕ) (mark : Bool) → p.summarize text list ≡ summed named mark
    → ((k : ℕ) → bit_at named k ≡ true → match_at entry k ≡ match_at other k) → (mark ≡ true → priority_of entry ≡ priority_of other)
    → Alike p text list entry other

-- "the present one that spells out its reading": what 01 reads an absent key as. A range is from 0 to 2^W − 1; all else is 0
abbrev pub second_of : Kind → ℕ → ℕ
second_of exact w = 0
second_of ternary w = 0
second_of lpm w = 0
second_of range w = 2 ^ w - 1
second_of optional w = 0

abbrev pub spell_out : Key → List ℕ
spell_out k = match_record 1 0 0 (second_of k.kind k.width)

-- "replacing": another record for key k
abbrev pub with_record : List ℕ → ℕ → List ℕ → List ℕ
with_record entry k r = take (head_size + k * match_size) entry ++ r ++ drop (head_size + suc k * match_size) entry

-- every call says the same; and a run does of any blocks that load, whoever made them
pub record SpelledAlike (p : Programs) (text list entry other : List ℕ) : Type 0 where
  pub alike : Alike p text list entry other
  pub ran : (blocks : List ℕ) → Bytes blocks → p.run list blocks entry ≡ p.run list blocks other

-- a key that must be present (02 i) is in no conforming entry absent
abbrev pub SpelledOutDoesNotMatter : Type 0
SpelledOutDoesNotMatter =
    (p : Programs) → Kept p → (text list entry : List ℕ) (ks : List Key) (e : Entry) (k : ℕ) (x : Key) → Bytes text → Bytes list → Bytes entry
    → keys list ≡ ok ks → entry_of ks entry ≡ ok e → get_elem? ks k ≡ some x → byte_at (match_at entry k) 0 ≡ 0
    → let other = with_record entry k (spell_out x) in
    (entry_of ks other ≡ ok e) × SpelledAlike p text list entry other

-- The other way: what is named can matter. It need not do so in the text that names it, as `v == v` shows

-- the operands of a tree that name keys: keys by themselves, and fields of keys
abbrev pub naming : Tree → List Tree
naming (truth at b) = []
naming (number at n) = []
naming (key at w) = key at w ∷ []
naming (field at w to f) = field at w to f ∷ []
naming (attribute at to f) = []
naming (prefixed at o t) = naming t
naming (joined at o l r) = naming l ++ naming r
naming (compared at c l r) = naming l ++ naming r

-- the text that compares an operand with 0
abbrev pub against_zero : Tree → List ℕ
against_zero o = print o ++ bytes " == 0"

-- this text names key k, no other and not the priority; two entries that conform differ in the record of k alone; and one is accepted, the
-- other violated
pub record CanMatter (p : Programs) (list : List ℕ) (o : Tree) (k : ℕ) : Type 0 where
  pub entry : List ℕ
  pub other : List ℕ
  pub lent : Bytes (against_zero o) × Bytes entry × Bytes other
  pub both : BothConform (against_zero o) list entry other
  pub named : (j : ℕ) → names both.rule.keys both.rule.root j ≡ eqb k j
  pub unmarked : marked both.rule.root ≡ false
  pub elsewhere : (j : ℕ) → j ≢ k → match_at entry j ≡ match_at other j
  pub priority : priority_of entry ≡ priority_of other
  pub accepted : p.judge (against_zero o) list entry ≡ Ok Accepted
  pub violated : p.judge (against_zero o) list other ≡ Ok Violated

-- of a text and a list that pass: each operand, and the key that it names
abbrev pub EachNamedCanMatter : Type 0
EachNamedCanMatter =
    (p : Programs) → Kept p → (text list : List ℕ) (r : Restriction) → Bytes list → restriction text list ≡ ok r
    → All (λ o. (k : ℕ) → names r.keys o k ≡ true → CanMatter p list o k) (naming r.root)

-- and by the summary of 02 f: each key whose bit is set
abbrev pub SummaryTellsNoMore : Type 0
SummaryTellsNoMore =
    (p : Programs) → Kept p → (text list : List ℕ) → Bytes text → Bytes list → (named : ℕ) (mark : Bool)
    → p.summarize text list ≡ summed named mark → (k : ℕ) → bit_at named k ≡ true → (o : Tree) × CanMatter p list o k
