-- Recheckers and summaries that are wrong. A recheck that never reuses, always does, asks for equal entries, forgets the priority, or
-- compares what records read as in place of their bytes; a summary that counts ::priority as a key, or misses keys that are named by a field
-- alone. Each is described so that a sloppy maker's is one, and fails what 02 f asks. As programs they stand in WrongPrograms, and there they
-- are shown to be real.
use Rattle.std.specs.Prelude.{ℕ, ◌<◌, ◌≡◌, Bool, true, false, ◌||◌, List, length, Result}
use Rattle.paper.specs.declared.Refusal.{Refusal}
use Rattle.paper.specs.declared.Summary as C
use Rattle.std.proofs.Math.ListN.{get_elem?}
use Rattle.paper.specs.declared.Rechecking.{Rechecking}
use Rattle.paper.specs.declared.Rechecking.TheVariants as K
use Rattle.paper.specs.Answers.{ok, judgement_says, Judgement}
use Rattle.paper.specs.Keys.{Key, find, most_keys}
use Rattle.paper.specs.Entry.{match_at, priority_of}
use Rattle.paper.specs.Grammar.{Tree, truth, number, key, field, attribute, prefixed, joined, compared}
use Rattle.paper.specs.Calls.{Restriction, restriction}
use Rattle.paper.specs.Named.{is_it, names, marked, Summary, summarizing_says, summed}
use Rattle.paper.specs.Rechecking.{rechecking_says}
use Rattle.paper.specs.RecheckedRight.{bit_at, Summarizes, BothConform, Rechecks}
use Rattle.paper.specs.Promised.{Bytes}

-- what is answered for a text, a list, an old entry, its earlier answer and a new entry
abbrev pub Rechecker : Type 0
Rechecker = List ℕ → List ℕ → List ℕ → Judgement → List ℕ → Rechecking

-- what can be lent to it
abbrev pub Lendable : List ℕ → List ℕ → List ℕ → List ℕ → Type 0
Lendable text list old new = Bytes text × Bytes list × Bytes old × Bytes new

-- what 02 asks of it
abbrev pub RechecksRight : Rechecker → Type 0
RechecksRight x =
    (text list old : List ℕ) (earlier : Judgement) (new : List ℕ) → Lendable text list old new
    → Rechecks text list old (judgement_says earlier) new (rechecking_says (x text list old earlier new))

-- it reuses, and it judges, whatever the earlier answer was

abbrev pub Reuses : Rechecker → List ℕ → List ℕ → List ℕ → List ℕ → Type 0
Reuses x text list old new = (earlier : Judgement) → x text list old earlier new ≡ K.Reused earlier

abbrev pub Judges : Rechecker → List ℕ → List ℕ → List ℕ → List ℕ → Type 0
Judges x text list old new = (earlier : Judgement) → (j : Judgement) × (x text list old earlier new ≡ K.Judged j)

abbrev pub NeverReuses : Rechecker → Type 0
NeverReuses x = (text list old new : List ℕ) → Lendable text list old new → Judges x text list old new

abbrev pub AlwaysReuses : Rechecker → Type 0
AlwaysReuses x = (text list old new : List ℕ) → Lendable text list old new → Reuses x text list old new

abbrev pub WantsEqualEntries : Rechecker → Type 0
WantsEqualEntries x = (text list old new : List ℕ) → Lendable text list old new → ¬ (old ≡ new) → Judges x text list old new

-- "no named record differs", and no more is asked
abbrev pub ForgetsPriority : Rechecker → Type 0
ForgetsPriority x =
    (text list old new : List ℕ) → Lendable text list old new → (b : BothConform text list old new)
    → ((k : ℕ) → names b.rule.keys b.rule.root k ≡ true → match_at old k ≡ match_at new k)
    → Reuses x text list old new

-- what a named key reads as: absent, and the same spelled out, read alike
abbrev pub ComparesReadings : Rechecker → Type 0
ComparesReadings x =
    (text list old new : List ℕ) → Lendable text list old new → (b : BothConform text list old new)
    → ((k : ℕ) → names b.rule.keys b.rule.root k ≡ true → get_elem? b.was.matches k ≡ get_elem? b.is.matches k)
    → (marked b.rule.root ≡ true → priority_of old ≡ priority_of new)
    → Reuses x text list old new

-- what is answered for a text and a list
abbrev pub Summarizer : Type 0
Summarizer = List ℕ → List ℕ → Result C.Summary Refusal

-- what 02 asks of it, where they pass
abbrev pub SummarizesRight : Summarizer → Type 0
SummarizesRight x =
    (text list : List ℕ) → Bytes text → Bytes list → (r : Restriction) → restriction text list ≡ ok r
    → (s : Summary) × (summarizing_says (x text list) ≡ ok s) × Summarizes r.keys r.root s

-- a set with this bit, or without it
abbrev pub HasBit : Result C.Summary Refusal → ℕ → Bool → Type 0
HasBit r k b = (keys : ℕ) × (priority : Bool) × (r ≡ summed keys priority) × (bit_at keys k ≡ b)

-- ::priority as one key more, after those of the list
abbrev pub CountsPriority : Summarizer → Type 0
CountsPriority x =
    (text list : List ℕ) → Bytes text → Bytes list → (r : Restriction) → restriction text list ≡ ok r
    → length r.keys < most_keys → marked r.root ≡ true → HasBit (x text list) (length r.keys) true

-- the keys that stand bare in a tree
abbrev pub bare_names : List Key → Tree → ℕ → Bool
bare_names ks (truth at b) k = false
bare_names ks (number at n) k = false
bare_names ks (key at w) k = is_it k (find ks w)
bare_names ks (field at w to f) k = false
bare_names ks (attribute at to f) k = false
bare_names ks (prefixed at o t) k = bare_names ks t k
bare_names ks (joined at o l r) k = bare_names ks l k || bare_names ks r k
bare_names ks (compared at c l r) k = bare_names ks l k || bare_names ks r k

abbrev pub MissesFields : Summarizer → Type 0
MissesFields x =
    (text list : List ℕ) → Bytes text → Bytes list → (r : Restriction) → restriction text list ≡ ok r
    → (k : ℕ) → bare_names r.keys r.root k ≡ false → HasBit (x text list) k false

-- the claim

pub record WrongRecheckersFail : Type 0 where
  pub never : (x : Rechecker) → NeverReuses x → ¬ RechecksRight x
  pub always : (x : Rechecker) → AlwaysReuses x → ¬ RechecksRight x
  pub equal_entries : (x : Rechecker) → WantsEqualEntries x → ¬ RechecksRight x
  pub priority_forgotten : (x : Rechecker) → ForgetsPriority x → ¬ RechecksRight x
  pub readings : (x : Rechecker) → ComparesReadings x → ¬ RechecksRight x
  pub priority_counted : (x : Summarizer) → CountsPriority x → ¬ SummarizesRight x
  pub fields_missed : (x : Summarizer) → MissesFields x → ¬ SummarizesRight x
