-- Explainers that are wrong: one that names the last false part, one that takes its parts from the left spine of the tree, and one that
-- shows a key for a bad priority. Each is described so that a sloppy maker's is one, and fails what 02 c asks; and each is real: there is
-- one that is right everywhere else. As programs they stand in WrongPrograms; one that hands back a copy, in WrongCopiers.
use Rattle.std.specs.Prelude.{ℕ, suc, ◌≡◌, Bool, true, false, cond, List, [], ◌∷◌, ◌++◌, length, eqb}
use Rattle.std.proofs.Math.Option.{Option, none, some}
use Rattle.paper.specs.Answers.{in_entry, Answer, ok, refused, ◌>>=◌}
use Rattle.paper.specs.Tokens.{sequel, implies, or_else, and_also}
use Rattle.paper.specs.Keys.{Key, keys}
use Rattle.paper.specs.Entry.{Entry, entry_of}
use Rattle.paper.specs.Grammar.{Tree, truth, number, key, field, attribute, prefixed, joined, compared, place_of}
use Rattle.paper.specs.Meaning.{value_of, is_true}
use Rattle.paper.specs.Calls.{tree, restriction, judge_answer}
use Rattle.paper.specs.BlocksRoundTrip.{All}
use Rattle.paper.specs.Parts.{Stretch, Part, parts}
use Rattle.paper.specs.Explained.{Reason, in_part, at_key, nothing_to_show, holds_on, first_false, is_record, key_index, name_stretch, explain_answer}
use Rattle.paper.specs.ExplainedRight.{Explains}
use Rattle.paper.specs.Promised.{Bytes}

-- what is told of a text, a list and an entry
abbrev pub Explainer : Type 0
Explainer = List ℕ → List ℕ → List ℕ → Reason

-- what can be lent to it
abbrev pub Lendable : List ℕ → List ℕ → List ℕ → Type 0
Lendable text list entry = Bytes text × Bytes list × Bytes entry

-- what 02 asks of it, and the same but for some judgements

abbrev pub Right : Explainer → Type 0
Right x = (text list entry : List ℕ) → Lendable text list entry → Explains text list entry (x text list entry)

abbrev pub RightBut : Answer Bool → Explainer → Type 0
RightBut a x =
    (text list entry : List ℕ) → Lendable text list entry → ¬ (judge_answer text list entry ≡ a) → Explains text list entry (x text list entry)

-- it names a part by this number, wherever it says that it stands
abbrev pub Names : ℕ → Reason → Type 0
Names n r = (place : ℕ) × (s : Stretch) × (r ≡ in_part n place s)

pub record ViolatedEntry (text list entry : List ℕ) : Type 0 where
  pub lendable : Lendable text list entry
  pub ks : List Key
  pub listed : keys list ≡ ok ks
  pub on : Entry
  pub conforms : entry_of ks entry ≡ ok on
  pub root : Tree
  pub read : tree text ≡ ok root
  pub judged : judge_answer text list entry ≡ ok false

-- the last false part
abbrev pub NamesLast : Explainer → Type 0
NamesLast x =
    (text list entry : List ℕ) (v : ViolatedEntry text list entry) (before after : List Part) (p : Part)
    → parts text ≡ ok (before ++ (p ∷ after)) → holds_on v.ks v.on p ≡ false → All (λ q. holds_on v.ks v.on q ≡ true) after
    → Names p.number (x text list entry)

-- the left spine of a tree: what ";" joins from the left, with parentheses or without
abbrev pub spine : Tree → List Tree
spine (truth at b) = truth at b ∷ []
spine (number at n) = number at n ∷ []
spine (key at w) = key at w ∷ []
spine (field at w to f) = field at w to f ∷ []
spine (attribute at to f) = attribute at to f ∷ []
spine (prefixed at o t) = prefixed at o t ∷ []
spine (joined at sequel l r) = spine l ++ (r ∷ [])
spine (joined at implies l r) = joined at implies l r ∷ []
spine (joined at or_else l r) = joined at or_else l r ∷ []
spine (joined at and_also l r) = joined at and_also l r ∷ []
spine (compared at c l r) = compared at c l r ∷ []

-- the first false tree of it, counted along it
abbrev pub FollowsSpine : Explainer → Type 0
FollowsSpine x =
    (text list entry : List ℕ) (v : ViolatedEntry text list entry) (before after : List Tree) (t : Tree)
    → spine v.root ≡ before ++ (t ∷ after) → All (λ u. is_true (value_of v.ks v.on u) ≡ true) before
    → is_true (value_of v.ks v.on t) ≡ false → Names (suc (length before)) (x text list entry)

-- some key for a bad priority
abbrev pub KeyForPriority : Explainer → Type 0
KeyForPriority x =
    (text list entry : List ℕ) → Lendable text list entry → judge_answer text list entry ≡ refused 20 in_entry 0
    → (place k : ℕ) × (s : Stretch) × (x text list entry ≡ at_key place k s)

-- real ones: with other parts, another part of them, or another test of what is a record's place

abbrev pub reason_with : (ℕ → ℕ → Bool) → List ℕ → Answer (Option Part) → Reason
reason_with atRecord list (ok (some p)) = in_part p.number (place_of p.root) p.stretch
reason_with atRecord list (ok none) = nothing_to_show (ok true)
reason_with atRecord list (refused n i at) =
    cond (atRecord n at) (at_key at (key_index at) (name_stretch list (key_index at))) (nothing_to_show (refused n i at))

abbrev pub explain_with : (List ℕ → Answer (List Part)) → ((Part → Bool) → List Part → Option Part) → (ℕ → ℕ → Bool) → Explainer
explain_with cut choose atRecord text list entry =
    reason_with atRecord list
    (restriction text list
    >>= λ r. entry_of r.keys entry
    >>= λ e. cut text
    >>= λ ps. ok (choose (holds_on r.keys e) ps))

abbrev pub or_else_this : Option Part → Option Part → Option Part
or_else_this none o = o
or_else_this (some p) o = some p

abbrev pub last_false : (Part → Bool) → List Part → Option Part
last_false holds [] = none
last_false holds (p ∷ ps) = or_else_this (last_false holds ps) (cond (holds p) none (some p))

-- each tree of the spine as a part, with the byte at its place
abbrev pub counted_trees : ℕ → List Tree → List Part
counted_trees n [] = []
counted_trees n (t ∷ ts) =
    record { number = n; root = t; stretch = record { from = place_of t; to = suc (place_of t) } } ∷ counted_trees (suc n) ts

abbrev pub spine_parts : List ℕ → Answer (List Part)
spine_parts text = tree text >>= λ t. ok (counted_trees 1 (spine t))

abbrev pub any_twenty : ℕ → ℕ → Bool
any_twenty n at = eqb n 20

-- the claims

pub record WrongExplainersFail : Type 0 where
  pub right : Right explain_answer
  pub last_part : (x : Explainer) → NamesLast x → ¬ Right x
  pub left_spine : (x : Explainer) → FollowsSpine x → ¬ Right x
  pub key_for_priority : (x : Explainer) → KeyForPriority x → ¬ Right x

pub record WrongExplainersExist : Type 0 where
  -- with the parts, the choice and the test of the explanation it is the explanation
  pub otherwise_same : (text list entry : List ℕ) → explain_with parts first_false is_record text list entry ≡ explain_answer text list entry
  pub last_part : (x : Explainer) × NamesLast x × RightBut (ok false) x
  pub left_spine : (x : Explainer) × FollowsSpine x × RightBut (ok false) x
  pub key_for_priority : (x : Explainer) × KeyForPriority x × RightBut (refused 20 in_entry 0) x
