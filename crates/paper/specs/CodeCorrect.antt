-- What it means that a translation is right: how long the code of a tree is, and that it pushes the tree's type and its value, in as many
-- steps as are counted over the tree.
use Rattle.std.specs.Prelude.{ℕ, ◌+◌, ◌*◌, ◌≤◌, max, ◌≡◌, cond, List, [], ◌∷◌, ◌++◌, map, length}
use Rattle.std.proofs.Math.Option.{Option, some}
use Rattle.paper.specs.Answers.{ok}
use Rattle.paper.specs.Tokens.{Comparison, most_tokens}
use Rattle.paper.specs.Keys.{Key}
use Rattle.paper.specs.Entry.{Entry}
use Rattle.paper.specs.Grammar.{Tree, truth, number, key, field, attribute, prefixed, joined, compared, nodes}
use Rattle.paper.specs.Types.{Ty, same_ty, when, and_then, meet, comparison_type, takes, compare_type, type_of}
use Rattle.paper.specs.Meaning.{Value, value_of}
use Rattle.paper.specs.Code.{Instruction, most_held}
use Rattle.paper.specs.Loading.{check_from, Step, Run, after, run_from}
use Rattle.paper.specs.Translating.{code_of, conversions, joins, steps_of}
use Rattle.paper.specs.Calls.{tree}
use Rattle.paper.specs.LoadedBlocksRun.{Covers}

-- how many values the code of a tree holds at most, beyond those held before it
abbrev pub needs : Tree → ℕ
needs (truth at b) = 1
needs (number at n) = 1
needs (key at w) = 1
needs (field at w to f) = 1
needs (attribute at to f) = 1
needs (prefixed at o t) = needs t
needs (joined at o l r) = max (needs l) (needs r + 1)
needs (compared at c l r) = max (needs l) (needs r + 1)

-- "it is the nodes of the tree plus the conversions", and 02 g: "grows by one for each join"
abbrev pub CodeCounted : Type 0
CodeCounted = (ks : List Key) (t : Tree) (a : Ty) → type_of ks t ≡ ok a → length (code_of ks t) ≡ nodes t + conversions ks t + joins t

-- the type in which the operands of a comparison meet is their own, or that of one which convert makes of the other
abbrev pub MeetsByConverting : Type 0
MeetsByConverting = (a b : Ty) → meet a b ≡ cond (same_ty a b) (some a) (cond (takes b a) (some b) (when (takes a b) a))

-- and there the instruction takes what the operator takes
abbrev pub ComparesWhereMet : Type 0
ComparesWhereMet = (c : Comparison) (a b : Ty) → comparison_type c a b ≡ and_then (meet a b) (λ m. compare_type c m m)

-- each comparison converts one operand at most, and each join has one skip
abbrev pub FewBesideNodes : Type 0
FewBesideNodes = (ks : List Key) (t : Tree) → conversions ks t + joins t ≤ nodes t

-- so a tree of at most 1,024 nodes has at most 2,048 instructions
abbrev pub most_translated : ℕ
most_translated = 2 * most_tokens

abbrev pub CodeFits : Type 0
CodeFits =
    (ks : List Key) (t : Tree) (a : Ty) → type_of ks t ≡ ok a → nodes t ≤ most_tokens → length (code_of ks t) ≤ most_translated

-- from any point of a load check, on top of what is held, a sequence leaves one more type, whatever follows
abbrev pub PushesType : List Key → List Instruction → List Ty → Ty → Type 0
PushesType ks code held a =
    (i : ℕ) (rest : List (Option Instruction))
    → check_from ks i (map some code ++ rest) held ≡ check_from ks (i + length code) rest (a ∷ held)

abbrev pub CodePushesType : Type 0
CodePushesType =
    (ks : List Key) (t : Tree) (a : Ty) → type_of ks t ≡ ok a → (held : List Ty) → length held + needs t ≤ most_held
    → PushesType ks (code_of ks t) held a

-- and from any point of a run one more value, in so many steps
abbrev pub after_all : List Step → Run → Run
after_all [] r = r
after_all (p ∷ path) r = after p (after_all path r)

abbrev pub PushesValue : List Key → Entry → List Instruction → ℕ → List Value → Value → Type 0
PushesValue ks e code steps held v =
    (i : ℕ) (rest : List (Option Instruction))
    → (path : List Step) × (length path ≡ steps)
    × (run_from ks e (map some code ++ rest) 0 i held ≡ after_all path (run_from ks e rest 0 (i + length code) (v ∷ held)))

abbrev pub CodePushesValue : Type 0
CodePushesValue =
    (ks : List Key) (e : Entry) → Covers ks e → (t : Tree) (v : Value) → value_of ks e t ≡ some v → (held : List Value)
    → length held + needs t ≤ most_held → PushesValue ks e (code_of ks t) (steps_of ks e t) held v

-- of a text's tree, whose levels are at most 64: on each of 65 ladders a left operand waits at ";", "->", "||", "&&" and a
-- comparison, and one value is the last. 384 are room enough.
abbrev pub FewHeld : Type 0
FewHeld = (text : List ℕ) (t : Tree) → tree text ≡ ok t → needs t ≤ 65 * 5 + 1
