-- What it means that loaded blocks run: whatever is skipped, the types that the load check followed are those of what the run holds.
use Rattle.std.specs.Prelude.{ℕ, ◌+◌, ◌≤◌, ◌<◌, ◌≡◌, Bool, List, [], ◌∷◌, map, length}
use Rattle.std.proofs.Math.Option.{Option, none}
use Rattle.paper.specs.Answers.{ok}
use Rattle.paper.specs.Keys.{Key}
use Rattle.paper.specs.Entry.{Entry, entry_of}
use Rattle.paper.specs.Types.{Ty}
use Rattle.paper.specs.Meaning.{Value, truth, ty_of}
use Rattle.paper.specs.Code.{Instruction, Walk, fails, ends, walk, most_held, type_action, value_action, action_of, skip_of}
use Rattle.paper.specs.BlocksRoundTrip.{All}
use Rattle.paper.specs.Loading.{program, types_along, loaded, Step, Run, stuck, done, run_along}

-- a walk, seen through a map of what is held
abbrev pub seen_by : {A B : Type 0} → (A → B) → Walk A → Walk B
seen_by g (fails i) = fails i
seen_by g (ends held) = ends (map g held)

-- an entry has a record for each key
abbrev pub Covers : List Key → Entry → Type 0
Covers ks e = length e.matches ≡ length ks

-- every entry that conforms does
abbrev pub ConformingCovers : Type 0
ConformingCovers = (ks : List Key) (entry : List ℕ) (e : Entry) → entry_of ks entry ≡ ok e → Covers ks e

-- A sequence of which nothing is passed over, with types and with values: so document 01 defined the load check and the run.

unfoldable pub types_through : List Key → List (Option Instruction) → Walk Ty
unfolding walk
types_through ks code = walk 0 (map (action_of (type_action ks)) code) []

unfoldable pub values_through : List Key → Entry → List (Option Instruction) → Walk Value
unfolding walk
values_through ks e code = walk 0 (map (action_of (value_action ks e)) code) []

-- The one is the other, seen through types: an equation, so that types fail nothing that would run.
abbrev pub CheckIsRun : Type 0
CheckIsRun =
    (ks : List Key) (e : Entry) → Covers ks e → (code : List (Option Instruction))
    → types_through ks code ≡ seen_by ty_of (values_through ks e code)

-- 02 g: "Older blocks still load and run": of code without skips the check is that of 01, and so is the run, each instruction once

abbrev pub NoSkips : List (Option Instruction) → Type 0
NoSkips code = All (λ x. skip_of x ≡ none) code

-- a run goes as a walk that passes nothing over, in so many steps
abbrev pub AsWalk : ℕ → Run → Walk Value → Type 0
AsWalk n (stuck i) w = w ≡ fails i
AsWalk n (done path held) w = (w ≡ ends held) × (length path ≡ n)

pub record AsBefore (ks : List Key) (e : Entry) (code : List (Option Instruction)) : Type 0 where
  pub checks : types_along ks code ≡ types_through ks code
  pub runs : AsWalk (length code) (run_along ks e code) (values_through ks e code)

abbrev pub OlderCode : Type 0
OlderCode = (ks : List Key) (e : Entry) (code : List (Option Instruction)) → NoSkips code → AsBefore ks e code

-- "each at most once": the indices of the steps rise, from one on and below another
abbrev pub Rising : ℕ → ℕ → List Step → Type 0
Rising low high [] = Unit {0}
Rising low high (p ∷ path) = (low ≤ p.at) × (p.at < high) × Rising (p.at + 1) high path

-- loaded blocks on an entry: there are as many instructions as the load says; no operand is missing, and one bool is left; each
-- instruction is carried out at most once, on at most 384 values; "never more than the instructions in the code"
pub record Runs (ks : List Key) (e : Entry) (blocks : List ℕ) (n : ℕ) : Type 0 where
  pub count : length (program blocks) ≡ n
  pub bit : Bool
  pub path : List Step
  pub to : run_along ks e (program blocks) ≡ done path (truth bit ∷ [])
  pub once : Rising 0 n path
  pub few : All (λ p. length p.held ≤ most_held) path
  pub steps : length path ≤ n

-- "this holds for all blocks that load, whoever made them"
abbrev pub LoadedRuns : Type 0
LoadedRuns =
    (ks : List Key) (blocks : List ℕ) (n : ℕ) → loaded ks blocks ≡ ok n → (e : Entry) → Covers ks e → Runs ks e blocks n
