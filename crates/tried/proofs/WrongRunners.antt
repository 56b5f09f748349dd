-- Each wrong way with skips fails at a block with no keys. Steps: `false && true`, whose code has four instructions and takes two. The old bool:
-- `false -> true`, which is true. Heights: a skip over "and" and the push of an int finds an int where it left a bool.
use Prim.Native.Nat.{ℕ}
use Rattle.paper.specs.declared.Verdict.TheVariants.{Accepted, Violated}
use native.Mathlib.Omega.{arith}
use mathlib.Core.Path.{◌≡◌, refl, sym, ap, ◌∙◌}
use mathlib.Core.Bool.{Bool, true, false, true≢false}
use mathlib.Core.List.{List, [], ◌∷◌}
use lib.ListN.{length, replicate}
use Rattle.paper.specs.Answers.{ok, refused, in_blocks, says, Ran, running_says, ended}
use Rattle.paper.specs.Tokens.{equal}
use Rattle.paper.specs.Keys.{keys}
use Rattle.paper.specs.Entry.{entry_of}
use Rattle.paper.specs.Meaning.{truth, both, if_then}
use Rattle.paper.specs.Code.{Instruction, push_bool, push_int, compare, connects, skip}
use Rattle.paper.specs.Blocks.{blocks_of, layout}
use Rattle.paper.specs.Loading.{program, load_check, loaded, Step, done, run_along}
use Rattle.paper.specs.Calls.{load_answer}
use Rattle.paper.specs.Translating.{skip_for}
use Rattle.paper.specs.Promised.{verdict_in, Bytes}
use Rattle.paper.specs.Demands.{Runnable}
use Rattle.tried.specs.WrongRunners.{Runner, RunsRight, ReportsInstructions, keeping_from, keeping_answer, LeavesOldBool, heights_from, Loader, LoadsRight, ComparesHeights, WrongRunnersFail}
use Rattle.paper.proofs.Stages.{never_ok, ok_same}
use Rattle.paper.proofs.ByteLists.{all_bytes_lem, blocks_bytes}
use Rattle.paper.proofs.Promised.{ran_says}

-- an entry of no keys
abbrev bare : List ℕ
bare = replicate 4 0

bare_bytes : Bytes bare
bare_bytes = all_bytes_lem bare refl

-- the code of `false && true` and of `false -> true`

abbrev settled : Instruction → Instruction → List Instruction
settled by join = push_bool false ∷ by ∷ push_bool true ∷ join ∷ []

abbrev and_code : List Instruction
and_code = settled (skip (skip_for both 1)) (connects both)

abbrev implies_code : List Instruction
implies_code = settled (skip (skip_for if_then 1)) (connects if_then)

and_runs : Runnable [] (blocks_of 0 and_code) bare
unfolding keys loaded blocks_of entry_of
and_runs =
    record {
      ks = [];
      listed = refl;
      count = 4;
      loads = refl;
      on = record { priority = 0; matches = [] };
      conforms = refl;
    }

implies_runs : Runnable [] (blocks_of 0 implies_code) bare
unfolding keys loaded blocks_of entry_of
implies_runs =
    record {
      ks = [];
      listed = refl;
      count = 4;
      loads = refl;
      on = record { priority = 0; matches = [] };
      conforms = refl;
    }

abbrev two_steps : List Step
two_steps = record { at = 0; held = [] } ∷ record { at = 1; held = truth false ∷ [] } ∷ []

and_steps : run_along and_runs.ks and_runs.on (program (blocks_of 0 and_code)) ≡ done two_steps (truth false ∷ [])
unfolding and_runs run_along blocks_of
and_steps = refl

implies_steps : run_along implies_runs.ks implies_runs.on (program (blocks_of 0 implies_code)) ≡ done two_steps (truth true ∷ [])
unfolding implies_runs run_along blocks_of
implies_steps = refl

same_answer : (b c : Bool) (n m : ℕ) → verdict_in b n ≡ verdict_in c m
    → ◌≡◌ {A = Ran} (record { accepted = b; steps = n }) (record { accepted = c; steps = m })
same_answer b c n m e = ok_same _ _ (sym (ran_says b n) ∙ ap running_says e ∙ ran_says c m)

and_counted : and_runs.count ≡ 4
unfolding and_runs
and_counted = refl

instructions_fail : (x : Runner) → ReportsInstructions x → ¬ RunsRight x
instructions_fail x reports right =
    let blocks = blocks_of 0 and_code in
    let lent : Bytes blocks = blocks_bytes 0 and_code in
    let (b, said) = reports [] blocks bare tt lent bare_bytes and_runs in
    let true-one = ((right [] blocks bare tt lent bare_bytes).violates and_runs 2).1 (two_steps, and_steps, refl) in
    let same = same_answer false b 2 and_runs.count (sym true-one ∙ said) in
    omega (arith, ap (λ (r : Ran). r.steps) same, and_counted)

implies_kept : keeping_answer implies_runs.ks implies_runs.on (blocks_of 0 implies_code) ≡ ended Violated 2
unfolding implies_runs keeping_from blocks_of
implies_kept = refl

old_bool_fails : (x : Runner) → LeavesOldBool x → ¬ RunsRight x
old_bool_fails x leaves right =
    let blocks = blocks_of 0 implies_code in
    let lent : Bytes blocks = blocks_bytes 0 implies_code in
    let said = leaves [] blocks bare tt lent bare_bytes implies_runs ∙ implies_kept in
    let true-one = ((right [] blocks bare tt lent bare_bytes).accepts implies_runs 2).1 (two_steps, implies_steps, refl) in
    true≢false (ap (λ (r : Ran). r.accepted) (same_answer true false 2 2 (sym true-one ∙ said)))

-- true, true, a skip over two, and, 1, 1, ==, and

abbrev leveled : List Instruction
leveled =
    push_bool true
    ∷ push_bool true
    ∷ skip (record { on = false; to = false; over = 2 })
    ∷ connects both
    ∷ push_int 1
    ∷ push_int 1
    ∷ compare equal
    ∷ connects both
    ∷ []

no_keys : keys [] ≡ ok []
unfolding keys
no_keys = refl

leveled_laid : layout 0 (blocks_of 0 leveled) ≡ ok tt
unfolding layout blocks_of
leveled_laid = refl

leveled_high : load_check (length (blocks_of 0 leveled)) (heights_from [] 0 (program (blocks_of 0 leveled)) []) ≡ ok tt
unfolding heights_from blocks_of
leveled_high = refl

leveled_refused : load_answer [] (blocks_of 0 leveled) ≡ refused 18 in_blocks 44
unfolding load_answer blocks_of
leveled_refused = refl

heights_fail : (x : Loader) → ComparesHeights x → ¬ LoadsRight x
heights_fail x compares right =
    let lent : Bytes (blocks_of 0 leveled) = blocks_bytes 0 leveled in
    let (n, e) = compares [] (blocks_of 0 leveled) tt lent [] no_keys leveled_laid leveled_high in
    never_ok (sym leveled_refused ∙ sym (right [] (blocks_of 0 leveled) tt lent) ∙ ap says e)

pub wrong_runners_fail : WrongRunnersFail
wrong_runners_fail = record { instructions = instructions_fail; old_bool = old_bool_fails; heights = heights_fail }
