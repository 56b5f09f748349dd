-- Each wrong table fails at a block that pushes true, with no keys: an entry that conforms and one that is refused, in either order; one with an answer
-- too many; and one that is cut.
use Prim.Native.Nat.{ℕ, ◌^◌}
use native.Mathlib.Omega.{arith}
use mathlib.Core.Path.{◌≡◌, refl, sym, ap, ◌∙◌}
use mathlib.Core.Bool.{true}
use mathlib.Core.List.{List, [], ◌∷◌, ◌++◌}
use lib.ListN.{length}
use lib.Dec.{leb, lit<, lit≤}
use borrow.Author.Tests.{leb-true}
use Rattle.paper.specs.Answers.{ok}
use Rattle.paper.specs.Numbers.{big_endian}
use Rattle.paper.specs.Keys.{Key, keys}
use Rattle.paper.specs.Code.{Instruction, push_bool}
use Rattle.paper.specs.Blocks.{blocks_of}
use Rattle.paper.specs.Loading.{loaded}
use Rattle.paper.specs.Calls.{over}
use Rattle.paper.specs.Counting.{whole_in, cut_in, entries_in}
use Rattle.paper.specs.RunAll.{verdicts_on, AllRan, running_all_says}
use Rattle.paper.specs.Promised.{Bytes}
use Rattle.paper.specs.Demands.{AllRunnable}
use Rattle.tried.specs.WrongTables.{TableRunner, RunsTablesRight, Rule, WritesBy, first_for_all, JudgesFirst, until_refused, StopsAtRefused, clearing_later, ClearsLater, refused_as_violated, TellsViolated, TellsLastSteps, TakesCut, WrongTablesFail}
use Rattle.paper.proofs.Stages.{never_ok, ok_same}
use Rattle.paper.proofs.ByteLists.{all_bytes, all_bytes_lem, blocks_bytes}

-- a block that pushes true

abbrev code : List Instruction
code = push_bool true ∷ []

abbrev yes_block : List ℕ
yes_block = blocks_of 0 code

lent : Bytes yes_block
lent = blocks_bytes 0 code

no_keys : keys [] ≡ ok []
unfolding keys
no_keys = refl

loads : loaded [] yes_block ≡ ok 1
unfolding loaded blocks_of
loads = refl

-- an entry that conforms, one of a priority that breaks its rule, and one that is cut

abbrev good : List ℕ
good = big_endian 4 0

abbrev bad : List ℕ
bad = big_endian 4 (2 ^ 31)

abbrev short : List ℕ
short = 0 ∷ []

-- a table of such entries, and its answers
module _ (entries answers : List ℕ) where
  record Tried : Type 0 where
    table : all_bytes entries ≡ true
    small : all_bytes answers ≡ true
    whole : cut_in [] entries ≡ 0
    room : leb (whole_in [] entries) (length answers) ≡ true

  -- so it can be judged

  abbrev runnable : Tried → AllRunnable [] yes_block entries answers
  runnable t =
      record {
        ks = [];
        listed = no_keys;
        count = 1;
        loads = loads;
        whole = t.whole;
        room = leb-true (whole_in [] entries) (length answers) t.room;
      }

  -- what is right and a rule come to the same bytes, in a call that is right and goes by the rule
  both : (rule : Rule) (x : TableRunner) → WritesBy rule x → RunsTablesRight x → Tried
      → over (verdicts_on [] yes_block entries).bytes answers ≡ rule [] yes_block (entries_in [] entries) answers
  both rule x says all t =
      let be = all_bytes_lem entries t.table in
      let ba = all_bytes_lem answers t.small in
      sym ((all [] yes_block entries answers tt lent be ba).written (runnable t)) ∙ says [] yes_block entries answers tt lent be ba (runnable t)

first_fails : (x : TableRunner) → JudgesFirst x → ¬ RunsTablesRight x
unfolding verdicts_on blocks_of
first_fails x says all =
    let t : Tried (good ++ bad) (9 ∷ 9 ∷ []) = record { table = refl; small = refl; whole = refl; room = refl } in
    let same : ◌≡◌ {A = List ℕ} (1 ∷ 0 ∷ []) (1 ∷ 1 ∷ []) = both (good ++ bad) (9 ∷ 9 ∷ []) first_for_all x says all t in
    let z : ◌≡◌ {A = ℕ} 0 1 = cc same in
    omega arith

stopping_fails : (x : TableRunner) → StopsAtRefused x → ¬ RunsTablesRight x
unfolding verdicts_on blocks_of
stopping_fails x says all =
    let t : Tried (bad ++ good) (9 ∷ 9 ∷ []) = record { table = refl; small = refl; whole = refl; room = refl } in
    let same : ◌≡◌ {A = List ℕ} (0 ∷ 1 ∷ []) (0 ∷ 9 ∷ []) = both (bad ++ good) (9 ∷ 9 ∷ []) until_refused x says all t in
    let z : ◌≡◌ {A = ℕ} 1 9 = cc same in
    omega arith

clearing_fails : (x : TableRunner) → ClearsLater x → ¬ RunsTablesRight x
unfolding verdicts_on blocks_of
clearing_fails x says all =
    let t : Tried good (9 ∷ 9 ∷ []) = record { table = refl; small = refl; whole = refl; room = refl } in
    let same : ◌≡◌ {A = List ℕ} (1 ∷ 9 ∷ []) (1 ∷ 0 ∷ []) = both good (9 ∷ 9 ∷ []) clearing_later x says all t in
    let z : ◌≡◌ {A = ℕ} 9 0 = cc same in
    omega arith

as_violated_fails : (x : TableRunner) → TellsViolated x → ¬ RunsTablesRight x
unfolding verdicts_on blocks_of
as_violated_fails x says all =
    let t : Tried bad (9 ∷ []) = record { table = refl; small = refl; whole = refl; room = refl } in
    let same : ◌≡◌ {A = List ℕ} (0 ∷ []) (2 ∷ []) = both bad (9 ∷ []) refused_as_violated x says all t in
    let z : ◌≡◌ {A = ℕ} 0 2 = cc same in
    omega arith

last_steps_fails : (x : TableRunner) → TellsLastSteps x → ¬ RunsTablesRight x
unfolding verdicts_on blocks_of
last_steps_fails x says all =
    let entries = good ++ bad in
    let answers : List ℕ = 9 ∷ 9 ∷ [] in
    let j = runnable entries answers (record { table = refl; small = refl; whole = refl; room = refl }) in
    let be = all_bytes_lem entries refl in
    let ba = all_bytes_lem answers refl in
    let right = (all [] yes_block entries answers tt lent be ba).totals j in
    let wrong = says [] yes_block entries answers tt lent be ba j in
    let same : ◌≡◌ {A = AllRan} (record { entries = 2; steps = 1 }) (record { entries = 2; steps = 0 }) = ok_same _ _ (sym right ∙ wrong) in
    let z : ◌≡◌ {A = ℕ} 1 0 = ap (λ (a : AllRan). a.steps) same in
    omega arith

-- no table with a cut entry can be judged
cut_fails : (x : TableRunner) → TakesCut x → ¬ RunsTablesRight x
cut_fails x takes all =
    let answers : List ℕ = 9 ∷ [] in
    let be = all_bytes_lem short refl in
    let ba = all_bytes_lem answers refl in
    let (steps, said) = takes [] yes_block short answers tt lent be ba [] no_keys 1 loads (lit< tt) (lit≤ tt) in
    let (v, refuses) = (all [] yes_block short answers tt lent be ba).refuses.1 cannot in
    never_ok (ap running_all_says (sym refuses ∙ said))
  where
    cannot : ¬ AllRunnable [] yes_block short (9 ∷ [])
    cannot j =
        let same : [] ≡ j.ks = ok_same [] j.ks (sym no_keys ∙ j.listed) in
        let z : cut_in [] short ≡ 0 = ap (λ (ks : List Key). cut_in ks short) same ∙ j.whole in
        omega (arith, z)

pub wrong_tables_fail : WrongTablesFail
wrong_tables_fail =
    record {
      first = first_fails;
      stopping = stopping_fails;
      clearing = clearing_fails;
      as_violated = as_violated_fails;
      last_steps_lem = last_steps_fails;
      cut = cut_fails;
    }
