-- Byte i is what `run` says of entry i, since `run` comes to the same stage with it; it is refused only by a rule, since it has the length of one. No
-- run takes more steps than there are instructions, so that the sum of few enough is kept whole. And the entries of two stretches are those of the
-- one and then of the other.
use Prim.Native.Nat.{ℕ, zero, suc, ◌+◌, ◌*◌, ◌%◌, ◌^◌, ◌≤◌, ◌<◌}
use native.Mathlib.Nat.{suc-mul, mul-le-mul_left, div-mul-le_self, mod-eq_of_lt, add-mod}
use native.Mathlib.Omega.{arith}
use mathlib.Core.Path.{◌≡◌, refl, sym, ap, ap₂, subst, fun_ext, ◌∙◌}
use mathlib.Core.Bool.{Bool, true, false, true≢false}
use mathlib.Core.List.{List, [], ◌∷◌, ◌++◌, map, map-append}
use lib.ListN.{length, drop, get_or, length-append, length-map}
use Rattle.paper.specs.Answers.{Input, Answer, ok, refused, ◌>>=◌, Ran, running_says}
use Rattle.paper.specs.Keys.{Key, keys}
use Rattle.paper.specs.Entry.{Entry, head_size, entry_of}
use Rattle.paper.specs.Blocks.{in_block, most_blocks, total_of, layout}
use Rattle.paper.specs.Loading.{program, load_check, types_along, loaded, run_along, steps_taken}
use Rattle.paper.specs.Calls.{ran_to, run_answer}
use Rattle.paper.specs.BlocksRoundTrip.{All}
use Rattle.paper.specs.Counting.{entry_size, whole_in, laid_out, entries_in}
use Rattle.paper.specs.RunAll.{ran_on, verdict_byte, steps_on, sum, Verdicts, verdicts_on, ran_all, AllRan, all_ran, run_all_answer, answered, run_all_bytes, running_all_says}
use Rattle.paper.specs.Promised.{Bytes}
use Rattle.paper.specs.Demands.{AllRunnable}
use Rattle.paper.specs.RunAllRight.{entry_at, ByteIsRun, Tells, ByteTells, LaterStay, AsManyAsBefore, steps_of_runs, StepsAreRuns, StepsOfEntries, StepsOfBytes, TableIsItsRuns, together, StretchesJoin, CallsJoin, OneIsRun}
use Rattle.paper.proofs.Basics.{map_at, map_same}
use Rattle.paper.proofs.Stages.{never_ok, ok_same, bind_ok}
use Rattle.paper.proofs.ByteLists.{take_bytes, drop_bytes}
use Rattle.paper.proofs.LayoutPassed.{laid, counts_within}
use Rattle.paper.proofs.LoadedBlocksRun.{conforming, load_counts, loaded_runs}
use Rattle.paper.proofs.EntriesLaid.{entries_length, entries_at, entries_sized, one_entry, whole_both, cut_both, entries_both}
use Rattle.paper.proofs.EntriesRefused.{ByRule, ran_refused}
use Rattle.paper.proofs.Overwritten.{over_there, over_later, over_length, over_both}
use Rattle.paper.proofs.RunAllPassed.{ran_all_lem, all_runnable, Known, known, passed_bytes, ran_as_run}

-- bytes

module _ (ks : List Key) (blocks entries : List ℕ) where
  pub byte_for_each : length (verdicts_on ks blocks entries).bytes ≡ whole_in ks entries
  unfolding verdicts_on
  byte_for_each = length-map (entries_in ks entries) (λ e. verdict_byte (ran_on ks blocks e)) ∙ entries_length ks entries

  byte_at : (i : ℕ) → i < whole_in ks entries → get_or (verdicts_on ks blocks entries).bytes i 0 ≡ verdict_byte (ran_on ks blocks (entry_at ks entries i))
  unfolding verdicts_on
  byte_at i h =
      let inside : i < length (entries_in ks entries) = omega (arith, h, entries_length ks entries) in
      map_at (λ e. verdict_byte (ran_on ks blocks e)) (entries_in ks entries) i [] 0 inside
      ∙ ap (λ (e : List ℕ). verdict_byte (ran_on ks blocks e)) (entries_at ks entries i h)

-- steps

abbrev pub most_steps : ℕ
most_steps = most_blocks * in_block

-- no more instructions than the blocks have room for
pub few_instructions : (ks : List Key) (blocks : List ℕ) (n : ℕ) → loaded ks blocks ≡ ok n → n ≤ most_steps
unfolding loaded
few_instructions ks blocks n h =
    let total = load_counts ks blocks n h in
    let types = types_along ks (program blocks) in
    let (u, there, _) = bind_ok (layout (length ks) blocks) (λ _. load_check (length blocks) types >>= λ _. ok (total_of blocks)) n h in
    let good = laid (length ks) blocks there in
    let most = good.most in
    let within = counts_within (length ks) blocks good.each in
    omega (arith, total, most, within)

-- nor more steps than instructions
pub few_steps : (ks : List Key) (blocks : List ℕ) (n : ℕ) → loaded ks blocks ≡ ok n → (entry : List ℕ) → steps_on (ran_on ks blocks entry) ≤ most_steps
unfolding ran_on
few_steps ks blocks n loads entry = go (entry_of ks entry) refl
  where
    go : (x : Answer Entry) → entry_of ks entry ≡ x → steps_on (x >>= λ e. ok (ran_to (run_along ks e (program blocks)))) ≤ most_steps
    go (refused m i at) there = omega arith
    go (ok e) there =
        let r = loaded_runs ks blocks n loads e (conforming ks entry e there) in
        let taken = ap steps_taken r.to in
        let few = r.steps in
        omega (arith, taken, few, few_instructions ks blocks n loads)

sum_most : {A : Type 0} (f : A → ℕ) (most : ℕ) → ((a : A) → f a ≤ most) → (xs : List A) → sum (map f xs) ≤ length xs * most
sum_most f most few [] = omega arith
sum_most f most few (x ∷ xs) = omega (arith, few x, sum_most f most few xs, suc-mul (length xs) most)

pub sum_append : (ms ns : List ℕ) → sum (ms ++ ns) ≡ sum ms + sum ns
sum_append [] ns = omega arith
sum_append (m ∷ ms) ns = omega (arith, sum_append ms ns)

-- a call that passes

module _ (list blocks entries answers : List ℕ) (v : Verdicts) (h : ran_all list blocks entries answers ≡ ok v)
    (ks : List Key) (listed : keys list ≡ ok ks) where
  abbrev passes : Known list blocks entries answers ks v
  passes = known list blocks entries answers v h ks listed

  many : length v.bytes ≡ whole_in ks entries
  many = ap (λ (w : Verdicts). length w.bytes) (sym passes.is) ∙ byte_for_each ks blocks entries

  byte_run : (i : ℕ) → i < whole_in ks entries
      → get_or (run_all_bytes list blocks entries answers) i 0 ≡ verdict_byte (run_answer list blocks (entry_at ks entries i))
  byte_run i inside =
      ap (λ (s : List ℕ). get_or s i 0) (passed_bytes list blocks entries answers v h)
      ∙ over_there v.bytes answers i (omega (arith, inside, many))
      ∙ ap (λ (w : Verdicts). get_or w.bytes i 0) (sym passes.is)
      ∙ byte_at ks blocks entries i inside
      ∙ ap verdict_byte (ran_as_run list blocks ks passes.count listed passes.loads (entry_at ks entries i))

  later_stays : (i : ℕ) → whole_in ks entries ≤ i → get_or (run_all_bytes list blocks entries answers) i 0 ≡ get_or answers i 0
  later_stays i past =
      ap (λ (s : List ℕ). get_or s i 0) (passed_bytes list blocks entries answers v h)
      ∙ over_later v.bytes answers i (omega (arith, past, many))

  abbrev all : List (List ℕ)
  all = entries_in ks entries

  steps_same : sum (map (λ e. steps_on (ran_on ks blocks e)) all) ≡ steps_of_runs list blocks all
  steps_same =
      ap (λ (f : List ℕ → ℕ). sum (map f all)) (fun_ext (λ e. ap steps_on (ran_as_run list blocks ks passes.count listed passes.loads e)))

  steps_run : v.steps ≡ steps_of_runs list blocks all % 2 ^ 64
  unfolding verdicts_on
  steps_run = ap (λ (w : Verdicts). w.steps) (sym passes.is) ∙ ap (λ (n : ℕ). n % 2 ^ 64) steps_same

  steps_fit : whole_in ks entries ≤ 2 ^ 52 → steps_of_runs list blocks all < 2 ^ 64
  steps_fit few =
      let most = sum_most (λ e. steps_on (ran_on ks blocks e)) most_steps (few_steps ks blocks passes.count passes.loads) all in
      let size = entries_length ks entries in
      omega (arith, most, size, few, steps_same)

  steps_whole : whole_in ks entries ≤ 2 ^ 52 → v.steps ≡ steps_of_runs list blocks all
  steps_whole few = steps_run ∙ mod-eq_of_lt (steps_fit few)

-- its bytes

pub byte_is_run : ByteIsRun
byte_is_run list blocks entries answers v h ks listed i inside = byte_run list blocks entries answers v h ks listed i inside

pub later_stay : LaterStay
later_stay list blocks entries answers v h ks listed i past = later_stays list blocks entries answers v h ks listed i past

pub as_many_as_before : AsManyAsBefore
unfolding run_all_bytes
as_many_as_before list blocks entries answers = go (ran_all list blocks entries answers) refl
  where
    go : (x : Answer Verdicts) → ran_all list blocks entries answers ≡ x → length (answered x answers) ≡ length answers
    go (refused n i at) e = refl
    go (ok v) e =
        let (j, same) = all_runnable list blocks entries answers v e in
        let size = many list blocks entries answers v e j.ks j.listed in
        over_length v.bytes answers (let room = j.room in omega (arith, size, room))

-- a byte tells which it is

abbrev ran_in : Bool → ℕ → Answer Ran
ran_in b n = ok (record { accepted = b; steps = n })

other_verdict : (a b : Bool) (m n : ℕ) → ran_in a m ≡ ran_in b n → a ≡ b
other_verdict a b m n e = ap (λ (r : Ran). r.accepted) (ok_same _ _ e)

tells_verdict : (size : ℕ) (b : Bool) (n : ℕ) → Tells size (ran_in b n) (verdict_byte (ran_in b n))
tells_verdict size true n =
    record {
      accepts = (λ _. (n, refl), λ _. refl);
      violates = (λ (e : ◌≡◌ {A = ℕ} 1 2). absurd (omega (arith, e)), λ (m, e). absurd (true≢false (other_verdict true false n m e)));
      refuses = (λ (e : ◌≡◌ {A = ℕ} 1 0). absurd (omega (arith, e)), λ (at, inside, e). absurd (never_ok (sym e)));
    }
tells_verdict size false n =
    record {
      accepts = (λ (e : ◌≡◌ {A = ℕ} 2 1). absurd (omega (arith, e)), λ (m, e). absurd (true≢false (sym (other_verdict false true n m e))));
      violates = (λ _. (n, refl), λ _. refl);
      refuses = (λ (e : ◌≡◌ {A = ℕ} 2 0). absurd (omega (arith, e)), λ (at, inside, e). absurd (never_ok (sym e)));
    }

tells_all : (size : ℕ) (x : Answer Ran) → ((m : ℕ) (i : Input) (at : ℕ) → x ≡ refused m i at → ByRule size m i at) → Tells size x (verdict_byte x)
tells_all size (ok r) by_rule = tells_verdict size r.accepted r.steps
tells_all size (refused m i at) by_rule =
    let (number, input, inside) = by_rule m i at refl in
    record {
      accepts = (λ (e : ◌≡◌ {A = ℕ} 0 1). absurd (omega (arith, e)), λ (n, e). absurd (never_ok e));
      violates = (λ (e : ◌≡◌ {A = ℕ} 0 2). absurd (omega (arith, e)), λ (n, e). absurd (never_ok e));
      refuses = (λ _. (at, inside, ap₂ (λ (n : ℕ) (j : Input). refused n j at) number input), λ _. refl);
    }

pub byte_tells : ByteTells
byte_tells list blocks entries answers v h ks listed i inside =
    let p = passes list blocks entries answers v h ks listed in
    let entry = entry_at ks entries i in
    let same = ran_as_run list blocks ks p.count listed p.loads entry in
    subst (Tells (entry_size ks) (run_answer list blocks entry)) (sym (byte_run list blocks entries answers v h ks listed i inside))
    (tells_all (entry_size ks) (run_answer list blocks entry)
    (λ m j at e. ran_refused ks entry blocks (entries_sized ks entries i inside) m j at (same ∙ e)))

-- its steps

pub steps_are_runs : StepsAreRuns
steps_are_runs list blocks entries answers v h ks listed = steps_run list blocks entries answers v h ks listed

pub steps_of_entries : StepsOfEntries
steps_of_entries list blocks entries answers v h ks listed few = steps_whole list blocks entries answers v h ks listed few

-- an entry has four bytes at least
pub steps_of_bytes : StepsOfBytes
steps_of_bytes list blocks entries answers v h ks listed few =
    let n = whole_in ks entries in
    let inside = div-mul-le_self (length entries) (entry_size ks) in
    let least : head_size ≤ entry_size ks = omega arith in
    let four : n * head_size ≤ n * entry_size ks = mul-le-mul_left n least in
    steps_whole list blocks entries answers v h ks listed (omega (arith, few, inside, four))

-- of programs

laid_bytes : (size n : ℕ) (s : List ℕ) → Bytes s → All Bytes (laid_out size n s)
laid_bytes size zero s b = tt
laid_bytes size (suc n) s b = (take_bytes size s b, laid_bytes size n (drop size s) (drop_bytes size s b))

pub table_is_its_runs : TableIsItsRuns
unfolding run_all_answer
table_is_its_runs p kept list blocks entries answers l s e a n t answer ks listed =
    let promised = kept.run_all list blocks entries answers l s e a in
    let said : AllRan = record { entries = n; steps = t } in
    let told : run_all_answer list blocks entries answers ≡ ok said = sym promised.says ∙ ap running_all_says answer in
    let (v, there, same) = bind_ok (ran_all list blocks entries answers) (λ v. ok (all_ran v)) said told in
    let is : all_ran v ≡ said = ok_same (all_ran v) said same in
    let count : n ≡ whole_in ks entries = ap (λ (r : AllRan). r.entries) (sym is) ∙ many list blocks entries answers v there ks listed in
    let runs : (x : List ℕ) → Bytes x → run_answer list blocks x ≡ running_says (p.run list blocks x) = λ x b. sym (kept.run list blocks x l s b) in
    let size = entry_size ks in
    record {
      all = count;
      each = λ i inside.
          ap (λ (x : List ℕ). get_or x i 0) promised.holds
          ∙ byte_run list blocks entries answers v there ks listed i (omega (arith, inside, count))
          ∙ ap verdict_byte (runs (entry_at ks entries i) (take_bytes size (drop (i * size) entries) (drop_bytes (i * size) entries e)));
      later = λ i past.
          ap (λ (x : List ℕ). get_or x i 0) promised.holds
          ∙ later_stays list blocks entries answers v there ks listed i (omega (arith, past, count));
      steps =
          ap (λ (r : AllRan). r.steps) (sym is)
          ∙ steps_run list blocks entries answers v there ks listed
          ∙ ap (λ (ms : List ℕ). sum ms % 2 ^ 64)
          (map_same Bytes (λ x. steps_on (run_answer list blocks x)) (λ x. steps_on (running_says (p.run list blocks x)))
          (λ x b. ap steps_on (runs x b)) (entries_in ks entries) (laid_bytes size (whole_in ks entries) entries e));
    }

-- two stretches

pub stretches_join : StretchesJoin
unfolding verdicts_on
stretches_join ks blocks first rest whole =
    let split = entries_both ks first rest whole in
    let es = entries_in ks first in
    let fs = entries_in ks rest in
    let byte : List ℕ → ℕ = λ e. verdict_byte (ran_on ks blocks e) in
    let step : List ℕ → ℕ = λ e. steps_on (ran_on ks blocks e) in
    let bytes : map byte (entries_in ks (first ++ rest)) ≡ map byte es ++ map byte fs = ap (map byte) split ∙ map-append byte es fs in
    let sums : sum (map step (entries_in ks (first ++ rest))) ≡ sum (map step es) + sum (map step fs) =
    ap (λ (gs : List (List ℕ)). sum (map step gs)) split ∙ ap sum (map-append step es fs) ∙ sum_append (map step es) (map step fs)
    in
    let kept = ap (λ (n : ℕ). n % 2 ^ 64) sums ∙ add-mod (sum (map step es)) (sum (map step fs)) (2 ^ 64) in
    λ i. record { bytes = bytes i; steps = kept i }

pub calls_join : CallsJoin
calls_join list blocks first rest early late v w h size g =
    let (j, is) = all_runnable list blocks first early v h in
    let k = known list blocks rest late w g j.ks j.listed in
    let ks = j.ks in
    let fits : whole_in ks first ≡ length early = sym (many list blocks first early v h ks j.listed) ∙ sym size in
    let one-room : AllRunnable list blocks (first ++ rest) (early ++ late) =
    record {
      ks = ks;
      listed = j.listed;
      count = j.count;
      loads = j.loads;
      whole = cut_both ks first rest j.whole ∙ ap₂ (λ (m : ℕ) (n : ℕ). m + n) j.whole k.whole;
      room =
          let both = whole_both ks first rest j.whole in
          let later = k.room in
          omega (arith, both, fits, later, length-append early late);
    }
    in
    let says : ran_all list blocks (first ++ rest) (early ++ late) ≡ ok (together v w) =
    ran_all_lem list blocks (first ++ rest) (early ++ late) one-room
    ∙ ap ok (stretches_join ks blocks first rest j.whole ∙ ap₂ together is k.is)
    in
    record {
      says = says;
      holds =
          passed_bytes list blocks (first ++ rest) (early ++ late) (together v w) says
          ∙ over_both v.bytes w.bytes early late size
          ∙ ap₂ (λ (a : List ℕ) (b : List ℕ). a ++ b) (sym (passed_bytes list blocks first early v h)) (sym (passed_bytes list blocks rest late w g));
    }

-- one entry

pub one_is_run : OneIsRun
unfolding verdicts_on
one_is_run list blocks entry answers v h ks listed size =
    let k = known list blocks entry answers v h ks listed in
    let alone = one_entry ks entry size in
    let same = ran_as_run list blocks ks k.count listed k.loads entry in
    let single : whole_in ks entry ≡ 1 = sym (entries_length ks entry) ∙ ap length alone in
    let summed = steps_whole list blocks entry answers v h ks listed (omega (arith, single)) in
    record {
      byte =
          ap (λ (w : Verdicts). w.bytes) (sym k.is)
          ∙ ap (map (λ e. verdict_byte (ran_on ks blocks e))) alone
          ∙ ap (λ (x : Answer Ran). verdict_byte x ∷ []) same;
      steps = let only = ap (steps_of_runs list blocks) alone in omega (arith, summed, only);
    }
