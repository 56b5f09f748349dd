-- Types follow values, instruction by instruction; and at a landing the load check has found the types that the skip left. So all blocks
-- that load run on every entry, whatever is skipped, and leave one bool.
use Prim.Native.Nat.{ℕ, zero, suc, ◌+◌, ◌*◌, ◌^◌}
use native.Mathlib.Nat.{suc_inj}
use native.Mathlib.Omega.{arith}
use mathlib.Core.Path.{◌≡◌, refl, sym, ap, subst, ◌∙◌}
use mathlib.Core.Bool.{Bool, true, false, cond, not, ◌&&◌, and-false, beq}
use mathlib.Core.Option
use mathlib.Core.Option.{Option, none, some, some-injective, none-ne-some}
use mathlib.Core.List.{List, [], ◌∷◌, map}
use lib.ListN.{length, take, get_elem?}
use lib.Dec.{eqb, ltb}
use Rattle.paper.specs.Answers.{Answer, ok, refused, ◌>>=◌, require, in_turn, in_entry}
use Rattle.paper.specs.Tokens.{Comparison}
use Rattle.paper.specs.Keys.{Kind, Key}
use Rattle.paper.specs.Entry.{Match, Entry, head_size, match_size, matches_from, is_exact, priority_of, rule_test, entry_of}
use Rattle.paper.specs.Types.{Ty, bool, int, of, same_ty, when, and_then, Field, value, mask, prefix_length, low, high, has, field_ty, bare_type, field_type, not_type, negate_type, join_type, takes, suits, compare_type}
use Rattle.paper.specs.Meaning.{Value, truth, whole, matched, ty_of, is_true, bare_value, field_in, field_value, not_value, negate_value, Connective, join_value, compare_value, convert_value, holds}
use Rattle.paper.specs.Code.{Skip, Instruction, push_bool, push_int, push_key, push_field, push_priority, invert, negate, convert, compare, connects, skip, skip_value, skip_of, Action, act, Walk, fails, ends, walk, type_action, value_action, action_of}
use Rattle.paper.specs.Blocks.{total_of, layout}
use Rattle.paper.specs.Loading.{instructions_from, program, lands_well, check_from, types_along, load_check, loaded, passed, Step, Run, done, after, carry_on, run_from, run_along}
use Rattle.paper.specs.LoadedBlocksRun.{seen_by, Covers, ConformingCovers, types_through, values_through, CheckIsRun, Rising, LoadedRuns}
use Rattle.paper.proofs.Basics.{map_when, map_then}
use Rattle.paper.proofs.Walks.{Follows, act_follows, walk_follows}
use Rattle.paper.proofs.Stages.{Of, never_ok, ok_same, bind_ok}
use Rattle.paper.proofs.Landings.{Passes, first_passes, landing, ends_same}
use Rattle.paper.proofs.Steps.{OfPath, once, rising_few, Few, few}

-- every entry that conforms has a record for each key

matches_length : (entry : List ℕ) (ks : List Key) (k : ℕ) → length (matches_from entry k ks) ≡ length ks
matches_length entry [] k = refl
matches_length entry (x ∷ ks) k = ap suc (matches_length entry ks (suc k))

three_stages : {A : Type 0} (P : A → Type 0) (x y z : Answer (Unit {0})) (a : A) → P a → Of P (x >>= λ _. y >>= λ _. z >>= λ _. ok a)
three_stages P (refused n i at) y z a h = tt
three_stages P (ok _) (refused n i at) z a h = tt
three_stages P (ok _) (ok _) (refused n i at) a h = tt
three_stages P (ok _) (ok _) (ok _) a h = h

pub conforming : ConformingCovers
unfolding entry_of
conforming ks entry e h =
    subst (Of (Covers ks)) h
    (three_stages (Covers ks) (require (eqb (length entry) (head_size + match_size * length ks)) 19 in_entry (length entry))
    (require (ltb (priority_of entry) (2 ^ 31)) 20 in_entry 0) (in_turn (rule_test ks entry) 0 (length ks)) _ (matches_length entry ks 0))

-- each operator gives a value where it gives a type, and it is of that type

pub not_follows : (a : Value) → not_type (ty_of a) ≡ Option.map ty_of (not_value a)
not_follows (truth b) = refl
not_follows (whole z) = refl
not_follows (matched k w m) = refl

pub negate_follows : (a : Value) → negate_type (ty_of a) ≡ Option.map ty_of (negate_value a)
negate_follows (truth b) = refl
negate_follows (whole z) = refl
negate_follows (matched k w m) = map_when ty_of (is_exact k) (matched k w _)

convert_follows : (k : Kind) (w : ℕ) (a : Value) → when (takes (of k w) (ty_of a)) (of k w) ≡ Option.map ty_of (convert_value k w a)
convert_follows k w (truth b) = rw (and-false (not (is_exact k)))
convert_follows k w (whole z) = refl
convert_follows k w (matched l x m) = map_when ty_of (takes (of k w) (of l x)) (matched k w _)

pub compare_follows : (c : Comparison) (a b : Value) → compare_type c (ty_of a) (ty_of b) ≡ Option.map ty_of (compare_value c a b)
compare_follows c a b = map_when ty_of (same_ty (ty_of a) (ty_of b) && suits c (ty_of a)) (truth (holds c a b))

pub join_follows : (o : Connective) (a b : Value) → join_type (ty_of a) (ty_of b) ≡ Option.map ty_of (join_value o a b)
join_follows o (truth a) (truth b) = refl
join_follows o (truth a) (whole z) = refl
join_follows o (truth a) (matched k w m) = refl
join_follows o (whole y) b = refl
join_follows o (matched k w m) b = refl

skip_follows : (s : Skip) (a : Value) → not_type (ty_of a) ≡ Option.map ty_of (skip_value s a)
skip_follows s (truth b) = refl
skip_follows s (whole z) = refl
skip_follows s (matched k w m) = refl

-- the key of an index with its record, where each key has one
module _ (f : Key → Option Ty) (g : Key → Match → Option Value) (same : (x : Key) (m : Match) → f x ≡ Option.map ty_of (g x m)) where
  record_follows : (ks : List Key) (ms : List Match) → length ms ≡ length ks → (k : ℕ)
      → and_then (get_elem? ks k) f ≡ Option.map ty_of (and_then (get_elem? ks k) (λ x. and_then (get_elem? ms k) (g x)))
  record_follows [] ms h k = refl
  record_follows (x ∷ ks) [] h k = absurd (let z : ◌≡◌ {A = ℕ} 0 1 = cc in omega arith)
  record_follows (x ∷ ks) (m ∷ ms) h zero = same x m
  record_follows (x ∷ ks) (m ∷ ms) h (suc k) = record_follows ks ms (suc_inj h) k

field_follows : (f : Field) (x : Key) (m : Match)
    → when (has x.kind f) (field_ty x.width f) ≡ Option.map ty_of (when (has x.kind f) (field_in x.width f m))
field_follows value x m = map_when ty_of (has x.kind value) _
field_follows mask x m = map_when ty_of (has x.kind mask) _
field_follows prefix_length x m = map_when ty_of (has x.kind prefix_length) _
field_follows low x m = map_when ty_of (has x.kind low) _
field_follows high x m = map_when ty_of (has x.kind high) _

-- instruction by instruction

module _ (ks : List Key) (e : Entry) (covers : Covers ks e) where
  pub key_follows : (k : ℕ) → bare_type ks k ≡ Option.map ty_of (bare_value ks e k)
  key_follows k =
      map_then (λ x. of x.kind x.width) (get_elem? ks k)
      ∙ record_follows (λ x. some (of x.kind x.width)) (λ x m. some (matched x.kind x.width m)) (λ x m. refl) ks e.matches covers k

  pub field_value_follows : (f : Field) (k : ℕ) → field_type ks f k ≡ Option.map ty_of (field_value ks e f k)
  field_value_follows f k = record_follows _ _ (field_follows f) ks e.matches covers k

  instruction_follows : (i : Instruction) → Follows ty_of (type_action ks i) (value_action ks e i)
  instruction_follows (push_bool b) = refl
  instruction_follows (push_int n) = refl
  instruction_follows (push_key k) = key_follows k
  instruction_follows (push_field f k) = field_value_follows f k
  instruction_follows push_priority = refl
  instruction_follows invert = not_follows
  instruction_follows negate = negate_follows
  instruction_follows (convert k w) = convert_follows k w
  instruction_follows (compare c) = compare_follows c
  instruction_follows (connects o) = join_follows o
  instruction_follows (skip s) = skip_follows s

  pub action_follows : (o : Option Instruction) → Follows ty_of (action_of (type_action ks) o) (action_of (value_action ks e) o)
  action_follows none = refl
  action_follows (some i) = instruction_follows i

  -- from any point of the way
  pub types_follow : (code : List (Option Instruction)) (i : ℕ) (held : List Value)
      → walk i (map (action_of (type_action ks)) code) (map ty_of held) ≡ seen_by ty_of (walk i (map (action_of (value_action ks e)) code) held)
  types_follow code i held = walk_follows ty_of _ _ action_follows code i held

pub check_is_run : CheckIsRun
unfolding types_through values_through
check_is_run ks e covers code = types_follow ks e covers code 0 []

-- code that passes the check runs to one bool

one_bool : (held : List Value) → map ty_of held ≡ bool ∷ [] → (b : Bool) × (held ≡ truth b ∷ [])
one_bool [] h = absurd (let z : ◌≡◌ {A = ℕ} 0 1 = ap length h in omega (arith, z))
one_bool (truth b ∷ []) h = (b, refl)
one_bool (whole z ∷ []) h = absurd (let z : ◌≡◌ {A = ℕ} 0 1 = cc in omega arith)
one_bool (matched k w m ∷ []) h = absurd (let z : ◌≡◌ {A = ℕ} 0 1 = cc in omega arith)
one_bool (a ∷ b ∷ held) h = absurd (omega (arith, ap length h))

pub record Ends (r : Run) : Type 0 where
  pub path : List Step
  pub bit : Bool
  pub to : r ≡ done path (truth bit ∷ [])

one_more : (p : Step) (r : Run) → Ends r → Ends (after p r)
one_more p r h = record { path = p ∷ h.path; bit = h.bit; to = ap (after p) h.to }

module _ (ks : List Key) (e : Entry) (covers : Covers ks e) where
  abbrev on_types : Option Instruction → Action Ty
  on_types x = action_of (type_action ks) x

  abbrev on_values : Option Instruction → Action Value
  on_values x = action_of (value_action ks e) x

  -- after an instruction that is carried out, up to where the run goes on, the types come back to those that it left
  onward : (o : Option Skip) (xs : List (Option Instruction)) (i : ℕ) (held : List Value) (later t : List Ty) → lands_well ks o xs later ≡ true
      → check_from ks i xs later ≡ ends t → walk 0 (map on_types (take (passed o held) xs)) later ≡ ends later
  unfolding walk
  onward none xs i held later t l h = refl
  onward (some s) xs i [] later t l h = refl
  onward (some s) xs i (v ∷ held) later t l h = go (beq (is_true (some v)) s.on)
    where
      go : (c : Bool) → walk 0 (map on_types (take (cond c s.over 0) xs)) later ≡ ends later
      go true = landing ks s xs i later t l h
      go false = refl

  -- From where the run goes on, having passed over n instructions, to one bool: the types there are those of what it holds.
  runs_on : (xs : List (Option Instruction)) (n i j k : ℕ) (types : List Ty) (held : List Value)
      → check_from ks j xs types ≡ ends (bool ∷ []) → walk k (map on_types (take n xs)) types ≡ ends (map ty_of held)
      → Ends (run_from ks e xs n i held)
  unfolding check_from run_from walk
  runs_on [] zero i j k types held c w =
      let b = one_bool held (ends_same (sym w ∙ c)) in
      record { path = []; bit = b.0; to = ap (λ v. done [] v) b.1 }
  runs_on [] (suc n) i j k types held c w =
      let b = one_bool held (ends_same (sym w ∙ c)) in
      record { path = []; bit = b.0; to = ap (λ v. done [] v) b.1 }
  runs_on (x ∷ xs) zero i j k types held c w =
      go (act (on_values x) held) refl (λ later. runs_on xs over (i + 1) (j + 1) 0 (map ty_of later) later)
    where
      over : ℕ
      over = passed (skip_of x) held

      here : Passes ks x xs j types (bool ∷ [])
      here = first_passes ks x xs j types (bool ∷ []) c

      seen : some here.later ≡ Option.map (map ty_of) (act (on_values x) held)
      seen =
          sym here.acts
          ∙ ap (act (on_types x)) (ends_same w)
          ∙ act_follows ty_of (on_types x) (on_values x) (action_follows ks e covers x) held

      go : (o : Option (List Value)) → act (on_values x) held ≡ o
          → ((later : List Value) → check_from ks (j + 1) xs (map ty_of later) ≡ ends (bool ∷ [])
          → walk 0 (map on_types (take over xs)) (map ty_of later) ≡ ends (map ty_of later) → Ends (run_from ks e xs over (i + 1) later))
          → Ends (carry_on (record { at = i; held = held }) o (run_from ks e xs over (i + 1)))
      go none q rest = absurd (none-ne-some here.later (sym (seen ∙ ap (Option.map (map ty_of)) q)))
      go (some later) q rest =
          let y : here.later ≡ map ty_of later =
          some-injective here.later (map ty_of later) (seen ∙ ap (Option.map (map ty_of)) q) in
          one_more (record { at = i; held = held }) (run_from ks e xs over (i + 1) later)
          (rest later (rw (← y) here.goes_on)
          (rw (← y) (onward (skip_of x) xs (j + 1) held here.later (bool ∷ []) here.lands here.goes_on)))
  runs_on (x ∷ xs) (suc n) i j k types held c w =
      let here = first_passes ks x xs j types (bool ∷ []) c in
      runs_on xs n (i + 1) (j + 1) (k + 1) here.later held here.goes_on (rw here.acts at w)

  passes_runs : (code : List (Option Instruction)) → types_along ks code ≡ ends (bool ∷ []) → Ends (run_along ks e code)
  unfolding types_along run_along walk
  passes_runs code c = runs_on code 0 0 0 0 [] [] c refl

-- blocks that load

bool_left : (size : ℕ) (w : Walk Ty) (u : Unit {0}) → load_check size w ≡ ok u → w ≡ ends (bool ∷ [])
bool_left size (fails i) u h = absurd (never_ok h)
bool_left size (ends []) u h = absurd (never_ok h)
bool_left size (ends (bool ∷ [])) u h = refl
bool_left size (ends (int ∷ [])) u h = absurd (never_ok h)
bool_left size (ends (of k w ∷ [])) u h = absurd (never_ok h)
bool_left size (ends (a ∷ b ∷ held)) u h = absurd (never_ok h)

pub program_length : (blocks : List ℕ) (i n : ℕ) → length (instructions_from blocks i n) ≡ n
program_length blocks i zero = refl
program_length blocks i (suc n) = ap suc (program_length blocks (i + 1) n)

-- what a load that passes has found: the types end in one bool, and the count is that of the blocks
record Found (ks : List Key) (blocks : List ℕ) (n : ℕ) : Type 0 where
  types : types_along ks (program blocks) ≡ ends (bool ∷ [])
  total : n ≡ total_of blocks

found : (ks : List Key) (blocks : List ℕ) (n : ℕ) → loaded ks blocks ≡ ok n → Found ks blocks n
unfolding loaded
found ks blocks n h =
    let types = types_along ks (program blocks) in
    let a = bind_ok (layout (length ks) blocks) (λ _. load_check (length blocks) types >>= λ _. ok (total_of blocks)) n h in
    let b = bind_ok (load_check (length blocks) types) (λ _. ok (total_of blocks)) n a.2 in
    record { types = bool_left (length blocks) types b.0 b.1; total = ok_same n (total_of blocks) (sym b.2) }

pub load_counts : (ks : List Key) (blocks : List ℕ) (n : ℕ) → loaded ks blocks ≡ ok n → n ≡ total_of blocks
load_counts ks blocks n h = (found ks blocks n h).total

pub loaded_runs : LoadedRuns
unfolding run_along
loaded_runs ks blocks n h e covers =
    let code = program blocks in
    let f = found ks blocks n h in
    let r = passes_runs ks e covers code f.types in
    let size : length code ≡ n = program_length blocks 0 (total_of blocks) ∙ sym f.total in
    let rises : Rising 0 n r.path = subst (OfPath (Rising 0 n)) r.to (once ks e code 0 0 n [] (omega (arith, size))) in
    record {
      count = size;
      bit = r.bit;
      path = r.path;
      to = r.to;
      once = rises;
      few = subst (OfPath (Few ks e)) r.to (few ks e code 0 0 [] (omega arith));
      steps = omega (arith, rising_few 0 n r.path (omega arith) rises);
    }
