-- Landings, by the marks of what was followed. The load check goes along the instructions with the types that were followed, and at each
-- skip compares: a landing up to where the types were followed has a mark, which is that after the skip exactly where the types are the
-- same (`marks_agree`, `marks_differ`); a landing past it is not compared (`past`).
use Rattle.std.proofs.Common.{◌≡◌, ℕ, suc, ◌+◌, ◌-◌, ◌<◌, ◌≤◌, Bool, true, false, cond, List, [], ◌∷◌, map, length, get_or, take, sym, refl, ap, ◌∙◌, subst, add-zero, arith}
use mathlib.Core.Option.{Option, none, some, none-ne-some}
use Rattle.paper.specs.Keys.{Key}
use Rattle.paper.specs.Types.{Ty, bool, int, of}
use Rattle.paper.specs.Code.{Skip, Instruction, skip, parts_at, Action, most_held, act, Walk, fails, ends, go_on, walk, type_action, action_of, skip_of}
use Rattle.paper.specs.Loading.{instruction_at, instructions_from, same_types, same_at, lands_well, check_from, types_along}
use Rattle.paper.proofs.Landings.{same_held, held_same, ends_same}
use Rattle.machine.specs.Following.{floor, mark, over_of, Followed, Fitted}
use Rattle.machine.proofs.Along.{along, read_at, action_at, of_blocks, along_part, late, along_acts, along_stops}
use Rattle.machine.proofs.Types.{types_at, types_after_lem}
use Rattle.machine.proofs.Marked.{floor_most, MarkedAlong}
use Rattle.machine.proofs.Marks.{put_some, marks_tell}
use Rattle.machine.proofs.Skips.{is_skip, over_within}

-- a mark tells the height and the floor
mark_tells : (s t : List Ty) → length s ≤ most_held → length t ≤ most_held → mark s ≡ mark t → (length s ≡ length t) × (floor s ≡ floor t)
mark_tells s t a b e = (omega (arith, floor_most s, floor_most t), omega (arith, floor_most s, floor_most t))

-- where a walk begins to count does not matter to what it is compared with
same_anywhere : (held : List Ty) (xs : List (Action Ty)) (i j : ℕ) (s : List Ty) → same_at held (walk i xs s) ≡ same_at held (walk j xs s)
unfolding walk
same_anywhere held [] i j s = refl
same_anywhere held (x ∷ xs) i j s = go (act x s) (λ u. same_anywhere held xs (i + 1) (j + 1) u)
  where
    go : (o : Option (List Ty)) → ((u : List Ty) → same_at held (walk (i + 1) xs u) ≡ same_at held (walk (j + 1) xs u))
        → same_at held (go_on i o (walk (i + 1) xs)) ≡ same_at held (go_on j o (walk (j + 1) xs))
    go none h = refl
    go (some u) h = h u

-- a skip leaves a bool
top_bool : (ks : List Key) (s : Skip) (held later : List Ty) → act (action_of (type_action ks) (some (skip s))) held ≡ some later
    → (under : List Ty) × (later ≡ bool ∷ under)
top_bool ks s [] later h = absurd (none-ne-some later h)
top_bool ks s (bool ∷ under) later h =
    let p = put_some (some bool) under later h in
    let same : bool ≡ p.0 = cc in
    (under, p.2 ∙ ap (λ a. a ∷ under) (sym same))
top_bool ks s (int ∷ under) later h = absurd (none-ne-some later h)
top_bool ks s (of k w ∷ under) later h = absurd (none-ne-some later h)

module _ (ks : List Key) (blocks : List ℕ) (n : ℕ) where
  abbrev on_types : Option Instruction → Action Ty
  on_types o = action_of (type_action ks) o

  abbrev at : ℕ → Action Ty
  at = types_at ks blocks n

  -- what the skip of an index passes over, and the number of the instruction that it lands on
  abbrev over : ℕ → ℕ
  over i = over_of (skip_of (read_at blocks n i))

  abbrev pub landing : ℕ → ℕ
  landing i = i + 1 + over i

  -- the instructions after the one of an index
  abbrev after : ℕ → List (Option Instruction)
  after i = instructions_from blocks (i + 1) (n - i - 1)

  abbrev checked : Walk Ty
  checked = types_along ks (instructions_from blocks 0 n)

  -- the way from an instruction to its landing
  way_over : (i k : ℕ) (held : List Ty) → i < n → k ≤ n - i - 1 → along at 0 (i + 1) [] ≡ ends held
      → walk (i + 1) (map on_types (take k (after i))) held ≡ along at 0 (i + 1 + k) []
  way_over i k held more l h =
      ap (λ xs. walk (i + 1) xs held) (sym (of_blocks on_types blocks n (i + 1) k (n - i - 1) (omega arith) l))
      ∙ along_part at (i + 1) held h k

  -- what a landing is compared with
  lands : (i : ℕ) (o : Option Skip) (held : List Ty) → i < n → over_of o ≤ n - i - 1 → along at 0 (i + 1) [] ≡ ends held
      → lands_well ks o (after i) held ≡ same_at held (along at 0 (i + 1 + over_of o) [])
  lands i none held more l h =
      sym (held_same held) ∙ ap (same_at held) (sym h) ∙ ap (λ k. same_at held (along at 0 k [])) (sym (add-zero (i + 1)))
  lands i (some s) held more l h =
      same_anywhere held (map on_types (take s.over (after i))) 0 (i + 1) held
      ∙ ap (same_at held) (way_over i s.over held more l h)

  -- the load check has come to an instruction, with the types that were followed
  pub record Fits (i : ℕ) : Type 0 where
    pub upto : i ≤ n
    pub held : List Ty
    pub there : along at 0 i [] ≡ ends held
    pub rest : (m : ℕ) → i + m ≡ n → check_from ks i (instructions_from blocks i m) held ≡ checked

  pub fits_first : Fits 0
  unfolding walk types_along
  fits_first =
      record {
        upto = omega arith;
        held = [];
        there = refl;
        rest =
            λ m e.
            let all : m ≡ n = omega arith in
            rw all;
      }

  -- what the check makes of an instruction, by the types that it leaves
  abbrev checked_by : ℕ → Option (List Ty) → Walk Ty
  checked_by i o =
      go_on i o (λ s. cond (lands_well ks (skip_of (read_at blocks n i)) (after i) s) (check_from ks (i + 1) (after i) s) (fails i))

  checked_here : {i : ℕ} (here : Fits i) → i < n → (o : Option (List Ty)) → act (on_types (read_at blocks n i)) here.held ≡ o
      → checked_by i o ≡ checked
  unfolding check_from
  checked_here {i} here more o acts = ap (checked_by i) (sym acts) ∙ here.rest (suc (n - i - 1)) (omega arith)

  -- it goes on to the next
  module _ {i : ℕ} (here : Fits i) (more : i < n) (later : List Ty) (next : along at 0 (i + 1) [] ≡ ends later) where
    acts : act (on_types (read_at blocks n i)) here.held ≡ some later
    unfolding action_at
    acts = along_acts at i here.held here.there later next

    over_small : over i ≤ n - i - 1
    over_small = over_within (n - i - 1) (parts_at blocks (instruction_at i))

    -- where the landing fits, and fails where it does not
    abbrev fitting : Bool → Walk Ty
    fitting fits = cond fits (check_from ks (i + 1) (after i) later) (fails i)

    compares : fitting (same_at later (along at 0 (landing i) [])) ≡ checked
    compares =
        ap fitting (sym (lands i (skip_of (read_at blocks n i)) later more over_small next)) ∙ checked_here here more (some later) acts

    fits_next : same_at later (along at 0 (landing i) []) ≡ true → Fits (i + 1)
    fits_next same =
        record {
          upto = omega arith;
          held = later;
          there = next;
          rest =
              λ m e.
              let left : m ≡ n - i - 1 = omega arith in
              rw left (ap fitting (sym same) ∙ compares);
        }

    fits_not : same_at later (along at 0 (landing i) []) ≡ false → checked ≡ fails i
    fits_not differs = sym compares ∙ ap fitting differs

    -- by marks, where the types were followed up to the landing
    module _ (few : length later ≤ most_held) (there : List Ty) (few-there : length there ≤ most_held)
        (reached : along at 0 (landing i) [] ≡ ends there) where
      same_types_there : (o : Option Skip) → skip_of (read_at blocks n i) ≡ o → along at 0 (i + 1 + over_of o) [] ≡ ends there
          → over_of o ≤ n - i - 1 → mark later ≡ mark there → later ≡ there
      same_types_there none q r l m = ends_same (sym next ∙ ap (λ k. along at 0 k []) (sym (add-zero (i + 1))) ∙ r)
      same_types_there (some s) q r l m =
          let skips : act (on_types (some (skip s))) here.held ≡ some later =
          subst (λ o. act (on_types o) here.held ≡ some later) (is_skip (read_at blocks n i) s q) acts
          in
          let (under, top) = top_bool ks s here.held later skips in
          let told = mark_tells later there few few-there m in
          top
          ∙ marks_tell ks (take s.over (after i)) (i + 1) under there (rw top at (way_over i s.over later more l next ∙ r))
          (rw top at told.0) (rw top at told.1)

      marks_agree : mark later ≡ mark there → same_at later (along at 0 (landing i) []) ≡ true
      marks_agree m =
          ap (same_at later) reached
          ∙ subst (λ u. same_types later u ≡ true) (same_types_there (skip_of (read_at blocks n i)) refl reached over_small m)
          (held_same later)

      marks_differ : (mark later ≡ mark there → ⊥) → same_at later (along at 0 (landing i) []) ≡ false
      marks_differ differ = ap (same_at later) reached ∙ go (same_types later there) refl
        where
          go : (b : Bool) → same_types later there ≡ b → same_types later there ≡ false
          go true e = absurd (differ (ap mark (same_held later there e)))
          go false e = e

  module _ (marks : List ℕ) (upto : ℕ) (followed : Followed ks blocks n marks upto) where
    marked : (k : ℕ) → k ≤ upto → MarkedAlong at marks k
    marked k l =
        let m = followed.marked k l in
        record {
          held = m.held;
          few = m.few;
          there = types_after_lem ks blocks n k (omega (arith, followed.within)) ∙ m.there;
          told = m.told;
        }

    stopped : upto < n → along at 0 n [] ≡ fails upto
    stopped l = types_after_lem ks blocks n n (omega arith) ∙ followed.stops l

    -- past the instruction that fails by itself no walk comes, so that nothing is compared
    past : (k : ℕ) (held : List Ty) → upto < k → k ≤ n → same_at held (along at 0 k []) ≡ true
    past k held l m = go (along at 0 k []) refl
      where
        go : (w : Walk Ty) → along at 0 k [] ≡ w → same_at held w ≡ true
        go (fails j) e = refl
        go (ends s) e =
            let all : k + (n - k) ≡ n = omega arith in
            let onward : along at k (n - k) s ≡ fails upto =
            along_part at k s e (n - k) ∙ ap (λ j. along at 0 j []) all ∙ stopped (omega arith)
            in
            absurd (omega (arith, late _ k upto s onward))

    -- a turn of the loop over the landings
    module _ {i : ℕ} (here : Fits i) (more : i < upto) where
      in_code : i < n
      in_code = omega (arith, followed.within)

      after_it : MarkedAlong at marks (i + 1)
      after_it = marked (i + 1) (omega arith)

      -- what stands there is an instruction, since it acts
      pub reads : (o : Instruction) × (read_at blocks n i ≡ some o)
      reads = go (read_at blocks n i) refl (acts here in_code after_it.held after_it.there)
        where
          go : (o : Option Instruction) → read_at blocks n i ≡ o → {s : List Ty} → act (on_types o) here.held ≡ some s
              → (j : Instruction) × (read_at blocks n i ≡ some j)
          go none e {s} h = absurd (none-ne-some s h)
          go (some j) e h = (j, e)

      pub next_past : upto < landing i → Fits (i + 1)
      next_past l =
          let lands-in-code : landing i ≤ n = omega (arith, in_code, over_within (n - i - 1) (parts_at blocks (instruction_at i))) in
          fits_next here in_code after_it.held after_it.there (past (landing i) after_it.held l lands-in-code)

      pub next_same : landing i ≤ upto → get_or marks (landing i) 0 ≡ get_or marks (i + 1) 0 → Fits (i + 1)
      next_same l same =
          let there = marked (landing i) l in
          fits_next here in_code after_it.held after_it.there
          (marks_agree here in_code after_it.held after_it.there after_it.few there.held there.few there.there
          (sym after_it.told ∙ sym same ∙ there.told))

      pub stops_here : landing i ≤ upto → (get_or marks (landing i) 0 ≡ get_or marks (i + 1) 0 → ⊥) → Fitted ks blocks n marks i
      stops_here l differ =
          let there = marked (landing i) l in
          let misfits =
          marks_differ here in_code after_it.held after_it.there after_it.few there.held there.few there.there
          (λ e. differ (there.told ∙ sym e ∙ sym after_it.told))
          in
          record {
            within = here.upto;
            stops = λ _. fits_not here in_code after_it.held after_it.there misfits;
            passes = λ e. absurd (omega (arith, in_code));
          }

    -- the loop is over: the instruction that fails by itself, or the end

    fails_last : (here : Fits upto) → upto < n → checked ≡ fails upto
    unfolding action_at
    fails_last here l =
        let all : upto + suc (n - upto - 1) ≡ n = omega arith in
        let acts-not : act (on_types (read_at blocks n upto)) here.held ≡ none =
        along_stops at upto here.held here.there (n - upto - 1) (ap (λ j. along at 0 j []) all ∙ stopped l)
        in
        sym (checked_here here l none acts-not)

    pub fits_last : Fits upto → Fitted ks blocks n marks upto
    unfolding check_from
    fits_last here =
        record {
          within = followed.within;
          stops = fails_last here;
          passes =
              λ e.
              let last = marked upto (omega arith) in
              let all : upto + 0 ≡ n = omega arith in
              let same : last.held ≡ here.held = ends_same (sym last.there ∙ here.there) in
              (here.held, sym (here.rest 0 all), ap (λ k. get_or marks k 0) (sym e) ∙ last.told ∙ ap mark same);
        }

-- the landings of the instructions before the i-th fit, whatever the keys are by which the types were followed
pub record Compared (blocks : List ℕ) (n : ℕ) (marks : List ℕ) (upto i : ℕ) : Type 0 where
  pub within : i ≤ upto
  pub fits : (ks : List Key) → Followed ks blocks n marks upto → Fits ks blocks n i
