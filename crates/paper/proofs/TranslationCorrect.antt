-- The blocks of a text load, and say of every entry what the text says, in the steps counted over its tree: they read back as the code of
-- the tree, which pushes a bool in the load check and the tree's value in the run.
use Prim.Native.Nat.{ℕ, ◌+◌, ◌*◌, ◌≤◌}
use native.Mathlib.Omega.{arith}
use mathlib.Core.Path.{◌≡◌, refl, sym, ap, subst, ◌∙◌}
use mathlib.Core.Option.{some}
use mathlib.Core.List.{List, [], ◌∷◌, ◌++◌, map, append-nil}
use lib.ListN.{length, take, drop, length-append, length-drop}
use lib.Seq.{take_at, drop_at}
use lib.Dec.{leb}
use borrow.Author.Tests.{leb-true, le-leb}
use Rattle.paper.specs.Answers.{Answer, ok, refused, ◌>>=◌, require, Ran, Input, in_buffer}
use Rattle.paper.specs.Tokens.{tokens}
use Rattle.paper.specs.Keys.{Key, keys}
use Rattle.paper.specs.Entry.{Entry, entry_of}
use Rattle.paper.specs.Grammar as G
use Rattle.paper.specs.Grammar.{Tree, nodes, parsed}
use Rattle.paper.specs.Types.{bool, type_of, root_type, typed}
use Rattle.paper.specs.Meaning.{Value, truth, value_of, is_true}
use Rattle.paper.specs.Code.{Instruction, ends, most_held}
use Rattle.paper.specs.Blocks.{block_size, blocks_needed, blocks_of}
use Rattle.paper.specs.Loading.{program, types_along, loaded, Step, done, after, run_from, run_along}
use Rattle.paper.specs.Translating.{code_of, conversions, joins, steps_of}
use Rattle.paper.specs.Calls.{sized, tree, Restriction, restriction, check_answer, judge_answer, translatable, translate_answer, over, filled, translate_buffer, load_answer, ran_to, run_answer}
use Rattle.paper.specs.LoadedBlocksRun.{Covers}
use Rattle.paper.specs.CodeCorrect.{needs, most_translated, after_all}
use Rattle.paper.specs.BlocksRoundTrip.{Written}
use Rattle.paper.specs.TranslationCorrect.{judged_in_steps, verdict_of, Carries, Filled, TranslationCarries, CheckedTranslates, RefusedUnchanged, LoadedAnswers}
use Rattle.paper.proofs.Nodes.{nodes_within_tokens}
use Rattle.paper.proofs.Stages.{Of, never_ok, bind_ok, bind_again, test_again, require_ok}
use Rattle.paper.proofs.LoadedBlocksRun.{conforming, loaded_runs}
use Rattle.paper.proofs.TypeSoundness.{judged, bool_root}
use Rattle.paper.proofs.CodeCorrect.{code_pushes_value, code_pushes_type}
use Rattle.paper.proofs.CodeLength.{code_counted, code_fits}
use Rattle.paper.proofs.BlocksRoundTrip.{blocks_back}
use Rattle.paper.proofs.CodeInRange.{code_in_range}
use Rattle.paper.proofs.KeyLists.{keys_listed}
use Rattle.paper.proofs.TokenNumbers.{tokens_within}
use Rattle.paper.proofs.ValuesHeld.{few_held, numbers_read}

-- what is known of a text and a list that pass

pub record Passing (text list : List ℕ) (r : Restriction) : Type 0 where
  pub listed : keys list ≡ ok r.keys
  pub read : tree text ≡ ok r.root
  pub checked : typed r.keys r.root ≡ ok tt

module _ (text list : List ℕ) where
  typed_passes : (ks : List Key) (t : Tree) (x : Answer (Unit {0})) → keys list ≡ ok ks → tree text ≡ ok t → typed ks t ≡ x
      → Of (Passing text list) (x >>= λ _. ok (record { keys = ks; root = t }))
  typed_passes ks t (ok tt) k r c = record { listed = k; read = r; checked = c }
  typed_passes ks t (refused n i at) k r c = tt

  stages_pass : (u : Answer (Unit {0})) (x : Answer (List Key)) (y : Answer Tree) → keys list ≡ x → tree text ≡ y
      → Of (Passing text list) (u >>= λ _. x >>= λ ks. y >>= λ t. typed ks t >>= λ _. ok (record { keys = ks; root = t }))
  stages_pass (refused n i at) x y k r = tt
  stages_pass (ok _) (refused n i at) y k r = tt
  stages_pass (ok _) (ok ks) (refused n i at) k r = tt
  stages_pass (ok _) (ok ks) (ok t) k r = typed_passes ks t (typed ks t) k r refl

  pub passing : (r : Restriction) → restriction text list ≡ ok r → Passing text list r
  unfolding restriction
  passing r h = subst (Of (Passing text list)) h (stages_pass (sized text) (keys list) (tree text) refl refl)

-- a run of steps and no more
after_done : (path : List Step) (held : List Value) → after_all path (done [] held) ≡ done path held
after_done [] held = refl
after_done (p ∷ path) held = ap (after p) (after_done path held)

-- the code of a tree that has the right types, on an entry: what judging says, with the steps

module _ (ks : List Key) (t : Tree) where
  abbrev pub judged_of : Entry → Ran
  judged_of e = record { accepted = is_true (value_of ks e t); steps = steps_of ks e t }

  pub code_ran : typed ks t ≡ ok tt → needs t ≤ most_held → (e : Entry) → Covers ks e → ran_to (run_along ks e (map some (code_of ks t))) ≡ judged_of e
  unfolding run_along run_from
  code_ran right room e covers =
      let v = judged ks e covers t right in
      let (path, many, to) = code_pushes_value ks e covers t (truth v.0) v.1 [] (omega (arith, room)) 0 [] in
      rw (← append-nil (map some (code_of ks t)), to, after_done path (truth v.0 ∷ []), many, v.1)

-- its blocks

nodes_some : (t : Tree) → 1 ≤ nodes t
nodes_some (G.truth at b) = omega arith
nodes_some (G.number at n) = omega arith
nodes_some (G.key at w) = omega arith
nodes_some (G.field at w to f) = omega arith
nodes_some (G.attribute at to f) = omega arith
nodes_some (G.prefixed at o t) = omega arith
nodes_some (G.joined at o l r) = omega arith
nodes_some (G.compared at c l r) = omega arith

module _ (text list : List ℕ) (r : Restriction) (passed : restriction text list ≡ ok r) where
  abbrev pub ks : List Key
  ks = r.keys

  abbrev pub t : Tree
  t = r.root

  abbrev pub code : List Instruction
  code = code_of ks t

  abbrev blocks : List ℕ
  blocks = blocks_of (length ks) code

  known : Passing text list r
  known = passing text list r passed

  a_bool : type_of ks t ≡ ok bool
  unfolding typed
  a_bool =
      let a = bind_ok (type_of ks t) (root_type t) tt known.checked in
      a.1 ∙ ap (λ x. ok x) (bool_root t a.0 tt a.2)

  room : needs t ≤ most_held
  room = omega (arith, few_held text t known.read)

  pub counted : length code ≡ nodes t + conversions ks t + joins t
  counted = code_counted ks t bool a_bool

  pub short : length code ≤ most_translated
  unfolding tree
  short =
      let a = bind_ok (tokens text) (parsed (length text)) t known.read in
      code_fits ks t bool a_bool (omega (arith, nodes_within_tokens (length text) a.0 t a.2, (tokens_within text a.0 a.1).few))

  written : Written (length ks) code blocks
  written =
      let k = keys_listed list ks known.listed in
      blocks_back (length ks) code k.few (omega (arith, counted, nodes_some t)) (omega (arith, short))
      (code_in_range ks k t (numbers_read text t known.read) (omega (arith, short)))

  read_back : program blocks ≡ map some code ++ []
  read_back = written.back ∙ sym (append-nil (map some code))

  types_end : types_along ks (program blocks) ≡ ends (bool ∷ [])
  unfolding types_along
  types_end = rw read_back (code_pushes_type ks t bool a_bool [] (omega (arith, room)) 0 [])

  loads : loaded ks blocks ≡ ok (length code)
  unfolding loaded
  loads = rw (written.passes, types_end, written.total)

  ran : (e : Entry) → Covers ks e → ran_to (run_along ks e (program blocks)) ≡ judged_of ks t e
  ran e covers = rw written.back (code_ran ks t known.checked room e covers)

  module _ (entry : List ℕ) where
    -- with what is known of the entry
    alike : (x : Answer Entry) → entry_of ks entry ≡ x
        → (x >>= λ e. ok (ran_to (run_along ks e (program blocks)))) ≡ (x >>= λ e. ok (judged_of ks t e))
    alike (ok e) h = ap (λ a. ok a) (ran e (conforming ks entry e h))
    alike (refused n i at) h = refl

    runs : run_answer list blocks entry ≡ (entry_of ks entry >>= λ e. ok (ran_to (run_along ks e (program blocks))))
    unfolding run_answer
    runs = rw (known.listed, loads)

    judged_so : judged_in_steps text list entry ≡ (entry_of ks entry >>= λ e. ok (judged_of ks t e))
    unfolding judged_in_steps
    judged_so = rw passed

    verdict_so : verdict_of (entry_of ks entry >>= λ e. ok (judged_of ks t e)) ≡ judge_answer text list entry
    unfolding judge_answer
    verdict_so = rw passed (bind_again (entry_of ks entry) (λ e. ok (judged_of ks t e)) (λ a. ok a.accepted))

    runs_alike : run_answer list blocks entry ≡ (entry_of ks entry >>= λ e. ok (judged_of ks t e))
    runs_alike = runs ∙ alike (entry_of ks entry) refl

  carries : Carries text list blocks (length code)
  unfolding load_answer
  carries =
      record {
        loads = rw known.listed loads;
        runs = λ entry. runs_alike entry ∙ sym (judged_so entry);
        judges = λ entry. ap verdict_of (runs_alike entry) ∙ verdict_so entry;
      }

  -- in a buffer

  abbrev size : ℕ
  size = block_size * blocks_needed (length code)

  in_front : (buffer : List ℕ) → take size (over blocks buffer) ≡ blocks
  in_front buffer = take_at blocks (drop (length blocks) buffer) size written.size

  written_there : (buffer : List ℕ) → translate_buffer text list buffer ≡ over blocks buffer
      → Written (length ks) code (take size (translate_buffer text list buffer))
  written_there buffer e = rw (e, in_front buffer) written

  in_buffer_lem : (buffer : List ℕ) → size ≤ length buffer → translate_buffer text list buffer ≡ over blocks buffer → Filled text list buffer (length code)
  in_buffer_lem buffer room e =
      let rest = drop (length blocks) buffer in
      let back : drop size (over blocks buffer) ≡ rest = drop_at blocks rest size written.size in
      record {
        few = short;
        room = room;
        carries = rw (e, in_front buffer) carries;
        later = rw (e, back, written.size);
        size = rw e (length-append blocks rest ∙ omega (arith, length-drop (length blocks) buffer, written.size));
      }

abbrev pub translating : List ℕ → Restriction → Answer ℕ
translating buffer r =
    let n = length (code_of r.keys r.root) in
    require (leb (block_size * blocks_needed n) (length buffer)) 15 in_buffer (length buffer) >>= λ _. ok n

pub translates : (text list buffer : List ℕ) → translate_answer text list buffer ≡ (restriction text list >>= translating buffer)
unfolding translate_answer
translates text list buffer =
    test_again (restriction text list)
    (λ r. require (leb (block_size * blocks_needed (length (code_of r.keys r.root))) (length buffer)) 15 in_buffer (length buffer))
    (λ r. length (code_of r.keys r.root))

-- the buffer, of a translation whose stages passed, and of one that a stage refused

fills : (text list buffer : List ℕ) (r : Restriction) → restriction text list ≡ ok r
    → block_size * blocks_needed (length (code_of r.keys r.root)) ≤ length buffer
    → translate_buffer text list buffer ≡ over (blocks_of (length r.keys) (code_of r.keys r.root)) buffer
unfolding translate_buffer
fills text list buffer r passed room =
    rw (passed, le-leb (block_size * blocks_needed (length (code_of r.keys r.root))) (length buffer) room)

unfilled : (buffer : List ℕ) (a : Answer Restriction) {m : ℕ} {i : Input} {at : ℕ}
    → (a >>= λ r. ok (length (code_of r.keys r.root))) ≡ refused m i at → filled a buffer ≡ buffer
unfilled buffer (ok r) h = absurd (never_ok (sym h))
unfilled buffer (refused m i at) h = refl

-- what a translation that passes has tested, and what it answers
pub translated : (buffer : List ℕ) (r : Restriction) (n : ℕ) → translating buffer r ≡ ok n
    → (length (code_of r.keys r.root) ≡ n) × (block_size * blocks_needed (length (code_of r.keys r.root)) ≤ length buffer)
translated buffer r n h =
    let code = code_of r.keys r.root in
    let test = leb (block_size * blocks_needed (length code)) (length buffer) in
    let b = bind_ok (require test 15 in_buffer (length buffer)) (λ _. ok (length code)) n h in
    (cc, leb-true (block_size * blocks_needed (length code)) (length buffer) (require_ok test 15 in_buffer (length buffer) b.0 b.1))

pub translation_carries : TranslationCarries
translation_carries text list buffer n h =
    let a = bind_ok (restriction text list) (translating buffer) n (sym (translates text list buffer) ∙ h) in
    let b = translated buffer a.0 n a.2 in
    subst (Filled text list buffer) b.0 (in_buffer_lem text list a.0 a.1 buffer b.1 (fills text list buffer a.0 a.1 b.1))

-- and the blocks in the buffer are those of its code
pub translation_written : (text list buffer : List ℕ) (n : ℕ) → translate_answer text list buffer ≡ ok n
    → (r : Restriction) × (restriction text list ≡ ok r)
    × Written (length r.keys) (code_of r.keys r.root) (take (block_size * blocks_needed n) (translate_buffer text list buffer))
translation_written text list buffer n h =
    let (r, passed, rest) = bind_ok (restriction text list) (translating buffer) n (sym (translates text list buffer) ∙ h) in
    let (many, room) = translated buffer r n rest in
    let holds : ℕ → Type 0 =
    λ m. Written (length r.keys) (code_of r.keys r.root) (take (block_size * blocks_needed m) (translate_buffer text list buffer)) in
    (r, passed, subst holds many (written_there text list r passed buffer (fills text list buffer r passed room)))

pub checked_translates : CheckedTranslates
unfolding check_answer
checked_translates text list h buffer room =
    let a = bind_ok (restriction text list) (λ _. ok tt) tt h in
    let r = a.0 in
    let size = block_size * blocks_needed (length (code_of r.keys r.root)) in
    let fits : size ≤ length buffer = omega (arith, short text list r a.1) in (
      length (code_of r.keys r.root),
      translates text list buffer ∙ ap (λ x. x >>= translating buffer) a.1 ∙ rw (le-leb size (length buffer) fits),
    )

-- its number of instructions is the text's and the list's, and the buffer is measured against that
pub checked_count : (text list : List ℕ) → check_answer text list ≡ ok tt
    → (n : ℕ) × (n ≤ most_translated)
    × ((buffer : List ℕ) → translate_answer text list buffer
    ≡ (require (leb (block_size * blocks_needed n) (length buffer)) 15 in_buffer (length buffer) >>= λ _. ok n))
unfolding check_answer
checked_count text list h =
    let a = bind_ok (restriction text list) (λ _. ok tt) tt h in
    let r = a.0 in (
      length (code_of r.keys r.root),
      short text list r a.1,
      λ buffer. translates text list buffer ∙ ap (λ x. x >>= translating buffer) a.1,
    )

pub refused_unchanged : RefusedUnchanged
unfolding translate_answer translate_buffer
refused_unchanged text list buffer m i at h = unfilled buffer (translatable text list buffer) h

-- all blocks that load

pub loaded_answers : LoadedAnswers
unfolding load_answer run_answer
loaded_answers list blocks entry ks e n h k c =
    let good : loaded ks blocks ≡ ok n = rw k at h in
    let r = loaded_runs ks blocks n good e (conforming ks entry e c) in
    record { run = r; answer = rw (k, good, c, r.to) }
