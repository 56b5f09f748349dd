-- The comparison says "agrees" exactly of our translation of the parts in some order: its records are those of the code. Such blocks are the
-- translation of a tree whose parts are the text's in another order, so they say of an entry what that tree says, and a tree joined of parts
-- holds where each of them does, in whatever order.
use Prim.Native.Nat.{ℕ, suc, ◌+◌, ◌-◌, ◌*◌, ◌^◌, ◌≤◌, ◌<◌}
use native.Mathlib.Omega.{arith}
use mathlib.Core.Path.{◌≡◌, refl, sym, ap, subst, ◌∙◌}
use mathlib.Core.Logic.{◌↔◌}
use mathlib.Core.Bool.{Bool, true, false}
use mathlib.Core.Option.{Option, some}
use mathlib.Core.List.{List, [], ◌∷◌, map, map-map}
use lib.ListN.{length, length-map}
use Rattle.paper.specs.Answers.{Answer, ok, refused, ◌>>=◌, Ran}
use Rattle.paper.specs.Keys.{Key}
use Rattle.paper.specs.Entry.{Entry, entry_of}
use Rattle.paper.specs.Grammar.{Tree}
use Rattle.paper.specs.Meaning.{value_of, is_true}
use Rattle.paper.specs.Code.{Instruction, encode}
use Rattle.paper.specs.Blocks.{block_size, in_block, blocks_needed, blocks_in, total_of, layout}
use Rattle.paper.specs.Loading.{program, types_along, load_check, loaded, run_along, left_true}
use Rattle.paper.specs.Translating.{code_of}
use Rattle.paper.specs.Calls.{Restriction, restriction, judge_answer, translate_buffer, load_answer, ran_to, run_answer}
use Rattle.paper.specs.LoadedBlocksRun.{Covers}
use Rattle.paper.specs.CodeCorrect.{most_translated}
use Rattle.paper.specs.BlocksRoundTrip.{All, Listed}
use Rattle.paper.specs.TranslationCorrect.{verdict_of}
use Rattle.paper.specs.Parts.{Part, parts}
use Rattle.paper.specs.PartsDecide.{JoinedLeft, roots}
use Rattle.paper.specs.Promised.{Bytes}
use Rattle.paper.specs.Demands.{blocks_written}
use Rattle.paper.specs.Comparing.{InSomeOrder, Ours, records_in, written, fits, part_codes, compare_answer}
use Rattle.paper.specs.ComparedRight.{Comparable, AgreesExactly, AgreementMeansEqual, ReorderedAgree, OwnAgree}
use Rattle.paper.proofs.Stages.{ok_same, bind_ok}
use Rattle.paper.proofs.LoadedBlocksRun.{conforming}
use Rattle.paper.proofs.KeyLists.{keys_listed}
use Rattle.paper.proofs.CodeInRange.{code_in_range}
use Rattle.paper.proofs.ValuesHeld.{few_held, numbers_read}
use Rattle.paper.proofs.TranslationCorrect.{Passing, passing, code_ran, short, translation_carries, translation_written}
use Rattle.paper.proofs.LayoutPassed.{laid, counts_within}
use Rattle.paper.proofs.ByteLists.{take_bytes, buffer_bytes}
use Rattle.paper.proofs.PartsCut.{text_is_its_parts}
use Rattle.paper.proofs.PartsDecide.{Holds, joined_holds}
use Rattle.paper.proofs.PartsTyped.{is_bool, roots_joined, some_part}
use Rattle.paper.proofs.PartsJoined.{Fine, fine_parts, fine_joined, short_parts}
use Rattle.paper.proofs.Orders.{as_it_stands, all_kept, order_image}
use Rattle.paper.proofs.Sole.{Good, code_good}
use Rattle.paper.proofs.Records.{records_many, program_read, program_written}
use Rattle.paper.proofs.Fitting.{fits_sound, fits_complete}

both_ways : (a b : Bool) → (a ≡ true) ↔ (b ≡ true) → a ≡ b
both_ways true b (there, back) = sym (there refl)
both_ways false true (there, back) = back refl
both_ways false false (there, back) = refl

-- the codes of parts are those of their trees
codes_of : (ks : List Key) (ps : List Part) → map (code_of ks) (roots ps) ≡ part_codes ks ps
codes_of ks ps = map-map (code_of ks) (λ (p : Part). p.root) ps

-- blocks that load hold at most 25 instructions to a block, and 3,075 in all

pub record Counted (blocks : List ℕ) : Type 0 where
  pub within : total_of blocks ≤ in_block * blocks_in blocks
  pub few : total_of blocks < 2 ^ 16

pub counted : (ks : List Key) (blocks : List ℕ) (n : ℕ) → loaded ks blocks ≡ ok n → Counted blocks
unfolding loaded
counted ks blocks n h =
    let types = types_along ks (program blocks) in
    let (_, passes, _) = bind_ok (layout (length ks) blocks) (λ _. load_check (length blocks) types >>= λ _. ok (total_of blocks)) n h in
    let good = laid (length ks) blocks passes in
    let within = counts_within (length ks) blocks good.each in
    record { within = within; few = omega (arith, within, good.most) }

-- the parts of a text that passes with a list

module _ (text list : List ℕ) (r : Restriction) (passed : restriction text list ≡ ok r) (ps : List Part) (divided : parts text ≡ ok ps) where
  abbrev ks : List Key
  ks = r.keys

  known : Passing text list r
  known = passing text list r passed

  listed : Listed ks
  listed = keys_listed list ks known.listed

  joins : JoinedLeft (roots ps) r.root
  joins = roots_joined text r.root ps known.read divided

  abbrev most : ℕ
  most = 65 * 5 + 1

  parts_fine : All (Fine ks most) (roots ps)
  parts_fine =
      fine_parts ks most joins
      (record {
        right = known.checked;
        held = few_held text r.root known.read;
        numbers = numbers_read text r.root known.read;
      })

  -- each has a code by which it is known at the end

  trees_good : (ts : List Tree) → All (Fine ks most) ts → All (λ u. length (code_of ks u) ≤ most_translated) ts → All (Good ks) (map (code_of ks) ts)
  trees_good [] fine few = tt
  trees_good (t ∷ ts) fine few =
      let (here, others) = fine in
      let size = few.0 in (
        code_good ks t _ (is_bool ks t here.right) (omega (arith, here.held)) listed here.numbers (omega (arith, size)),
        trees_good ts others few.1,
      )

  parts_good : All (Good ks) (part_codes ks ps)
  parts_good =
      subst (All (Good ks)) (codes_of ks ps) (trees_good (roots ps) parts_fine (short_parts ks most_translated joins (short text list r passed)))

  -- there is one, so that they are one more than so many
  parts_many : length (part_codes ks ps) ≡ suc (length ps - 1)
  parts_many =
      omega (arith, some_part text r.root ps known.read divided, length-map ps (λ (p : Part). code_of ks p.root))

  -- a tree of them in some order
  tree_fine : {order : List Tree} {root : Tree} → InSomeOrder order (roots ps) → JoinedLeft order root → Fine ks (most + 1) root
  tree_fine once joined = fine_joined ks most joined ((all_kept (Fine ks most) once).1 parts_fine)

  tree_holds : {order : List Tree} {root : Tree} → InSomeOrder order (roots ps) → JoinedLeft order root → (e : Entry)
      → is_true (value_of ks e root) ≡ is_true (value_of ks e r.root)
  tree_holds {root = root} once joined e =
      let (there, back) = joined_holds ks e joined in
      let (keep, again) = all_kept (Holds ks e) once in
      let (apart, together) = joined_holds ks e joins in
      both_ways (is_true (value_of ks e root)) (is_true (value_of ks e r.root)) (λ h. together (keep (there h)), λ h. back (again (apart h)))

  -- with blocks that load
  module _ (blocks : List ℕ) (n : ℕ) (loads : loaded ks blocks ≡ ok n) where
    abbrev agrees : Bool
    agrees = fits (length ps - 1) (part_codes ks ps) (records_in blocks)

    compares : compare_answer text list blocks ≡ ok agrees
    unfolding compare_answer
    compares = rw (passed, divided, loads)

    ours : compare_answer text list blocks ≡ ok true → Ours ks (roots ps) blocks
    ours h =
        let said : fits (length ps - 1) (map (code_of ks) (roots ps)) (records_in blocks) ≡ true =
        rw (codes_of ks ps) (ok_same agrees true (sym compares ∙ h)) in
        let o = fits_sound ks (length ps - 1) (roots ps) (records_in blocks) said in
        let code = code_of ks o.root in
        let many : total_of blocks ≡ length code = sym (records_many blocks 0 (total_of blocks)) ∙ ap length o.is ∙ length-map code encode in
        let few = (counted ks blocks n loads).few in
        let ranged = code_in_range ks listed o.root (tree_fine o.once o.joined).numbers (omega (arith, many, few)) in
        record {
          order = o.order;
          once = o.once;
          root = o.root;
          joined = o.joined;
          translated = program_read blocks code ranged o.is;
        }

    -- blocks of a tree whose parts have the codes in some order
    agree : Bytes blocks → {order : List Tree} {root : Tree} → JoinedLeft order root → InSomeOrder (map (code_of ks) order) (part_codes ks ps)
        → program blocks ≡ map some (code_of ks root) → compare_answer text list blocks ≡ ok true
    agree bytes {root = root} joined once translated =
        let is = program_written blocks bytes (counted ks blocks n loads).within (code_of ks root) translated in
        compares ∙ ap (λ b. ok b) (fits_complete ks joined (length ps - 1) (part_codes ks ps) (records_in blocks) parts_many parts_good once is)

    -- the same answers
    module _ (o : Ours ks (roots ps) blocks) (entry : List ℕ) where
      runs_to : (e : Entry) → Covers ks e → left_true (run_along ks e (program blocks)) ≡ is_true (value_of ks e r.root)
      runs_to e covers =
          let fine = tree_fine o.once o.joined in
          ap (λ (code : List (Option Instruction)). left_true (run_along ks e code)) o.translated
          ∙ ap (λ (x : Ran). x.accepted) (code_ran ks o.root fine.right (omega (arith, fine.held)) e covers)
          ∙ tree_holds o.once o.joined e

      alike : (x : Answer Entry) → entry_of ks entry ≡ x
          → verdict_of (x >>= λ e. ok (ran_to (run_along ks e (program blocks)))) ≡ (x >>= λ e. ok (is_true (value_of ks e r.root)))
      alike (ok e) h = ap (λ b. ok b) (runs_to e (conforming ks entry e h))
      alike (refused m i at) h = refl

      answers : verdict_of (run_answer list blocks entry) ≡ judge_answer text list entry
      unfolding run_answer judge_answer
      answers = rw (passed, known.listed, loads) (alike (entry_of ks entry) refl)

pub agrees_exactly : AgreesExactly
agrees_exactly text list blocks bytes c =
    let ks = c.rule.keys in
    let ps = c.ps in (
      ours text list c.rule c.passes ps c.divided blocks c.count c.loads,
      λ o.
          agree text list c.rule c.passes ps c.divided blocks c.count c.loads bytes o.joined
          (subst (InSomeOrder (map (code_of ks) o.order)) (codes_of ks ps) (order_image (code_of ks) o.once)) o.translated,
    )

-- what can be compared agrees or differs, and nothing else does

pub compared : (text list blocks : List ℕ) → Comparable text list blocks → (b : Bool) × (compare_answer text list blocks ≡ ok b)
compared text list blocks c = (_, compares text list c.rule c.passes c.ps c.divided blocks c.count c.loads)

pub comparable : (text list blocks : List ℕ) (b : Bool) → compare_answer text list blocks ≡ ok b → Comparable text list blocks
unfolding compare_answer
comparable text list blocks b h =
    let last : Restriction → List Part → ℕ → Answer Bool =
    λ r ps _. ok (fits (length ps - 1) (part_codes r.keys ps) (records_in blocks)) in
    let (r, passes, rest) = bind_ok (restriction text list) (λ r. parts text >>= λ ps. loaded r.keys blocks >>= last r ps) b h in
    let (ps, divided, more) = bind_ok (parts text) (λ ps. loaded r.keys blocks >>= last r ps) b rest in
    let (n, loads, _) = bind_ok (loaded r.keys blocks) (last r ps) b more in
    record { rule = r; passes = passes; ps = ps; divided = divided; count = n; loads = loads }

pub agreement_means_equal : AgreementMeansEqual
agreement_means_equal text list blocks bytes h entry =
    let c = comparable text list blocks true h in
    let o = ours text list c.rule c.passes c.ps c.divided blocks c.count c.loads h in
    answers text list c.rule c.passes c.ps c.divided blocks c.count c.loads o entry

pub reordered_agree : ReorderedAgree
unfolding load_answer
reordered_agree text other list buffer n r ps qs list-bytes bytes passed divided apart once written =
    let ks = r.keys in
    let blocks = blocks_written n (translate_buffer other list buffer) in
    let known = passing text list r passed in
    let loads : loaded ks blocks ≡ ok n = rw known.listed at (translation_carries other list buffer n written).carries.loads in
    let (q, passes, holds) = translation_written other list buffer n written in
    let theirs = passing other list q passes in
    let same : q.keys ≡ ks = ok_same q.keys ks (sym theirs.listed ∙ known.listed) in
    let there : program blocks ≡ map some (code_of ks q.root) = holds.back ∙ ap (λ (k : List Key). map some (code_of k q.root)) same in
    agree text list r passed ps divided blocks n loads (take_bytes (block_size * blocks_needed n) (translate_buffer other list buffer) (buffer_bytes other list buffer bytes))
    (roots_joined other q.root qs theirs.read apart)
    (subst (λ (cs : List (List Instruction)). InSomeOrder cs (part_codes ks ps)) (sym (codes_of ks qs)) once)
    there

pub own_agree : OwnAgree
own_agree text list buffer n list-bytes bytes written =
    let (r, passed, _) = translation_written text list buffer n written in
    let (ps, divided, _) = text_is_its_parts text r.root (passing text list r passed).read in
    reordered_agree text text list buffer n r ps ps list-bytes bytes passed divided divided (as_it_stands (part_codes r.keys ps)) written
