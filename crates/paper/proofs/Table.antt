-- Each call refuses exactly as the table of numbers says, and passes exactly when no stage has a fault.
use Prim.Native.Nat.{ℕ, ◌-◌, ◌*◌}
use native.Mathlib.Omega.{arith}
use mathlib.Core.Path.{◌≡◌, refl}
use mathlib.Core.Bool.{Bool, true}
use mathlib.Core.List.{List, [], ◌∷◌, ◌++◌}
use lib.ListN.{length}
use lib.Dec.{leb}
use borrow.Author.Tests.{leb-true, leb-false}
use Rattle.paper.specs.Answers.{ok, refused, ◌>>=◌, require, in_text, in_buffer}
use Rattle.paper.specs.Tokens.{Token, tokens, most_text}
use Rattle.paper.specs.Keys.{keys}
use Rattle.paper.specs.Entry.{entry_of}
use Rattle.paper.specs.Grammar.{Tree, nodes, parsed}
use Rattle.paper.specs.Types.{typed}
use Rattle.paper.specs.Meaning.{value_of, is_true}
use Rattle.paper.specs.Blocks.{block_size, blocks_needed}
use Rattle.paper.specs.Loading.{program, loaded, run_along}
use Rattle.paper.specs.Translating.{code_of}
use Rattle.paper.specs.Print.{print}
use Rattle.paper.specs.Calls.{sized, tree, Restriction, restriction, read_answer, check_answer, judge_answer, room_for, translatable, translate_answer, load_answer, ran_to, run_answer, lends, printable, print_answer}
use Rattle.paper.specs.Named.{names, marked, set_of, Summary, summary_answer}
use Rattle.paper.specs.Fixing.{old_scan, old_tokens, fixed, fixable, fix_answer}
use Rattle.paper.specs.Drafting.{draft_answer}
use Rattle.paper.specs.Parts.{Part, parts}
use Rattle.paper.specs.Comparing.{records_in, fits, part_codes, compare_answer}
use Rattle.paper.specs.Counting.{Counts, counts_of, few_entries, counted, totals_of, count_answer}
use Rattle.paper.specs.RunAll.{verdicts_on, ran_all, all_ran, run_all_answer}
use Rattle.paper.specs.Faults.{Faults, TextSize, text_over, TokenFaults, TextTokens, TextGrammar, BufferSize, buffer_short, LendingSize}
use Rattle.paper.specs.Table.{Free, stage, Given, size_stages, list_stages, tree_stages, type_stages, buffer_stages, block_stages, entry_stages, entries_stages, table_stages, read_stages, check_stages, judge_stages, translate_stages, load_stages, run_stages, printing_stages, print_stages, fixing_stages, fix_stages, draft_stages, compare_stages, count_stages, run_all_stages, TableHolds}
use Rattle.paper.proofs.TranslationCorrect.{passing}
use Rattle.paper.proofs.Refusals.{parsed_is_right}
use Rattle.paper.proofs.StagesInOrder.{Tells, test_tells, exact_tells, given_tells, Follows, follows_one, follows_as, follows_then, by_table}
use Rattle.paper.proofs.ListFaults.{list_follows}
use Rattle.paper.proofs.TokenFaults.{tokens_tell, old_tokens_tell}
use Rattle.paper.proofs.TypeFaults.{types_follow}
use Rattle.paper.proofs.EntryFaults.{entry_follows, entries_follow, table_follows}
use Rattle.paper.proofs.CodeFaults.{blocks_follow, load_follows}
use Rattle.paper.proofs.LendingFaults.{lending_tells}
use Rattle.paper.proofs.DraftFaults.{draft_follows}
use Rattle.paper.proofs.PartsCut.{text_is_its_parts}

-- 1

text_free : (text : List ℕ) → leb (length text) most_text ≡ true → Free (TextSize text)
text_free text h n at (text_over l) = let e = leb-true (length text) most_text h in omega arith

text_only : (text : List ℕ) (m to : ℕ) → TextSize text m to → (m ≡ 1) × (to ≡ most_text)
text_only text m to (text_over l) = (refl, refl)

size_follows : (text : List ℕ) → Follows (size_stages text) (sized text)
size_follows text =
    follows_one in_text (TextSize text) (sized text)
    (test_tells (TextSize text) (leb (length text) most_text) 1 in_text most_text (text_free text)
    (λ h. text_over (leb-false (length text) most_text h)) (text_only text))

-- 5 to 7 and 22; 8 to 10

grammar_tells : (size : ℕ) (ts : List Token) → Tells in_text (TextGrammar size ts) (parsed size ts)
grammar_tells size ts =
    exact_tells in_text (TextGrammar size ts) (parsed size ts)
    (λ n j at e. let (us, stops, same, place) = (parsed_is_right size ts (refused n j at)).0 e in (same, (us, stops, place)))
    (λ n at (us, stops, place). (parsed_is_right size ts (refused n in_text at)).1 (us, stops, refl, place))

tree_follows : (text : List ℕ) → Follows (tree_stages text) (tree text)
unfolding tree
tree_follows text =
    let grammar = TextGrammar (length text) in
    follows_then (stage in_text (TextTokens text) ∷ []) (stage in_text (Given (tokens text) grammar) ∷ []) (tokens text)
    (parsed (length text))
    (follows_one in_text (TextTokens text) (tokens text) (tokens_tell text))
    (λ ts cut.
    follows_one in_text (Given (tokens text) grammar) (parsed (length text) ts)
    (given_tells (tokens text) ts cut grammar in_text (parsed (length text) ts) (grammar_tells (length text) ts)))

-- up to 14
restriction_follows : (text list : List ℕ) → Follows (check_stages text list) (restriction text list)
unfolding restriction
restriction_follows text list =
    follows_then (size_stages text) (list_stages list ++ (tree_stages text ++ type_stages text list)) (sized text) _ (size_follows text)
    (λ _ _.
    follows_then (list_stages list) (tree_stages text ++ type_stages text list) (keys list) _ (list_follows list)
    (λ ks listed.
    follows_then (tree_stages text) (type_stages text list) (tree text) (λ t. typed ks t >>= λ _. ok (record { keys = ks; root = t }))
    (tree_follows text)
    (λ t read.
    follows_as (type_stages text list) (typed ks t) (λ _. record { keys = ks; root = t }) (types_follow text list ks t listed read))))

-- 15

module _ (r : Restriction) (buffer : List ℕ) where
  abbrev count : ℕ
  count = length (code_of r.keys r.root)

  abbrev bytes_needed : ℕ
  bytes_needed = block_size * blocks_needed count

  buffer_free : leb bytes_needed (length buffer) ≡ true → Free (BufferSize r buffer)
  buffer_free h n at (buffer_short l) = let e = leb-true bytes_needed (length buffer) h in omega arith

  buffer_only : (m to : ℕ) → BufferSize r buffer m to → (m ≡ 15) × (to ≡ length buffer)
  buffer_only m to (buffer_short l) = (refl, refl)

  buffer_tells : Tells in_buffer (BufferSize r buffer) (require (leb bytes_needed (length buffer)) 15 in_buffer (length buffer))
  buffer_tells =
      test_tells (BufferSize r buffer) (leb bytes_needed (length buffer)) 15 in_buffer (length buffer) buffer_free
      (λ h. buffer_short (leb-false bytes_needed (length buffer) h)) buffer_only

-- the calls

read_follows : (text : List ℕ) → Follows (read_stages text) (read_answer text)
unfolding read_answer
read_follows text =
    follows_then (size_stages text) (tree_stages text) (sized text) (λ _. tree text >>= λ t. ok (nodes t)) (size_follows text)
    (λ _ _. follows_as (tree_stages text) (tree text) nodes (tree_follows text))

check_follows : (text list : List ℕ) → Follows (check_stages text list) (check_answer text list)
unfolding check_answer
check_follows text list = follows_as (check_stages text list) (restriction text list) (λ _. tt) (restriction_follows text list)

judge_follows : (text list entry : List ℕ) → Follows (judge_stages text list entry) (judge_answer text list entry)
unfolding judge_answer
judge_follows text list entry =
    follows_then (check_stages text list) (entry_stages list entry) (restriction text list) _ (restriction_follows text list)
    (λ r passed.
    follows_as (entry_stages list entry) (entry_of r.keys entry) (λ e. is_true (value_of r.keys e r.root))
    (entry_follows list r.keys entry (passing text list r passed).listed))

translate_follows : (text list buffer : List ℕ) → Follows (translate_stages text list buffer) (translate_answer text list buffer)
unfolding translate_answer
translate_follows text list buffer =
    let size : Restriction → Faults = λ r. BufferSize r buffer in
    follows_as (translate_stages text list buffer) (translatable text list buffer) (λ r. count r buffer)
    (follows_then (check_stages text list) (buffer_stages text list buffer) (restriction text list) (room_for buffer) (restriction_follows text list)
    (λ r passed.
    let room = require (leb (bytes_needed r buffer) (length buffer)) 15 in_buffer (length buffer) in
    follows_as (buffer_stages text list buffer) room (λ _. r)
    (follows_one in_buffer (Given (restriction text list) size) room
    (given_tells (restriction text list) r passed size in_buffer room (buffer_tells r buffer)))))

run_follows : (list blocks entry : List ℕ) → Follows (run_stages list blocks entry) (run_answer list blocks entry)
unfolding run_answer
run_follows list blocks entry =
    follows_then (list_stages list) (block_stages list blocks ++ entry_stages list entry) (keys list) _ (list_follows list)
    (λ ks listed.
    follows_then (block_stages list blocks) (entry_stages list entry) (loaded ks blocks) _ (blocks_follow list ks blocks listed)
    (λ _ _.
    follows_as (entry_stages list entry) (entry_of ks entry) (λ e. ran_to (run_along ks e (program blocks)))
    (entry_follows list ks entry listed)))

print_follows : (text buffer : List ℕ) → Follows (print_stages text buffer) (print_answer text buffer)
unfolding print_answer printable
print_follows text buffer =
    let size : Tree → Faults = λ t. LendingSize (print t) buffer in
    follows_as (print_stages text buffer) (printable text buffer) length
    (follows_then (size_stages text) (tree_stages text ++ printing_stages text buffer) (sized text) (λ _. tree text >>= λ t. lends (print t) buffer)
    (size_follows text)
    (λ _ _.
    follows_then (tree_stages text) (printing_stages text buffer) (tree text) (λ t. lends (print t) buffer) (tree_follows text)
    (λ t read.
    follows_one in_buffer (Given (tree text) size) (lends (print t) buffer)
    (given_tells (tree text) t read size in_buffer (lends (print t) buffer) (lending_tells (print t) buffer)))))

fix_follows : (text buffer : List ℕ) → Follows (fix_stages text buffer) (fix_answer text buffer)
unfolding fix_answer fixable
fix_follows text buffer =
    let cutting = stage in_text (TokenFaults old_scan text) ∷ [] in
    let lending = stage in_buffer (LendingSize (fixed text) buffer) ∷ [] in
    follows_as (fix_stages text buffer) (fixable text buffer) length
    (follows_then (size_stages text) (fixing_stages text buffer) (sized text) (λ _. old_tokens text >>= λ _. lends (fixed text) buffer)
    (size_follows text)
    (λ _ _.
    follows_then cutting lending (old_tokens text) (λ _. lends (fixed text) buffer)
    (follows_one in_text (TokenFaults old_scan text) (old_tokens text) (old_tokens_tell text))
    (λ _ _. follows_one in_buffer (LendingSize (fixed text) buffer) (lends (fixed text) buffer) (lending_tells (fixed text) buffer))))

summarize_follows : (text list : List ℕ) → Follows (check_stages text list) (summary_answer text list)
unfolding summary_answer
summarize_follows text list =
    let summary : Restriction → Summary = λ r. record { keys = set_of (names r.keys r.root); priority = marked r.root } in
    follows_as (check_stages text list) (restriction text list) summary (restriction_follows text list)

-- a text that is read has parts: nothing is refused between the text and the blocks
compare_follows : (text list blocks : List ℕ) → Follows (compare_stages text list blocks) (compare_answer text list blocks)
unfolding compare_answer
compare_follows text list blocks =
    let agrees : Restriction → List Part → Bool = λ r ps. fits (length ps - 1) (part_codes r.keys ps) (records_in blocks) in
    follows_then (check_stages text list) (block_stages list blocks) (restriction text list)
    (λ r. parts text >>= λ ps. loaded r.keys blocks >>= λ _. ok (agrees r ps)) (restriction_follows text list)
    (λ r passed.
    let known = passing text list r passed in
    let (ps, divided, _) = text_is_its_parts text r.root known.read in
    rw divided
    (follows_as (block_stages list blocks) (loaded r.keys blocks) (λ _. agrees r ps) (blocks_follow list r.keys blocks known.listed)))

-- nor between the text and the entries
count_follows : (text list entries : List ℕ) → Follows (count_stages text list entries) (count_answer text list entries)
unfolding count_answer counted
count_follows text list entries =
    let counts : Restriction → List Part → Counts = λ r ps. counts_of r.keys r.root ps entries in
    follows_as (count_stages text list entries) (counted text list entries) totals_of
    (follows_then (check_stages text list) (entries_stages list entries) (restriction text list)
    (λ r. parts text >>= λ ps. few_entries r.keys entries >>= λ _. ok (counts r ps)) (restriction_follows text list)
    (λ r passed.
    let known = passing text list r passed in
    let (ps, divided, _) = text_is_its_parts text r.root known.read in
    rw divided
    (follows_as (entries_stages list entries) (few_entries r.keys entries) (λ _. counts r ps)
    (entries_follow list r.keys entries known.listed))))

run_all_follows : (list blocks entries answers : List ℕ)
    → Follows (run_all_stages list blocks entries answers) (run_all_answer list blocks entries answers)
unfolding run_all_answer ran_all
run_all_follows list blocks entries answers =
    let last = table_stages list entries answers in
    follows_as (run_all_stages list blocks entries answers) (ran_all list blocks entries answers) all_ran
    (follows_then (list_stages list) (block_stages list blocks ++ last) (keys list) _ (list_follows list)
    (λ ks listed.
    follows_then (block_stages list blocks) last (loaded ks blocks) _ (blocks_follow list ks blocks listed)
    (λ _ _. table_follows list ks entries answers (verdicts_on ks blocks entries) listed)))

pub table_holds : TableHolds
table_holds =
    record {
      read = λ text. by_table (read_stages text) (read_answer text) (read_follows text);
      check = λ text list. by_table (check_stages text list) (check_answer text list) (check_follows text list);
      judge = λ text list entry. by_table (judge_stages text list entry) (judge_answer text list entry) (judge_follows text list entry);
      translate = λ text list buffer.
          by_table (translate_stages text list buffer) (translate_answer text list buffer) (translate_follows text list buffer);
      load = λ list blocks. by_table (load_stages list blocks) (load_answer list blocks) (load_follows list blocks);
      run = λ list blocks entry. by_table (run_stages list blocks entry) (run_answer list blocks entry) (run_follows list blocks entry);
      print = λ text buffer. by_table (print_stages text buffer) (print_answer text buffer) (print_follows text buffer);
      summarize = λ text list. by_table (check_stages text list) (summary_answer text list) (summarize_follows text list);
      fix = λ text buffer. by_table (fix_stages text buffer) (fix_answer text buffer) (fix_follows text buffer);
      draft = λ contract table list buffer.
          by_table (draft_stages contract table list buffer) (draft_answer contract table list buffer) (draft_follows contract table list buffer);
      compare = λ text list blocks.
          by_table (compare_stages text list blocks) (compare_answer text list blocks) (compare_follows text list blocks);
      count = λ text list entries.
          by_table (count_stages text list entries) (count_answer text list entries) (count_follows text list entries);
      run_all = λ list blocks entries answers.
          by_table (run_all_stages list blocks entries answers) (run_all_answer list blocks entries answers)
          (run_all_follows list blocks entries answers);
    }
