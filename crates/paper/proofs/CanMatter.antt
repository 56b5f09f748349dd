-- What is named can matter. An operand that names a key, compared with 0, is a text that passes and names that key alone; of an entry that conforms,
-- with two records for the key, it holds on the one and not on the other (ZeroOrNot), and nothing else of the entries differs.
use Prim.Native.Nat.{ℕ, suc, ◌+◌, ◌*◌, ◌≤◌}
use native.Mathlib.Omega.{arith}
use mathlib.Core.Path.{◌≡◌, refl, sym, ap, ap₂, subst, ◌∙◌}
use mathlib.Core.Logic.{⊎_elim}
use mathlib.Core.Bool.{Bool, true, false, ◌||◌, or-false, true≢false}
use mathlib.Core.Option.{some, map}
use mathlib.Core.List.{List, append_assoc}
use lib.ListN.{length, get_elem?, length-append}
use lib.Dec.{eqb, lit<, lit≤}
use borrow.Author.Tests.{eqb-true}
use Rattle.paper.specs.Answers.{ok}
use Rattle.paper.specs.Tokens.{bytes, most_text, most_tokens}
use Rattle.paper.specs.Keys.{Key, keys}
use Rattle.paper.specs.Entry.{Match, Entry, head_size, match_size, match_at, match_of, entry_of}
use Rattle.paper.specs.Grammar.{Tree, truth, number, key, field, attribute, prefixed, joined, compared, most_levels}
use Rattle.paper.specs.Types.{Ty, prefix_type, join_type, operator_type, compared_type, root_type, type_of, typed}
use Rattle.paper.specs.Meaning as M
use Rattle.paper.specs.Meaning.{one_value, value_of, is_true}
use Rattle.paper.specs.Print.{bare, print}
use Rattle.paper.specs.Sized.{levels, count, Clean}
use Rattle.paper.specs.BlocksRoundTrip.{All, Width}
use Rattle.paper.specs.Calls.{tree, Restriction, restriction}
use Rattle.paper.specs.Named.{names, marked}
use Rattle.paper.specs.Promised.{verdict, Bytes, Programs, Kept}
use Rattle.paper.specs.Dependence.{with_record, naming, against_zero, CanMatter, EachNamedCanMatter}
use Rattle.paper.proofs.Basics.{all_append, all_parts, all_some}
use Rattle.paper.proofs.Stages.{bind_ok}
use Rattle.paper.proofs.LoadedBlocksRun.{conforming}
use Rattle.paper.proofs.TypeSoundness.{bool_typed}
use Rattle.paper.proofs.TranslationCorrect.{passing}
use Rattle.paper.proofs.KeyLists.{keys_listed}
use Rattle.paper.proofs.Promised.{verdict_says, judgement_same}
use Rattle.paper.proofs.PrintReadsBack.{clean_print_reads}
use Rattle.paper.proofs.PrintBytes.{print_bytes}
use Rattle.paper.proofs.BasesIgnored.{restricted, judge_is}
use Rattle.paper.proofs.SameMeaning.{same_meaning}
use Rattle.paper.proofs.Depends.{match_there}
use Rattle.paper.proofs.Named.{either_true, operands}
use Rattle.paper.proofs.AnotherRecord.{with_bytes, record_there, others_stay, priority_stays, read_of, inside, still_conforms, written, Fits, written_reads, written_kept, written_bytes}
use Rattle.paper.proofs.SomeEntry.{some_entry, some_conforms, some_bytes}
use Rattle.paper.proofs.NamedOperands.{worth_of, Operand, key_operand, field_operand}
use Rattle.paper.proofs.ZeroOrNot.{comparison, is_zero, worth_against_zero, one_fits, zero_of, zero_fits, is_zero_lem, two_numbers, is_not_zero}

-- what a tree names, its places aside

module _ (ks : List Key) where
  bare_names : (t : Tree) (k : ℕ) → names ks (bare t) k ≡ names ks t k
  unfolding names
  bare_names (truth at b) k = refl
  bare_names (number at n) k = refl
  bare_names (key at w) k = refl
  bare_names (field at w to f) k = refl
  bare_names (attribute at to f) k = refl
  bare_names (prefixed at o t) k = bare_names t k
  bare_names (joined at o l r) k = ap₂ ◌||◌ (bare_names l k) (bare_names r k)
  bare_names (compared at c l r) k = ap₂ ◌||◌ (bare_names l k) (bare_names r k)

bare_marked : (t : Tree) → marked (bare t) ≡ marked t
unfolding marked
bare_marked (truth at b) = refl
bare_marked (number at n) = refl
bare_marked (key at w) = refl
bare_marked (field at w to f) = refl
bare_marked (attribute at to f) = refl
bare_marked (prefixed at o t) = bare_marked t
bare_marked (joined at o l r) = ap₂ ◌||◌ (bare_marked l) (bare_marked r)
bare_marked (compared at c l r) = ap₂ ◌||◌ (bare_marked l) (bare_marked r)

-- the text

module _ (ks : List Key) (o : Tree) (operand : Operand ks o) where
  printed : print (comparison o) ≡ against_zero o
  unfolding print
  printed = rw operand.atom (append_assoc (print o) (bytes " == ") (bytes "0"))

  clean : Clean (comparison o)
  clean = (operand.clean, lit< tt)

  read_again : (r : Tree) × (tree (print (comparison o)) ≡ ok r) × (bare r ≡ bare (comparison o))
  read_again =
      let deep : levels (comparison o) ≤ most_levels = rw (operand.atom, operand.flat) (lit≤ tt) in
      let many : count (comparison o) ≤ most_tokens = rw operand.atom (omega (arith, operand.few)) in
      clean_print_reads (comparison o) clean deep many

  abbrev root : Tree
  root = read_again.0

  reads : tree (against_zero o) ≡ ok root
  reads = ap tree (sym printed) ∙ read_again.1

  same : bare root ≡ bare (comparison o)
  same = read_again.2

  text_bytes : Bytes (against_zero o)
  text_bytes = subst Bytes printed (print_bytes (comparison o) clean)

  text_short : length (against_zero o) ≤ most_text
  text_short = simp length-append (omega (arith, operand.short))

  names_it : (j : ℕ) → names ks root j ≡ eqb operand.index j
  unfolding names
  names_it j =
      sym (bare_names ks root j) ∙ ap (λ t. names ks t j) same ∙ bare_names ks (comparison o) j ∙ rw (operand.named j) (or-false (eqb operand.index j))

  not_marked : marked root ≡ false
  unfolding marked
  not_marked = sym (bare_marked root) ∙ ap marked same ∙ bare_marked (comparison o) ∙ rw operand.unmarked

  -- an entry with a record for the key

  module _ (list : List ℕ) (listed : keys list ≡ ok ks) where
    abbrev x : Key
    x = operand.it

    abbrev k : ℕ
    k = operand.index

    widths : All (λ y. Width y.width) ks
    widths = (keys_listed list ks listed).widths

    wide : Width x.width
    wide = all_some (λ y. Width y.width) ks k x widths operand.there

    starts : entry_of ks (some_entry ks) ≡ ok (read_of ks (some_entry ks))
    starts = some_conforms ks widths

    there : head_size + suc k * match_size ≤ length (some_entry ks)
    there = inside ks (some_entry ks) (read_of ks (some_entry ks)) starts k x operand.there

    abbrev entry_with : Match → List ℕ
    entry_with m = with_record (some_entry ks) k (written m)

    abbrev read_with : Match → Entry
    read_with m = read_of ks (entry_with m)

    module _ (m : Match) (fits : Fits x m) where
      conforms : entry_of ks (entry_with m) ≡ ok (read_with m)
      conforms =
          still_conforms ks (some_entry ks) (read_of ks (some_entry ks)) starts k x operand.there (written m) refl (written_kept x wide.1 m fits)

      reads_so : get_elem? (read_with m).matches k ≡ some m
      reads_so =
          match_there ks (entry_with m) (read_with m) conforms k
          ∙ ap (map (λ (y : Key). match_of y (match_at (entry_with m) k))) operand.there
          ∙ ap (λ s. some (match_of x s)) (record_there (some_entry ks) (written m) k there refl)
          ∙ ap (λ n. some n) (written_reads x wide.1 m fits)

      worth : value_of ks (read_with m) root ≡ some (M.truth (is_zero (worth_of x operand.by m)))
      worth =
          (same_meaning (comparison o) root same).values ks (read_with m)
          ∙ worth_against_zero ks (read_with m) o x operand.by m (operand.worth (read_with m) m reads_so)

      passed : restriction (against_zero o) list ≡ ok (record { keys = ks; root = root })
      passed =
          restricted (against_zero o) list root text_short reads
          ∙ rw (listed, bool_typed ks (read_with m) (conforming ks (entry_with m) (read_with m) conforms) root _ worth)

      entry_bytes : Bytes (entry_with m)
      entry_bytes = with_bytes (some_entry ks) (written m) k (some_bytes ks widths) (written_bytes x wide.1 m fits)

      judged : (p : Programs) → Kept p → Bytes list → (b : Bool) → is_zero (worth_of x operand.by m) ≡ b
          → p.judge (against_zero o) list (entry_with m) ≡ verdict b
      judged p kept l b is =
          judgement_same (p.judge (against_zero o) list (entry_with m)) (verdict b)
          (kept.judge (against_zero o) list (entry_with m) text_bytes l entry_bytes
          ∙ judge_is (against_zero o) list (entry_with m)
          ∙ rw (passed, conforms) (ap (λ v. ok (is_true v)) (worth ∙ ap (λ c. some (M.truth c)) is))
          ∙ sym (verdict_says b))

    -- the record of which the comparison holds, and the one of which it does not

    abbrev yes : Match
    yes = zero_of x operand.by

    abbrev no : Match
    no = one_value x.kind x.width 1

    yes_fits : Fits x yes
    yes_fits = zero_fits x operand.by wide.1

    no_fits : Fits x no
    no_fits = one_fits x 1 wide.1 (two_numbers x.width wide.0)

    can_matter : (p : Programs) → Kept p → Bytes list → CanMatter p list o k
    can_matter p kept l =
        record {
          entry = entry_with yes;
          other = entry_with no;
          lent = (text_bytes, entry_bytes yes yes_fits, entry_bytes no no_fits);
          both = record {
            rule = record { keys = ks; root = root };
            passes = passed yes yes_fits;
            was = read_with yes;
            old_conforms = conforms yes yes_fits;
            is = read_with no;
            new_conforms = conforms no no_fits;
          };
          named = names_it;
          unmarked = not_marked;
          elsewhere = λ j differ.
              others_stay (some_entry ks) (written yes) k there refl j differ ∙ sym (others_stay (some_entry ks) (written no) k there refl j differ);
          priority = priority_stays (some_entry ks) (written yes) k there refl ∙ sym (priority_stays (some_entry ks) (written no) k there refl);
          accepted = judged yes yes_fits p kept l true (is_zero_lem x operand.by operand.offered);
          violated = judged no no_fits p kept l false (is_not_zero x wide.0 operand.by operand.offered);
        }

-- every operand of a tree that has a type

module _ (p : Programs) (kept : Kept p) (list : List ℕ) (l : Bytes list) (ks : List Key) (listed : keys list ≡ ok ks) where
  abbrev NamedMatters : Tree → Type 0
  NamedMatters o = (k : ℕ) → names ks o k ≡ true → CanMatter p list o k

  matters : (o : Tree) → Operand ks o → NamedMatters o
  matters o operand k h =
      let is : operand.index ≡ k = eqb-true operand.index k (sym (operand.named k) ∙ h) in
      subst (CanMatter p list o) is (can_matter ks o operand list listed p kept l)

  each_matters : (t : Tree) (a : Ty) → type_of ks t ≡ ok a → All NamedMatters (naming t)
  unfolding type_of
  each_matters (truth at b) a h = tt
  each_matters (number at n) a h = tt
  each_matters (key at w) a h = (matters (key at w) (key_operand list ks listed at w a h), tt)
  each_matters (field at w to f) a h = (matters (field at w to f) (field_operand list ks listed at w to f a h), tt)
  each_matters (attribute at to f) a h = tt
  each_matters (prefixed at o t) a h =
      let (b, typed, _) = bind_ok (type_of ks t) (λ b. operator_type at (prefix_type o b)) a h in
      each_matters t b typed
  each_matters (joined at o u v) a h =
      let ((b, left), (c, right)) = operands ks u v (λ b c. operator_type at (join_type b c)) a h in
      all_append NamedMatters (naming u) (naming v) (each_matters u b left) (each_matters v c right)
  each_matters (compared at o u v) a h =
      let ((b, left), (c, right)) = operands ks u v (compared_type at o u v) a h in
      all_append NamedMatters (naming u) (naming v) (each_matters u b left) (each_matters v c right)

  -- a key that a tree names is named by one of them
  some_matters : (t : Tree) (k : ℕ) → names ks t k ≡ true → All NamedMatters (naming t) → (o : Tree) × CanMatter p list o k
  unfolding names
  some_matters (truth at b) k h each = absurd (true≢false (sym h))
  some_matters (number at n) k h each = absurd (true≢false (sym h))
  some_matters (key at w) k h each = (key at w, each.0 k h)
  some_matters (field at w to f) k h each = (field at w to f, each.0 k h)
  some_matters (attribute at to f) k h each = absurd (true≢false (sym h))
  some_matters (prefixed at o t) k h each = some_matters t k h each
  some_matters (joined at o u v) k h each =
      let (left, right) = all_parts NamedMatters (naming u) (naming v) each in
      ⊎_elim (λ g. some_matters u k g left) (λ g. some_matters v k g right) (either_true (names ks u k) (names ks v k) h)
  some_matters (compared at o u v) k h each =
      let (left, right) = all_parts NamedMatters (naming u) (naming v) each in
      ⊎_elim (λ g. some_matters u k g left) (λ g. some_matters v k g right) (either_true (names ks u k) (names ks v k) h)

pub each_named_can_matter : EachNamedCanMatter
unfolding typed
each_named_can_matter p kept text list r l passes =
    let known = passing text list r passes in
    let (a, has, _) = bind_ok (type_of r.keys r.root) (root_type r.root) tt known.checked in
    each_matters p kept list l r.keys known.listed r.root a has

pub named_can_matter : (p : Programs) → Kept p → (text list : List ℕ) (r : Restriction) → Bytes list → restriction text list ≡ ok r
    → (k : ℕ) → names r.keys r.root k ≡ true → (o : Tree) × CanMatter p list o k
named_can_matter p kept text list r l passes k h =
    some_matters p kept list l r.keys (passing text list r passes).listed r.root k h (each_named_can_matter p kept text list r l passes)
