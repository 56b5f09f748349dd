-- Types, values and code look at a number's value alone. So a tree whose numerals are decimal, and whose places went through p, has the
-- same value and code, and the same type or a refusal whose place went through p (`types_moved`). Two texts with one such tree pass the
-- stages of a call together, or are refused with one number (`after`).
use Prim.Native.Nat.{ℕ, ◌*◌, ◌≤◌}
use mathlib.Core.Path.{◌≡◌, refl, sym, ap, ap₂, fun_ext, ◌∙◌}
use mathlib.Core.Bool.{Bool, true, false, ◌&&◌}
use mathlib.Core.Option.{Option, none, some, map}
use mathlib.Core.List.{List}
use lib.ListN.{length}
use lib.Dec.{leb}
use lib.IntN.{neg_ℤ}
use borrow.Author.Tests.{le-leb}
use Rattle.paper.specs.Answers.{in_text, in_list, in_entry, in_blocks, in_buffer, in_contract, in_table, Answer, ok, refused, ◌>>=◌, require}
use Rattle.paper.specs.Tokens.{plain, bytes, same_bytes, not_sign, minus_sign, Comparison, most_text}
use Rattle.paper.specs.Keys.{Key, keys, find}
use Rattle.paper.specs.Entry.{Entry, entry_of}
use Rattle.paper.specs.Grammar.{Tree, truth, number, key, field, attribute, prefixed, joined, compared, place_of}
use Rattle.paper.specs.Types.{Ty, bool, int, of, when, and_then, bare_type, field_named, field_type, prefix_type, join_type, comparison_type, spelled, holds_all, keeps_bits, bits_kept, operator_type, compared_type, known, named_type, root_type, type_of, typed}
use Rattle.paper.specs.Meaning.{ty_of, comparison_value, value_of, is_true}
use Rattle.paper.specs.Blocks.{block_size, blocks_needed, blocks_of}
use Rattle.paper.specs.Translating.{has_type, code_of}
use Rattle.paper.specs.Print.{bare}
use Rattle.paper.specs.Calls.{tree, Restriction, restriction, check_answer, judge_answer, room_for, translatable, translate_answer, filled, laid, translate_buffer}
use Rattle.paper.specs.BasesIgnored.{without_bases, placed, AnsweredAlike, BasesIgnored}
use Rattle.paper.proofs.Stages.{never_ok, test_again}

has_placed : (p : ℕ → ℕ) (x : Answer Ty) → has_type (placed p x) ≡ has_type x
has_placed p (ok a) = refl
has_placed p (refused n i at) = refl

laid_placed : (p : ℕ → ℕ) (x : Answer (List ℕ)) (buffer : List ℕ) → laid (placed p x) buffer ≡ laid x buffer
laid_placed p (ok s) buffer = refl
laid_placed p (refused n i at) buffer = refl

-- numerals in decimal, and every place through p
module _ (p : ℕ → ℕ) where
  abbrev pub moved : Tree → Tree
  moved (truth at b) = truth (p at) b
  moved (number at n) = number (p at) (plain n.value)
  moved (key at w) = key (p at) w
  moved (field at w to f) = field (p at) w (p to) f
  moved (attribute at to f) = attribute (p at) (p to) f
  moved (prefixed at o t) = prefixed (p at) o (moved t)
  moved (joined at o l r) = joined (p at) o (moved l) (moved r)
  moved (compared at c l r) = compared (p at) c (moved l) (moved r)

  -- types

  bind_placed : {A B : Type 0} (x : Answer A) (f g : A → Answer B) → ((a : A) → g a ≡ placed p (f a)) → (placed p x >>= g) ≡ placed p (x >>= f)
  bind_placed (ok a) f g h = h a
  bind_placed (refused n i at) f g h = refl

  known_moved : {A : Type 0} (at : ℕ) (o : Option A) → known (p at) o ≡ placed p (known at o)
  known_moved at none = refl
  known_moved at (some a) = refl

  named_moved : (at : ℕ) (o : Option Ty) → named_type (p at) o ≡ placed p (named_type at o)
  named_moved at none = refl
  named_moved at (some a) = refl

  operator_moved : (at : ℕ) (o : Option Ty) → operator_type (p at) o ≡ placed p (operator_type at o)
  operator_moved at none = refl
  operator_moved at (some a) = refl

  place_moved : (t : Tree) → place_of (moved t) ≡ p (place_of t)
  place_moved (truth at b) = refl
  place_moved (number at n) = refl
  place_moved (key at w) = refl
  place_moved (field at w to f) = refl
  place_moved (attribute at to f) = refl
  place_moved (prefixed at o t) = refl
  place_moved (joined at o l r) = refl
  place_moved (compared at c l r) = refl

  spelled_moved : (t : Tree) → spelled (moved t) ≡ spelled t
  spelled_moved (truth at b) = refl
  spelled_moved (number at n) = refl
  spelled_moved (key at w) = refl
  spelled_moved (field at w to f) = refl
  spelled_moved (attribute at to f) = refl
  spelled_moved (prefixed at not_sign t) = refl
  spelled_moved (prefixed at minus_sign t) = ap (map neg_ℤ) (spelled_moved t)
  spelled_moved (joined at o l r) = refl
  spelled_moved (compared at c l r) = refl

  keeps_moved : (t : Tree) (a : Ty) → keeps_bits (moved t) a ≡ keeps_bits t a
  keeps_moved t bool = refl
  keeps_moved t int = refl
  keeps_moved t (of k w) = ap (holds_all w) (spelled_moved t)

  require_moved : (b : Bool) (n at : ℕ) → require b n in_text (p at) ≡ placed p (require b n in_text at)
  require_moved true n at = refl
  require_moved false n at = refl

  bits_moved : (t : Tree) (a : Ty) → bits_kept (moved t) a ≡ placed p (bits_kept t a)
  bits_moved t a = rw (keeps_moved t a, place_moved t) (require_moved (keeps_bits t a) 23 (place_of t))

  compared_moved : (at : ℕ) (c : Comparison) (l r : Tree) (a b : Ty)
      → compared_type (p at) c (moved l) (moved r) a b ≡ placed p (compared_type at c l r a b)
  compared_moved at c l r a b =
      rw (operator_moved at (comparison_type c a b), bits_moved l b, bits_moved r a)
      (bind_placed (operator_type at (comparison_type c a b)) _ _
      (λ t. bind_placed (bits_kept l b) _ _ (λ _. bind_placed (bits_kept r a) _ _ (λ _. refl))))

  types_moved : (ks : List Key) (t : Tree) → type_of ks (moved t) ≡ placed p (type_of ks t)
  unfolding type_of
  types_moved ks (truth at b) = refl
  types_moved ks (number at n) = refl
  types_moved ks (key at w) = known_moved at (and_then (find ks w) (bare_type ks))
  types_moved ks (field at w to f) =
      rw (known_moved at (find ks w)) (bind_placed (known at (find ks w)) _ _ (λ k. named_moved to (and_then (field_named f) (λ g. field_type ks g k))))
  types_moved ks (attribute at to f) = named_moved to (when (same_bytes f (bytes "priority")) int)
  types_moved ks (prefixed at o t) = rw (types_moved ks t) (bind_placed (type_of ks t) _ _ (λ a. operator_moved at (prefix_type o a)))
  types_moved ks (joined at o l r) =
      rw (types_moved ks l)
      (bind_placed (type_of ks l) _ _
      (λ a. rw (types_moved ks r) (bind_placed (type_of ks r) _ _ (λ b. operator_moved at (join_type a b)))))
  types_moved ks (compared at c l r) =
      rw (types_moved ks l)
      (bind_placed (type_of ks l) _ _
      (λ a. rw (types_moved ks r) (bind_placed (type_of ks r) _ _ (λ b. compared_moved at c l r a b))))

  root_moved : (t : Tree) (a : Ty) → root_type (moved t) a ≡ placed p (root_type t a)
  root_moved t bool = refl
  root_moved t int = ap (refused 14 in_text) (place_moved t)
  root_moved t (of k w) = ap (refused 14 in_text) (place_moved t)

  typed_moved : (ks : List Key) (t : Tree) → typed ks (moved t) ≡ placed p (typed ks t)
  unfolding typed
  typed_moved ks t = rw (types_moved ks t) (bind_placed (type_of ks t) (root_type t) (root_type (moved t)) (root_moved t))

  type_had : (ks : List Key) (t : Tree) → has_type (type_of ks (moved t)) ≡ has_type (type_of ks t)
  type_had ks t = ap has_type (types_moved ks t) ∙ has_placed p (type_of ks t)

  -- values and code

  values_moved : (ks : List Key) (e : Entry) (t : Tree) → value_of ks e (moved t) ≡ value_of ks e t
  unfolding value_of
  values_moved ks e (truth at b) = refl
  values_moved ks e (number at n) = refl
  values_moved ks e (key at w) = refl
  values_moved ks e (field at w to f) = refl
  values_moved ks e (attribute at to f) = refl
  values_moved ks e (prefixed at o t) = rw (values_moved ks e t)
  values_moved ks e (joined at o l r) = rw (values_moved ks e l, values_moved ks e r)
  values_moved ks e (compared at c l r) =
      rw (values_moved ks e l, values_moved ks e r)
      (ap₂
      (λ (left right : Ty → Bool).
      and_then (value_of ks e l)
      (λ a. and_then (value_of ks e r) (λ b. and_then (comparison_value c a b) (when (left (ty_of b) && right (ty_of a))))))
      (fun_ext (keeps_moved l)) (fun_ext (keeps_moved r)))

  code_moved : (ks : List Key) (t : Tree) → code_of ks (moved t) ≡ code_of ks t
  unfolding code_of
  code_moved ks (truth at b) = refl
  code_moved ks (number at n) = refl
  code_moved ks (key at w) = refl
  code_moved ks (field at w to f) = refl
  code_moved ks (attribute at to f) = refl
  code_moved ks (prefixed at o t) = rw (code_moved ks t)
  code_moved ks (joined at o l r) = rw (code_moved ks l, code_moved ks r)
  code_moved ks (compared at c l r) = rw (code_moved ks l, code_moved ks r, type_had ks l, type_had ks r)

-- two trees that are one, moved by p
module _ (p : ℕ → ℕ) (first second : Tree) (same : moved p first ≡ moved p second) where
  pub types_alike : (ks : List Key) → placed p (type_of ks first) ≡ placed p (type_of ks second)
  types_alike ks = sym (types_moved p ks first) ∙ ap (type_of ks) same ∙ types_moved p ks second

  pub values_alike : (ks : List Key) (e : Entry) → value_of ks e first ≡ value_of ks e second
  values_alike ks e = sym (values_moved p ks e first) ∙ ap (value_of ks e) same ∙ values_moved p ks e second

  pub code_alike : (ks : List Key) → code_of ks first ≡ code_of ks second
  code_alike ks = sym (code_moved p ks first) ∙ ap (code_of ks) same ∙ code_moved p ks second

-- the two ways in which trees are the same

stays : (t : Tree) → without_bases t ≡ moved (λ at. at) t
stays (truth at b) = refl
stays (number at n) = refl
stays (key at w) = refl
stays (field at w to f) = refl
stays (attribute at to f) = refl
stays (prefixed at o t) = ap (prefixed at o) (stays t)
stays (joined at o l r) = ap₂ (joined at o) (stays l) (stays r)
stays (compared at c l r) = ap₂ (compared at c) (stays l) (stays r)

aside : (t : Tree) → bare (without_bases t) ≡ moved (λ at. 0) t
aside (truth at b) = refl
aside (number at n) = refl
aside (key at w) = refl
aside (field at w to f) = refl
aside (attribute at to f) = refl
aside (prefixed at o t) = ap (prefixed 0 o) (aside t)
aside (joined at o l r) = ap₂ (joined 0 o) (aside l) (aside r)
aside (compared at c l r) = ap₂ (compared 0 c) (aside l) (aside r)

-- placed (λ at. at) leaves an answer as it is
placed_here : {A : Type 0} (x : Answer A) → placed (λ at. at) x ≡ x
placed_here (ok a) = refl
placed_here (refused n in_text at) = refl
placed_here (refused n in_list at) = refl
placed_here (refused n in_entry at) = refl
placed_here (refused n in_blocks at) = refl
placed_here (refused n in_buffer at) = refl
placed_here (refused n in_contract at) = refl
placed_here (refused n in_table at) = refl

-- what is made of a text and a list that pass, where the buffer has room for their blocks

abbrev roomed : List ℕ → Restriction → Answer (Unit {0})
roomed buffer r = require (leb (block_size * blocks_needed (length (code_of r.keys r.root))) (length buffer)) 15 in_buffer (length buffer)

abbrev made : {B : Type 0} → (Restriction → B) → List ℕ → Restriction → Answer B
made f buffer r = roomed buffer r >>= λ _. ok (f r)

abbrev count : Restriction → ℕ
count r = length (code_of r.keys r.root)

abbrev blocks : Restriction → List ℕ
blocks r = blocks_of (length r.keys) (code_of r.keys r.root)

-- what each call is; nothing unfolds after this, since the checker would go on with the parser

module _ (text list : List ℕ) where
  pub restricted : (t : Tree) → length text ≤ most_text → tree text ≡ ok t
      → restriction text list ≡ (keys list >>= λ ks. typed ks t >>= λ _. ok (record { keys = ks; root = t }))
  unfolding restriction
  restricted t short read = rw (le-leb (length text) most_text short, read)

  pub check_is : check_answer text list ≡ (restriction text list >>= λ _. ok tt)
  unfolding check_answer
  check_is = refl

  pub judge_is : (entry : List ℕ) → judge_answer text list entry
      ≡ (restriction text list >>= λ r. entry_of r.keys entry >>= λ e. ok (is_true (value_of r.keys e r.root)))
  unfolding judge_answer
  judge_is entry = refl

  translate_is : (buffer : List ℕ) → translate_answer text list buffer
      ≡ (restriction text list >>= made count buffer)
  unfolding translate_answer
  translate_is buffer = test_again (restriction text list) (roomed buffer) count

  fills : (x : Answer Restriction) (buffer : List ℕ)
      → filled x buffer ≡ laid (x >>= λ r. ok (blocks r)) buffer
  fills (ok r) buffer = refl
  fills (refused n i at) buffer = refl

  buffer_is : (buffer : List ℕ) → translate_buffer text list buffer
      ≡ laid (restriction text list >>= made blocks buffer) buffer
  unfolding translate_buffer translatable
  buffer_is buffer =
      fills (restriction text list >>= room_for buffer) buffer
      ∙ ap (λ (x : Answer (List ℕ)). laid x buffer)
      (test_again (restriction text list) (roomed buffer) blocks)

-- two texts whose trees are one, moved by p
module _ (p : ℕ → ℕ) (v w : List ℕ) (first second : Tree) (short-v : length v ≤ most_text) (short-w : length w ≤ most_text)
    (reads-v : tree v ≡ ok first) (reads-w : tree w ≡ ok second) (same : moved p first ≡ moved p second)
  where
    typed_alike : (ks : List Key) → placed p (typed ks first) ≡ placed p (typed ks second)
    typed_alike ks = sym (typed_moved p ks first) ∙ ap (typed ks) same ∙ typed_moved p ks second

    abbrev with : List Key → Tree → Restriction
    with ks t = record { keys = ks; root = t }

    -- a refusal as the answer of a later stage
    abbrev carried : {A B : Type 0} → Answer A → Answer B
    carried (ok a) = refused 0 in_text 0
    carried (refused n i at) = refused n i at

    -- whatever a call goes on with
    after : {B : Type 0} (list : List ℕ) (f : Restriction → Answer B) → ((ks : List Key) → placed p (f (with ks first)) ≡ placed p (f (with ks second)))
        → placed p (restriction v list >>= f) ≡ placed p (restriction w list >>= f)
    after {B} list f h = rw (restricted v list first short-v reads-v, restricted w list second short-w reads-w) (listed (keys list))
      where
        typed_then : (ks : List Key) (x y : Answer (Unit {0})) → placed p x ≡ placed p y
            → placed p (x >>= (λ _. ok (with ks first)) >>= f) ≡ placed p (y >>= (λ _. ok (with ks second)) >>= f)
        typed_then ks (ok a) (ok b) e = h ks
        typed_then ks (ok a) (refused n i at) e = absurd (never_ok (sym e))
        typed_then ks (refused n i at) (ok b) e = absurd (never_ok e)
        typed_then ks (refused n i at) (refused m j to) e = ap (carried {A = Unit {0}} {B = B}) e

        listed : (x : Answer (List Key))
            → placed p (x >>= (λ ks. typed ks first >>= λ _. ok (with ks first)) >>= f)
            ≡ placed p (x >>= (λ ks. typed ks second >>= λ _. ok (with ks second)) >>= f)
        listed (refused n i at) = refl
        listed (ok ks) = typed_then ks (typed ks first) (typed ks second) (typed_alike ks)

    judged_alike : (entry : List ℕ) (ks : List Key)
        → placed p (entry_of ks entry >>= λ e. ok (is_true (value_of ks e first))) ≡ placed p (entry_of ks entry >>= λ e. ok (is_true (value_of ks e second)))
    judged_alike entry ks = go (entry_of ks entry)
      where
        go : (x : Answer Entry) → placed p (x >>= λ e. ok (is_true (value_of ks e first))) ≡ placed p (x >>= λ e. ok (is_true (value_of ks e second)))
        go (refused n i at) = refl
        go (ok e) = ap (λ o. ok (is_true o)) (values_alike p first second same ks e)

    alike : AnsweredAlike p v w
    alike =
        record {
          checked = λ list. rw (check_is v list, check_is w list) (after list (λ _. ok tt) (λ ks. refl));
          judged = λ list entry. rw (judge_is v list entry, judge_is w list entry) (after list _ (judged_alike entry));
          translated = λ list buffer. rw (translate_is v list buffer, translate_is w list buffer) (after list (made count buffer) (λ ks. rw (code_alike p first second same ks)));
          blocks = λ list buffer.
              buffer_is v list buffer
              ∙ sym (laid_placed p (restriction v list >>= made blocks buffer) buffer)
              ∙ ap (λ (x : Answer (List ℕ)). laid x buffer) (after list (made blocks buffer) (λ ks. rw (code_alike p first second same ks)))
              ∙ laid_placed p (restriction w list >>= made blocks buffer) buffer
              ∙ sym (buffer_is w list buffer);
        }

pub bases_ignored : BasesIgnored
bases_ignored =
    record {
      types = λ ks t. ap (type_of ks) (stays t) ∙ types_moved (λ at. at) ks t ∙ placed_here (type_of ks t);
      values = λ ks e t. ap (value_of ks e) (stays t) ∙ values_moved (λ at. at) ks e t;
      code = λ ks t. ap (code_of ks) (stays t) ∙ code_moved (λ at. at) ks t;
      in_place = λ v w s.
          alike (λ at. at) v w s.first s.second s.short.0 s.short.1 s.reads.0 s.reads.1
          (sym (stays s.first) ∙ s.same ∙ stays s.second);
      places_aside = λ v w s.
          alike (λ at. 0) v w s.first s.second s.short.0 s.short.1 s.reads.0 s.reads.1
          (sym (aside s.first) ∙ s.same ∙ aside s.second);
    }
