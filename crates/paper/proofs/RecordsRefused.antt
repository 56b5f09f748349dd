-- 20 is given for an entry alone, at its priority or at the record of a key of the list: by the table no other stage has that number.
use Prim.Native.Nat.{ℕ}
use native.Mathlib.Omega.{arith}
use mathlib.Core.Path.{◌≡◌, refl}
use mathlib.Core.Logic.{◌⊎◌, inl, inr}
use mathlib.Core.Option.{some}
use mathlib.Core.List.{List, [], ◌∷◌, ◌++◌}
use lib.ListN.{length, get_elem?}
use Rattle.paper.specs.Answers.{Input, in_entry, ok, refused}
use Rattle.paper.specs.Tokens.{Token, tokens}
use Rattle.paper.specs.Keys.{Key, layout_rule, keys}
use Rattle.paper.specs.Grammar.{Tree}
use Rattle.paper.specs.Sentences.{Number, text_ends, no_sentence, too_deep, bad_string}
use Rattle.paper.specs.Calls.{tree, judge_answer}
use Rattle.paper.specs.Faults.{TextSize, text_over, ListSize, list_uneven, list_over, ListRecords, record_broken, name_repeated, TextTokens, no_token_lem, numeral_large, one_more_token, one_more_octal, octal_numeral_lem, TextGrammar, TreeTypes, key_unknown, key_of_field_unknown, field_unknown, attribute_unknown, prefix_wrong, join_wrong, comparison_wrong, left_loses_bits, right_loses_bits, in_operand, join_left, join_right, comparison_left, comparison_right, RootType, not_bool, EntrySize, entry_wrong, EntryRules, priority_broken, match_broken}
use Rattle.paper.specs.Table.{Stage, Given, Decided, tree_stages, type_stages, check_stages, entry_stages}
use Rattle.paper.specs.ExplainedRight.{record_place}
use Rattle.paper.proofs.Table.{table_holds}

-- stages that do not have a number

abbrev Lacks : ℕ → List Stage → Type 0
Lacks n [] = Unit {0}
Lacks n (s ∷ ss) = ((m at : ℕ) → s.faults m at → ¬ (m ≡ n)) × Lacks n ss

-- what is decided with it is decided after them
decided_after : (n : ℕ) (i : Input) (at : ℕ) (ss ts : List Stage) → Lacks n ss → Decided (ss ++ ts) n i at → Decided ts n i at
decided_after n i at [] ts h d = d
decided_after n i at (s ∷ ss) ts h (inl (e, wins)) = absurd (h.0 n at wins.fault refl)
decided_after n i at (s ∷ ss) ts h (inr (free, d)) = decided_after n i at ss ts h.1 d

-- stage by stage

not_of_text : (text : List ℕ) (m at : ℕ) → TextSize text m at → ¬ (m ≡ 20)
not_of_text text m at (text_over l) e = omega arith

not_of_list : (list : List ℕ) (m at : ℕ) → ListSize list m at → ¬ (m ≡ 20)
not_of_list list m at (list_uneven d) e = omega arith
not_of_list list m at (list_over l) e = omega arith

not_of_records : (list : List ℕ) (m at : ℕ) → ListRecords layout_rule list m at → ¬ (m ≡ 20)
not_of_records list m at (record_broken k l h) e = omega arith
not_of_records list m at (name_repeated j k l r h) e = omega arith

not_of_tokens : (text : List ℕ) (m at : ℕ) → TextTokens text m at → ¬ (m ≡ 20)
not_of_tokens text m at (no_token_lem cut inside s) e = omega arith
not_of_tokens text m at (numeral_large cut inside s) e = omega arith
not_of_tokens text m at (one_more_token k n cut full inside s) e = omega arith
not_of_tokens text m at (one_more_octal v n cut full inside s) e = omega arith
not_of_tokens text m at (octal_numeral_lem v n cut inside s) e = omega arith

not_of_number : (ts taken us : List Token) (m : ℕ) → Number ts taken us m → ¬ (m ≡ 20)
not_of_number ts taken us m (text_ends h) e = omega arith
not_of_number ts taken us m (no_sentence h) e = omega arith
not_of_number ts taken us m (too_deep o s h) e = omega arith
not_of_number ts taken us m (bad_string q b h) e = omega arith

not_of_grammar : (text : List ℕ) (m at : ℕ) → Given (tokens text) (TextGrammar (length text)) m at → ¬ (m ≡ 20)
not_of_grammar text m at (ts, cut, (us, stops, place)) = not_of_number ts stops.taken us m stops.number

not_of_types : (ks : List Key) (t : Tree) (m at : ℕ) → TreeTypes ks t m at → ¬ (m ≡ 20)
not_of_types ks t m at (key_unknown to d) e = omega arith
not_of_types ks t m at (key_of_field_unknown to past d) e = omega arith
not_of_types ks t m at (field_unknown to past k d h) e = omega arith
not_of_types ks t m at (attribute_unknown to past d) e = omega arith
not_of_types ks t m at (prefix_wrong to o a d h) e = omega arith
not_of_types ks t m at (join_wrong to o a b c d h) e = omega arith
not_of_types ks t m at (comparison_wrong to c a b d f h) e = omega arith
not_of_types ks t m at (left_loses_bits to c a b d f h k) e = omega arith
not_of_types ks t m at (right_loses_bits to c a b d f h k) e = omega arith
not_of_types ks t m at (in_operand {t = s} to o h) e = not_of_types ks s m at h e
not_of_types ks t m at (join_left {l = l} to o h) e = not_of_types ks l m at h e
not_of_types ks t m at (join_right {r = r} to o h) e = not_of_types ks r m at h e
not_of_types ks t m at (comparison_left {l = l} to c h) e = not_of_types ks l m at h e
not_of_types ks t m at (comparison_right {r = r} to c h) e = not_of_types ks r m at h e

not_of_tree : (text list : List ℕ) (m at : ℕ) → Given (keys list) (λ ks. Given (tree text) (TreeTypes ks)) m at → ¬ (m ≡ 20)
not_of_tree text list m at (ks, listed, (t, read, h)) = not_of_types ks t m at h

not_of_root : (text list : List ℕ) (m at : ℕ) → Given (keys list) (λ ks. Given (tree text) (RootType ks)) m at → ¬ (m ≡ 20)
not_of_root text list m at (ks, listed, (t, read, not_bool a d h)) e = omega arith

not_of_size : (ks : List Key) (entry : List ℕ) (m at : ℕ) → EntrySize ks entry m at → ¬ (m ≡ 20)
not_of_size ks entry m at (entry_wrong d) e = omega arith

not_of_check : (text list : List ℕ) → Lacks 20 (check_stages text list)
not_of_check text list =
    let types : Lacks 20 (type_stages text list) = (not_of_tree text list, (not_of_root text list, tt)) in
    let reading : Lacks 20 (tree_stages text ++ type_stages text list) = (not_of_tokens text, (not_of_grammar text, types)) in
    (not_of_text text, (not_of_list list, (not_of_records list, reading)))

-- the record of a key of the list
pub record KeyRecord (list : List ℕ) (at : ℕ) : Type 0 where
  pub ks : List Key
  pub listed : keys list ≡ ok ks
  pub index : ℕ
  pub key : Key
  pub there : get_elem? ks index ≡ some key
  pub place : at ≡ record_place index

broken_record : (list entry : List ℕ) (ks : List Key) (at : ℕ) → keys list ≡ ok ks → EntryRules ks entry 20 at
    → (at ≡ 0) ⊎ KeyRecord list at
broken_record list entry ks at listed (priority_broken h) = inl refl
broken_record list entry ks at listed (match_broken k x e h) =
    inr (record { ks = ks; listed = listed; index = k; key = x; there = e; place = refl })

in_entry_lem : (list entry : List ℕ) (i : Input) (at : ℕ) → Decided (entry_stages list entry) 20 i at
    → (i ≡ in_entry) × ((at ≡ 0) ⊎ KeyRecord list at)
in_entry_lem list entry i at (inl (e, wins)) =
    let (ks, listed, fault) = wins.fault in
    absurd (not_of_size ks entry 20 at fault refl)
in_entry_lem list entry i at (inr (free, inl (e, wins))) =
    let (ks, listed, fault) = wins.fault in
    (e, broken_record list entry ks at listed fault)
in_entry_lem list entry i at (inr (free, inr (clear, d))) = absurd d

pub records_refused : (text list entry : List ℕ) (i : Input) (at : ℕ) → judge_answer text list entry ≡ refused 20 i at
    → (i ≡ in_entry) × ((at ≡ 0) ⊎ KeyRecord list at)
records_refused text list entry i at e =
    in_entry_lem list entry i at
    (decided_after 20 i at (check_stages text list) (entry_stages list entry) (not_of_check text list)
    (((table_holds.judge text list entry).refuses 20 i at).0 e))
