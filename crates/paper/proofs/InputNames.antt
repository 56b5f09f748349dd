-- Names that pass are exact keys of width 64, each found where it stands, since no name repeats an earlier one. An entry that conforms has for
-- each a record that is present, with a number and nothing else: so the name is worth that number.
use Prim.Native.Nat.{ℕ, zero, suc, ◌+◌, ◌*◌, ◌^◌, ◌<◌, suc-le-suc}
use native.Mathlib.Nat.{add-zero}
use native.Mathlib.Omega.{arith}
use mathlib.Core.Path.{◌≡◌, refl, sym, ap, subst, ◌∙◌}
use mathlib.Core.Logic.{◌≢◌}
use mathlib.Core.Bool.{Bool, true, false, ◌&&◌, and-eq-true_iff, true≢false}
use mathlib.Core.Option
use mathlib.Core.Option.{some, none-ne-some}
use mathlib.Core.List.{List, [], ◌∷◌, map}
use lib.ListN.{length, get_or, get_elem?}
use lib.Dec.{eqb, ltb}
use borrow.Author.Tests.{eqb-true}
use Rattle.paper.specs.Answers.{ok}
use Rattle.paper.specs.Numbers.{byte_at, bytes_at, number_at}
use Rattle.paper.specs.Tokens.{is_key}
use Rattle.paper.specs.Keys.{exact, Key, all_zero, record_size, records_in, record_at, name_of, find_from, find, keys}
use Rattle.paper.specs.Entry.{Match, Entry, match_at, match_ok, match_of, spelled_out, present_rule, kind_rule, entry_of}
use Rattle.paper.specs.Grammar.{key}
use Rattle.paper.specs.Sentences.{Name}
use Rattle.paper.specs.Meaning.{matched, value_of}
use Rattle.paper.specs.Faults.{name_repeated}
use Rattle.paper.specs.Table.{Clear, list_stages_by}
use Rattle.paper.specs.Drafting.{name_rule, names_of}
use Rattle.paper.specs.Demands.{inputs_of}
use Rattle.paper.proofs.Basics.{and_right}
use Rattle.paper.proofs.Words.{bytes_same, bytes_not}
use Rattle.paper.proofs.StagesInOrder.{Follows}
use Rattle.paper.proofs.ListFaults.{list_follows_by}
use Rattle.paper.proofs.NamesInList.{key_there, key_named}
use Rattle.paper.proofs.Required.{match_kept}
use Rattle.paper.proofs.Depends.{match_there}
use Rattle.paper.proofs.KeyLists.{NameRecord, list_passed, names_recorded, names_are_keys}
use Rattle.paper.proofs.ContractMeant.{Number}

-- of elements that are there

there_below : {A : Type 0} (xs : List A) (i : ℕ) → i < length xs → (x : A) × (get_elem? xs i ≡ some x)
there_below [] i l = absurd (omega arith)
there_below (x ∷ xs) zero l = (x, refl)
there_below (x ∷ xs) (suc i) l = there_below xs i (omega arith)

pub mapped_there : {A B : Type 0} (f : A → B) (d : B) (xs : List A) (i : ℕ) (x : A) → get_elem? xs i ≡ some x → get_or (map f xs) i d ≡ f x
mapped_there f d [] i x h = absurd (none-ne-some x h)
mapped_there f d (y ∷ xs) zero x h = let same : y ≡ x = cc h in ap f same
mapped_there f d (y ∷ xs) (suc i) x h = mapped_there f d xs i x h

-- a key with a name that none before it has is found
first_found : (ks : List Key) (m i : ℕ) (x : Key) → get_elem? ks i ≡ some x
    → ((j : ℕ) (y : Key) → j < i → get_elem? ks j ≡ some y → y.name ≢ x.name) → find_from m ks x.name ≡ some (m + i)
first_found [] m i x there new = absurd (none-ne-some x there)
first_found (y ∷ ks) m zero x there new = let same : y ≡ x = cc there in rw (same, bytes_same x.name, add-zero m)
first_found (y ∷ ks) m (suc i) x there new =
    let next : suc m + i ≡ m + suc i = omega arith in
    rw (bytes_not y.name x.name (new 0 y (omega arith) refl))
    (first_found ks (suc m) i x there (λ j z l. new (suc j) z (suc-le-suc l)) ∙ ap (λ n. some n) next)

module _ (list : List ℕ) (ks : List Key) (named : names_of list ≡ ok ks) where
  listed : keys list ≡ ok ks
  listed = (names_are_keys list ks named).0

  no_fault : Clear (list_stages_by name_rule list)
  unfolding names_of
  no_fault = subst (λ a. Follows (list_stages_by name_rule list) a) named (list_follows_by name_rule list)

  keeps : (k : ℕ) → k < records_in list → NameRecord k (record_at list k)
  unfolding names_of
  keeps = names_recorded list ks (list_passed name_rule list ks named)

  -- the key of a name
  pub record InputName (i : ℕ) : Type 0 where
    pub it : Key
    pub there : get_elem? ks i ≡ some it
    pub kind : it.kind ≡ exact
    pub width : it.width ≡ 64
    pub found : find ks it.name ≡ some i
    pub word : is_key it.name ≡ true
    pub name : Name it.name

  pub input_name : (i : ℕ) → i < length ks → InputName i
  input_name i l =
      let (x, there) = there_below ks i l in
      let (inside, same) = key_there list ks listed i x there in
      let kept = keeps i inside in
      let n = key_named list ks listed i x there in
      let new : (j : ℕ) (y : Key) → j < i → get_elem? ks j ≡ some y → y.name ≢ x.name = λ j y less at e.
      let (_, same-y) = key_there list ks listed j y at in
      let again : name_of (record_at list j) ≡ name_of (record_at list i) =
      sym (ap (λ (z : Key). z.name) same-y) ∙ e ∙ ap (λ (z : Key). z.name) same
      in
      no_fault.1.0 4 (i * record_size) (name_repeated j i less inside again)
      in
      let zeroth : 0 + i ≡ i = omega arith in
      record {
        it = x;
        there = there;
        kind = rw (same, kept.exact);
        width = rw (same, kept.wide);
        found = first_found ks 0 i x there new ∙ ap (λ n. some n) zeroth;
        word = n.word;
        name = n.name;
      }

  -- its name among the names
  pub name_of_lem : (i : ℕ) (n : InputName i) → get_or (map (λ (k : Key). k.name) ks) i [] ≡ n.it.name
  name_of_lem i n = mapped_there (λ (k : Key). k.name) [] ks i n.it n.there

  -- on an entry with such a match, the name is worth it
  pub name_worth : (e : Entry) (i : ℕ) (m : Match) → i < length ks → get_elem? e.matches i ≡ some m
      → value_of ks e (key 0 (get_or (map (λ (k : Key). k.name) ks) i [])) ≡ some (matched exact 64 m)
  unfolding value_of
  name_worth e i m l at =
      let n = input_name i l in
      rw (name_of_lem i n, n.found, n.there, at, n.kind, n.width)

-- an exact key's record that keeps its rule is present, and has a number alone

exact_number : (x : Key) (r : List ℕ) → x.kind ≡ exact → match_ok x r ≡ true → Number (match_of x r) (match_of x r).first
exact_number x r kind kept = go (eqb (byte_at r 0) 0) refl
  where
    go : (b : Bool) → eqb (byte_at r 0) 0 ≡ b → Number (match_of x r) (match_of x r).first
    go true e = absurd (true≢false (sym (rw (e, kind) at kept)))
    go false e =
        let present : present_rule x r ≡ true = and_right (eqb (byte_at r 0) 1) (present_rule x r) (rw e at kept) in
        let low = all_zero (bytes_at r 2 2) && ltb (number_at r 4 16) (2 ^ x.width) && ltb (number_at r 20 16) (2 ^ x.width) in
        let rule : kind_rule exact x.width (spelled_out r) ≡ true =
        and_right low (kind_rule exact x.width (spelled_out r)) (rw kind at present)
        in
        let both = (and-eq-true_iff (eqb (spelled_out r).length 0) (eqb (spelled_out r).second 0)).0 rule in
        rw e
        (record {
          first = refl;
          second = eqb-true (spelled_out r).second 0 both.1;
          length = eqb-true (spelled_out r).length 0 both.0;
        })

module _ (list : List ℕ) (ks : List Key) (named : names_of list ≡ ok ks) (entry : List ℕ) (e : Entry) (conforms : entry_of ks entry ≡ ok e)
  where
    pub input_number : (i : ℕ) → i < length ks → (m : Match) × (get_elem? e.matches i ≡ some m) × Number m (get_or (inputs_of e) i 0)
    input_number i l =
        let n = input_name list ks named i l in
        let x = n.it in
        let m = match_of x (match_at entry i) in
        let at : get_elem? e.matches i ≡ some m =
        match_there ks entry e conforms i ∙ ap (Option.map (λ (y : Key). match_of y (match_at entry i))) n.there
        in
        let same : get_or (inputs_of e) i 0 ≡ m.first = mapped_there (λ (y : Match). y.first) 0 e.matches i m at in
        (m, at, rw same (exact_number x (match_at entry i) n.kind (match_kept ks entry e i x conforms n.there)))
