-- The tree of a contract is clean, so where it is within the limits its print is read to the same tree, places aside, which has the same
-- types and values: those of the contract's tree, a bool that says what the contract says.
use Prim.Native.Nat.{ℕ, zero, suc, ◌≤◌, ◌<◌}
use native.Mathlib.Omega.{arith}
use mathlib.Core.Path.{◌≡◌, refl, sym, ap, subst, ◌∙◌}
use mathlib.Core.Option.{some}
use mathlib.Core.List.{List, [], ◌∷◌, map}
use lib.ListN.{length, get_or, get_elem?, length-map}
use Rattle.paper.specs.Answers.{Answer, ok, ◌>>=◌}
use Rattle.paper.specs.Tokens.{most_text}
use Rattle.paper.specs.Keys.{Key}
use Rattle.paper.specs.Entry.{Match, Entry, entry_of}
use Rattle.paper.specs.Grammar.{Tree}
use Rattle.paper.specs.Types.{typed}
use Rattle.paper.specs.Meaning.{truth, value_of, is_true}
use Rattle.paper.specs.Print.{bare}
use Rattle.paper.specs.Sized.{Clean}
use Rattle.paper.specs.BlocksRoundTrip.{All}
use Rattle.paper.specs.LoadedBlocksRun.{Covers}
use Rattle.paper.specs.Calls.{tree, Restriction, restriction, check_answer, judge_answer}
use Rattle.paper.specs.Pact.{contract_holds, AllIndexed}
use Rattle.paper.specs.Contract.{clauses}
use Rattle.paper.specs.Drafting.{drafted, lends_text, draftable}
use Rattle.paper.specs.Promised.{UserNumbers}
use Rattle.paper.specs.Demands.{inputs_of}
use Rattle.paper.specs.DraftedRight.{LimitsAreReads, TextsMean}
use Rattle.paper.proofs.Stages.{ok_same, bind_ok}
use Rattle.paper.proofs.TypeSoundness.{bool_typed}
use Rattle.paper.proofs.PrintReadsBack.{clean_print_reads, read_within}
use Rattle.paper.proofs.BasesIgnored.{restricted, check_is, judge_is}
use Rattle.paper.proofs.SameMeaning.{same_meaning}
use Rattle.paper.proofs.KeyLists.{names_are_keys}
use Rattle.paper.proofs.ContractRead.{contracts_read}
use Rattle.paper.proofs.DraftDemands.{Made, drafted_has, LentText, text_has, draftable_is}
use Rattle.paper.proofs.ContractMeant.{Number, contract_value}
use Rattle.paper.proofs.InputNames.{mapped_there, name_worth, input_number}
use Rattle.paper.proofs.ContractClean.{names_in, small_at, clean_contract}

-- the tree's type is that of its value on any entry, and some entry has a number for each name

abbrev nought : Match
nought = record { first = 0; second = 0; length = 0 }

abbrev noughts : List Key → Entry
noughts ks = record { priority = 0; matches = map (λ (k : Key). nought) ks }

nought_there : (ks : List Key) (i : ℕ) → i < length ks → get_elem? (noughts ks).matches i ≡ some nought
nought_there [] i l = absurd (omega arith)
nought_there (k ∷ ks) zero l = refl
nought_there (k ∷ ks) (suc i) l = nought_there ks i (omega arith)

module _ (contract table list : List ℕ) (small : UserNumbers table) (t : Tree) (d : Made contract table list t) where
  indexed : All (AllIndexed (length d.ks) (length table)) d.read_as
  indexed = ((contracts_read (length d.ks) (length table) contract d.read_as).0 d.read).1

  clean : Clean t
  clean = subst Clean (sym d.made) (clean_contract list d.ks d.named table small d.read_as indexed)

  -- a number for each name, and what the tree is then worth

  abbrev Numbers : Entry → Type 0
  Numbers e = (i : ℕ) → i < length d.ks → (m : Match) × (get_elem? e.matches i ≡ some m) × Number m (get_or (inputs_of e) i 0)

  worth : (e : Entry) → Numbers e → value_of d.ks e t ≡ some (truth (contract_holds (inputs_of e) table d.read_as))
  worth e numbers =
      let ks = d.ks in
      ap (value_of ks e) d.made
      ∙ contract_value ks e (names_in ks) (length ks) (inputs_of e) table
      (record {
        named = λ i l. let (m, at, number) = numbers i l in (m, name_worth list ks d.named e i m l at, number);
        small = small_at table small;
      })
      d.read_as indexed

  all_noughts : Numbers (noughts d.ks)
  all_noughts i l =
      let e = noughts d.ks in
      let at = nought_there d.ks i l in
      (nought, at, record { first = sym (mapped_there (λ (m : Match). m.first) 0 e.matches i nought at); second = refl; length = refl })

  -- a tree that is the same, places aside
  module _ (r : Tree) (same : bare r ≡ bare t) where
    worth_alike : (e : Entry) → Numbers e → value_of d.ks e r ≡ some (truth (contract_holds (inputs_of e) table d.read_as))
    worth_alike e numbers = (same_meaning t r same).values d.ks e ∙ worth e numbers

    is_typed : typed d.ks r ≡ ok tt
    is_typed =
        let e = noughts d.ks in
        let covers : Covers d.ks e = length-map d.ks (λ (k : Key). nought) in
        bool_typed d.ks e covers r _ (worth_alike e all_noughts)

  -- its text passes, with that tree

  module _ (text : List ℕ) (short : length text ≤ most_text) (r : Tree) (reads : tree text ≡ ok r) (same : bare r ≡ bare t) where
    passed : restriction text list ≡ ok (record { keys = d.ks; root = r })
    passed = restricted text list r short reads ∙ rw ((names_are_keys list d.ks d.named).0, is_typed r same)

    checked : check_answer text list ≡ ok tt
    checked = check_is text list ∙ ap (λ (x : Answer Restriction). x >>= λ _. ok tt) passed

    judged : (entry : List ℕ) (e : Entry) → entry_of d.ks entry ≡ ok e
        → judge_answer text list entry ≡ ok (contract_holds (inputs_of e) table d.read_as)
    judged entry e conforms =
        judge_is text list entry
        ∙ rw (passed, conforms)
        (ap (λ o. ok (is_true o)) (worth_alike r same e (input_number list d.ks d.named entry e conforms)))

pub limits_are_reads : LimitsAreReads
limits_are_reads contract table list t small h =
    let whole = clean contract table list small t (drafted_has contract table list t h) in (
      λ (many, deep). let (r, read, same) = clean_print_reads t whole deep many in (r, read),
      λ (r, read). read_within t r whole read,
    )

-- a text that was lent, read again

record Again (contract table list text : List ℕ) : Type 0 where
  root : Tree
  draft : Made contract table list root
  short : length text ≤ most_text
  other : Tree
  reads : tree text ≡ ok other
  same : bare other ≡ bare root

again : (contract table list buffer text : List ℕ) → UserNumbers table → draftable contract table list buffer ≡ ok text
    → Again contract table list text
again contract table list buffer text small h =
    let (t, made, last) =
    bind_ok (drafted contract table list) (λ t. lends_text t buffer) text (sym (draftable_is contract table list buffer) ∙ h)
    in
    of_lent t (drafted_has contract table list t made) (text_has t buffer text last)
  where
    of_lent : (t : Tree) → Made contract table list t → LentText t buffer text → Again contract table list text
    of_lent t d l =
        let (r, read, same) = clean_print_reads t (clean contract table list small t d) l.deep l.tokens in
        record { root = t; draft = d; short = l.short; other = r; reads = ap tree (sym l.same) ∙ read; same = same }

pub texts_mean : TextsMean
texts_mean =
    record {
      passes = λ contract table list buffer text small h.
          let a = again contract table list buffer text small h in
          checked contract table list small a.root a.draft text a.short a.other a.reads a.same;
      judged = λ contract table list buffer text entry ks e cs small h named conforms read.
          let a = again contract table list buffer text small h in
          let d = a.draft in
          let one : ks ≡ d.ks = ok_same ks d.ks (sym named ∙ d.named) in
          let two : d.read_as ≡ cs =
          ok_same d.read_as cs (sym d.read ∙ ap (λ (us : List Key). clauses (length us) (length table) contract) (sym one) ∙ read)
          in
          judged contract table list small a.root d text a.short a.other a.reads a.same entry e
          (ap (λ (us : List Key). entry_of us entry) (sym one) ∙ conforms)
          ∙ ap (λ parts. ok (contract_holds (inputs_of e) table parts)) two;
    }
