-- What programs that keep the promises make of a contract: the text that stands in the buffer is bytes, passes with the names, and is judged
-- on an entry as the contract says of the entry's numbers.
use Prim.Native.Nat.{ℕ}
use Rattle.std.specs.Prelude.{Ok}
use mathlib.Core.Path.{◌≡◌, sym, ap, subst, ◌∙◌}
use mathlib.Core.List.{List}
use lib.ListN.{length, take}
use lib.Seq.{take_at}
use Rattle.paper.specs.Answers.{ok}
use Rattle.paper.specs.Entry.{Entry, entry_of}
use Rattle.paper.specs.Print.{print}
use Rattle.paper.specs.Sized.{Clean}
use Rattle.paper.specs.Pact.{contract_holds}
use Rattle.paper.specs.Promised.{verdict, Bytes, UserNumbers, Programs, Kept}
use Rattle.paper.specs.Demands.{Draftable, DraftMeans, inputs_of}
use Rattle.paper.proofs.Promised.{verdict_says, says_same, judgement_same}
use Rattle.paper.proofs.PrintBytes.{print_bytes}
use Rattle.paper.proofs.ContractRead.{contracts_read}
use Rattle.paper.proofs.DraftDemands.{draftable_bytes, drafts_right}
use Rattle.paper.proofs.ContractClean.{clean_contract}
use Rattle.paper.proofs.DraftedRight.{texts_mean}

module _ (p : Programs) (kept : Kept p) (contract table list buffer : List ℕ) (c : Bytes contract) (small : UserNumbers table)
    (l : Bytes list) (b : Bytes buffer) (n : ℕ) (d : Draftable contract table list buffer n)
  where
    abbrev text : List ℕ
    text = print d.root

    in_buffer : take n (p.draft contract table list buffer).buffer ≡ text
    in_buffer =
        ap (take n) ((drafts_right contract table list buffer _ (kept.draft contract table list buffer c small l b)).written n d)
        ∙ take_at text _ n (sym d.size)

    are_bytes : Bytes text
    are_bytes =
        print_bytes d.root (subst Clean (sym d.made) (clean_contract list d.ks d.named table small d.clauses d.indexed))

    text_passes : p.check text list ≡ Ok tt
    text_passes =
        says_same (p.check text list) (Ok tt)
        (kept.check text list are_bytes l ∙ texts_mean.passes contract table list buffer text small (draftable_bytes contract table list buffer n d))

    text_judged : (entry : List ℕ) (e : Entry) → Bytes entry → entry_of d.ks entry ≡ ok e
        → p.judge text list entry ≡ verdict (contract_holds (inputs_of e) table d.clauses)
    text_judged entry e en conforms =
        let says = contract_holds (inputs_of e) table d.clauses in
        let read = (contracts_read (length d.ks) (length table) contract d.clauses).1 (d.meant, d.indexed) in
        judgement_same (p.judge text list entry) (verdict says)
        (kept.judge text list entry are_bytes l en
        ∙ texts_mean.judged contract table list buffer text entry d.ks e d.clauses small
        (draftable_bytes contract table list buffer n d) d.named conforms read
        ∙ sym (verdict_says says))

pub draft_means : (p : Programs) → Kept p → (contract table list buffer : List ℕ) → Bytes contract → UserNumbers table → Bytes list
    → Bytes buffer → DraftMeans p contract table list buffer
draft_means p kept contract table list buffer c small l b =
    record {
      passes = λ n d.
          subst (λ s. p.check s list ≡ Ok tt) (sym (in_buffer p kept contract table list buffer c small l b n d))
          (text_passes p kept contract table list buffer c small l b n d);
      judged = λ n d entry e en conforms.
          subst (λ s. p.judge s list entry ≡ verdict (contract_holds (inputs_of e) table d.clauses))
          (sym (in_buffer p kept contract table list buffer c small l b n d))
          (text_judged p kept contract table list buffer c small l b n d entry e en conforms);
    }
