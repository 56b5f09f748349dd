-- The stages of a load: its answer from theirs.
use Prim.Native.Nat.{ℕ}
use Rattle.std.specs.Prelude.{Result, Ok, Err}
use Rattle.paper.specs.declared.Refusal.{Refusal}
use mathlib.Core.Path.{◌≡◌, refl, sym, ap, ◌∙◌}
use mathlib.Core.List.{List}
use lib.ListN.{length}
use Rattle.paper.specs.Answers.{Answer, ok, refused, ◌>>=◌, Input, says, refused_by}
use Rattle.paper.specs.Keys.{Key}
use Rattle.paper.specs.Blocks.{total_of, layout}
use Rattle.paper.specs.Loading.{instructions_from, types_along, load_check, loaded}
use Rattle.paper.specs.Calls.{load_answer}
use Rattle.paper.proofs.Stages.{refused_up, counted_on}
use Rattle.keys.specs.Says.{keys_in, key_count}
use Rattle.keys.proofs.Records.{keys_length}
use Rattle.keys.proofs.Checked.{listed, not_listed}
use Rattle.blocks.specs.Layout.{laid_out}

module _ (ks : List Key) (blocks : List ℕ) where
  -- the load check of n instructions
  abbrev types_ok : ℕ → Answer (Unit {0})
  types_ok n = load_check (length blocks) (types_along ks (instructions_from blocks 0 n))

  total_kept : (a : Answer (Unit {0})) (n : ℕ) →
      (a >>= λ _. types_ok n >>= λ _. ok n) ≡ ((a >>= λ _. ok n) >>= λ m. types_ok m >>= λ _. ok m)
  total_kept (ok u) n = refl
  total_kept (refused k i at) n = refl

  staged : loaded ks blocks ≡ (laid_out (length ks) blocks >>= λ m. types_ok m >>= λ _. ok m)
  unfolding loaded
  staged = total_kept (layout (length ks) blocks) (total_of blocks)

  -- the layout's answer: a refusal is passed up, a count goes on to the types
  module _ (r : Result ℕ Refusal) (said : says r ≡ laid_out (length ks) blocks) where
    pub layout_refused : {v : Refusal} → r ≡ Err v → refused_by v ≡ loaded ks blocks
    layout_refused e = refused_up (λ m. types_ok m >>= λ _. ok m) r said e ∙ sym staged

    pub types_told : {n : ℕ} {a : Answer (Unit {0})} → r ≡ Ok n → types_ok n ≡ a → (a >>= λ _. ok n) ≡ loaded ks blocks
    types_told {n} e f =
        sym (ap (λ (x : Answer (Unit {0})). x >>= λ _. ok n) f) ∙ counted_on (λ m. types_ok m >>= λ _. ok m) r said e ∙ sym staged

module _ (list blocks : List ℕ) where
  pub list_refused : {k : ℕ} {i : Input} {at : ℕ} → key_count list ≡ refused k i at → refused k i at ≡ load_answer list blocks
  unfolding load_answer
  list_refused e = sym (ap (λ (x : Answer (List Key)). x >>= λ ks. loaded ks blocks) (not_listed list e))

  module _ {n : ℕ} (e : key_count list ≡ ok n) where
    pub keys_counted : n ≡ length (keys_in list)
    keys_counted = (listed list e).1 ∙ sym (keys_length list 0 _)

    pub list_passed : loaded (keys_in list) blocks ≡ load_answer list blocks
    unfolding load_answer
    list_passed = sym (ap (λ (x : Answer (List Key)). x >>= λ ks. loaded ks blocks) (listed list e).0)
