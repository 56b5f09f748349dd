-- From the answer of each stage to that of all.
use Prim.Native.Nat.{ℕ, ◌+◌, ◌-◌, ◌≤◌, ◌<◌}
use Rattle.std.specs.Prelude.{Result, Ok, Err}
use Rattle.paper.specs.declared.Refusal.{Refusal}
use native.Mathlib.Omega.{arith}
use mathlib.Core.Path.{◌≡◌, sym, ◌∙◌, ap, subst}
use mathlib.Core.List.{List}
use lib.ListN.{length}
use borrow.Author.Tests.{le-leb, lt-leb}
use Rattle.paper.specs.Answers.{Answer, ok, refused, ◌>>=◌, Input, in_text, says, refused_by}
use Rattle.paper.specs.Tokens.{most_text}
use Rattle.paper.specs.Keys.{keys}
use Rattle.paper.specs.Grammar as G
use Rattle.paper.specs.Types.{type_of, root_type, typed}
use Rattle.paper.specs.Calls.{tree, restriction}
use Rattle.paper.proofs.Stages.{bind_ok}
use Rattle.keys.specs.Says.{keys_in, key_count}
use Rattle.keys.proofs.Checked as K
use Rattle.trees.specs.Standing.{tree_at}
use Rattle.trees.specs.Marks.{Marked}
use Rattle.trees.proofs.Marking.{same_tree}
use Rattle.resolving.specs.Resolved.{Resolves}
use Rattle.typing.specs.Known.{Known}
use Rattle.reading.specs.declared.grown.Grown.{Grown}
use Rattle.tokens.specs.declared.Stop.{Stop}
use Rattle.tokens.specs.declared.Stop.TheVariants.{Refused, Over}
use Rattle.reading.specs.declared.grown.Scratch.{Scratch}
use Rattle.reading.specs.declared.grown.Scratch.TheVariants as S
use Rattle.reading.specs.Grown.{Planted, Grows, Told, Settles, stopping, of_tree}
use Rattle.reading.specs.Restricted.{Typed, Rooted, Types, Restricts}

-- a refusal of two stages is that of the stages after them too
refused_early : {A B : Type 0} (x : Answer A) (f : A → Answer (Unit {0})) (g : A → Answer B) {n : ℕ} {i : Input} {at : ℕ}
    → (x >>= f) ≡ refused n i at → (x >>= λ a. f a >>= λ _. g a) ≡ refused n i at
refused_early (ok a) f g e = ap (λ (y : Answer (Unit {0})). y >>= λ _. g a) e
refused_early (refused m j to) f g e = cc

-- where there is room no text is over: neither where there is an answer
pub settles : (s : Scratch) (r : Result Grown Refusal) → Settles s (stopping r)
settles S.Short r = tt
settles S.Long (Ok g) = tt
settles S.Long (Err v) = tt

-- nor where an earlier stage says so
pub still_stopped : (s : Scratch) (r : Result Grown Stop) (stop : Stop) → r ≡ Err stop → Settles s r → Settles s (Err stop)
still_stopped S.Short r stop e h = tt
still_stopped S.Long r (Refused v) e h = tt
still_stopped S.Long r Over e h = rw e at h

-- 5 to 10; 11 to 14

module _ (text nodes : List ℕ) (r : Result Grown Stop) (grows : Told (Grows text nodes) (of_tree r)) where
  pub grown : {g : Grown} → r ≡ Ok g → Planted text nodes g.tree
  grown e = subst (λ (x : Result Grown Stop). Told (Grows text nodes) (of_tree x)) e grows

  -- a refusal of the tree is one of its types
  pub not_grown : (list after : List ℕ) (s : Stop) → r ≡ Err s → Told (Types text list after) (Err s)
  not_grown list after (Refused v) e =
      ap (λ (x : Answer G.Tree). x >>= typed (keys_in list)) (subst (λ (x : Result Grown Stop). Told (Grows text nodes) (of_tree x)) e grows)
  not_grown list after Over e = tt

-- marks change no tree
pub still_planted : (text list before nodes : List ℕ) (m : ℕ) → Resolves (keys_in list) text before nodes m → Planted text before m → Planted text nodes m
still_planted text list before nodes m marks p =
    let same = same_tree text before nodes marks.keeps.nodes marks.keeps.leaves marks.keeps.places (m - 1) in
    record { read = rw same p.read; count = rw same p.count; some = p.some; few = p.few; short = p.short; has = omega (arith, marks.keeps.size, p.has) }

module _ (text list nodes : List ℕ) (m : ℕ) (p : Planted text nodes m) (c : Result (Unit {0}) Refusal)
    (said : says c ≡ typed (keys_in list) (tree_at text nodes (m - 1)))
  where
    pub not_typed : {v : Refusal} → c ≡ Err v → (tree text >>= typed (keys_in list)) ≡ refused_by v
    not_typed f = ap (λ (x : Answer G.Tree). x >>= typed (keys_in list)) p.read ∙ sym said ∙ ap says f

    pub right_types : Marked (keys_in list) text nodes (m - 1 + 1) → c ≡ (Ok tt) → Typed text list nodes (m - 1)
    right_types marked f =
        record {
          read = p.read;
          checked = sym said ∙ ap says f;
          count = omega (arith, p.count, p.some);
          few = omega (arith, p.few, p.some);
          short = omega (arith, p.short, p.some);
          has = omega (arith, p.has, p.some);
          marked = marked;
        }

-- 1; 2; 3 and 4; then these

module _ (text list : List ℕ) where
  pub too_long : most_text < length text → restriction text list ≡ refused 1 in_text most_text
  unfolding restriction
  too_long h = rw (lt-leb (length text) most_text h)

  module _ (h : length text ≤ most_text) where
    short : restriction text list ≡ (keys list >>= λ ks. tree text >>= λ t. typed ks t >>= λ _. ok (record { keys = ks; root = t }))
    unfolding restriction
    short = rw (le-leb (length text) most_text h)

    module _ (l : Result ℕ Refusal) (said : says l ≡ key_count list) where
      -- a refusal of the list is one of the whole
      pub not_listed : {v : Refusal} → l ≡ Err v → restriction text list ≡ refused_by v
      not_listed e = short ∙ rw (K.not_listed list (sym said ∙ ap says e))

      module _ {n : ℕ} (e : l ≡ Ok n) where
        pub good : keys list ≡ ok (keys_in list)
        good = (K.listed list (sym said ∙ ap says e)).0

        pub restricts : (nodes : List ℕ) (r : Result ℕ Stop) → Told (Types text list nodes) r
            → Told (Restricts text list nodes) r
        restricts nodes (Err Over) t = tt
        restricts nodes (Ok k) t =
            record {
              passed = short ∙ rw (good, t.read, t.checked);
              listed = good;
              typed = t;
            }
        restricts nodes (Err (Refused v)) t = short ∙ rw good (refused_early (tree text) (typed (keys_in list)) _ t)

-- what the answer tells

module _ (text nodes : List ℕ) (r : Result ℕ Refusal) (told : Grows text nodes r) where
  pub planted : {m : ℕ} → r ≡ Ok m → Planted text nodes m
  planted e = subst (Grows text nodes) e told

  pub not_planted : {v : Refusal} → r ≡ Err v → tree text ≡ refused_by v
  not_planted e = subst (Grows text nodes) e told

module _ (text list nodes : List ℕ) (r : Result ℕ Refusal) (told : Restricts text list nodes r) where
  pub not_restricted : {v : Refusal} → r ≡ Err v → restriction text list ≡ refused_by v
  not_restricted e = subst (Restricts text list nodes) e told

  pub rooted : {k : ℕ} → r ≡ Ok k → Rooted text list nodes k
  rooted e = subst (Restricts text list nodes) e told

-- the tree of a text that passed has a type, and the marks of its names
pub root_known : (text list nodes : List ℕ) (k : ℕ) → Rooted text list nodes k → Known list nodes k text
unfolding typed
root_known text list nodes k r =
    let a = bind_ok (type_of (keys_in list) (tree_at text nodes k)) (root_type (tree_at text nodes k)) tt r.typed.checked in
    record { marked = r.typed.marked; type = a.0; typed = a.1 }
