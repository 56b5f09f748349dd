-- From the rows that `find` fills to the parts of the text (`sown`), through the marks, which change no tree (`still_sown`), to parts that can be
-- judged: where the whole has the right types, so has each part, and its root stands no higher than the whole's (`ready`).
use Prim.Native.Nat.{ℕ, suc, ◌*◌, ◌-◌, ◌≤◌, ◌<◌}
use Rattle.std.specs.Prelude.{Result, Ok, Err}
use Rattle.paper.specs.declared.Refusal.{Refusal}
use native.Mathlib.Nat.{zero-add}
use native.Mathlib.Omega.{arith}
use mathlib.Core.Path.{◌≡◌, sym, ap, subst, ◌∙◌}
use mathlib.Core.List.{List}
use lib.ListN.{length}
use Rattle.paper.specs.Answers.{ok, refused_by}
use Rattle.paper.specs.Types.{typed}
use Rattle.paper.specs.Calls.{restriction}
use Rattle.paper.specs.Parts.{Part}
use Rattle.paper.proofs.PartsTyped.{parts_typed, some_part}
use Rattle.keys.specs.Says.{keys_in}
use Rattle.trees.specs.Standing.{tree_at}
use Rattle.trees.proofs.Marking.{same_tree, marked_below}
use Rattle.parts.specs.Rows.{stretch_at, root_at, part_at, parts_on}
use Rattle.parts.specs.Found.{ReadAs, Finds}
use Rattle.parts.proofs.Stored.{each_same, each_length, each_all}
use Rattle.resolving.specs.Resolved.{Resolves}
use Rattle.reading.specs.declared.grown.Grown.{Grown}
use Rattle.tokens.specs.declared.Stop.{Stop}
use Rattle.tokens.specs.declared.Stop.TheVariants.{Refused, Over}
use Rattle.reading.specs.Grown.{CountedOn, Planted, Told, of_tree, of_parts, RowRoom, Sown, Sows}
use Rattle.reading.specs.Restricted.{Typed, Restricts}
use Rattle.reading.specs.Parted.{Judgeable, Parted, Readies, PassedParts, RestrictsParts}

module _ (text tape : List ℕ) (count : ℕ) (on : CountedOn text tape count) (nodes : List ℕ) (m : ℕ) (p : Planted text nodes m) where
  read_as : ReadAs text tape count nodes (m - 1)
  read_as = record { tokens = sym on.says; cut = on.placed.cut; tree = p.read }

  pub sown : (rows : List ℕ) (n : ℕ) → Finds tape count nodes (m - 1) rows n → Sown text nodes rows m n
  sown rows n f =
      record { few = f.few; below = λ k h. omega (arith, f.below k h, p.some); are = f.are text read_as }

-- what the reader's answer tells of the parts

pub sown_told : (text nodes rows : List ℕ) (r : Result Grown Stop) → Sows text nodes rows r → {g : Grown} → r ≡ Ok g → RowRoom rows
    → Sown text nodes rows g.tree g.parts
sown_told text nodes rows r told e = subst (Sows text nodes rows) e told

module _ (text list before nodes rows : List ℕ) (m n : ℕ) (marks : Resolves (keys_in list) text before nodes m) where
  same_part : (j : ℕ) → part_at text before rows j ≡ part_at text nodes rows j
  same_part j =
      let same = same_tree text before nodes marks.keeps.nodes marks.keeps.leaves marks.keeps.places (root_at rows j) in
      λ i. record { number = suc j; root = sym same i; stretch = stretch_at rows j }

  pub still_sown : Sown text before rows m n → Sown text nodes rows m n
  still_sown s =
      record {
        few = s.few;
        below = s.below;
        are = s.are ∙ ap ok (each_same (part_at text before rows) (part_at text nodes rows) 0 n (λ j low high. same_part j));
      }

module _ (text list nodes rows : List ℕ) (m n : ℕ) (t : Typed text list nodes (m - 1)) (room : m * 8 ≤ length nodes) (s : Sown text nodes rows m n) where
  abbrev Right : Part → Type 0
  Right p = typed (keys_in list) p.root ≡ ok tt

  each_right : (k : ℕ) → k < n → typed (keys_in list) (tree_at text nodes (root_at rows k)) ≡ ok tt
  each_right k h =
      let all = parts_typed text (tree_at text nodes (m - 1)) (parts_on text nodes rows n) t.read s.are (keys_in list) t.checked in
      rw zero-add at (each_all Right (part_at text nodes rows) 0 n all k h)

  judgeable : (k : ℕ) → k < n → Judgeable text list nodes (root_at rows k)
  judgeable k h =
      let low = s.below k h in
      record {
        has = omega (arith, low, room);
        checked = each_right k h;
        marked = marked_below (keys_in list) text nodes (omega (arith, low)) t.marked;
      }

  pub ready : RowRoom rows → Parted text list nodes rows n
  ready lent =
      let some = some_part text (tree_at text nodes (m - 1)) (parts_on text nodes rows n) t.read s.are in
      record {
        some = omega (arith, some, each_length (part_at text nodes rows) 0 n);
        few = s.few;
        are = s.are;
        has = λ k h. omega (arith, lent, h, s.few);
        each = judgeable;
      }

-- the answer of the parts, from that of the tree

pub restricts_parts : (text list nodes rows : List ℕ) (r : Result Grown Stop) → Told (Restricts text list nodes) (of_tree r) → Readies text list nodes rows r
    → RowRoom rows → Told (RestrictsParts text list nodes rows) (of_parts r)
restricts_parts text list nodes rows (Ok g) told ready lent = record { root = g.tree; rooted = told; parted = ready lent }
restricts_parts text list nodes rows (Err (Refused v)) told ready lent = told
restricts_parts text list nodes rows (Err Over) told ready lent = tt

-- what that tells
module _ (text list nodes rows : List ℕ) (r : Result ℕ Refusal) (told : RestrictsParts text list nodes rows r) where
  pub not_parted : {v : Refusal} → r ≡ Err v → restriction text list ≡ refused_by v
  not_parted e = subst (RestrictsParts text list nodes rows) e told

  pub passed : {n : ℕ} → r ≡ Ok n → PassedParts text list nodes rows n
  passed e = subst (RestrictsParts text list nodes rows) e told
