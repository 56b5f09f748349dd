-- One node more is marked. A mark changes no node, leaf or place, since none is read from its words at a leaf with a name (crate trees, proofs/Marking).
use Prim.Native.Nat.{ℕ, ◌+◌, ◌*◌, ◌≤◌, ◌<◌}
use native.Mathlib.Omega.{arith}
use native.Mathlib.Decide.{dec_lt}
use mathlib.Core.Path.{◌≡◌, refl, sym, ◌∙◌, ap}
use mathlib.Core.Bool.{Bool}
use mathlib.Core.List.{List}
use lib.ListN.{length}
use Rattle.paper.specs.Tokens.{bytes, same_bytes}
use Rattle.paper.specs.Keys.{Key, find}
use Rattle.paper.specs.Types.{field_named}
use Rattle.paper.specs.Code.{bit}
use Rattle.number.specs.declared.base.Base.{Base}
use Rattle.trees.specs.declared.node.Span.{Span}
use Rattle.trees.specs.declared.node.Leaf.TheVariants as L
use Rattle.trees.specs.declared.node.Leaf.TheVariants.{Truth, Number}
use Rattle.trees.specs.declared.marks.Operand.TheVariants.{Attribute}
use Rattle.trees.specs.Nodes.{leaf_at}
use Rattle.trees.specs.Standing.{spelling}
use Rattle.trees.specs.Marks.{operand_of, operand_at, operand_on, marking, key_mark, field_mark, Names}
use Rattle.trees.proofs.Marking.{key_back, field_back, priority_back, kept, same_place, same_leaf, same_node, marked, unmarked}
use Rattle.resolving.specs.Resolved.{Keeps, ResolvesAt, Resolves}

module _ (ks : List Key) (text nodes : List ℕ) (i : ℕ) where
  keeps_all : Keeps nodes nodes
  keeps_all = record { size = refl; nodes = λ j. refl; leaves = λ j. refl; places = λ j. refl }

  -- a leaf without a name needs no mark

  without_name : operand_at nodes i ≡ operand_on ks text (leaf_at nodes i) → ResolvesAt ks text nodes nodes i
  without_name e = record { keeps = keeps_all; here = e; elsewhere = λ j d. refl }

  pub truth_resolved : (b : Bool) → leaf_at nodes i ≡ Truth b → ResolvesAt ks text nodes nodes i
  unfolding operand_at
  truth_resolved b l = without_name (rw l)

  pub number_resolved : (base : Base) (x y z w : ℕ) → leaf_at nodes i ≡ Number base x y z w → ResolvesAt ks text nodes nodes i
  unfolding operand_at
  number_resolved base x y z w l = without_name (rw l)

  -- one with a name has the marks that are written

  with_name : (key name : ℕ) → Names (leaf_at nodes i) → i * 8 + 8 ≤ length nodes → operand_of (leaf_at nodes i) key name ≡ operand_on ks text (leaf_at nodes i)
      → ResolvesAt ks text nodes (marking nodes i key name) i
  with_name key name named room e =
      record {
        keeps =
            record {
              size = kept nodes i key name;
              nodes = same_node nodes i key name named;
              leaves = same_leaf nodes i key name named;
              places = same_place nodes i key name;
            };
        here = marked nodes i key name named room ∙ e ∙ ap (operand_on ks text) (sym (same_leaf nodes i key name named i));
        elsewhere = unmarked nodes i key name;
      }

  module _ (room : i * 8 + 8 ≤ length nodes) where
    pub key_resolved : (w : Span) (key : ℕ) → leaf_at nodes i ≡ L.Key w → key ≡ key_mark (find ks (spelling text w))
        → ResolvesAt ks text nodes (marking nodes i key 0) i
    key_resolved w key l e = with_name key 0 (rw l tt) room (rw (l, e) (key_back (find ks (spelling text w))))

    pub field_resolved : (w f : Span) (key name : ℕ) → leaf_at nodes i ≡ L.Field w f → key ≡ key_mark (find ks (spelling text w))
        → name ≡ field_mark (field_named (spelling text f)) → ResolvesAt ks text nodes (marking nodes i key name) i
    field_resolved w f key name l e g =
        with_name key name (rw l tt) room (rw (l, e, g) (field_back (find ks (spelling text w)) (field_named (spelling text f))))

    pub attribute_resolved : (f : Span) (name : ℕ) → leaf_at nodes i ≡ L.Attribute f → name ≡ bit (same_bytes (spelling text f) (bytes "priority"))
        → ResolvesAt ks text nodes (marking nodes i 0 name) i
    attribute_resolved f name l e =
        with_name 0 name (rw l tt) room (rw (l, e) (ap Attribute (priority_back (same_bytes (spelling text f) (bytes "priority")))))

module _ (ks : List Key) (text before : List ℕ) where
  pub none_resolved : Resolves ks text before before 0
  none_resolved = record { keeps = keeps_all ks text before 0; marked = λ i h. absurd (omega arith) }

  pub one_more : (nodes after : List ℕ) (i : ℕ) → Resolves ks text before nodes i → ResolvesAt ks text nodes after i → Resolves ks text before after (i + 1)
  one_more nodes after i r n =
      record {
        keeps =
            record {
              size = n.keeps.size ∙ r.keeps.size;
              nodes = λ j. n.keeps.nodes j ∙ r.keeps.nodes j;
              leaves = λ j. n.keeps.leaves j ∙ r.keeps.leaves j;
              places = λ j. n.keeps.places j ∙ r.keeps.places j;
            };
        marked = λ j h. go j h;
      }
    where
      go : (j : ℕ) → j < i + 1 → operand_at after j ≡ operand_on ks text (leaf_at after j)
      go j h =
          elim (dec_lt j i) [
            | yes l ↦ n.elsewhere j (λ d. omega arith) ∙ r.marked j l ∙ ap (operand_on ks text) (sym (n.keeps.leaves j))
            | no l ↦ let same : j ≡ i = omega arith in rw same n.here
          ]
