-- A tree that an operator was put behind: the operator's node makes one tree of the trees before it. Where the text would be over the limit of
-- tokens nothing is put, and nothing is told of nodes.
use Prim.Native.Nat.{ℕ, ◌+◌, ◌*◌, ◌-◌, ◌≤◌, ◌<◌}
use native.Mathlib.Omega.{arith}
use mathlib.Core.Path.{◌≡◌, refl, sym, ap, ap₂, ◌∙◌}
use mathlib.Core.Bool.{Bool, true, false}
use mathlib.Core.List.{List}
use lib.ListN.{length, take}
use lib.Seq.{sets, length-sets, take-take}
use Rattle.paper.specs.Tokens.{not_sign, most_tokens}
use Rattle.paper.specs.Grammar as G
use Rattle.paper.specs.Grammar.{Tree}
use Rattle.paper.specs.Print.{tightest, looser}
use Rattle.paper.specs.Sized.{wider, count}
use Rattle.trees.specs.declared.node.Operator.{Operator}
use Rattle.trees.specs.declared.node.Operator.TheVariants.{Joins, Compares}
use Rattle.trees.specs.declared.node.Prefix.TheVariants.{Not}
use Rattle.trees.specs.Standing.{tree_at, operator_on}
use Rattle.trees.specs.Words.{operator_words, operator_no}
use Rattle.trees.proofs.Puts.{put_behind, same_tree_below, prefix_put, operator_put}
use Rattle.printing.specs.declared.signs.Rung.TheVariants as R
use Rattle.printing.specs.Writing.{left_between, right_between}
use Rattle.drafting.specs.declared.pieces.Piece.{Piece}
use Rattle.drafting.specs.declared.sizes.Size.{Size}
use Rattle.drafting.specs.Sizes.{Small, Sized}
use Rattle.drafting.specs.Pieces.{Holds, Grown}

-- the size of a leaf
abbrev pub leaf_size : Size
leaf_size = record { tokens = 1; levels = 0; rung = R.Tightest }

-- an operator has a token more than its operands, at least

wide : (b : Bool) (n : ℕ) → n ≤ wider b n
wide true n = omega arith
wide false n = omega arith

pub more_over : (t : Tree) → count t + 1 ≤ count (G.prefixed 0 not_sign t)
more_over t = omega (arith, wide (looser tightest t) (count t))

pub more_beside : (o : Operator) (t u : Tree) → count t + 1 + count u ≤ count (operator_on 0 o t u)
more_beside (Joins o) t u =
    omega (arith, wide (looser (left_between (Joins o)) t) (count t), wide (looser (right_between (Joins o)) u) (count u))
more_beside (Compares c) t u = omega (arith, wide (looser tightest t) (count t), wide (looser tightest u) (count u))

pub small : {s : Size} (t : Tree) → Sized s t → Small s
small t h = record { tokens = omega (arith, h.tokens); levels = omega (arith, h.levels) }

-- what stands before a node stays where nodes are changed from there on
module _ (list : List ℕ) {before after : List ℕ} {start : ℕ} {p : Piece} (n : ℕ) (stays : take (n * 8) after ≡ take (n * 8) before) (below : p.end ≤ n) where
  pub still_holds : {t : Tree} → Holds list before start p t → Holds list after start p t
  still_holds h =
      record {
        sized = h.sized;
        begun = h.begun;
        room = h.room;
        few = h.few;
        built = λ c. same_tree_below list before after n stays (p.end - 1) (omega (arith, h.begun)) ∙ h.built c;
      }

-- and so does what stood before an earlier one
pub stays_before : (before after : List ℕ) (m n : ℕ) → m ≤ n → take (n * 8) after ≡ take (n * 8) before → take (m * 8) after ≡ take (m * 8) before
stays_before before after m n h e =
    sym (take-take (m * 8) (n * 8) after (omega arith)) ∙ ap (take (m * 8)) e ∙ take-take (m * 8) (n * 8) before (omega arith)

module _ (list before : List ℕ) (start : ℕ) where
  -- nothing is put
  pub grown_as : {p : Piece} {t : Tree} → Holds list before start p t → Grown list before before start p t
  grown_as h = record { kept = refl; stays = refl; holds = h }

  module _ {p : Piece} {t : Tree} (h : Holds list before start p t) (s : Size) (sized : Sized s (G.prefixed 0 not_sign t)) where
    pub over_prefix : most_tokens < s.tokens
        → Grown list before before start (record { size = s; end = p.end }) (G.prefixed 0 not_sign t)
    over_prefix over =
        grown_as
        (record {
          sized = sized;
          begun = h.begun;
          room = h.room;
          few = omega (arith, h.few, more_over t);
          built = λ c. absurd (omega (arith, sized.tokens, over));
        })

    pub put_prefix : (after : List ℕ) → s.tokens ≤ most_tokens → p.end * 8 + 8 ≤ length before
        → after ≡ sets before (p.end * 8) (operator_words 5 0 0)
        → Grown list before after start (record { size = s; end = p.end + 1 }) (G.prefixed 0 not_sign t)
    put_prefix after within fits put =
        let e : p.end + 1 - 1 ≡ p.end = omega arith in
        record {
          kept = rw (put, length-sets);
          stays = stays_before before after start p.end (omega (arith, h.begun)) (rw put (put_behind before (p.end * 8) (operator_words 5 0 0) fits));
          holds =
              record {
                sized = sized;
                begun = omega (arith, h.begun);
                room = omega (arith, h.few, more_over t, sized.tokens, within);
                few = omega (arith, h.few, more_over t);
                built = λ c.
                    rw e
                    (prefix_put list before after p.end fits 0 Not (omega (arith, h.begun)) put
                    ∙ ap (G.prefixed 0 not_sign) (h.built (omega (arith, more_over t, c))));
              };
        }

  module _ (o : Operator) {p q : Piece} {t u : Tree} (h : Holds list before start p t) (g : Holds list before p.end q u)
      (s : Size) (sized : Sized s (operator_on 0 o t u)) where
    pub over_operator : most_tokens < s.tokens
        → Grown list before before start (record { size = s; end = p.end }) (operator_on 0 o t u)
    over_operator over =
        grown_as
        (record {
          sized = sized;
          begun = h.begun;
          room = h.room;
          few = omega (arith, h.few, more_beside o t u);
          built = λ c. absurd (omega (arith, sized.tokens, over));
        })

    pub put_operator : (after : List ℕ) → s.tokens ≤ most_tokens → q.end * 8 + 8 ≤ length before
        → after ≡ sets before (q.end * 8) (operator_words (operator_no o) 0 (p.end - 1))
        → Grown list before after start (record { size = s; end = q.end + 1 }) (operator_on 0 o t u)
    put_operator after within fits put =
        let e : q.end + 1 - 1 ≡ q.end = omega arith in
        record {
          kept = rw (put, length-sets);
          stays =
              stays_before before after start q.end (omega (arith, h.begun, g.begun))
              (rw put (put_behind before (q.end * 8) (operator_words (operator_no o) 0 (p.end - 1)) fits));
          holds =
              record {
                sized = sized;
                begun = omega (arith, h.begun, g.begun);
                room = omega (arith, h.few, g.few, more_beside o t u, sized.tokens, within);
                few = omega (arith, h.few, g.few, more_beside o t u);
                built = λ c.
                    rw e
                    (operator_put list before after q.end fits 0 o (p.end - 1) (omega (arith, h.begun, g.begun)) put
                    ∙ ap₂ (operator_on 0 o) (h.built (omega (arith, more_beside o t u, c))) (g.built (omega (arith, more_beside o t u, c))));
              };
        }

-- a leaf is put
pub put_leaf : (list before after : List ℕ) (at : ℕ) (ws : List ℕ) {t : Tree} → length ws ≡ 8 → at * 8 + 8 ≤ length before
    → after ≡ sets before (at * 8) ws → Sized leaf_size t → count t ≡ 1 → tree_at list after at ≡ t
    → Grown list before after at (record { size = leaf_size; end = at + 1 }) t
put_leaf list before after at ws {t} eight fits put sized one there =
    let e : at + 1 - 1 ≡ at = omega arith in
    record {
      kept = rw (put, length-sets);
      stays = rw put (put_behind before (at * 8) ws (omega (arith, eight)));
      holds =
          record {
            sized = sized;
            begun = omega arith;
            room = omega arith;
            few = omega (arith, one);
            built = λ c. rw e there;
          };
    }

-- one tree behind another leaves it, and what was put in two steps was put

module _ (list : List ℕ) {a b c : List ℕ} {start : ℕ} {p q : Piece} {t u : Tree} where
  pub grown_behind : Grown list a b start p t → Grown list b c p.end q u → Grown list a c start p t
  grown_behind g h =
      record {
        kept = h.kept ∙ g.kept;
        stays = stays_before b c start p.end (omega (arith, g.holds.begun)) h.stays ∙ g.stays;
        holds = still_holds list p.end h.stays (omega arith) g.holds;
      }

  pub grown_then : Grown list a b start p t → Grown list b c start q u → Grown list a c start q u
  grown_then g h = record { kept = h.kept ∙ g.kept; stays = h.stays ∙ g.stays; holds = h.holds }
