-- The rows have the parts: their stretches are those of the paper's parts, and the trees at their roots are the parts' own, since the text's
-- tree is those trees, joined from the left (`text_is_its_parts`).
use Prim.Native.Nat.{ℕ, zero, suc, ◌≤◌, ◌<◌}
use native.Mathlib.Nat.{zero-add}
use native.Mathlib.Omega.{arith}
use mathlib.Core.Path.{◌≡◌, refl, sym, ap, subst, ◌∙◌}
use mathlib.Core.List.{List, ◌∷◌, map}
use lib.ListN.{length, length-map}
use Rattle.paper.specs.Answers.{ok}
use Rattle.paper.specs.Tokens.{Token}
use Rattle.paper.specs.BlocksRoundTrip.{All}
use Rattle.paper.specs.Parts.{top_level, stretch_of, Part, parts, most_parts}
use Rattle.paper.specs.PartsDecide.{roots}
use Rattle.paper.proofs.Stages.{ok_same}
use Rattle.paper.proofs.PartsCut.{Made, no_part, a_part, parts_made, text_is_its_parts}
use Rattle.paper.proofs.PartsInText.{as_many}
use Rattle.tokens.specs.Tape.{tape_of, tokens_on}
use Rattle.trees.specs.Standing.{tree_at}
use Rattle.parts.specs.Rows.{stretch_at, root_at, part_at, each, stretches_on, roots_on, parts_on}
use Rattle.parts.specs.Cutting.{stretches}
use Rattle.parts.specs.Spine.{Rooted}
use Rattle.parts.specs.Found.{ReadAs, Finds}
use Rattle.parts.proofs.Stored.{each_length, each_all}
use Rattle.parts.proofs.Stretches.{cut_as_top_level}
use Rattle.parts.proofs.Roots.{roots_are, spine_below}

-- rows with the stretches and the roots of parts have the parts
module _ (text nodes rows : List ℕ) where
  rows_are : (k n : ℕ) {qs : List (List Token)} {ps : List Part} → Made text (suc k) qs ps → each (stretch_at rows) k n ≡ map (stretch_of text) qs
      → map (tree_at text nodes) (each (root_at rows) k n) ≡ roots ps → each (part_at text nodes rows) k n ≡ ps
  unfolding each
  rows_are k zero no_part s r = refl
  rows_are k zero (a_part p t read more) s r = absurd (omega (arith, ap length s))
  rows_are k (suc n) no_part s r = absurd (omega (arith, ap length s))
  rows_are k (suc n) (a_part p t read more) s r =
      let stretch : stretch_at rows k ≡ stretch_of text p = cc in
      let root : tree_at text nodes (root_at rows k) ≡ t = cc in
      let rest = rows_are (suc k) n more (cc) (cc) in
      λ j. record { number = suc k; root = root j; stretch = stretch j } ∷ rest j

module _ (tape : List ℕ) (count : ℕ) (nodes : List ℕ) (root : ℕ) (rows after : List ℕ) (n : ℕ)
    (cut : stretches_on rows n ≡ stretches tape 0 0 0 count) (rooted : Rooted nodes root rows after n)
  where
    parts_are : (text : List ℕ) → ReadAs text tape count nodes root → parts text ≡ ok (parts_on text nodes after n)
    parts_are text r =
        let (ps, have, joins) = text_is_its_parts text (tree_at text nodes root) r.tree in
        let (ts, tokenized, made) = parts_made text ps have in
        let same : tokens_on (tape_of text tape) 0 count ≡ ts = ok_same _ _ (sym r.tokens ∙ tokenized) in
        let stretched : stretches_on after n ≡ map (stretch_of text) (top_level ts) =
        rooted.kept ∙ cut ∙ cut_as_top_level text tape count r.cut ∙ ap (λ (us : List Token). map (stretch_of text) (top_level us)) same in
        let many : length (roots ps) ≡ n =
        length-map ps (λ (p : Part). p.root) ∙ as_many made ∙ sym (length-map (top_level ts) (stretch_of text))
        ∙ ap length (sym stretched) ∙ each_length (stretch_at after) 0 n in
        let trees : map (tree_at text nodes) (roots_on after n) ≡ roots ps =
        ap (map (tree_at text nodes)) rooted.roots ∙ roots_are text nodes n root refl joins many in
        have ∙ ap ok (sym (rows_are text nodes after 0 n made stretched trees))

    lower : (k : ℕ) → k < n → root_at after k ≤ root
    lower k h =
        let all : All (λ r. r ≤ root) (roots_on after n) = subst (All (λ r. r ≤ root)) (sym rooted.roots) (spine_below nodes n root) in
        rw zero-add at (each_all (λ r. r ≤ root) (root_at after) 0 n all k h)

    pub found : n ≤ most_parts → Finds tape count nodes root after n
    found few = record { few = few; below = lower; are = parts_are }
