-- The loop over the tokens: the stretches in the rows, and those from the next token on, are all that the tape has.
use Prim.Native.Nat.{ℕ, suc, ◌+◌, ◌*◌, ◌-◌, ◌≤◌, ◌<◌}
use native.Mathlib.Nat.{sub-zero}
use native.Mathlib.Omega.{arith}
use mathlib.Core.Path.{◌≡◌, sym, ap, ◌∙◌}
use mathlib.Core.Bool.{Bool, true, false, cond}
use mathlib.Core.List.{List, ◌++◌, append_assoc, append-nil}
use lib.ListN.{set}
use lib.Dec.{eqb}
use borrow.Author.Tests.{eq-eqb, ne_eqb}
use Rattle.paper.specs.Tokens.{opening, closing}
use Rattle.paper.specs.Parts.{Stretch}
use Rattle.tokens.specs.Tape.{kind_at, start_at, end_at, sign_no}
use Rattle.parts.specs.Rows.{row_at, Has, each, stretches_on}
use Rattle.parts.specs.Cutting.{kind_divides, kind_opens, stretched, stretches, Closed}
use Rattle.parts.proofs.Stored.{stretch_stored}

-- a part that ends

pub closed_none : (tape rows : List ℕ) (first past n : ℕ) → first ≡ past → 2 * n ≤ first → Closed tape rows rows first past n n
closed_none tape rows first past n e few =
    record { says = rw (eq-eqb first past e) (sym (append-nil (stretches_on rows n))); few = omega arith }

pub closed_one : (tape rows after : List ℕ) (first past n : ℕ) → (first ≡ past → ⊥) → first ≤ past → 2 * n ≤ first → Has rows n
    → after ≡ set (set rows (row_at n) (start_at tape first)) (row_at n + 1) (end_at tape (past - 1))
    → Closed tape rows after first past n (n + 1)
closed_one tape rows after first past n d h few room put =
    record {
      says = rw (ne_eqb first past d) (stretch_stored rows after n (start_at tape first) (end_at tape (past - 1)) room put);
      few = omega arith;
    }

-- before the token of index i

pub record Going (tape : List ℕ) (count : ℕ) (rows : List ℕ) (n first depth i : ℕ) : Type 0 where
  pub begun : first ≤ i
  pub inside : i ≤ count
  pub few : 2 * n ≤ first
  pub level : depth ≤ i
  pub says : stretches_on rows n ++ stretches tape first depth i (count - i) ≡ stretches tape 0 0 0 count

pub going_start : (tape : List ℕ) (count : ℕ) (rows : List ℕ) → Going tape count rows 0 0 0 0
unfolding each
going_start tape count rows =
    record {
      begun = omega arith;
      inside = omega arith;
      few = omega arith;
      level = omega arith;
      says = ap (stretches tape 0 0 0) (sub-zero count);
    }

-- a "(" opens one more, and no other token does
opens_one : (depth kind : ℕ) → kind_opens depth kind ≤ depth + 1
opens_one depth kind = go (eqb kind (sign_no opening)) (eqb kind (sign_no closing))
  where
    go : (opens closes : Bool) → cond opens (depth + 1) (cond closes (depth - 1) depth) ≤ depth + 1
    go true closes = omega arith
    go false true = omega arith
    go false false = omega arith

module _ (tape : List ℕ) (count : ℕ) (rows : List ℕ) (n first depth i : ℕ) (g : Going tape count rows n first depth i) (h : i < count) where
  abbrev later : ℕ
  later = count - (i + 1)

  -- what the token of index i makes of those from it on
  here : (b : Bool) → kind_divides depth (kind_at tape i) ≡ b
      → stretches tape first depth i (count - i)
      ≡ cond b (stretched tape first i ++ stretches tape (i + 1) depth (i + 1) later) (stretches tape first (kind_opens depth (kind_at tape i)) (i + 1) later)
  unfolding stretches
  here b e =
      let more : count - i ≡ suc later = omega arith in
      rw (more, e)

  pub going_divided : (after : List ℕ) (m : ℕ) → kind_divides depth (kind_at tape i) ≡ true → Closed tape rows after first i n m
      → Going tape count after m (i + 1) depth (i + 1)
  going_divided after m e c =
      let rest = stretches tape (i + 1) depth (i + 1) later in
      record {
        begun = omega arith;
        inside = omega arith;
        few = c.few;
        level = omega (arith, g.level);
        says =
            ap (λ (l : List Stretch). l ++ rest) c.says
            ∙ append_assoc (stretches_on rows n) (stretched tape first i) rest
            ∙ ap (λ (l : List Stretch). stretches_on rows n ++ l) (sym (here true e))
            ∙ g.says;
      }

  pub going_on : kind_divides depth (kind_at tape i) ≡ false → Going tape count rows n first (kind_opens depth (kind_at tape i)) (i + 1)
  going_on e =
      record {
        begun = omega (arith, g.begun);
        inside = omega arith;
        few = g.few;
        level = omega (arith, g.level, opens_one depth (kind_at tape i));
        says = ap (λ (l : List Stretch). stretches_on rows n ++ l) (sym (here false e)) ∙ g.says;
      }

-- after the last

pub going_end : (tape : List ℕ) (count : ℕ) (rows after : List ℕ) (n first depth i m : ℕ) → Going tape count rows n first depth i → count ≤ i
    → Closed tape rows after first count n m → stretches_on after m ≡ stretches tape 0 0 0 count
unfolding stretches
going_end tape count rows after n first depth i m g h c =
    let none : count - i ≡ 0 = omega arith in
    let same : i ≡ count = omega (arith, g.inside) in
    c.says ∙ rw (none, same) at g.says
