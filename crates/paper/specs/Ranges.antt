-- 02 b, "A port range of one port is refused": what its condition changes. "01 copied 004's range condition. .. The condition becomes
-- low <= high, also for the range made from a number. .. no other refusal changes."
use Rattle.std.specs.Prelude.{ℕ, ◌^◌, ◌<◌, ◌≡◌, Bool, true, false, not, ◌&&◌, ◌||◌, eqb, ltb}
use Rattle.paper.specs.Keys.{Kind, range}
use Rattle.paper.specs.Entry.{Match, kind_rule}
use Rattle.paper.specs.Meaning.{one_value}

-- 004's condition, as 01 had it: "low < high, or both 0"
abbrev pub range_before : Match → Bool
range_before m = eqb m.length 0 && (ltb m.first m.second || eqb m.first 0 && eqb m.second 0)

-- a range of one port; that of port 0 was taken before
abbrev pub one_port : Match → Bool
one_port m = eqb m.length 0 && (eqb m.first m.second && not (eqb m.first 0))

-- "no other refusal changes": taken is what was taken before, and besides exactly the ranges of one port, of which none was
pub record OnlyWider : Type 0 where
  pub taken : (w : ℕ) (m : Match) → kind_rule range w m ≡ (range_before m || one_port m)
  pub newly : (m : Match) → (range_before m && one_port m) ≡ false

-- "also for the range made from a number": the match of one value keeps its kind's rule, whatever the kind
abbrev pub OneValueConforms : Type 0
OneValueConforms = (k : Kind) (w n : ℕ) → n < 2 ^ w → kind_rule k w (one_value k w n) ≡ true
