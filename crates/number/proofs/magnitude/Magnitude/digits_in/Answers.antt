-- Why the bytes are the numeral: before each turn, the digits that are left to write and the bytes from the end on make up the whole numeral
-- (`numeral_with`), and there is room for all that are left. A turn cuts seven off a number of several limbs, which has more (`cut_whole`,
-- `room_for_it`); the digits of the last limb come before them.
use Rattle.std.proofs.Common.{◌≡◌, ℕ, ◌/◌, ◌%◌, ◌^◌, ◌<◌, ◌≤◌, refl, ◌∙◌, append-nil, lt_of_lt_of_le, mod-lt, arith, rules}
use native.Mathlib.Nat.{one-le-pow, pow-le-pow_left}
use Rattle.paper.specs.Print.{numeral_in}
use Rattle.number.specs.Values.{value}
use Rattle.number.proofs.Limbs.{value_lt}
use Rattle.number.proofs.Cuts.{room_for_it, shorter, cut_whole}
use Rattle.number.proofs.magnitude.Magnitude.digits_in.Goals as goal

abbrev base : goal.Start → ℕ
base l = l.args.base

pub loop-left-init : goal.loop-left-init
loop-left-init c = (
  omega arith,
  refl,
  lt_of_lt_of_le (value_lt c.args.self (search rules)) (pow-le-pow_left c.requires.0 128),
  append-nil (numeral_in c.args.base (value c.args.self)),
)

abbrev base_2 : goal.After-bytes-1 → ℕ
base_2 l = l.args.base

abbrev left : goal.After-bytes-1 → ℕ
left l = value l.loop-left.left

-- a number of several limbs has seven digits to cut off
two_limbs : (c : goal.After-bytes-1) → 2 ^ 32 ≤ left c
two_limbs c = c.is_long.ensures.1 c.loop-left-test.true

two : (c : goal.After-bytes-1) → 2 ≤ base_2 c
two c = c.requires.0

most : (c : goal.After-bytes-1) → base_2 c ≤ 16
most c = c.requires.1

room : (c : goal.After-bytes-1) → 7 ≤ c.loop-left.end
room c = room_for_it (base_2 c) (left c) (two c) (most c) (two_limbs c) c.loop-left.end c.loop-left.invariant.2

some_power : (c : goal.After-bytes-1) → 0 < base_2 c ^ 7
some_power c = one-le-pow 7 (base_2 c) (omega (arith, (two c)))

-- what was cut off is below the power
cut_is : (d : goal.After-bytes-1) → (d.cut-d.result.rest ≡ left d % base_2 d ^ 7)
cut_is d = d.cut-d.ensures.rest

pub put_seven-requires : goal.put_seven-requires
put_seven-requires c =
    record { le_base = (two c, most c, rw (cut_is c) (mod-lt (left c) (some_power c))); le_end = (room c, omega (arith, c.loop-left.invariant.0, c.loop-left.invariant.1)) }

abbrev base_3 : goal.After-bytes-in-loop-left-1 → ℕ
base_3 l = l.args.base

abbrev left_2 : goal.After-bytes-in-loop-left-1 → ℕ
left_2 l = value l.loop-left.left

-- a number of several limbs has seven digits to cut off
two_limbs_2 : (c : goal.After-bytes-in-loop-left-1) → 2 ^ 32 ≤ left_2 c
two_limbs_2 c = c.is_long.ensures.1 c.loop-left-test.true

two_2 : (c : goal.After-bytes-in-loop-left-1) → 2 ≤ base_3 c
two_2 c = c.requires.0

most_2 : (c : goal.After-bytes-in-loop-left-1) → base_3 c ≤ 16
most_2 c = c.requires.1

room_2 : (c : goal.After-bytes-in-loop-left-1) → 7 ≤ c.loop-left.end
room_2 c = room_for_it (base_3 c) (left_2 c) (two_2 c) (most_2 c) (two_limbs_2 c) c.loop-left.end c.loop-left.invariant.2

pub overflow_sub-end : goal.overflow_sub-end
overflow_sub-end c = room_2 c

abbrev base_4 : goal.After-left-1 → ℕ
base_4 l = l.args.base

abbrev left_3 : goal.After-left-1 → ℕ
left_3 l = value l.loop-left.left

-- a number of several limbs has seven digits to cut off
two_limbs_3 : (c : goal.After-left-1) → 2 ^ 32 ≤ left_3 c
two_limbs_3 c = c.is_long.ensures.1 c.loop-left-test.true

two_3 : (c : goal.After-left-1) → 2 ≤ base_4 c
two_3 c = c.requires.0

most_3 : (c : goal.After-left-1) → base_4 c ≤ 16
most_3 c = c.requires.1

room_3 : (c : goal.After-left-1) → 7 ≤ c.loop-left.end
room_3 c = room_for_it (base_4 c) (left_3 c) (two_3 c) (most_3 c) (two_limbs_3 c) c.loop-left.end c.loop-left.invariant.2

-- what was cut off is below the power
cut_is_2 : (d : goal.After-left-1) → (d.cut-d.result.rest ≡ left_3 d % base_4 d ^ 7)
cut_is_2 d = d.cut-d.ensures.rest

left_is : (d : goal.After-left-1) → (value d.cut-d.result.number ≡ left_3 d / base_4 d ^ 7)
left_is d = d.cut-d.ensures.whole

pub loop-left-smaller : goal.loop-left-smaller
loop-left-smaller c = omega (arith, room_3 c)

pub loop-left-preserved : goal.loop-left-preserved
loop-left-preserved c = (
  omega (arith, c.loop-left.invariant.0),
  omega (arith, c.put_seven.auto, c.loop-left.invariant.1),
  rw (left_is c) (shorter (base_4 c) (left_3 c) (two_3 c) (most_3 c) (two_limbs_3 c) c.loop-left.end c.loop-left.invariant.2),
  rw (left_is c)
      (cut_whole (base_4 c) (left_3 c) (two_3 c) (most_3 c) (two_limbs_3 c) c.loop-left.end c.loop-left.bytes _ (rw (cut_is_2 c) at c.put_seven.ensures)
      ∙ c.loop-left.invariant.3),
)
