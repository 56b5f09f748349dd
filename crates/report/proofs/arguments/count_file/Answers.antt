-- The part of the buffer that a turn fills holds whole entries.
use Prim.Native.Nat.{ℕ, ◌-◌, ◌*◌, ◌/◌, ◌%◌, ◌≤◌}
use native.Mathlib.Nat.{div-add-mod', mul-mod_left}
use native.Mathlib.Omega.{arith}
use mathlib.Core.Path.{◌≡◌, sym, ap, ap₂, ◌∙◌}
use mathlib.Core.List.{List}
use lib.ListN.{length, take}
use lib.Seq.{length-take-le}
use borrow.Author.Rules.{rules}
use Rattle.paper.specs.Counting.{entry_size, cut_in}
use Rattle.keys.specs.Says.{keys_in}
use Rattle.report.proofs.arguments.count_file.Goals as goal

multiple : (size : ℕ) → (65536 - 65536 % size) % size ≡ 0
multiple size =
    let e = div-add-mod' 65536 size in
    let f : 65536 - 65536 % size ≡ 65536 / size * size = omega (arith, e) in
    ap (λ (m : ℕ). m % size) f ∙ mul-mod_left (65536 / size) size

whole_part : (list buffer : List ℕ) (want size : ℕ) → want ≤ length buffer → want ≡ 65536 - 65536 % size → size ≡ entry_size (keys_in list)
    → cut_in (keys_in list) (take want buffer) ≡ 0
whole_part list buffer want size within is of_size =
    ap₂ (λ (m : ℕ) (k : ℕ). m % k) (length-take-le want buffer within ∙ is) (sym of_size) ∙ multiple size

pub count_turns-counted-requires-clause-part_value :
    goal.count_turns-counted-requires-clause-part_value
count_turns-counted-requires-clause-part_value g c =
    whole_part c.args.parted.list.now _ c.whole_entries-want.result c.entry_size.result (search rules) c.whole_entries-want.ensures.0 c.entry_size.ensures
