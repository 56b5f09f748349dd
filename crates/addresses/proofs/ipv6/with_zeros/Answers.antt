-- Each group of zeros goes after those before it (`zero_more`).
use Rattle.std.proofs.Common.{◌≡◌, ◌+◌, ◌*◌, ◌%◌, ◌^◌, length, replicate, sym, arith, rules, mod-eq_of_lt}
use Rattle.std.proofs.lemmas.Fn.{fold_over}
use Rattle.std.proofs.lemmas.Iterator.{YieldsList-from_range}
use Rattle.std.proofs.lemmas.List.{length_push}
use Rattle.std.proofs.lemmas.List.FromFn.{length-range_with_len}
use Rattle.std.proofs.iter.Yields.{nat_range_steps}
use Rattle.std.specs.List.{range_with_len}
use Rattle.paper.specs.Numbers.{digits_after}
use Rattle.number.specs.Values.{value}
use Rattle.number.proofs.Limbs.{value_lt}
use Rattle.addresses.proofs.Digits.{zero_more}
use Rattle.addresses.proofs.ipv6.with_zeros.Goals as goal

pub returns : goal.returns
returns c =
    let before = c.args.before in
    let n = c.args.count in
    let all =
    fold_over nat_range_steps (λ x. x) _ (λ ys m. value m ≡ digits_after 65536 (value before) (replicate (length ys) 0) % 2 ^ 128) _
    (λ ys m x k f' j called.
    let grown : value k ≡ (value m * 65536 + 0) % 2 ^ 128 = search rules in
    (rw length_push (zero_more 65536 (2 ^ 128) (value before) (value m) (value k) (length ys) j grown), search rules))
    _ (range_with_len 0 n) before c.fold.result (YieldsList-from_range 0 n n (cc) (omega arith)).runs
    (sym (mod-eq_of_lt (value_lt before (search rules)))) c.fold.ensures.ran in
    rw length-range_with_len at all
