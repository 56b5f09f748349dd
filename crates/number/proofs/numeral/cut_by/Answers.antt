-- Seven factors of at most 16 are below 2^32.
use Rattle.std.proofs.Common.{◌*◌, ◌≤◌, mul-le-mul, arith}
use Rattle.number.proofs.Cuts.{seventh}
use Rattle.number.proofs.numeral.cut_by.Goals as goal

square_fits : (s : goal.Start) → s.args.base * s.args.base ≤ 16 * 16
square_fits s = mul-le-mul s.requires s.requires

cube_fits : (s : goal.Start) → s.args.base * s.args.base * s.args.base ≤ 16 * 16 * 16
cube_fits s = mul-le-mul (square_fits s) s.requires

sixth_fits : (s : goal.Start) → (let cube = s.args.base * s.args.base * s.args.base in cube * cube ≤ 4096 * 4096)
sixth_fits s = mul-le-mul (cube_fits s) (cube_fits s)

seventh_fits : (s : goal.Start) → (let cube = s.args.base * s.args.base * s.args.base in cube * cube * s.args.base ≤ 4096 * 4096 * 16)
seventh_fits s = mul-le-mul (sixth_fits s) s.requires

pub overflow_mul-result : goal.overflow_mul-result
overflow_mul-result c = record { fits = omega (arith, sixth_fits c) }

pub overflow_mul-result-2 : goal.overflow_mul-result-2
overflow_mul-result-2 c = record { fits = omega (arith, seventh_fits c) }

pub returns : goal.returns
returns c = seventh c.args.base
