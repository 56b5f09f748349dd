-- Bytes gathered by "or" are 0 exactly where each of them is (`gathered_zero`).
use Rattle.std.proofs.Common.{◌≡◌, ap, ◌∙◌, nat_eq, bit_or, rules}
use Rattle.std.specs.List.{fold}
use Rattle.spelling.proofs.Steps.{gathered_zero}
use Rattle.spelling.proofs.bytes.all_zero.Goals as goal

pub returns : goal.returns
returns c =
    let gathered : c.fold.result ≡ fold bit_or 0 c.args.s.now = search rules in
    ap (λ n. nat_eq n 0) gathered ∙ gathered_zero c.args.s.now 0
