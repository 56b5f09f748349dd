-- The four divisions go from the highest limb down, each after what the one before it left over: the number is divided as a whole
-- (`quotient`, `remainder`).
use Rattle.number.specs.Values.{value}
use Rattle.number.proofs.Quotients.{quotient, remainder}
use Rattle.number.proofs.magnitude.Magnitude.divide.Goals as goal

pub returns : goal.returns
unfolding value
returns c =
    let n = c.args.self in
    let by = c.args.by in
    let d = c.divide_limb-d in
    let t = c.divide_limb-c in
    let s = c.divide_limb-b in
    let a = c.divide_limb-a in
    record {
      whole = quotient n by a.result s.result t.result d.result d.ensures t.ensures s.ensures a.ensures;
      rest = remainder n by a.result s.result t.result d.result d.ensures t.ensures s.ensures a.ensures;
    }
