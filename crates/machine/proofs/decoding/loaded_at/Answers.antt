-- What is read as an instruction is the one that its operation names (`named_so`), and of thirteen operations twelve have an arm of
-- their own (`named_skip`).
use Rattle.std.proofs.Common.{◌≡◌, ◌+◌, sym, ap, ◌∙◌, arith}
use lib.Dec.{eqb}
use Rattle.paper.specs.Numbers.{byte_at, number_at}
use Rattle.paper.specs.Code.{Parts, parts_at, skip, first_byte, decode}
use Rattle.paper.specs.Loading.{instruction_at}
use Rattle.machine.proofs.Decoded.{first_byte_lem, named_skip}
use Rattle.machine.proofs.decoding.loaded_at.Goals as goal

pub returns-in_default : goal.returns-in_default
returns-in_default c left x e =
    let blocks = c.args.blocks.now in
    let at = c.place_of-at.result in
    let operand = c.two_bytes-operand in
    let constant = c.from_bytes-in_default in
    let p : Parts = record {
      operation = byte_at blocks at;
      detail = byte_at blocks (at + 1);
      operand = operand.result;
      constant = number_at blocks (at + 4) 16;
    } in
    let stand : parts_at blocks (instruction_at c.args.i) ≡ p = rw (← c.place_of-at.ensures, ← operand.ensures.0) in
    ap (λ to. skip (record { on = eqb p.detail 1; to = to; over = p.operand }))
    (first_byte_lem constant.result c.equal.ensures ∙ ap (λ n. eqb n first_byte) constant.ensures)
    ∙ named_skip left p x (ap (decode left) (sym stand) ∙ e)
    (λ low. omega arith)
