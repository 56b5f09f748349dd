-- The four bytes stand where they are set one by one (`four_bytes`, `copied`).
use Rattle.std.proofs.Common.{◌∙◌}
use Rattle.paper.specs.Numbers.{big_endian}
use Rattle.number.proofs.BigEndian.{copied, four_bytes}
use Rattle.number.proofs.bytes.put_word.Goals as goal

pub returns : goal.returns
returns c =
    let a = c.args in
    rw (c.copy_from_slice.ensures.after, c.to_be_bytes.ensures ∙ four_bytes a.n) (copied a.out.now (big_endian 4 a.n) a.at c.requires)
