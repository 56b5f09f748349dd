-- `==` compares the bytes head by head, and so does the paper (`same_bytes_eq`).
use Rattle.std.proofs.Common.{◌∙◌}
use Rattle.spelling.proofs.Steps.{same_bytes_eq}
use Rattle.spelling.proofs.bytes.same_bytes.Goals as goal

pub returns : goal.returns
returns c = c.eq.ensures ∙ same_bytes_eq c.args.a.now c.args.b.now
