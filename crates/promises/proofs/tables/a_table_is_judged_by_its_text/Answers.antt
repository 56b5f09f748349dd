use Rattle.paper.proofs.TableJudged as Theorem
use Rattle.promises.proofs.tables.a_table_is_judged_by_its_text.Goals as goal

pub returns : goal.returns
returns c = Theorem.table_is_judged
