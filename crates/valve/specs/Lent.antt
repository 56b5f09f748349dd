-- What is answered, and what the buffer holds, where bytes were to be lent there.
use Rattle.std.specs.Prelude.{ℕ, ◌≡◌, List, length}
use Rattle.paper.specs.Answers.{ok, ◌>>=◌, says}
use Rattle.paper.specs.Calls.{lends, laid}
use Rattle.paper.specs.Promised.{PrintResult, DraftResult}

pub record Lent (new buffer : List ℕ) (r : PrintResult) : Type 0 where
  pub says : says r.answer ≡ (lends new buffer >>= λ s. ok (length s))
  pub holds : r.buffer ≡ laid (lends new buffer) buffer

-- the same of a contract's text
pub record LentDraft (new buffer : List ℕ) (r : DraftResult) : Type 0 where
  pub says : says r.answer ≡ (lends new buffer >>= λ s. ok (length s))
  pub holds : r.buffer ≡ laid (lends new buffer) buffer
