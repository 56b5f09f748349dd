-- What a call leaves in the bytes lent for its third input: calls 4, 7, 11 and 12 alone write, into the first n of them.
use Rattle.std.specs.Prelude.{ℕ, cond, List, ◌++◌, length, take, drop, eqb, leb}
use Rattle.paper.specs.Calls.{translate_buffer, print_buffer}
use Rattle.paper.specs.Fixing.{fix_buffer}
use Rattle.answers.specs.Tables.{after_draft}

-- what a call leaves in its buffer, or in its third input
abbrev pub written : ℕ → List ℕ → List ℕ → List ℕ → List ℕ
written call text list buffer =
    cond (eqb call 4) (translate_buffer text list buffer)
    (cond (eqb call 7) (print_buffer text buffer)
    (cond (eqb call 11) (fix_buffer text buffer) (cond (eqb call 12) (after_draft text list buffer) buffer)))

abbrev pub after_call : ℕ → List ℕ → List ℕ → List ℕ → ℕ → List ℕ
after_call call text list third n = cond (leb n (length third)) (written call text list (take n third) ++ drop n third) third
