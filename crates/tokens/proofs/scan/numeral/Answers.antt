-- The run of letters and digits is a numeral that fits, one that is too large, or none.
use Rattle.std.proofs.Common.{refl, ◌∙◌, rules}
use Rattle.tokens.proofs.Scans.{stands_as, numeral_fits, numeral_large, numeral_none}
use Rattle.tokens.proofs.scan.numeral.Goals as goal

pub returns-in-Ok : goal.returns-in-Ok
returns-in-Ok c =
    let end = c.run_end-end in
    stands_as c.fitting.ensures.0 c.fitting.ensures.1 refl
    (numeral_fits c.args.text.now c.args.at end.result (search rules) end.ensures c.in-Ok.read c.in-Ok.ensures)

pub returns-in-Err-TooLarge : goal.returns-in-Err-TooLarge
returns-in-Err-TooLarge c =
    let end = c.run_end-end in
    stands_as (c.unnumbered.ensures.0 ∙ c.too_large.ensures) c.unnumbered.ensures.1 refl
    (numeral_large c.args.text.now c.args.at end.result (search rules) end.ensures c.in-Err-TooLarge.notation (rw c.in-Err-TooLarge.field-0-is at c.in-Err-TooLarge.ensures))

pub returns-in-Err-NoNumeral : goal.returns-in-Err-NoNumeral
returns-in-Err-NoNumeral c =
    let end = c.run_end-end in
    let found = c.unnumbered-in-Err-NoNumeral.ensures in
    stands_as found.0 found.1 refl
    (numeral_none c.args.text.now c.args.at end.result (search rules) end.ensures (rw c.in-Err-NoNumeral.field-0-is at c.in-Err-NoNumeral.ensures))
