-- `tokens::fix` meets its contract. The invariant of its loop (`Passing`): what is written, and what the rest of the text is to be written as, are
-- the whole result, and it is never longer than what was read. Each step is right (`right_as`): a piece is copied or written in hex, or the old
-- rules refuse the text. The measure is the number of bytes that are left: each turn takes one at least.
use Prim.Native.Nat.{◌≤◌}
use lib.ListN.{length}
use native.Mathlib.Omega.{arith}
use mathlib.Core.Path.{refl, ap, ◌∙◌}
use Rattle.std.specs.Prelude.{Ok}
use Rattle.number.specs.Bases.{literal_meant}
use Rattle.tokens.proofs.Rewriting.{right_as, passing_start, room_there, passing_on, passing_refused, all_stands, all_counted}
use Rattle.tokens.proofs.fixing.fix.Goals as goal

pub loop-at-init : goal.loop-at-init
loop-at-init c = (refl, passing_start _ _)

pub loop-at-preserved-in-Copied : goal.loop-at-preserved-in-Copied
loop-at-preserved-in-Copied c =
    let (kept, going) = c.loop-at.invariant in
    let found = c.scan-scanned in
    let on = right_as going.few c.loop-at-test.true (literal_meant found.result.literal) _ found.ensures c.by_old_rules.ensures (c.in-Ok.is ∙ ap Ok c.in-Copied.is) in
    (omega (arith, c.put-written.auto, kept), passing_on going (omega (arith, c.requires, kept)) on c.put-written.ensures)

pub put_hex-written-requires : goal.put_hex-written-requires
put_hex-written-requires c =
    let (kept, going) = c.loop-at.invariant in
    let found = c.scan-scanned in
    let on = right_as going.few c.loop-at-test.true (literal_meant found.result.literal) _ found.ensures c.by_old_rules.ensures (c.in-Ok.is ∙ ap Ok c.in-InHex.is) in
    room_there going (omega (arith, c.requires, kept)) on

pub loop-at-preserved : goal.loop-at-preserved
loop-at-preserved c =
    let (kept, going) = c.loop-at.invariant in
    let found = c.scan-scanned in
    let on = right_as going.few c.loop-at-test.true (literal_meant found.result.literal) _ found.ensures c.by_old_rules.ensures (c.in-Ok.is ∙ ap Ok c.in-InHex.is) in
    (omega (arith, c.put_hex-written.auto, kept), passing_on going (omega (arith, c.requires, kept)) on c.put_hex-written.ensures)

-- a refusal, and the end
pub returns-in-Err : goal.returns-in-Err
returns-in-Err c =
    let (kept, going) = c.loop-at.invariant in
    let found = c.scan-scanned in
    let stops = right_as going.few c.loop-at-test.true (literal_meant found.result.literal) _ found.ensures c.by_old_rules.ensures c.in-Err.is in
    record { says = passing_refused going (omega (arith, c.requires, kept)) stops; holds = tt }

pub returns : goal.returns
returns c =
    let (kept, going) = c.loop-at.invariant in
    let large : length c.args.text.now ≤ length c.loop-at.out = omega (arith, c.requires, kept) in
    let end = c.loop-at-test.false in
    record { says = all_counted going large end; holds = all_stands going large end }
