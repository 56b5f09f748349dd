-- `translating::changes_at` meets its contract: both operands have types, which `shallow_type` tells; they change where these meet, and
-- otherwise stay as they are.
use mathlib.Core.Path.{◌≡◌, sym}
use Rattle.paper.proofs.Stages.{ok_same}
use Rattle.values.specs.Typed.{ty_meant}
use Rattle.translating.proofs.Conversions.{never_met, met}
use Rattle.translating.proofs.change.changes_at.Goals as goal

pub returns-in_default-meet : goal.returns-in_default-meet
returns-in_default-meet c text l m =
    let left : ty_meant c.in-Ok.s ≡ l.type = ok_same _ _ (c.in-Ok.ensures text l.marked l.type l.typed) in
    let right : ty_meant c.in-Ok-shallow_type.t ≡ m.type = ok_same _ _ (c.in-Ok-shallow_type.ensures text m.marked m.type m.typed) in
    rw (← left, ← right) (never_met _ _ (sym c.in_default-meet.ensures))

pub returns : goal.returns
returns c text l m =
    let left : ty_meant c.in-Ok.s ≡ l.type = ok_same _ _ (c.in-Ok.ensures text l.marked l.type l.typed) in
    let right : ty_meant c.in-Ok-shallow_type.t ≡ m.type = ok_same _ _ (c.in-Ok-shallow_type.ensures text m.marked m.type m.typed) in
    rw (← left, ← right)
    (met _ _ (ty_meant c.in-Some.m) (record { left = c.change_to.result; right = c.change_to-2.result }) (sym c.in-Some.ensures)
    c.change_to.ensures c.change_to-2.ensures)
