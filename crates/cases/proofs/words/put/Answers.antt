-- What is put so far, and what is spelled from here on, are all that is spelled. Once the room is full the rest changes nothing.
use Rattle.std.proofs.Common.{ℕ, ◌+◌, List, ◌∷◌, [], ◌++◌, sym, ap, ◌∙◌, append_assoc, arith, rules}
use mathlib.Core.List.{append-nil}
use Rattle.cases.specs.Words.{spelled}
use Rattle.cases.proofs.Lists.{spelled_on, spelled_none}
use Rattle.cases.proofs.Rooms.{put_as, put_byte, put_more}
use Rattle.cases.proofs.words.put.Goals as goal

pub loop-i-preserved : goal.loop-i-preserved
loop-i-preserved g c =
    let l = c.loop-i in
    let a = c.args in
    let done = l.invariant.1.0 in
    let v = c.in_ok-room.field-0 in
    let on = spelled_on a.width a.stretch.s.now l.i a.stretch.to c.requires.0 c.requires.1 c.loop-i-test.true in
    let next = ap (λ (x : ℕ). x ∷ spelled a.width a.stretch.s.now (l.i + a.width) a.stretch.to) c.in_ok-room.ensures ∙ sym on in (
      search rules,
      (done ++ (v ∷ []), put_more l.invariant.1.1 (put_byte l.room l.end v (omega (arith, c.if-room-end.false))), append_assoc done (v ∷ []) _ ∙ ap (λ (r : List ℕ). done ++ r) next ∙ l.invariant.1.2),
    )

pub returns-clause-written : goal.returns-clause-written
returns-clause-written g c =
    let l = c.loop-i in
    let a = c.args in
    let done = l.invariant.1.0 in
    let none = spelled_none a.width a.stretch.s.now l.i a.stretch.to c.requires.0 c.requires.1 c.loop-i-test.false in
    put_as (sym (append-nil done) ∙ sym (ap (λ (r : List ℕ). done ++ r) none) ∙ l.invariant.1.2) l.invariant.1.1
