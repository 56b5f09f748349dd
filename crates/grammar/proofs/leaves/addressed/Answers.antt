-- `grammar::addressed` meets its contract: a string after the "(", what the address of its scheme is, and a ")" after it.
use Rattle.std.proofs.Common.{◌+◌, ◌-◌, ◌≡◌, refl, sym, ap, ap₂, ◌∙◌, arith}
use mathlib.Core.Option.{none, some}
use lib.Seq.{sets, slice}
use Rattle.paper.specs.Tokens.{Literal, literal_in, plain}
use Rattle.paper.specs.Addresses.{address}
use Rattle.paper.specs.Grammar as G
use Rattle.number.specs.Values.{value}
use Rattle.number.specs.Bases.{base_meant, literal_meant}
use Rattle.number.specs.declared.base.Base.{Base}
use Rattle.number.specs.declared.magnitude.Magnitude.{Magnitude}
use Rattle.addresses.specs.Reads.{scheme}
use Rattle.tokens.specs.Tape.{tape_of, start_at, end_at}
use Rattle.trees.specs.Words.{words}
use Rattle.grammar.specs.Places.{place_on, node_at}
use Rattle.grammar.specs.Reading.{start_of}
use Rattle.grammar.proofs.Outcomes.{found, absent, stuck_as, bad_as, same_out}
use Rattle.grammar.proofs.Atoms.{took_leaf, addressed_here, addressed_not}
use Rattle.grammar.proofs.Operands.{close_on}
use Rattle.grammar.proofs.leaves.addressed.Goals as goal

pub returns-in_default : goal.returns-in_default
returns-in_default c =
    let from = start_of c.args.from.now in
    let T = tape_of c.args.text.now c.args.tape.now in
    let quote = from.token + 2 in
    stuck_as T from.count quote _ c.place_at.result c.place_at.ensures
    (addressed_not T from.count quote address (scheme c.args.scheme) _ (absent _ _ _ _ _ c.next_in.ensures c.in_default.is))

pub returns-in_default-read : goal.returns-in_default-read
returns-in_default-read c =
    let from = start_of c.args.from.now in
    let T = tape_of c.args.text.now c.args.tape.now in
    let quote = from.token + 2 in
    let kind = scheme c.args.scheme in
    let f = found c.next_in.ensures c.in-Some.is in
    let bytes = slice (start_at T.rows quote + 1) (end_at T.rows quote - 1) T.text in
    let e : address kind bytes ≡ none = ap (address kind) (sym c.string_at.ensures) ∙ sym c.in_default-read.ensures in
    bad_as T from.count quote _ c.place_at-in_default-read.result c.place_at-in_default-read.ensures f.here
    (addressed_here T from.count quote address kind _ f ∙ rw e)

pub returns : goal.returns
returns c =
    let from = start_of c.args.from.now in
    let T = tape_of c.args.text.now c.args.tape.now in
    let n = from.count in
    let at = from.token in
    let free = from.node in
    let quote = at + 2 in
    let kind = scheme c.args.scheme in
    let f = found c.next_in.ensures c.in-Some.is in
    let bytes = slice (start_at T.rows quote + 1) (end_at T.rows quote - 1) T.text in
    let m = c.in-Some-read.number in
    let e : address kind bytes ≡ some (value m) = ap (address kind) (sym c.string_at.ensures) ∙ sym c.in-Some-read.ensures in
    -- as a plain number
    let stored : literal_meant c.plain.result ≡ plain (value m) = ap₂ (λ (b : Base) (m : Magnitude). literal_in (base_meant b) (value m)) c.plain.ensures.0 c.plain.ensures.1 in
    same_out T n at free _ _ _ _ (addressed_here T n quote address kind _ f ∙ rw e) c.close.result
    (close_on T n at at free _ _ _ (free + 1) (quote + 1)
    (took_leaf (G.number (place_on T at) (plain (value m))) (quote + 1) (quote + 1) refl refl refl
    (c.put_number.ensures ∙ ap (λ (l : Literal). sets c.args.nodes.now (node_at free) (words free (G.number (place_on T at) l))) stored)
    tt (omega arith) (omega (arith, f.here)))
    (omega arith) c.close.result c.close.ensures)
