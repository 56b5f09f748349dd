-- `grammar::attribute` meets its contract: the name after "::" makes a node, or is missing.
use Rattle.std.proofs.Common.{◌+◌, ◌≡◌, refl, sym, ◌∙◌, true, arith}
use Rattle.paper.specs.Grammar as G
use Rattle.tokens.specs.Tape.{tape_of}
use Rattle.grammar.specs.Places.{place_on, word_on}
use Rattle.grammar.specs.Reading.{start_of, is_name}
use Rattle.grammar.proofs.Outcomes.{stuck_as, in_text_lem}
use Rattle.grammar.proofs.Atoms.{took_leaf, named_yes, named_no, name_here, name_kind, word_end, word_spells}
use Rattle.grammar.proofs.leaves.attribute.Goals as goal

pub returns-then-not-is_name : goal.returns-then-not-is_name
returns-then-not-is_name c =
    let from = start_of c.args.from.now in
    let T = tape_of c.args.text.now c.args.tape.now in
    let name = from.token + 1 in
    stuck_as T from.count name _ c.place_at.result c.place_at.ensures (named_no T from.count name (sym c.is_name.ensures ∙ c.if-not-is_name.true) _)

pub returns : goal.returns
returns c =
    let from = start_of c.args.from.now in
    let T = tape_of c.args.text.now c.args.tape.now in
    let n = from.count in
    let at = from.token in
    let name = at + 1 in
    let yes : is_name T n name ≡ true = sym c.is_name.ensures ∙ c.if-not-is_name.false in
    let here = name_here T n name yes in
    let kind = name_kind T n name yes in
    let stands = in_text_lem c.requires.ready.sound name here in
    took_leaf (G.attribute (place_on T at) (place_on T name) (word_on T name)) (at + 2) (name + 1) (omega arith) (named_yes T n name yes _) refl
    (rw (word_end T n name kind stands) c.put_attribute.ensures) (word_spells T n name kind stands) (omega arith) (omega (arith, here))
