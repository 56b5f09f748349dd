-- `grammar::keyed` meets its contract, by the token after the word: "::" makes it a field, "(" an address where the word names a
-- scheme, and anything else a key.
use Rattle.std.proofs.Common.{◌+◌, sym, ap, ◌∙◌}
use Rattle.paper.specs.Addresses.{scheme_of, address}
use Rattle.paper.specs.Grammar.{named, addressed}
use Rattle.addresses.specs.Reads as reads
use Rattle.tokens.specs.Tape.{tape_of}
use Rattle.grammar.specs.Reading.{start_of}
use Rattle.grammar.proofs.Outcomes.{found, absent, took_as, same_out, in_text_lem}
use Rattle.grammar.proofs.Atoms.{took_key, past_two, word_is, keyed_colons, keyed_plain, keyed_address, keyed_not}
use Rattle.grammar.proofs.leaves.keyed.Goals as goal

-- "::"
pub returns-in-Some : goal.returns-in-Some
returns-in-Some c =
    let from = start_of c.args.from.now in
    let T = tape_of c.args.text.now c.args.tape.now in
    same_out _ _ _ _ _ _ _ _
    (keyed_colons T from.count (from.token + 1) address _ _ (found c.next_in.ensures c.in-Some.is) ∙ ap (named _) (past_two T from.count from.token))
    c.field.result c.field.ensures

-- a key
pub returns-in_default-next_in : goal.returns-in_default-next_in
returns-in_default-next_in c =
    let from = start_of c.args.from.now in
    let T = tape_of c.args.text.now c.args.tape.now in
    let leads = c.requires.leads in
    let no_colons = absent _ _ _ _ _ c.next_in.ensures c.in_default.is in
    let no_opening = absent _ _ _ _ _ c.next_in-2.ensures c.in_default-next_in.is in
    took_as T from.count from.token from.node _ _ _ c.key_node.result c.key_node.ensures.0
    (took_key T from.count from.token c.requires.word (in_text_lem leads.ready.sound from.token leads.some) leads.some
    (keyed_not T from.count (from.token + 1) address _ _ no_colons no_opening (λ l. (in_text_lem leads.ready.sound (from.token + 1) l).known))
    c.key_node.ensures.1)

-- a word that names no scheme
pub returns-in_default-scheme_of : goal.returns-in_default-scheme_of
returns-in_default-scheme_of c =
    let from = start_of c.args.from.now in
    let T = tape_of c.args.text.now c.args.tape.now in
    let leads = c.requires.leads in
    let names = ap scheme_of (c.word_at.ensures ∙ sym (word_is T from.count from.token c.requires.word)) in
    took_as T from.count from.token from.node _ _ _ c.key_node-in_default-scheme_of.result c.key_node-in_default-scheme_of.ensures.0
    (took_key T from.count from.token c.requires.word (in_text_lem leads.ready.sound from.token leads.some) leads.some
    (keyed_plain T from.count (from.token + 1) address _ _ (found c.next_in-2.ensures c.in-Some-next_in.is)
    (sym names ∙ sym c.scheme_of.ensures ∙ ap reads.named c.in_default-scheme_of.is))
    c.key_node-in_default-scheme_of.ensures.1)

-- an address
pub returns : goal.returns
returns c =
    let from = start_of c.args.from.now in
    let T = tape_of c.args.text.now c.args.tape.now in
    let k = reads.scheme c.in-Some-scheme_of.scheme in
    let names = ap scheme_of (c.word_at.ensures ∙ sym (word_is T from.count from.token c.requires.word)) in
    same_out _ _ _ _ _ _ _ _
    (keyed_address T from.count (from.token + 1) address _ _ (found c.next_in-2.ensures c.in-Some-next_in.is) k
    (sym names ∙ sym c.scheme_of.ensures ∙ ap reads.named c.in-Some-scheme_of.is)
    ∙ ap (addressed address k _) (past_two T from.count from.token))
    c.addressed.result c.addressed.ensures
