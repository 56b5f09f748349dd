-- `grammar::leaf` meets its contract, by the kind of the token: what each begins, and a refusal of all others.
use Rattle.std.proofs.Common.{◌+◌, ◌<◌, ◌≡◌, refl, sym, ◌∙◌, inl, inr, arith}
use Rattle.paper.specs.Grammar as G
use Rattle.tokens.specs.Tape.{tape_of, kind_at, literal_at}
use Rattle.grammar.specs.Places.{place_on}
use Rattle.grammar.specs.Reading.{start_of}
use Rattle.grammar.proofs.Outcomes.{stuck_as, deep_as, took_as, same_out, in_text_lem}
use Rattle.grammar.proofs.Atoms.{took_leaf, leaf_word, leaf_numeral, leaf_deep, leaf_colons, leaf_none, leaf_end}
use Rattle.grammar.proofs.leaves.leaf.Goals as goal
use Rattle.grammar.proofs.leaves.leaf.Goals.{in_default-via-then-kind-lt13, in_default-via-else-kind-lt13+else-kind-lt16}

pub returns-then-count-at : goal.returns-then-count-at
returns-then-count-at c =
    let from = start_of c.args.from.now in
    stuck_as _ from.count from.token _ c.place_at.result c.place_at.ensures (leaf_end _ from.count from.token c.if-count-at.true)

pub returns-in-0 : goal.returns-in-0
returns-in-0 c =
    same_out _ _ _ _ _ _ _ _ (leaf_word _ _ _ c.if-count-at.false (sym c.kind_at-kind.ensures ∙ c.in-0.is)) c.word.result c.word.ensures

pub returns-in-1 : goal.returns-in-1
returns-in-1 c =
    let from = start_of c.args.from.now in
    let T = tape_of c.args.text.now c.args.tape.now in
    let here : from.token < from.count = c.if-count-at.false in
    let o = c.numeral.ensures in
    took_as T from.count from.token from.node _ _ _ c.numeral.result o.0
    (took_leaf (G.number (place_on T from.token) (literal_at T.rows from.token)) (from.token + 1) (from.token + 1) refl
    (leaf_numeral T from.count from.token here (sym c.kind_at-kind.ensures ∙ c.in-1.is)) refl o.1 tt (omega arith) (omega arith))

pub returns-in-17 : goal.returns-in-17
returns-in-17 c =
    same_out _ _ _ _ _ _ _ _ (leaf_colons _ _ _ c.if-count-at.false (sym c.kind_at-kind.ensures ∙ c.in-17.is)) c.attribute.result c.attribute.ensures

pub returns-in-13 : goal.returns-in-13
returns-in-13 c =
    let from = start_of c.args.from.now in
    let T = tape_of c.args.text.now c.args.tape.now in
    let here : from.token < from.count = c.if-count-at.false in
    deep_as T from.count from.token _ c.place_at-in-13.result c.place_at-in-13.ensures here
    (leaf_deep T from.count from.token here (omega (arith, c.kind_at-kind.ensures)) (omega (arith, c.kind_at-kind.ensures)))

pub returns-in_default : goal.returns-in_default
returns-in_default c =
    let from = start_of c.args.from.now in
    let T = tape_of c.args.text.now c.args.tape.now in
    let here : from.token < from.count = c.if-count-at.false in
    let k : kind_at T.rows from.token ≡ c.kind_at-kind.result = sym c.kind_at-kind.ensures in
    stuck_as T from.count from.token _ c.place_at-in_default.result c.place_at-in_default.ensures
    (leaf_none T from.count from.token here (λ e. omega arith) (λ e. omega arith) (λ e. omega arith)
    (elim c.in_default.branch [ in_default-via-then-kind-lt13 w ↦ inl (omega arith) | in_default-via-else-kind-lt13+else-kind-lt16 w ↦ inr (omega arith) ])
    (in_text_lem c.requires.sound from.token here).known)
