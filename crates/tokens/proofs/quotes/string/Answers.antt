-- `tokens::string` meets its contract: the bytes up to a quote or the line's end, and the quote (`string_closed`).
use borrow.Author.Rules.{rules}
use Rattle.tokens.proofs.Quoting.{string_closed}
use Rattle.tokens.proofs.quotes.string.Goals as goal

pub returns : goal.returns
returns c =
    let given = c.args in
    string_closed given.text.now given.at c.run_end-end.result c.run_end-end.ensures (search rules) c.if-text-end-ne39.false
