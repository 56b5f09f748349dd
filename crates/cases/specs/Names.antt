-- The commands, each by its word.
use Rattle.std.specs.Prelude.{ℕ, Bool, cond, List, [], ◌∷◌, Option, None, Some}
use denote.Enum.Bare.{sameb}
use Rattle.cases.specs.contracts.names.Command.{the_type}
use Rattle.paper.specs.Tokens.{bytes, same_bytes}
use Rattle.cases.specs.Places.{part_of, name_end}
use Rattle.cases.specs.declared.names.Command.{Command}
use Rattle.cases.specs.declared.names.Command.TheVariants as C

-- the word of a command
abbrev pub word_of : Command → List ℕ
word_of C.Text = bytes "text"
word_of C.List = bytes "list"
word_of C.Entry = bytes "entry"
word_of C.Old = bytes "old"
word_of C.Earlier = bytes "earlier"
word_of C.Table = bytes "table"
word_of C.Answers = bytes "answers"
word_of C.Room = bytes "room"
word_of C.Title = bytes "title"
word_of C.Change = bytes "change"
word_of C.Show = bytes "show"
word_of C.Every = bytes "every"
word_of C.Code = bytes "code"
word_of C.Blocks = bytes "blocks"
word_of C.Translate = bytes "translate"
word_of C.Print = bytes "print"
word_of C.FixOctal = bytes "fix_octal"
word_of C.Pact = bytes "pact"
word_of C.Read = bytes "read"
word_of C.Check = bytes "check"
word_of C.Judge = bytes "judge"
word_of C.Explain = bytes "explain"
word_of C.Summarize = bytes "summarize"
word_of C.Recheck = bytes "recheck"
word_of C.Compare = bytes "compare"
word_of C.Count = bytes "count"
word_of C.Load = bytes "load"
word_of C.Run = bytes "run"
word_of C.RunAll = bytes "run_all"

abbrev pub commands : List Command
commands = C.Text ∷ C.List ∷ C.Entry ∷ C.Old ∷ C.Earlier ∷ C.Table ∷ C.Answers ∷ C.Room ∷ C.Title ∷ C.Change ∷ C.Show ∷ C.Every ∷ C.Code ∷ C.Blocks ∷ C.Translate ∷ C.Print ∷ C.FixOctal ∷ C.Pact ∷ C.Read ∷ C.Check ∷ C.Judge ∷ C.Explain ∷ C.Summarize ∷ C.Recheck ∷ C.Compare ∷ C.Count ∷ C.Load ∷ C.Run ∷ C.RunAll ∷ []

-- the first of some commands whose word this is
abbrev pub first_of : List Command → List ℕ → Option Command
first_of [] word = None
first_of (c ∷ cs) word = cond (same_bytes (word_of c) word) (Some c) (first_of cs word)

-- the command whose word this is; none of another word
abbrev pub command_of : List ℕ → Option Command
command_of word = first_of commands word

-- the command of the line at an offset
abbrev pub command_at : List ℕ → ℕ → Option Command
command_at file at = command_of (part_of file at (name_end file at))

-- what `==` says of two commands
abbrev pub same_command : Command → Command → Bool
same_command = sameb the_type
