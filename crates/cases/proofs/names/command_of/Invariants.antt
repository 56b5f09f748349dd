-- `cases::names::command_of` meets its contract. The invariant of its loop: the first command of all whose word this is, is the first of those
-- from here on, since those before have other words.
use Rattle.std.proofs.Common.{◌≡◌, drop}
use Rattle.cases.specs.Names.{first_of, command_of}
use Rattle.cases.proofs.names.command_of.Given as goal

abbrev pub invariant-loop-command : goal.invariant-loop-command
invariant-loop-command l = first_of (drop l.command-index l.command-items) l.word ≡ command_of l.word
