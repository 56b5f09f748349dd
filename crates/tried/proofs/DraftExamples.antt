-- Each example of a contract is computed from the definitions.
use mathlib.Core.Path.{refl}
use Rattle.paper.specs.Contract.{clauses}
use Rattle.paper.specs.Drafting.{draftable, draft_answer, draft_buffer}
use Rattle.tried.specs.DraftExamples.{AllOpcodes, InOrder, Lent, Meant, DraftExamples}

opcodes : AllOpcodes
unfolding draftable clauses
opcodes = record { comparators = refl; conjunctions = refl; no_other_comparator = refl; no_other_conjunction = refl }

in_order : InOrder
unfolding draft_answer
in_order = record { length_first = refl; names_first = refl; table_first = refl; contract_first = refl; buffer_last = refl }

lent : Lent
unfolding draft_answer draft_buffer
lent =
    record {
      exact = refl;
      exact_holds = refl;
      short = refl;
      short_unchanged = refl;
      later_stays = refl;
      empty = refl;
      empty_holds = refl;
      empty_short = refl;
      refused_unchanged = refl;
    }

meant : Meant
unfolding clauses
meant =
    record {
      equal = refl;
      greater = refl;
      at_least = refl;
      not_equal = refl;
      at_most = refl;
      less = refl;
      input_greater = refl;
      both = refl;
      either = refl;
      one_only = refl;
      not_both = refl;
      neither = refl;
      alike = refl;
      clauses_too = refl;
      nothing = refl;
    }

pub draft_examples : DraftExamples
unfolding draftable draft_answer
draft_examples =
    record {
      documents = refl;
      opcodes = opcodes;
      joined = refl;
      faults = refl;
      names = refl;
      with_tables = refl;
      in_order = in_order;
      lent = lent;
      at_limits_lem = refl;
      at_limit_of_bytes = refl;
      meant = meant;
    }
