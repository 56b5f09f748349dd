-- Each example of a number that keeps or loses bits is computed from the definitions.
use mathlib.Core.Path.{refl}
use Rattle.paper.specs.Blocks.{blocks_of}
use Rattle.paper.specs.Calls.{read_answer, check_answer, judge_answer, translate_answer, translate_buffer, load_answer, run_answer}
use Rattle.paper.specs.Explained.{explain_answer}
use Rattle.paper.specs.Named.{summary_answer}
use Rattle.paper.specs.Rechecking.{recheck_answer}
use Rattle.tried.specs.BitsExamples.{AtWidths, Sides, ByCalls, OldBlock, BitsExamples}

at_widths : AtWidths
unfolding check_answer
at_widths =
    record {
      one = refl;
      eight = refl;
      all_but_one = refl;
      all = refl;
      narrow_address = refl;
      ipv4_less_one = refl;
      ipv4 = refl;
      mac_less_one = refl;
      mac = refl;
      ipv6_less_one = refl;
      ipv6 = refl;
    }

on_sides : Sides
unfolding check_answer
on_sides =
    record {
      keys_pass = refl;
      keys_refuse = refl;
      left_of_keys = refl;
      fields_pass = refl;
      fields_refuse = refl;
      orders_pass = refl;
      orders_refuse = refl;
      exact_orders = refl;
    }

by_calls : ByCalls
unfolding read_answer check_answer judge_answer translate_answer translate_buffer explain_answer summary_answer recheck_answer
by_calls =
    record {
      reads = refl;
      checks = refl;
      judges = refl;
      translates = refl;
      unchanged = refl;
      explains = refl;
      summarizes = refl;
      rechecks = refl;
      listed = refl;
    }

old_block : OldBlock
unfolding translate_buffer load_answer run_answer blocks_of
old_block = record { loads = refl; runs = refl; of_the_rest = refl }

pub bits_examples : BitsExamples
unfolding check_answer judge_answer
bits_examples =
    record {
      at_widths = at_widths;
      on_sides = on_sides;
      at_places = refl;
      of_others = refl;
      in_order = refl;
      not_judged = refl;
      on_the_marked_entry = refl;
      by_calls = by_calls;
      of_old_block = old_block;
    }
