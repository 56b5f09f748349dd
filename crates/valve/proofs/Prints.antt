-- From the stages' answers to that of `print`, and from what was written to scratch to what is lent.
use Prim.Native.Nat.{ℕ, ◌-◌, ◌≤◌, ◌<◌}
use Rattle.std.specs.Prelude.{Result, Ok, Err}
use Rattle.paper.specs.declared.Refusal.{Refusal}
use native.Mathlib.Omega.{arith}
use mathlib.Core.Path.{◌≡◌, subst}
use mathlib.Core.List.{List}
use lib.ListN.{length, take}
use borrow.Author.Tests.{le-leb, lt-leb, le-ltb}
use Rattle.paper.specs.declared.Place.TheVariants as P
use Rattle.paper.specs.Answers.{refusal, refused_by}
use Rattle.paper.specs.Tokens.{most_text}
use Rattle.paper.specs.Grammar.{Tree}
use Rattle.paper.specs.Print.{rung, looser, enclosed, print}
use Rattle.paper.specs.Calls.{tree, over, printable, print_answer, print_buffer}
use Rattle.paper.specs.Promised.{PrintResult, PrintPromised}
use Rattle.trees.specs.Standing.{tree_at}
use Rattle.printing.specs.Writing.{Wrote}
use Rattle.printing.proofs.FromTheStart.{Whole, came_to_the_end, came_past_the_room}
use Rattle.reading.specs.Grown.{Planted}
use Rattle.valve.specs.Lent.{Lent}

-- a refusal leaves the buffer
abbrev pub unprinted : Refusal → List ℕ → PrintResult
unprinted v buffer = record { answer = Err v; buffer = buffer }

-- bytes that are lent, or not

module _ (new buffer : List ℕ) where
  pub over_scratch : most_text < length new → Lent new buffer (unprinted (record { number = 21; place = P.Buffer (length buffer) }) buffer)
  over_scratch h = record { says = rw (lt-leb (length new) most_text h); holds = rw (lt-leb (length new) most_text h) }

  pub over_buffer : length new ≤ most_text → length buffer < length new → Lent new buffer (unprinted (record { number = 21; place = P.Buffer (length buffer) }) buffer)
  over_buffer few h =
      record {
        says = rw (le-leb (length new) most_text few, lt-leb (length new) (length buffer) h);
        holds = rw (le-leb (length new) most_text few, lt-leb (length new) (length buffer) h);
      }

  pub lent_whole : length new ≤ most_text → length new ≤ length buffer
      → Lent new buffer (record { answer = Ok (length new); buffer = over new buffer })
  lent_whole few room =
      record {
        says = rw (le-leb (length new) most_text few, le-leb (length new) (length buffer) room);
        holds = rw (le-leb (length new) most_text few, le-leb (length new) (length buffer) room);
      }

-- a print written to a scratch of the limit's length, as far as that went
module _ {scratch written : List ℕ} {n : ℕ} (t : Tree) (limit : length scratch ≡ most_text)
    (writes : Wrote scratch 0 (enclosed (looser 0 t) (print t)) written n) (buffer : List ℕ) where
  -- nothing is looser than the loosest rung
  writes_print : Wrote scratch 0 (print t) written n
  writes_print = subst (λ b. Wrote scratch 0 (enclosed b (print t)) written n) (le-ltb (rung t) 0 (omega arith)) writes

  whole : n ≤ most_text → Whole scratch (print t) written n
  whole few = came_to_the_end writes_print (omega (arith, limit, few))

  pub past_the_limit : most_text < n → (answer : Result ℕ Refusal) → answer ≡ refusal 21 (P.Buffer (length buffer))
      → Lent (print t) buffer (record { answer = answer; buffer = buffer })
  past_the_limit many answer e =
      let over-it = came_past_the_room writes_print (omega (arith, limit, many)) in
      rw e (over_scratch (print t) buffer (omega (arith, limit, over-it)))

  pub past_the_buffer : n ≤ most_text → length buffer < n → (answer : Result ℕ Refusal) → answer ≡ refusal 21 (P.Buffer (length buffer))
      → Lent (print t) buffer (record { answer = answer; buffer = buffer })
  past_the_buffer few h answer e =
      let w = whole few in
      rw e (over_buffer (print t) buffer (omega (arith, limit, w.room)) (omega (arith, h, w.count)))

  -- what is written fits the scratch
  pub written_there : n ≤ most_text → n ≤ length written
  written_there few = omega (arith, few, limit, writes.kept)

  pub lent_first : n ≤ most_text → n ≤ length buffer → (exit : List ℕ) → exit ≡ over (take n written) buffer
      → Lent (print t) buffer (record { answer = Ok n; buffer = exit })
  lent_first few h exit e =
      let w = whole few in
      rw (e, w.bytes, w.count) (lent_whole (print t) buffer (omega (arith, limit, w.room)) (omega (arith, h, w.count)))

-- by the stages of the call
module _ (text buffer : List ℕ) where
  pub too_long : most_text < length text → PrintPromised text buffer (unprinted (record { number = 1; place = P.Text most_text }) buffer)
  unfolding print_answer print_buffer printable
  too_long h = record { says = rw (lt-leb (length text) most_text h); holds = rw (lt-leb (length text) most_text h) }

  pub not_printed : length text ≤ most_text → (v : Refusal) → tree text ≡ refused_by v → PrintPromised text buffer (unprinted v buffer)
  unfolding print_answer print_buffer printable
  not_printed h v e = record { says = rw (le-leb (length text) most_text h, e); holds = rw (le-leb (length text) most_text h, e) }

  pub is_printed : length text ≤ most_text → {nodes : List ℕ} {m : ℕ} → Planted text nodes m → (result : PrintResult)
      → Lent (print (tree_at text nodes (m - 1))) buffer result → PrintPromised text buffer result
  unfolding print_answer print_buffer printable
  is_printed h g result lent =
      record { says = rw (le-leb (length text) most_text h, g.read) lent.says; holds = rw (le-leb (length text) most_text h, g.read) lent.holds }
