-- Each wrong count fails at a short text with no keys: `false; false` on one entry; `true` on one that is refused, and on one that is cut;
-- `(true; false); true` on one entry. The program that writes parts first fails at `true` with 1,000,001 entries, whose list is never computed: its
-- length is all that is asked of it.
use Prim.Native.Nat.{ℕ, zero, suc, ◌*◌, ◌^◌, ◌≤◌, ◌<◌}
use native.Mathlib.Omega.{arith}
use mathlib.Core.Path.{◌≡◌, refl, sym, ap, subst, ◌∙◌}
use mathlib.Core.Bool.{true}
use mathlib.Core.List.{List, [], ◌∷◌, ◌++◌, append_assoc}
use lib.ListN.{length, replicate, length-replicate, length-map}
use lib.Dec.{lit<, leb}
use borrow.Author.Tests.{leb-true, le-leb}
use Rattle.paper.specs.Answers.{Answer, ok, refused, ◌>>=◌, in_entry}
use Rattle.paper.specs.Numbers.{big_endian}
use Rattle.paper.specs.Tokens.{bytes}
use Rattle.paper.specs.Entry.{entry_of}
use Rattle.paper.specs.Meaning.{value_of}
use Rattle.paper.specs.Calls.{Restriction, restriction, over}
use Rattle.paper.specs.BlocksRoundTrip.{All}
use Rattle.paper.specs.Parts.{Part, parts, most_parts}
use Rattle.paper.specs.Counting.{entry_size, whole_in, cut_in, entries_in, false_of, judged, Counts, Totals, totals_of, counts_of, most_entries, counted, line_feed, in_decimal, line, part_lines, cut_line, count_lines, output_for, count_output}
use Rattle.paper.specs.Promised.{Bytes, PartNumbers}
use Rattle.paper.specs.Demands.{Countable, counts_in}
use Rattle.tried.specs.WrongCounters.{Counter, CountsAllRight, Rule, NumbersBy, first_only, CountsFirst, with_refused, CountsRefused, along_spine, CountsBySpine, one_more_refused, CountsCut, Reporter, ReportsRight, WritesPartsFirst, ReportsFewRight, WrongCountersFail}
use Rattle.paper.proofs.Stages.{ok_same}
use Rattle.paper.proofs.ByteLists.{all_bytes, all_bytes_lem, zero_bytes}
use Rattle.paper.proofs.DemandTwo.{restricts, restriction_checkable}

-- numbers that can be lent

zero_numbers : (n : ℕ) → All (λ m. m < 2 ^ 64) (replicate n 0)
zero_numbers zero = tt
zero_numbers (suc n) = (lit< tt, zero_numbers n)

abbrev zeros : List ℕ
zeros = replicate most_parts 0

zeros_lent : PartNumbers zeros
zeros_lent = record { many = length-replicate {A = ℕ} most_parts 0; each = zero_numbers most_parts }

-- a text, and a file with no keys

module _ (text entries : List ℕ) where
  -- that pass, with few entries
  record Tried : Type 0 where
    small : all_bytes text ≡ true
    file : all_bytes entries ≡ true
    r : Restriction
    passed : restriction text [] ≡ ok r
    ps : List Part
    divided : parts text ≡ ok ps
    few : leb (whole_in r.keys entries) most_entries ≡ true

  -- so they can be counted, by that restriction

  abbrev countable : (t : Tried) → Countable text [] entries
  countable t =
      let (c, same) = restriction_checkable text [] t.r t.passed in
      let few = leb-true (whole_in t.r.keys entries) most_entries t.few in
      record {
        passes = c;
        ps = t.ps;
        divided = t.divided;
        few = subst (λ (r : Restriction). whole_in r.keys entries ≤ most_entries) (sym same) few;
      }

  same_rule : (t : Tried) → restricts text [] (countable t).passes ≡ t.r
  same_rule t = (restriction_checkable text [] t.r t.passed).1

  -- what is right and a rule come to the same numbers
  abbrev BothWrite : Rule → List Part → Restriction → Type 0
  BothWrite rule ps r =
      over (counts_of r.keys r.root ps entries).parts zeros ≡ over (rule r.keys r.root ps (entries_in r.keys entries)) zeros

  -- as they do in a count that is right and goes by the rule
  both : (rule : Rule) (x : Counter) → NumbersBy rule x → CountsAllRight x → (t : Tried) → BothWrite rule t.ps t.r
  both rule x says all t =
      let c = countable t in
      let bt = all_bytes_lem text t.small in
      let be = all_bytes_lem entries t.file in
      let right = (all text [] entries zeros bt tt be zeros_lent).written c in
      let wrong = says text [] entries zeros bt tt be zeros_lent c in
      subst (BothWrite rule t.ps) (same_rule t) (sym right ∙ wrong)

-- the entries: one that conforms, one of a priority that breaks its rule, and one that is cut

abbrev good : List ℕ
good = big_endian 4 0

abbrev bad : List ℕ
bad = big_endian 4 (2 ^ 31)

abbrev short : List ℕ
short = 0 ∷ []

first_fails : (x : Counter) → CountsFirst x → ¬ CountsAllRight x
unfolding restriction parts counts_of entry_of value_of
first_fails x says all =
    let t : Tried (bytes "false; false") good =
    record { small = refl; file = refl; r = _; passed = refl; ps = _; divided = refl; few = refl } in
    let same : ◌≡◌ {A = List ℕ} (over (1 ∷ 1 ∷ []) zeros) (over (1 ∷ 0 ∷ []) zeros) = both (bytes "false; false") good first_only x says all t in
    let z : ◌≡◌ {A = ℕ} 1 0 = cc same in
    omega arith

refused_fails : (x : Counter) → CountsRefused x → ¬ CountsAllRight x
unfolding restriction parts counts_of judged
refused_fails x says all =
    let t : Tried (bytes "true") bad = record { small = refl; file = refl; r = _; passed = refl; ps = _; divided = refl; few = refl } in
    let same : ◌≡◌ {A = List ℕ} (over (0 ∷ []) zeros) (over (1 ∷ []) zeros) = both (bytes "true") bad with_refused x says all t in
    let z : ◌≡◌ {A = ℕ} 0 1 = cc same in
    omega arith

spine_fails : (x : Counter) → CountsBySpine x → ¬ CountsAllRight x
unfolding restriction parts counts_of judged
spine_fails x says all =
    let t : Tried (bytes "(true; false); true") good =
    record { small = refl; file = refl; r = _; passed = refl; ps = _; divided = refl; few = refl } in
    let same : ◌≡◌ {A = List ℕ} (over (1 ∷ 0 ∷ []) zeros) (over (0 ∷ 1 ∷ 0 ∷ []) zeros) =
    both (bytes "(true; false); true") good along_spine x says all t in
    let z : ◌≡◌ {A = ℕ} 1 0 = cc same in
    omega arith

cut_fails : (x : Counter) → CountsCut x → ¬ CountsAllRight x
unfolding restriction parts
cut_fails x says all =
    let t : Tried (bytes "true") short = record { small = refl; file = refl; r = _; passed = refl; ps = _; divided = refl; few = refl } in
    let c = countable (bytes "true") short t in
    let counts = counts_in (bytes "true") [] short c in
    let bt = all_bytes_lem (bytes "true") refl in
    let be = all_bytes_lem short refl in
    let cut : 0 < cut_in c.passes.ks short =
    subst (λ (r : Restriction). 0 < cut_in r.keys short) (sym (same_rule (bytes "true") short t)) (lit< tt) in
    let right = (all (bytes "true") [] short zeros bt tt be zeros_lent).totals c in
    let wrong = says (bytes "true") [] short zeros bt tt be zeros_lent c cut in
    let same = ok_same (totals_of counts) (one_more_refused counts) (sym right ∙ wrong) in
    omega (arith, ap (λ (n : Totals). n.refused) same)

-- parts first: a file of one entry too many

abbrev too_long : ℕ
too_long = suc most_entries * entry_size []

module _ (s : List ℕ) (long : length s ≡ too_long) where
  too_many : counted (bytes "true") [] s ≡ refused 25 in_entry (most_entries * entry_size [])
  unfolding counted
  too_many = rw long

  only_refusal : count_output (bytes "true") [] s ≡ bytes "refusal 25" ++ (line_feed ∷ [])
  unfolding count_output
  only_refusal = rw too_many

-- its first byte is no part's
not_a_part : (n : ℕ) (ns rest : List ℕ) → bytes "refusal 25" ++ (line_feed ∷ []) ≡ part_lines 1 (n ∷ ns) ++ rest → ⊥
not_a_part n ns rest e =
    let z : ◌≡◌ {A = ℕ} 114 112 = cc e in
    omega arith

-- some file of a length
record Long (n : ℕ) : Type 0 where
  file : List ℕ
  small : Bytes file
  long : length file ≡ n

of_length : (n : ℕ) → Long n
of_length n = record { file = replicate n 0; small = zero_bytes n; long = length-replicate {A = ℕ} n 0 }

parts_first_fails : (x : Reporter) → WritesPartsFirst x → ¬ ReportsRight x
unfolding restriction parts
parts_first_fails x writes right =
    let s = of_length too_long in
    let bt = all_bytes_lem (bytes "true") refl in
    let lines = writes (bytes "true") [] s.file bt tt s.small _ refl _ refl in
    let told = right (bytes "true") [] s.file bt tt s.small ∙ only_refusal s.file s.long in
    go lines.numbers lines.rest lines.each (sym told ∙ lines.written)
  where
    go : (ns rest : List ℕ) → length ns ≡ 1 → bytes "refusal 25" ++ (line_feed ∷ []) ≡ part_lines 1 ns ++ rest → ⊥
    go [] rest each e = omega (arith, each)
    go (n ∷ ns) rest each e = not_a_part n ns rest e

-- a real one: it counts on, whatever there is

counting_on : List ℕ → List ℕ → List ℕ → Answer Counts
counting_on text list entries = restriction text list >>= λ r. parts text >>= λ ps. ok (counts_of r.keys r.root ps entries)

reporter : Reporter
reporter text list entries = output_for (counting_on text list entries)

-- what stands after the lines of parts
module _ (c : Counts) where
  abbrev accepted : List ℕ
  accepted = line "accepted" (in_decimal c.accepted)

  abbrev violated : List ℕ
  violated = line "violated" (in_decimal c.violated)

  abbrev last_lines : List ℕ
  last_lines = line "refused" (in_decimal c.refused) ++ cut_line c.cut

  parts_lead : count_lines c ≡ part_lines 1 c.parts ++ (accepted ++ (violated ++ last_lines))
  parts_lead =
      let ns = part_lines 1 c.parts in
      append_assoc (ns ++ accepted ++ violated) (line "refused" (in_decimal c.refused)) (cut_line c.cut)
      ∙ append_assoc (ns ++ accepted) violated last_lines
      ∙ append_assoc ns accepted (violated ++ last_lines)

reporter_writes : WritesPartsFirst reporter
unfolding counting_on reporter counts_of
reporter_writes text list entries _ _ _ r passed ps divided =
    let c = counts_of r.keys r.root ps entries in
    record {
      numbers = c.parts;
      each = length-map ps (false_of r.keys (entries_in r.keys entries));
      rest = accepted c ++ (violated c ++ last_lines c);
      written = rw (passed, divided) (parts_lead c);
    }

reporter_right : ReportsFewRight reporter
unfolding counting_on reporter count_output counted
reporter_right text list entries _ _ _ r passed few = rw (passed, le-leb (whole_in r.keys entries) most_entries few)

pub wrong_counters_fail : WrongCountersFail
wrong_counters_fail =
    record {
      first = first_fails;
      refused = refused_fails;
      spine = spine_fails;
      cut = cut_fails;
      parts_first = parts_first_fails;
      parts_first_is_real = (reporter, reporter_writes, reporter_right);
    }
