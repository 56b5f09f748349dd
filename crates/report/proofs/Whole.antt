-- A file that is counted a stretch at a time is counted as a whole: where whole entries were counted, the numbers of what comes next are added
-- (`reaches_more`), from none on (`reaches_none`); at the end they are the answer to a call with all of it (`answered`), which is 25 where there
-- are too many (`too_many`).
use Prim.Native.Nat.{ℕ, ◌+◌, ◌*◌, ◌≤◌, ◌<◌}
use Rattle.std.specs.Prelude.{Ok}
use native.Mathlib.Nat.{zero-div, zero-mod}
use native.Mathlib.Omega.{arith}
use mathlib.Core.Path.{◌≡◌, refl, sym, ap, ◌∙◌}
use mathlib.Core.List.{List, [], ◌∷◌, ◌++◌, map}
use lib.ListN.{length, get_or, replicate, length-map, length-replicate}
use borrow.Author.Tests.{lt-leb}
use Rattle.paper.specs.declared.Place.TheVariants as P
use Rattle.paper.specs.Answers.{ok, refusal}
use Rattle.paper.specs.Keys.{Key}
use Rattle.paper.specs.Parts.{Part}
use Rattle.paper.specs.Calls.{over}
use Rattle.paper.specs.Counting.{entry_size, whole_in, cut_in, laid_out, entries_in, false_of, Counts, counts_of, most_entries, counted, count_answer, count_numbers}
use Rattle.paper.specs.CountedRight.{together}
use Rattle.paper.proofs.EntriesLaid.{cut_both}
use Rattle.paper.proofs.CountedRight.{totals_add_up, chunks_add_up, counted_there, no_part_beyond_violated}
use Rattle.paper.proofs.Overwritten.{over_length, over_there}
use Rattle.keys.specs.Says.{keys_in}
use Rattle.parts.proofs.Stored.{each_length}
use Rattle.reading.specs.Parted.{PassedParts}
use Rattle.counting.specs.declared.total.Totals.{Totals}
use Rattle.counting.specs.Tallied.{Spare, Tells, raised}
use Rattle.report.specs.declared.course.Course.{Course}
use Rattle.report.specs.Reached.{Rule, rule_of, numbers_by, Reaches}
use Rattle.report.specs.Reports.{Reports}
use Rattle.report.proofs.Stretches.{over_over, raised_over, each_most}

-- no part is false on any of no entries
no_numbers : (ks : List Key) (ps : List Part) → map (false_of ks []) ps ≡ replicate (length ps) 0
no_numbers ks [] = refl
no_numbers ks (p ∷ ps) = ap (λ (l : List ℕ). 0 ∷ l) (no_numbers ks ps)

module _ (text list nodes rows : List ℕ) (n : ℕ) (p : PassedParts text list nodes rows n) where
  abbrev rule : Rule
  rule = rule_of text list nodes rows n p

  abbrev ks : List Key
  ks = keys_in list

  abbrev numbers : List ℕ → Counts
  numbers s = numbers_by rule s

  many : length rule.parts ≡ n
  many = each_length _ 0 n

  numbers_many : (s : List ℕ) → length (numbers s).parts ≡ n
  unfolding counts_of
  numbers_many s = length-map rule.parts _ ∙ many

  cut_bytes : (s : List ℕ) → cut_in ks s ≡ (numbers s).cut
  unfolding counts_of
  cut_bytes s = refl

  totals : (s : List ℕ) → (numbers s).accepted + (numbers s).violated + (numbers s).refused ≡ whole_in ks s
  totals s = totals_add_up ks rule.root rule.parts s

  -- of whole entries, and what comes behind them
  module _ (first rest : List ℕ) (whole : cut_in ks first ≡ 0) where
    both : numbers (first ++ rest) ≡ together (numbers first) (numbers rest)
    both = chunks_add_up ks rule.root rule.parts first rest whole

    pub whole_both : whole_in ks (first ++ rest) ≡ whole_in ks first + whole_in ks rest
    whole_both =
        let a = ap (λ (c : Counts). c.accepted) both in
        let v = ap (λ (c : Counts). c.violated) both in
        let r = ap (λ (c : Counts). c.refused) both in
        omega (arith, a, v, r, totals (first ++ rest), totals first, totals rest)

  -- a part is false on no more entries than there are
  part_few : (s : List ℕ) → whole_in ks s ≤ most_entries → (k : ℕ) → get_or (numbers s).parts k 0 ≤ whole_in ks s
  part_few s few k =
      let is = counted_there text list s _ p.rooted.passed rule.parts p.parted.are few in
      let below = each_most (numbers s).violated (numbers s).parts (no_part_beyond_violated text list s (numbers s) is) k in
      omega (arith, below, totals s)

  -- so there is room for as many more as may come
  pub spare : {base s after : List ℕ} {course : Course} (more : ℕ) → Reaches rule base s course after → course.whole + more ≤ most_entries → Spare n more after
  spare {base} {s} {after} more r few =
      let long : length after ≡ length base = ap (λ (l : List ℕ). length l) r.numbers ∙ over_length (numbers s).parts base (omega (arith, numbers_many s, many, r.room)) in
      record {
        there = omega (arith, long, many, r.room);
        below = λ k h.
            let here = ap (λ (l : List ℕ). get_or l k 0) r.numbers ∙ over_there (numbers s).parts base k (omega (arith, numbers_many s, h)) in
            omega (arith, here, part_few s (omega (arith, r.whole, few)) k, r.whole, few);
      }

  -- no total is above the number of entries
  pub totals_few : {base s after : List ℕ} {course : Course} → Reaches rule base s course after
      → (course.totals.accepted ≤ course.whole) × (course.totals.violated ≤ course.whole) × (course.totals.refused ≤ course.whole)
  totals_few {s = s} r = (
    omega (arith, r.accepted, r.whole, totals s),
    omega (arith, r.violated, r.whole, totals s),
    omega (arith, r.refused, r.whole, totals s),
  )

  pub told_few : (s : List ℕ) {before after : List ℕ} {t : Totals} → Tells (numbers s) before after t
      → (t.accepted ≤ whole_in ks s) × (t.violated ≤ whole_in ks s) × (t.refused ≤ whole_in ks s)
  told_few s t = (
    omega (arith, t.accepted, totals s),
    omega (arith, t.violated, totals s),
    omega (arith, t.refused, totals s),
  )

  module _ (s held : List ℕ) {base before after : List ℕ} {course : Course} {t : Totals} (r : Reaches rule base s course before)
      (whole : cut_in ks s ≡ 0) (told : Tells (numbers held) before after t)
    where
      grown : after ≡ over (numbers (s ++ held)).parts base
      grown =
          told.numbers
          ∙ ap (raised (numbers held).parts) r.numbers
          ∙ raised_over (numbers s).parts (numbers held).parts base (numbers_many held ∙ sym (numbers_many s)) (omega (arith, numbers_many s, many, r.room))
          ∙ ap (λ (c : Counts). over c.parts base) (sym (both s held whole))

      pub reaches_more : {now : Course} → now.whole ≡ course.whole + whole_in ks held → now.cut ≡ cut_in ks held
          → (now.totals.accepted ≡ course.totals.accepted + t.accepted) × (now.totals.violated ≡ course.totals.violated + t.violated) × (now.totals.refused ≡ course.totals.refused + t.refused)
          → Reaches rule base (s ++ held) now after
      reaches_more w c sums =
          let two = both s held whole in
          record {
            room = r.room;
            whole = omega (arith, w, r.whole, whole_both s held whole);
            cut = omega (arith, c, cut_both ks s held whole, whole);
            numbers = grown;
            accepted = omega (arith, sums.0, r.accepted, told.accepted, ap (λ (x : Counts). x.accepted) two);
            violated = omega (arith, sums.1, r.violated, told.violated, ap (λ (x : Counts). x.violated) two);
            refused = omega (arith, sums.2, r.refused, told.refused, ap (λ (x : Counts). x.refused) two);
          }

  -- from no byte on

  no_entries : entries_in ks [] ≡ []
  no_entries = ap (λ (k : ℕ). laid_out (entry_size ks) k []) (zero-div (entry_size ks))

  numbers_none : (numbers []).parts ≡ replicate n 0
  unfolding counts_of
  numbers_none =
      ap (λ (es : List (List ℕ)). map (false_of ks es) rule.parts) no_entries
      ∙ no_numbers ks rule.parts
      ∙ ap (λ (k : ℕ). replicate k 0) many

  module _ (entry base : List ℕ) (cleared : base ≡ over (replicate n 0) entry) where
    pub reaches_none : (course : Course)
        → (course.whole ≡ 0) × (course.cut ≡ 0) × (course.totals.accepted ≡ 0) × (course.totals.violated ≡ 0) × (course.totals.refused ≡ 0)
        → n ≤ length entry → Reaches rule base [] course base
    reaches_none course none there =
        let whole = zero-div (entry_size ks) in
        let zeros : List ℕ = replicate n 0 in
        let long = ap (λ (l : List ℕ). length l) cleared ∙ over_length zeros entry (omega (arith, length-replicate {A = ℕ} n 0, there)) in
        record {
          room = omega (arith, many, there, long);
          whole = omega (arith, none.0, whole);
          cut = omega (arith, none.1, zero-mod (entry_size ks));
          numbers =
              cleared
              ∙ sym (over_over zeros zeros entry refl)
              ∙ ap (λ (l : List ℕ). over zeros l) (sym cleared)
              ∙ ap (λ (l : List ℕ). over l base) (sym numbers_none);
          accepted = omega (arith, none.2, totals [], whole);
          violated = omega (arith, none.3, totals [], whole);
          refused = omega (arith, none.4, totals [], whole);
        }

    -- the file's end
    pub answered : (file after : List ℕ) (course : Course) → Reaches rule base file course after → course.whole ≤ most_entries
        → Reports text list file (Ok (record { parts = n; accepted = course.totals.accepted; violated = course.totals.violated; refused = course.totals.refused; cut = course.cut })) entry after
    unfolding count_answer count_numbers
    answered file after course r few =
        let is = counted_there text list file _ p.rooted.passed rule.parts p.parted.are (omega (arith, r.whole, few)) in
        let each = sym (numbers_many file) in
        let cut : course.cut ≡ (numbers file).cut = r.cut ∙ cut_bytes file in
        record {
          says =
              rw is
              (λ i. ok (record { parts = each i; accepted = r.accepted i; violated = r.violated i; refused = r.refused i; cut = cut i }));
          notes =
              rw is
              (r.numbers
              ∙ ap (λ (l : List ℕ). over (numbers file).parts l) cleared
              ∙ over_over (numbers file).parts (replicate n 0) entry (numbers_many file ∙ sym (length-replicate {A = ℕ} n 0)));
        }

  -- one entry too many
  pub too_many : (file entry after : List ℕ) (size : ℕ) → size ≡ entry_size ks → most_entries < whole_in ks file
      → Reports text list file (refusal 25 (P.Entry (most_entries * size))) entry after
  unfolding count_answer counted
  too_many file entry after size is beyond =
      rw is (record { says = rw (p.rooted.passed, p.parted.are, lt-leb (whole_in ks file) most_entries beyond); notes = tt })
