-- Which part comes last is never in doubt: a part's code leaves one value from nothing, so none of two such codes, as they are joined, ends with
-- the other. Of records too, since code in range reads back from them.
use Prim.Native.Nat.{ℕ, ◌+◌, ◌^◌, ◌≤◌, ◌<◌}
use native.Mathlib.Omega.{arith}
use mathlib.Core.Path.{◌≡◌, refl, sym, ap, ap₂, subst, ◌∙◌}
use mathlib.Core.Option.{Option, some, some-injective}
use mathlib.Core.List.{List, [], ◌∷◌, ◌++◌, map, map-append, append-nil, append_assoc, append_cancel_right, nil≢cons, head-eq_of_cons-eq, tail-eq_of_cons-eq}
use lib.ListN.{length}
use lib.Seq.{append_snoc}
use Rattle.paper.specs.Answers.{ok}
use Rattle.paper.specs.Keys.{Key}
use Rattle.paper.specs.Grammar.{Tree}
use Rattle.paper.specs.Types.{Ty, type_of}
use Rattle.paper.specs.Meaning.{both}
use Rattle.paper.specs.Code.{Instruction, connects, skip, encode, parts_at, instruction_named, most_held, ends}
use Rattle.paper.specs.Loading.{check_from}
use Rattle.paper.specs.Translating.{skip_for, code_of}
use Rattle.paper.specs.BlocksRoundTrip.{InRange, Ranged, Listed, NumbersFit}
use Rattle.paper.specs.CodeCorrect.{needs}
use Rattle.paper.specs.Comparing.{written, as_joined}
use Rattle.paper.proofs.Landings.{on_types, check_walks}
use Rattle.paper.proofs.RangedCode.{join_ranged}
use Rattle.paper.proofs.InstructionsRoundTrip.{named_back, bytes_back, parts_again}
use Rattle.paper.proofs.CodeInRange.{code_in_range}
use Rattle.paper.proofs.CodeCorrect.{code_pushes_type}
use Rattle.paper.proofs.Ends.{LeavesOne, nothing_before, one_end}

-- the instruction that a record is

abbrev read_record : List ℕ → Option Instruction
read_record r = instruction_named (parts_at r 0)

record_back : (left : ℕ) (i : Instruction) → InRange left i → read_record (encode i) ≡ some i
record_back left i h =
    let there = bytes_back left i h (encode i) [] 0 (sym (append-nil (encode i))) in
    ap instruction_named (sym (parts_again left (parts_at (encode i) 0) i there)) ∙ named_back i

records_back : (code : List Instruction) → Ranged code → map read_record (written code) ≡ map some code
records_back [] h = refl
records_back (i ∷ code) h = ap₂ ◌∷◌ (record_back (length code) i h.0) (records_back code h.1)

somes_same : (c d : List Instruction) → map some c ≡ map some d → c ≡ d
somes_same [] [] e = refl
somes_same [] (j ∷ d) e = absurd (nil≢cons e)
somes_same (i ∷ c) [] e = absurd (nil≢cons (sym e))
somes_same (i ∷ c) (j ∷ d) e =
    ap₂ ◌∷◌ (some-injective i j (head-eq_of_cons-eq e)) (somes_same c d (tail-eq_of_cons-eq e))

module _ (ks : List Key) where
  -- a part's code: it leaves one value, and can be written
  pub record Good (code : List Instruction) : Type 0 where
    pub whole : LeavesOne (map (on_types ks) (map some code))
    pub ranged : Ranged (as_joined code)

  pub code_good : (t : Tree) (a : Ty) → type_of ks t ≡ ok a → needs t ≤ most_held → Listed ks → NumbersFit t → length (code_of ks t) + 1 < 2 ^ 16
      → Good (code_of ks t)
  unfolding check_from
  code_good t a typed room listed fit few =
      let code = code_of ks t in
      let checks : check_from ks 0 (map some code) [] ≡ ends (a ∷ []) =
      ap (λ (c : List (Option Instruction)). check_from ks 0 c []) (sym (append-nil (map some code))) ∙ code_pushes_type ks t a typed [] (omega (arith, room)) 0 [] in
      record {
        whole = (a, check_walks ks (map some code) 0 0 [] (a ∷ []) checks);
        ranged = join_ranged both [] code few tt (code_in_range ks listed t fit (omega arith));
      }

  -- at the end of code

  abbrev Whole : List (Option Instruction) → Type 0
  Whole x = LeavesOne (map (on_types ks) x)

  none_before : (p x : List (Option Instruction)) → Whole (p ++ x) → Whole x → p ≡ []
  none_before [] x h g = refl
  none_before (i ∷ p) x h g =
      absurd (nil≢cons (sym (nothing_before (map (on_types ks) (i ∷ p)) (map (on_types ks) x) (subst LeavesOne (map-append (on_types ks) (i ∷ p) x) h) g)))

  -- what stands before the last part, with its skip
  abbrev up_to : List (List ℕ) → List Instruction → List (Option Instruction)
  up_to r d = map read_record r ++ (some (skip (skip_for both (length d))) ∷ [])

  read_joined : (r : List (List ℕ)) (d : List Instruction) → Ranged (as_joined d)
      → map read_record (r ++ written (as_joined d)) ≡ up_to r d ++ map some d ++ (some (connects both) ∷ [])
  read_joined r d ranged =
      let joins = d ++ (connects both ∷ []) in
      map-append read_record r (written (as_joined d))
      ∙ ap (λ (x : List (Option Instruction)). map read_record r ++ x) (records_back (as_joined d) ranged)
      ∙ sym (append_snoc (map read_record r) (some (skip (skip_for both (length d)))) (map some joins))
      ∙ ap (λ (x : List (Option Instruction)). up_to r d ++ x) (map-append some d (connects both ∷ []))
      ∙ sym (append_assoc (up_to r d) (map some d) (some (connects both) ∷ []))

  pub sole : (d e : List Instruction) (r s : List (List ℕ)) → Good d → Good e → r ++ written (as_joined d) ≡ s ++ written (as_joined e) → (d ≡ e) × (r ≡ s)
  sole d e r s g f h =
      let last : List (Option Instruction) = some (connects both) ∷ [] in
      let alike : up_to r d ++ map some d ≡ up_to s e ++ map some e =
      append_cancel_right (up_to r d ++ map some d) (up_to s e ++ map some e) last
      (sym (read_joined r d g.ranged) ∙ ap (map read_record) h ∙ read_joined s e f.ranged) in
      let same : d ≡ e = somes_same d e (one_end Whole none_before (up_to r d) (map some d) (up_to s e) (map some e) g.whole f.whole alike) in
      let ending = written (as_joined e) in
      (same, append_cancel_right r s ending (ap (λ (c : List Instruction). r ++ written (as_joined c)) (sym same) ∙ h))
