-- Each wrong translation fails at a short contract of two names and one number: `a == 1` NAND `b == 1`, `a == 1` OR `b == 1` AND `a == 1`,
-- `a == 1` XOR `b == 1`, and `a == 1` with `b == 1` in a clause of its own. Its text is not the one that demand 2 has there.
use Prim.Native.Nat.{ℕ, ◌≤◌}
use Rattle.std.specs.Prelude.{Ok}
use native.Mathlib.Omega.{arith}
use mathlib.Core.Path.{◌≡◌, refl, sym, ap, ◌∙◌}
use mathlib.Core.Bool.{false}
use mathlib.Core.List.{List, [], ◌∷◌, ◌++◌, map}
use lib.ListN.{length, get_or, take, replicate, length-replicate}
use lib.Seq.{take_at}
use lib.Dec.{lit<}
use borrow.Author.Tests.{le-leb}
use Rattle.paper.specs.Answers.{Answer, ok, refused, ◌>>=◌, refusal}
use Rattle.paper.specs.Tokens.{bytes, most_text, most_tokens}
use Rattle.paper.specs.Keys.{Key, key_record, exact}
use Rattle.paper.specs.Grammar.{most_levels}
use Rattle.paper.specs.Print.{print}
use Rattle.paper.specs.Sized.{levels, count}
use Rattle.paper.specs.Calls.{over}
use Rattle.paper.specs.Pact.{most_indices, Clause}
use Rattle.paper.specs.Contract.{clauses}
use Rattle.paper.specs.Drafting.{contract_tree, names_of, table_sized, lends_text}
use Rattle.paper.specs.Promised.{Bytes, UserNumbers, DraftResult}
use Rattle.tried.specs.WrongDrafters.{Drafter, DraftsAllRight, Maker, Makes, last_made, right_made, inclusive_made, and_made, WrongDraftersFail}
use Rattle.paper.proofs.Stages.{ok_same}
use Rattle.paper.proofs.Promised.{place_at}
use Rattle.paper.proofs.ByteLists.{zero_bytes, all_bytes_lem}
use Rattle.paper.proofs.ContractRead.{contracts_read}

-- the names, their keys and the table

abbrev two_names : List ℕ
two_names = key_record (bytes "a") 0 64 ++ key_record (bytes "b") 0 64

abbrev named : List ℕ → Key
named name = record { name = name; kind = exact; width = 64; required = false }

abbrev two_keys : List Key
two_keys = named (bytes "a") ∷ named (bytes "b") ∷ []

abbrev names : List (List ℕ)
names = bytes "a" ∷ bytes "b" ∷ []

abbrev one : List ℕ
one = 1 ∷ []

keys_named : names_of two_names ≡ ok two_keys
unfolding names_of
keys_named = refl

-- a contract that is read, and a text of it that is within the limits
record Tried (made : Maker) (contract : List ℕ) (wrong right : List ℕ) : Type 0 where
  lent : Bytes contract
  parts : List Clause
  read : clauses 2 1 contract ≡ ok parts
  few : count (made names one parts) ≤ most_tokens
  deep : levels (made names one parts) ≤ most_levels
  printed : print (made names one parts) ≡ wrong
  short : length wrong ≤ most_text
  rightly : print (contract_tree names one parts) ≡ right

-- a translation that is right makes no other text of it
makes_right : (x : Drafter) (made : Maker) (contract wrong right : List ℕ) → DraftsAllRight x → Makes made x → Tried made contract wrong right
    → wrong ≡ right
makes_right x made contract wrong right all makes t =
    let n = length wrong in
    let buffer : List ℕ = replicate n 0 in
    let size : length (print (made names one t.parts)) ≡ n = ap length t.printed in
    let room : n ≤ length buffer = omega (arith, length-replicate {A = ℕ} n 0) in
    let numbers : UserNumbers one = (lit< tt, tt) in
    let list : Bytes two_names = all_bytes_lem two_names refl in
    let given =
    makes contract one two_names buffer two_keys t.parts t.lent numbers list (zero_bytes n) keys_named (omega arith) t.read t.few t.deep
    (rw size t.short) (rw size room)
    in
    let true-one = all contract one two_names buffer t.lent numbers list (zero_bytes n) in
    let d = (true-one.drafts n).0 (ap (λ (r : DraftResult). r.answer) given ∙ rw size) in
    let keys : d.ks ≡ two_keys = ok_same d.ks two_keys (sym d.named ∙ keys_named) in
    let read = (contracts_read (length d.ks) 1 contract d.clauses).1 (d.meant, d.indexed) in
    let parts : d.clauses ≡ t.parts = ok_same d.clauses t.parts (sym read ∙ rw keys t.read) in
    let root : print d.root ≡ right = rw (d.made, keys, parts) t.rightly in
    let same : over wrong buffer ≡ over right buffer =
    ap (λ s. over s buffer) (sym t.printed) ∙ sym (ap (λ (r : DraftResult). r.buffer) given) ∙ true-one.written n d ∙ ap (λ s. over s buffer) root
    in
    sym (take_at wrong _ n refl) ∙ ap (take n) same ∙ take_at right _ n (sym (ap length root) ∙ sym d.size)

-- the four, each with its contract, its text and the right one, which differ at one offset

differ : (v w : List ℕ) (i : ℕ) → v ≡ w → get_or v i 0 ≡ get_or w i 0
differ v w i e = ap (λ s. get_or s i 0) e

nand : Tried last_made (0x00 ∷ 0x00 ∷ 0xC0 ∷ 0x00 ∷ 0x10 ∷ []) (bytes "a == 1 && !(b == 1)") (bytes "!(a == 1 && b == 1)")
unfolding print contract_tree clauses
nand =
    record {
      lent = all_bytes_lem (0x00 ∷ 0x00 ∷ 0xC0 ∷ 0x00 ∷ 0x10 ∷ []) refl;
      parts = _;
      read = refl;
      few = omega arith;
      deep = omega arith;
      printed = refl;
      short = omega arith;
      rightly = refl;
    }

or_and : Tried right_made (0x00 ∷ 0x00 ∷ 0x84 ∷ 0x00 ∷ 0x10 ∷ 0x80 ∷ 0x00 ∷ 0x00 ∷ []) (bytes "a == 1 || b == 1 && a == 1") (bytes "(a == 1 || b == 1) && a == 1")
unfolding print contract_tree clauses
or_and =
    record {
      lent = all_bytes_lem (0x00 ∷ 0x00 ∷ 0x84 ∷ 0x00 ∷ 0x10 ∷ 0x80 ∷ 0x00 ∷ 0x00 ∷ []) refl;
      parts = _;
      read = refl;
      few = omega arith;
      deep = omega arith;
      printed = refl;
      short = omega arith;
      rightly = refl;
    }

exclusive : Tried inclusive_made (0x00 ∷ 0x00 ∷ 0x88 ∷ 0x00 ∷ 0x10 ∷ []) (bytes "a == 1 || b == 1") (bytes "(a == 1) != (b == 1)")
unfolding print contract_tree clauses
exclusive =
    record {
      lent = all_bytes_lem (0x00 ∷ 0x00 ∷ 0x88 ∷ 0x00 ∷ 0x10 ∷ []) refl;
      parts = _;
      read = refl;
      few = omega arith;
      deep = omega arith;
      printed = refl;
      short = omega arith;
      rightly = refl;
    }

apart : Tried and_made (0x00 ∷ 0x00 ∷ 0x00 ∷ 0x10 ∷ []) (bytes "a == 1 && b == 1") (bytes "a == 1 ; b == 1")
unfolding print contract_tree clauses
apart =
    record {
      lent = all_bytes_lem (0x00 ∷ 0x00 ∷ 0x00 ∷ 0x10 ∷ []) refl;
      parts = _;
      read = refl;
      few = omega arith;
      deep = omega arith;
      printed = refl;
      short = omega arith;
      rightly = refl;
    }

pub wrong_drafters_fail : WrongDraftersFail
wrong_drafters_fail =
    record {
      inverting_last = λ x makes all. omega (arith, differ _ _ 0 (makes_right x last_made _ _ _ all makes nand));
      joining_right = λ x makes all. omega (arith, differ _ _ 0 (makes_right x right_made _ _ _ all makes or_and));
      inclusive = λ x makes all. omega (arith, differ _ _ 0 (makes_right x inclusive_made _ _ _ all makes exclusive));
      joining_by_and = λ x makes all. omega (arith, differ _ _ 7 (makes_right x and_made _ _ _ all makes apart));
    }

-- and each is real: one that goes through the stages of the call, and makes its own tree of the clauses

abbrev lent : Answer (List ℕ) → List ℕ → DraftResult
lent (ok s) buffer = record { answer = Ok (length s); buffer = over s buffer }
lent (refused n i at) buffer = record { answer = refusal n (place_at i at); buffer = buffer }

drafter : Maker → Drafter
drafter made contract table list buffer =
    lent
    (names_of list
    >>= λ ks. table_sized table
    >>= λ _. clauses (length ks) (length table) contract
    >>= λ cs. lends_text (made (map (λ (k : Key). k.name) ks) table cs) buffer)
    buffer

pub drafter_real : (made : Maker) → (x : Drafter) × Makes made x
unfolding drafter
drafter_real made = (drafter made, makes)
  where
    makes : Makes made (drafter made)
    makes contract table list buffer ks cs _ _ _ _ named sized read few deep short room =
        let t = made (map (λ (k : Key). k.name) ks) table cs in
        rw (
          named,
          le-leb (length table) most_indices sized,
          read,
          le-leb (count t) most_tokens few,
          le-leb (levels t) most_levels deep,
          le-leb (length (print t)) most_text short,
          le-leb (length (print t)) (length buffer) room,
        )
