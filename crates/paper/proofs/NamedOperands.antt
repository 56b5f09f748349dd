-- What is known of an operand that names a key and has a type: the key stands in the list under that name, so a text can hold the operand, and
-- on an entry the operand is worth what the key's match says.
use Prim.Native.Nat.{ℕ, ◌≤◌}
use native.Mathlib.Omega.{arith}
use mathlib.Core.Path.{◌≡◌, refl, sym, subst}
use mathlib.Core.Bool.{Bool, true, false, cond}
use mathlib.Core.Option.{Option, none, some, none-ne-some}
use mathlib.Core.List.{List}
use lib.ListN.{length, get_elem?, length-append}
use lib.Dec.{eqb, lit≤}
use Rattle.paper.specs.Answers.{ok, ◌>>=◌}
use Rattle.paper.specs.Tokens.{bytes, same_bytes, is_key, undotted}
use Rattle.paper.specs.Keys.{Kind, Key, find, keys}
use Rattle.paper.specs.Entry.{Match, Entry}
use Rattle.paper.specs.Grammar.{Tree, key, field}
use Rattle.paper.specs.Types.{Ty, and_then, Field, value, mask, prefix_length, low, high, field_named, has, field_type, known, named_type, type_of}
use Rattle.paper.specs.Meaning.{Value, matched, field_in, value_of}
use Rattle.paper.specs.Print.{tightest, rung, print}
use Rattle.paper.specs.Sized.{levels, count, Clean}
use Rattle.paper.specs.Named.{names, marked}
use Rattle.paper.proofs.Stages.{never_ok}
use Rattle.paper.proofs.Words.{same_bytes_lem}
use Rattle.paper.proofs.TypeFaults.{key_found}
use Rattle.paper.proofs.NamesInList.{Named, key_named}

-- the names of fields are words

record FieldWord (f : List ℕ) : Type 0 where
  word : is_key f ≡ true
  plain : undotted f ≡ true
  short : length f ≤ 13

first_or_later : (f q : List ℕ) (x g : Field) (rest : Option Field) → FieldWord q → (rest ≡ some g → FieldWord f)
    → cond (same_bytes f q) (some x) rest ≡ some g → FieldWord f
first_or_later f q x g rest good later = go (same_bytes f q) refl
  where
    go : (b : Bool) → same_bytes f q ≡ b → cond b (some x) rest ≡ some g → FieldWord f
    go true e h = subst FieldWord (sym (same_bytes_lem f q e)) good
    go false e h = later h

field_word : (f : List ℕ) (g : Field) → field_named f ≡ some g → FieldWord f
field_word f g =
    first_or_later f (bytes "value") value g _ (record { word = refl; plain = refl; short = lit≤ tt })
    (first_or_later f (bytes "mask") mask g _ (record { word = refl; plain = refl; short = lit≤ tt })
    (first_or_later f (bytes "prefix_length") prefix_length g _ (record { word = refl; plain = refl; short = lit≤ tt })
    (first_or_later f (bytes "low") low g _ (record { word = refl; plain = refl; short = lit≤ tt })
    (first_or_later f (bytes "high") high g none (record { word = refl; plain = refl; short = lit≤ tt })
    (λ h. absurd (none-ne-some g h))))))

-- a key by itself (none) or a field of it: whether its kind has it, and what it is worth

abbrev pub offers : Kind → Option Field → Bool
offers k none = true
offers k (some g) = has k g

abbrev pub worth_of : Key → Option Field → Match → Value
worth_of x none m = matched x.kind x.width m
worth_of x (some g) m = field_in x.width g m

pub record Operand (ks : List Key) (o : Tree) : Type 0 where
  pub index : ℕ
  pub it : Key
  pub there : get_elem? ks index ≡ some it
  pub by : Option Field
  pub offered : offers it.kind by ≡ true
  pub clean : Clean o
  pub atom : rung o ≡ tightest
  pub flat : levels o ≡ 0
  pub few : count o ≤ 3
  pub short : length (print o) ≤ 80
  pub worth : (e : Entry) (m : Match) → get_elem? e.matches index ≡ some m → value_of ks e o ≡ some (worth_of it by m)
  pub named : (j : ℕ) → names ks o j ≡ eqb index j
  pub unmarked : marked o ≡ false

-- what a type tells

found_key : (at : ℕ) (o : Option ℕ) (f : ℕ → Option Ty) (a : Ty) → known at (and_then o f) ≡ ok a → (k : ℕ) × (o ≡ some k)
found_key at none f a h = absurd (never_ok h)
found_key at (some k) f a h = (k, refl)

found_field : (at to : ℕ) (o : Option ℕ) (p : Option Field) (f : ℕ → Field → Option Ty) (a : Ty)
    → (known at o >>= λ k. named_type to (and_then p (f k))) ≡ ok a → (k : ℕ) × (g : Field) × (o ≡ some k) × (p ≡ some g) × (f k g ≡ some a)
found_field at to none p f a h = absurd (never_ok h)
found_field at to (some k) none f a h = absurd (never_ok h)
found_field at to (some k) (some g) f a h = (k, g, refl, refl, go (f k g) h)
  where
    go : (o : Option Ty) → named_type to o ≡ ok a → o ≡ some a
    go none h = absurd (never_ok h)
    go (some b) h = cc

has_field : (ks : List Key) (k : ℕ) (x : Key) (g : Field) (a : Ty) → get_elem? ks k ≡ some x → field_type ks g k ≡ some a → has x.kind g ≡ true
has_field ks k x g a there h = go (has x.kind g) refl
  where
    go : (b : Bool) → has x.kind g ≡ b → b ≡ true
    go true e = refl
    go false e = absurd (none-ne-some a (rw (there, e) at h))

module _ (list : List ℕ) (ks : List Key) (listed : keys list ≡ ok ks) where
  key_known : (at : ℕ) (w : List ℕ) (k : ℕ) (x : Key) → find ks w ≡ some k → get_elem? ks k ≡ some x → x.name ≡ w → Operand ks (key at w)
  unfolding value_of names marked print
  key_known at w k x found there same =
      let n = subst Named same (key_named list ks listed k x there) in
      record {
        index = k;
        it = x;
        there = there;
        by = none;
        offered = refl;
        clean = (n.word, n.name);
        atom = refl;
        flat = refl;
        few = lit≤ tt;
        short = omega (arith, n.short);
        worth = λ e m at. rw (found, there, at);
        named = λ j. rw found;
        unmarked = refl;
      }

  pub key_operand : (at : ℕ) (w : List ℕ) (a : Ty) → type_of ks (key at w) ≡ ok a → Operand ks (key at w)
  unfolding type_of
  key_operand at w a h =
      let (k, found) = found_key at (find ks w) _ a h in
      let (x, there, same) = key_found ks w k found in
      key_known at w k x found there same

  field_known : (at : ℕ) (w : List ℕ) (to : ℕ) (f : List ℕ) (k : ℕ) (x : Key) (g : Field) → find ks w ≡ some k → get_elem? ks k ≡ some x
      → x.name ≡ w → field_named f ≡ some g → has x.kind g ≡ true → Operand ks (field at w to f)
  unfolding value_of names marked print
  field_known at w to f k x g found there same is offered =
      let n = subst Named same (key_named list ks listed k x there) in
      let q = field_word f g is in
      record {
        index = k;
        it = x;
        there = there;
        by = some g;
        offered = offered;
        clean = (n.word, n.name, q.word, q.plain);
        atom = refl;
        flat = refl;
        few = lit≤ tt;
        short = simp length-append (omega (arith, n.short, q.short));
        worth = λ e m at. rw (found, is, there, at, offered);
        named = λ j. rw found;
        unmarked = refl;
      }

  pub field_operand : (at : ℕ) (w : List ℕ) (to : ℕ) (f : List ℕ) (a : Ty) → type_of ks (field at w to f) ≡ ok a → Operand ks (field at w to f)
  unfolding type_of
  field_operand at w to f a h =
      let (k, g, found, is, type) = found_field at to (find ks w) (field_named f) (λ k g. field_type ks g k) a h in
      let (x, there, same) = key_found ks w k found in
      field_known at w to f k x g found there same is (has_field ks k x g a there type)
