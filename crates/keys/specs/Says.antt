-- What each answer of this crate says, in the paper's words.
use Rattle.std.specs.Prelude.{ℕ, Bool, ◌/◌, ◌≡◌, List, [], eqb, length, Option, Some, None}
use Rattle.std.specs.Borrow.{Bor}
use Rattle.std.proofs.Math.Option as maybe
use Rattle.paper.specs.Answers.{Answer, ok, ◌>>=◌}
use Rattle.paper.specs.Numbers.{byte_at}
use Rattle.paper.specs.Keys.{Key, record_size, record_at, kind_of, RecordRule, keys_by, keys, keys_from}
use Rattle.paper.specs.Drafting.{names_of}
use Rattle.paper.specs.Entry.{Match, entry_of}
use Rattle.number.specs.Values.{value}
use Rattle.keys.specs.declared.entry.Matched.{Matched}
use Rattle.keys.specs.declared.record.KeyRecord.{KeyRecord}

-- the records of a list as keys, whether or not they are good
abbrev pub keys_in : List ℕ → List Key
keys_in list = keys_from list 0 (length list / record_size)

-- the index of a key in the paper's words
abbrev pub found : Option ℕ → maybe.Option ℕ
found (Some k) = maybe.some k
found None = maybe.none

-- what may be asked of each record of a list, and the rule that the answers are by

abbrev pub Askable : (ℕ → Bor (List ℕ) → Type 0) → Type 0
Askable may = (k : ℕ) (key : Bor (List ℕ)) → length key.now ≡ record_size → may k key

abbrev pub Asks : (ℕ → Bor (List ℕ) → Bool → Type 0) → RecordRule → Type 0
Asks answers rule = (k : ℕ) (key : Bor (List ℕ)) (kept : Bool) → length key.now ≡ record_size → answers k key kept → kept ≡ rule k key.now

-- how many keys a list holds, by a rule; by the layout; and as the names of inputs

abbrev pub count_by : RecordRule → List ℕ → Answer ℕ
count_by rule list = keys_by rule list >>= λ ks. ok (length ks)

abbrev pub key_count : List ℕ → Answer ℕ
key_count list = keys list >>= λ ks. ok (length ks)

abbrev pub name_count : List ℕ → Answer ℕ
name_count list = names_of list >>= λ ks. ok (length ks)

-- what is read of key k's record
pub record KeyRead (list : List ℕ) (k : ℕ) (r : KeyRecord) : Type 0 where
  pub kind : r.kind ≡ byte_at (record_at list k) 1
  pub width : r.width ≡ byte_at (record_at list k) 2
  pub required : r.required ≡ eqb (byte_at (record_at list k) 3) 1

-- a key but for its name, on which no rule of an entry depends
abbrev pub unnamed : KeyRecord → Key
unnamed k = record { name = []; kind = kind_of k.kind; width = k.width; required = k.required }

abbrev pub meant : Matched → Match
meant m = record { first = value m.first; second = value m.second; length = m.length }

abbrev pub conforms : List Key → List ℕ → Answer (Unit {0})
conforms keys entry = entry_of keys entry >>= λ _. ok tt
