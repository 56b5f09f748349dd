-- 02 f: "Keep with a text a 32-bit set with one bit for each key the text names, and a mark for ::priority. Report how many keys it
-- names. .. We make summaries from text and list; none is taken from a caller."
use Rattle.std.specs.Prelude.{ℕ, zero, suc, ◌+◌, ◌*◌, Bool, true, false, ◌||◌, List, eqb, Result, Err, Ok}
use Rattle.paper.specs.declared.Refusal.{Refusal}
use Rattle.paper.specs.declared.Summary as C
use Rattle.std.proofs.Math.Option.{Option, none, some}
use Rattle.paper.specs.Answers.{Answer, ok, refused, ◌>>=◌, input_of, offset_of, refused_by, says_as}
use Rattle.paper.specs.Keys.{Key, find, most_keys}
use Rattle.paper.specs.Grammar.{Tree, truth, number, key, field, attribute, prefixed, joined, compared}
use Rattle.paper.specs.Calls.{restriction}

-- what was found is key k
abbrev pub is_it : ℕ → Option ℕ → Bool
is_it k none = false
is_it k (some j) = eqb j k

-- "each key the text names": by a bare key or by a field of it
unfoldable pub names : List Key → Tree → ℕ → Bool
names ks (truth at b) k = false
names ks (number at n) k = false
names ks (key at w) k = is_it k (find ks w)
names ks (field at w to f) k = is_it k (find ks w)
names ks (attribute at to f) k = false
names ks (prefixed at o t) k = names ks t k
names ks (joined at o l r) k = names ks l k || names ks r k
names ks (compared at c l r) k = names ks l k || names ks r k

-- "a mark for ::priority": no other attribute passes the check
unfoldable pub marked : Tree → Bool
marked (truth at b) = false
marked (number at n) = false
marked (key at w) = false
marked (field at w to f) = false
marked (attribute at to f) = true
marked (prefixed at o t) = marked t
marked (joined at o l r) = marked l || marked r
marked (compared at c l r) = marked l || marked r

-- "a 32-bit set with one bit for each key": bit k, which is worth 2^k, for record k

abbrev pub bit_of : Bool → ℕ
bit_of false = 0
bit_of true = 1

-- of n keys from key k on, the lowest bit first
abbrev pub set_from : (ℕ → Bool) → ℕ → ℕ → ℕ
set_from p k zero = 0
set_from p k (suc n) = bit_of (p k) + 2 * set_from p (suc k) n

unfoldable pub set_of : (ℕ → Bool) → ℕ
set_of p = set_from p 0 most_keys

-- "how many keys it names"

abbrev pub count_from : (ℕ → Bool) → ℕ → ℕ → ℕ
count_from p k zero = 0
count_from p k (suc n) = bit_of (p k) + count_from p (suc k) n

unfoldable pub count_of : (ℕ → Bool) → ℕ
count_of p = count_from p 0 most_keys

-- of a text and a list that pass; else their refusal
pub record Summary : Type 0 where
  pub keys : ℕ
  pub priority : Bool

unfoldable pub summary_answer : List ℕ → List ℕ → Answer Summary
unfolding restriction set_of names marked
summary_answer text list =
    restriction text list
    >>= λ r. ok (record { keys = set_of (names r.keys r.root); priority = marked r.root })

abbrev pub summary : C.Summary → Summary
summary s = record { keys = s.keys; priority = s.priority }

abbrev pub summed : ℕ → Bool → Result C.Summary Refusal
summed keys priority = Ok (record { keys = keys; priority = priority })

abbrev pub summarizing_says : Result C.Summary Refusal → Answer Summary
summarizing_says = says_as summary
