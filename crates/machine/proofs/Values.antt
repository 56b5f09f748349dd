-- Values in cells: what instructions take and leave of them, and the end.
use Rattle.std.proofs.Common.{◌≡◌, ℕ, zero, suc, Bool, true, false, cond, List, [], ◌∷◌, get_or, sym, refl, ap, ◌∙◌, arith}
use mathlib.Core.Bool.{beq}
use mathlib.Core.Option.{Option, none, some}
use Rattle.paper.specs.Keys.{Key}
use Rattle.paper.specs.Entry.{Entry}
use Rattle.paper.specs.Meaning.{Value, truth, whole, matched, is_true}
use Rattle.paper.specs.Code.{Instruction, push_bool, push_int, push_key, push_field, push_priority, invert, negate, convert, compare, connects, skip, action_of, type_action, value_action, skip_value}
use Rattle.values.specs.declared.cell.Cell.{Cell}
use Rattle.values.specs.declared.cell.Sort.TheVariants.{Truth}
use Rattle.values.specs.Held.{held, Is}
use Rattle.machine.specs.Acting.{takes_of}
use Rattle.machine.proofs.Stack.{down}

-- an instruction takes as many values as types
pub takes_alike : (ks : List Key) (e : Entry) (o : Option Instruction)
    → takes_of (action_of (type_action ks) o) ≡ takes_of (action_of (value_action ks e) o)
takes_alike ks e none = refl
takes_alike ks e (some (push_bool b)) = refl
takes_alike ks e (some (push_int n)) = refl
takes_alike ks e (some (push_key k)) = refl
takes_alike ks e (some (push_field f k)) = refl
takes_alike ks e (some push_priority) = refl
takes_alike ks e (some invert) = refl
takes_alike ks e (some negate) = refl
takes_alike ks e (some (convert k w)) = refl
takes_alike ks e (some (compare c)) = refl
takes_alike ks e (some (connects c)) = refl
takes_alike ks e (some (skip s)) = refl

-- a place of the array that nothing was stored in
abbrev pub no_cell : Cell
no_cell = record { sort = Truth false; width = 0; length = 0; first = record { limbs = [] }; second = record { limbs = [] } }

pub is_some : (o : Option Value) {v w : Value} → o ≡ some w → Is o v → o ≡ some v
is_some none e h = absurd (let z : ◌≡◌ {A = ℕ} 0 1 = cc in omega arith)
is_some (some u) e h = cc

pub end_values : (l : List Cell) (h : ℕ) (b : Bool) → down held no_cell l h ≡ truth b ∷ [] → is_true (some (held (get_or l 0 no_cell))) ≡ b
end_values l zero b e = absurd (let z : ◌≡◌ {A = ℕ} 0 1 = cc in omega arith)
end_values l (suc zero) b e =
    let z : held (get_or l 0 no_cell) ≡ truth b = cc in
    rw z
end_values l (suc (suc m)) b e = absurd (let z : ◌≡◌ {A = ℕ} 0 1 = cc in omega arith)

-- a skip that is taken, and one that is not

pub skip_taken : (on to : Bool) (over : ℕ) (v w : Value) → beq (is_true (some v)) on ≡ true → w ≡ truth to
    → Is (skip_value (record { on = on; to = to; over = over }) v) w
skip_taken on to over (truth b) w h e = e ∙ ap (λ c. truth (cond c to b)) (sym h)
skip_taken on to over (whole z) w h e = tt
skip_taken on to over (matched k l m) w h e = tt

pub skip_left : (on to : Bool) (over : ℕ) (v : Value) → beq (is_true (some v)) on ≡ false
    → Is (skip_value (record { on = on; to = to; over = over }) v) v
skip_left on to over (truth b) h = ap (λ c. truth (cond c to b)) (sym h)
skip_left on to over (whole z) h = tt
skip_left on to over (matched k l m) h = tt
