-- 01, "Translation is postfix, left before right; an operand that must change type is converted directly after its own code,
-- once; compare then needs equal types. ";" and "&&" both give 10."
-- 02 g: "Translation places one", a skip, "directly after the left operand of every "and", "or" and "implies", landing after the join."
--
-- Only texts that pass are translated, so only trees that have a type. Code is given for every tree, so that it computes: where a name
-- or a type is missing, there is no instruction for it.
use Rattle.std.specs.Prelude.{ℕ, ◌+◌, Bool, true, false, cond, List, [], ◌∷◌, ◌++◌, length}
use Rattle.std.specs.Bool.{beq}
use Rattle.std.proofs.Math.Option.{Option, none, some}
use Rattle.paper.specs.Answers.{Answer, ok, refused}
use Rattle.paper.specs.Tokens.{Prefix, not_sign, minus_sign}
use Rattle.paper.specs.Keys.{Key, find}
use Rattle.paper.specs.Entry.{Entry}
use Rattle.paper.specs.Grammar.{Tree, truth, number, key, field, attribute, prefixed, joined, compared}
use Rattle.paper.specs.Types.{Ty, bool, int, of, same_ty, and_then, field_named, meet, type_of}
use Rattle.paper.specs.Meaning.{Connective, both, either, if_then, connective, is_true, value_of}
use Rattle.paper.specs.Code.{Skip, Instruction, push_bool, push_int, push_key, push_field, push_priority, invert, negate, convert, compare, connects, skip}

abbrev pub has_type : Answer Ty → Option Ty
has_type (ok a) = some a
has_type (refused n i at) = none

-- the type in which the operands of a comparison meet
abbrev pub meeting : List Key → Tree → Tree → Option Ty
meeting ks l r = and_then (has_type (type_of ks l)) (λ a. and_then (has_type (type_of ks r)) (meet a))

-- only types of keys and fields are converted to
abbrev pub convert_to : Ty → List Instruction
convert_to bool = []
convert_to int = []
convert_to (of k w) = convert k w ∷ []

abbrev pub changed : Option Ty → Option Ty → List Instruction
changed none m = []
changed (some a) none = []
changed (some a) (some m) = cond (same_ty a m) [] (convert_to m)

-- the conversion after an operand's own code
abbrev pub conversion : List Key → Tree → Option Ty → List Instruction
conversion ks t m = changed (has_type (type_of ks t)) m

abbrev pub operation : Prefix → Instruction
operation not_sign = invert
operation minus_sign = negate

abbrev pub pushing : Option Instruction → List Instruction
pushing none = []
pushing (some i) = i ∷ []

-- a join whose left operand is so is settled by it: "and" by false, "or" by true, "implies" by false
abbrev pub settled_by : Connective → Bool
settled_by both = false
settled_by either = true
settled_by if_then = false

-- what a join is worth that its left operand settles
abbrev pub settled_to : Connective → Bool
settled_to both = false
settled_to either = true
settled_to if_then = true

-- over the right operand, of so many instructions, and the join after it
abbrev pub skip_for : Connective → ℕ → Skip
skip_for o right = record { on = settled_by o; to = settled_to o; over = right + 1 }

unfoldable pub code_of : List Key → Tree → List Instruction
unfolding type_of
code_of ks (truth at b) = push_bool b ∷ []
code_of ks (number at n) = push_int n.value ∷ []
code_of ks (key at w) = pushing (and_then (find ks w) (λ k. some (push_key k)))
code_of ks (field at w to f) = pushing (and_then (find ks w) (λ k. and_then (field_named f) (λ g. some (push_field g k))))
code_of ks (attribute at to f) = push_priority ∷ []
code_of ks (prefixed at o t) = code_of ks t ++ (operation o ∷ [])
code_of ks (joined at o l r) =
    code_of ks l ++ (skip (skip_for (connective o) (length (code_of ks r))) ∷ (code_of ks r ++ (connects (connective o) ∷ [])))
code_of ks (compared at c l r) =
    code_of ks l ++ conversion ks l (meeting ks l r) ++ code_of ks r ++ conversion ks r (meeting ks l r) ++ (compare c ∷ [])

-- "the nodes of the tree plus the conversions", and "The count of instructions grows by one for each join"
unfoldable pub conversions : List Key → Tree → ℕ
unfolding type_of
conversions ks (truth at b) = 0
conversions ks (number at n) = 0
conversions ks (key at w) = 0
conversions ks (field at w to f) = 0
conversions ks (attribute at to f) = 0
conversions ks (prefixed at o t) = conversions ks t
conversions ks (joined at o l r) = conversions ks l + conversions ks r
conversions ks (compared at c l r) =
    conversions ks l + length (conversion ks l (meeting ks l r)) + conversions ks r + length (conversion ks r (meeting ks l r))

abbrev pub joins : Tree → ℕ
joins (truth at b) = 0
joins (number at n) = 0
joins (key at w) = 0
joins (field at w to f) = 0
joins (attribute at to f) = 0
joins (prefixed at o t) = joins t
joins (joined at o l r) = joins l + joins r + 1
joins (compared at c l r) = joins l + joins r

-- how many steps the code of a tree takes on an entry: a skip is one; where it is taken, the right operand and the join are none
unfoldable pub steps_of : List Key → Entry → Tree → ℕ
unfolding type_of value_of
steps_of ks e (truth at b) = 1
steps_of ks e (number at n) = 1
steps_of ks e (key at w) = 1
steps_of ks e (field at w to f) = 1
steps_of ks e (attribute at to f) = 1
steps_of ks e (prefixed at o t) = steps_of ks e t + 1
steps_of ks e (joined at o l r) =
    steps_of ks e l + cond (beq (is_true (value_of ks e l)) (settled_by (connective o))) 1 (1 + steps_of ks e r + 1)
steps_of ks e (compared at c l r) =
    steps_of ks e l + length (conversion ks l (meeting ks l r)) + steps_of ks e r + length (conversion ks r (meeting ks l r)) + 1
