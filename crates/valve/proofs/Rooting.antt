-- From what `with_root` answers to a promise of it: by what was made at the root, and by the refusal.
use Prim.Native.Nat.{ℕ}
use mathlib.Core.Path.{◌≡◌}
use mathlib.Core.List.{List}
use Rattle.std.specs.Prelude.{Result, Ok, Err}
use Rattle.std.specs.Borrow.{Bor}
use Rattle.paper.specs.declared.Refusal.{Refusal}
use Rattle.paper.specs.Answers.{refused_by}
use Rattle.paper.specs.Calls.{restriction}
use Rattle.valve.specs.Passed.{FromRoot, ByRoot}

pub by_root : {A : Type 0} (text list : List ℕ) (post : Bor (List ℕ) → ℕ → A → Type 0) (P : Result A Refusal → Type 0) (r : Result A Refusal)
    → ByRoot text list post r
    → ((a : A) → FromRoot text list post a → P (Ok a))
    → ((v : Refusal) → restriction text list ≡ refused_by v → P (Err v)) → P r
by_root text list post P (Ok a) said made refused = made a said
by_root text list post P (Err v) said made refused = refused v said
