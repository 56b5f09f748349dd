-- Types by number: every number is read as a type.
use Rattle.std.specs.Prelude.{ℕ, zero, suc, ◌+◌, ◌*◌, ◌/◌, ◌%◌}
use Rattle.paper.specs.Keys.{kind_of}
use Rattle.paper.specs.Types.{Ty, bool, int, of}

-- over the numbers of bool and int, that of a kind's type has its kind and its width, a byte each
abbrev pub ty_numbered : ℕ → Ty
ty_numbered zero = bool
ty_numbered (suc zero) = int
ty_numbered (suc (suc n)) = of (kind_of (n / 256 % 256)) (n % 256)

-- more than the number of any type
abbrev pub numbers : ℕ
numbers = 2 + 256 * 256
