-- A type and a floor in one number, as the load check holds them: 0 is a bool on floor 0.
use Rattle.std.specs.Prelude.{ℕ, ◌/◌, ◌%◌}
use Rattle.paper.specs.Types.{Ty}
use Rattle.values.specs.Numbered.{ty_numbered}
use Rattle.machine.specs.Following.{floors}

abbrev pub ty_in : ℕ → Ty
ty_in cell = ty_numbered (cell / floors)

abbrev pub floor_in : ℕ → ℕ
floor_in cell = cell % floors
