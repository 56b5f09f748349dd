-- Sizes and lengths of entries that stand end to end.
use Rattle.std.specs.Prelude.{ℕ, ◌-◌, ◌%◌, List, length, take}

-- as many entries of a size as are whole, at the start of some bytes
abbrev pub whole_of : ℕ → List ℕ → List ℕ
whole_of size s = take (length s - length s % size) s
