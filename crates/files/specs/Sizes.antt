-- Offsets in a file of which only the first bytes are held, and how much of it is read at a time.
use Rattle.std.specs.Prelude.{ℕ, ◌-◌, ◌%◌, cond, eqb}

-- a place that is the end of the bytes that are held of a file is the file's end
abbrev pub true_offset : ℕ → ℕ → ℕ → ℕ
true_offset held size at = cond (eqb at held) size at

-- the largest multiple of a size up to 65,536
abbrev pub whole_entries : ℕ → ℕ
whole_entries size = 65536 - 65536 % size
