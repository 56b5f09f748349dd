-- A word, as the code goes through it.
use Rattle.std.specs.Prelude.{ℕ, ◌+◌, Bool, ◌&&◌, ◌||◌, List, get_or, drop}
use Rattle.paper.specs.Tokens.{is_id_byte, is_id_start, is, starts}

-- the byte at i goes on a word: an id byte, or a dot that an id start follows
abbrev pub goes_on : List ℕ → ℕ → Bool
goes_on s i = is_id_byte (get_or s i 0) || is "." (get_or s i 0) && starts is_id_start (drop (i + 1) s)
