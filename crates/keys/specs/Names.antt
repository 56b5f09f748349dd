-- The names of keys.
use Rattle.std.specs.Prelude.{ℕ, Bool, not, ◌&&◌, List}
use Rattle.paper.specs.Tokens.{bytes, same_bytes, is_key}

-- "a key by 004's grammar and neither "true" nor "false""
abbrev pub name_ok : List ℕ → Bool
name_ok s = is_key s && not (same_bytes s (bytes "true")) && not (same_bytes s (bytes "false"))
