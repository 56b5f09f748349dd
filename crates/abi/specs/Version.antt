-- The version that the archive carries.
use Rattle.std.specs.Prelude.{ℕ, ◌+◌, ◌*◌}

pub record Version : Type 0 where
  pub major : ℕ
  pub minor : ℕ
  pub patch : ℕ

abbrev pub version : Version
version = record { major = 2; minor = 0; patch = 3 }

-- as one number, which has three decimal digits for each of the last two
abbrev pub version_number : Version → ℕ
version_number v = v.major * 1000000 + v.minor * 1000 + v.patch
