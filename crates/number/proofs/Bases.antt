-- The base that a word holds is the one whose radix was written there.
use Rattle.std.proofs.Common.{◌≡◌, refl}
use Rattle.paper.specs.Tokens.{Base, decimal, binary, hex, radix}
use Rattle.number.specs.Bases.{base_meant, of_radix}

pub radix_back : (b : Base) → base_meant (of_radix (radix b)) ≡ b
radix_back decimal = refl
radix_back binary = refl
radix_back hex = refl
