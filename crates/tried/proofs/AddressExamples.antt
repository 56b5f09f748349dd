-- Each example of an address is computed from the definitions.
use mathlib.Core.Path.{refl}
use Rattle.paper.specs.Addresses.{address}
use Rattle.tried.specs.AddressExamples.{AddressExamples}

pub address_examples : AddressExamples
unfolding address
address_examples =
    record {
      words = refl;
      ipv4_strings = refl;
      mac_strings = refl;
      ipv6_whole = refl;
      ipv6_with_gap = refl;
      ipv4_digits = refl;
      mac_digits = refl;
      ipv6_digits = refl;
      ipv6_digits_by_a_gap = refl;
    }
