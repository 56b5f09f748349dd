-- 01, "Tokens and grammar", third paragraph, by example: address strings, and the numbers that they become.
use Rattle.std.specs.Prelude.{ℕ, ◌≡◌, List, [], ◌∷◌, ◌++◌}
use Rattle.std.proofs.Math.Option.{Option, none, some}
use Rattle.paper.specs.Tokens.{bytes}
use Rattle.paper.specs.Addresses.{Scheme, ipv4, ipv6, mac, scheme_of, address}
use Rattle.tried.specs.Examples.{Example, on, Agree, bytes_that, is_some}
use Rattle.tried.specs.TokenExamples.{digits}

-- the words that begin an address
abbrev pub schemes : List (Example (List ℕ) (Option Scheme))
schemes =
    on (bytes "ipv4") (some ipv4)
    ∷ on (bytes "ipv6") (some ipv6)
    ∷ on (bytes "mac") (some mac)
    ∷ on (bytes "ipv") none
    ∷ on (bytes "ipv44") none
    ∷ on (bytes "MAC") none
    ∷ []

abbrev pub Strings : Type 0
Strings = List (Example (List ℕ) (Option ℕ))

-- "ipv4 is four decimals 0 to 255 without leading zeros"
abbrev pub fours : Strings
fours =
    on (bytes "1.2.3.4") (some 0x01020304)
    ∷ on (bytes "0.0.0.0") (some 0)
    ∷ on (bytes "255.255.255.255") (some 0xffffffff)
    ∷ on (bytes "10.20.100.99") (some 0x0a146463)
    ∷ on (bytes "256.0.0.0") none
    ∷ on (bytes "0.0.0.256") none
    ∷ on (bytes "0.0.0.1000") none
    ∷ on (bytes "00.0.0.0") none
    ∷ on (bytes "1.02.3.4") none
    ∷ on (bytes "1.2.3") none
    ∷ on (bytes "1.2.3.4.5") none
    ∷ on (bytes "1.2..4") none
    ∷ on (bytes "1.2.3.") none
    ∷ on (bytes ".2.3.4") none
    ∷ on (bytes "1:2:3:4") none
    ∷ on (bytes "1.2.3.4 ") none
    ∷ on [] none
    ∷ []

-- "mac is six pairs of hex digits with colons"
abbrev pub macs : Strings
macs =
    on (bytes "01:02:03:04:05:06") (some 0x010203040506)
    ∷ on (bytes "Ab:cD:EF:fe:00:10") (some 0xabcdeffe0010)
    ∷ on (bytes "ff:ff:ff:ff:ff:ff") (some 0xffffffffffff)
    ∷ on (bytes "01:02:03:04:05") none
    ∷ on (bytes "01:02:03:04:05:06:07") none
    ∷ on (bytes "1:02:03:04:05:06") none
    ∷ on (bytes "01:02:03:04:05:006") none
    ∷ on (bytes "01::03:04:05:06") none
    ∷ on (bytes "01-02-03-04-05-06") none
    ∷ on [] none
    ∷ []

-- RFC 4291, section 2.2, form 1: eight groups of one to four hex digits
abbrev pub wholes : Strings
wholes =
    on (bytes "1:2:3:4:5:6:7:8") (some 0x00010002000300040005000600070008)
    ∷ on (bytes "Abcd:12:034:0005:0:0:0:f") (some 0xabcd001200340005000000000000000f)
    ∷ on (bytes "1:2:3:4:5:6:7") none
    ∷ on (bytes "1:2:3:4:5:6:7:8:9") none
    ∷ on (bytes "1:2:3:4:5:6:7:00008") none
    ∷ on (bytes "1:2:3:4:5:6:7:") none
    ∷ on (bytes ":2:3:4:5:6:7:8") none
    ∷ on (bytes "1:2:3:4:5:6:1.2.3.4") none
    ∷ on [] none
    ∷ []

-- form 2, "where "::" stands for one or more zero groups"
abbrev pub gaps : Strings
gaps =
    on (bytes "::") (some 0)
    ∷ on (bytes "::1") (some 1)
    ∷ on (bytes "1::") (some 0x00010000000000000000000000000000)
    ∷ on (bytes "1:2::7:8") (some 0x00010002000000000000000000070008)
    ∷ on (bytes "1:2:3:4:5:6:7::") (some 0x00010002000300040005000600070000)
    ∷ on (bytes "::2:3:4:5:6:7:8") (some 0x00000002000300040005000600070008)
    ∷ on (bytes "1:2:3:4::6:7:8") (some 0x00010002000300040000000600070008)
    ∷ on (bytes "1:2:3:4:5:6:7:8::") none
    ∷ on (bytes "::1:2:3:4:5:6:7:8") none
    ∷ on (bytes "1:2:3:4::5:6:7:8") none
    ∷ on (bytes "1::2::3") none
    ∷ on (bytes ":::") none
    ∷ on (bytes "1:::2") none
    ∷ on (bytes ":1::2") none
    ∷ on (bytes "1::2:") none
    ∷ on (bytes "1::00002") none
    ∷ on (bytes "00001::2") none
    ∷ on (bytes "::1.2.3.4") none
    ∷ []

abbrev pub hex_digits : List ℕ
hex_digits = digits ++ bytes "ABCDEFabcdef"

pub record AddressExamples : Type 0 where
  pub words : Agree scheme_of schemes
  pub ipv4_strings : Agree (address ipv4) fours
  pub mac_strings : Agree (address mac) macs
  pub ipv6_whole : Agree (address ipv6) wholes
  pub ipv6_with_gap : Agree (address ipv6) gaps
  -- the digits of each, of all 256 bytes
  pub ipv4_digits : bytes_that (λ b. is_some (address ipv4 (b ∷ bytes ".0.0.0"))) ≡ digits
  pub mac_digits : bytes_that (λ b. is_some (address mac (b ∷ bytes "0:00:00:00:00:00"))) ≡ hex_digits
  pub ipv6_digits : bytes_that (λ b. is_some (address ipv6 (bytes "0" ++ (b ∷ bytes ":0:0:0:0:0:0:0")))) ≡ hex_digits
  pub ipv6_digits_by_a_gap : bytes_that (λ b. is_some (address ipv6 (bytes "::1" ++ (b ∷ [])))) ≡ hex_digits
