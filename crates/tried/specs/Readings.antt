-- Where 01 leaves room for two readings, texts that show ours, judged with the marked keys and entry (docs/DECISIONS.md).
use Rattle.std.specs.Prelude.{List, [], ◌∷◌}
use Rattle.tried.specs.MarkedJudgements.{Case, accepted, violated, refused_at, the_keys, the_entry, AreJudged}

abbrev pub readings : List Case
readings =
    -- a dot that no id start follows
    refused_at "a." 5 1
    ∷ refused_at "a..b" 5 1
    ∷ refused_at "a.1" 5 1
    ∷ refused_at "a.b." 5 3
    ∷ refused_at "1.a" 5 1
    ∷ refused_at ".a" 5 0
    ∷ refused_at "a .b" 5 2
    ∷ refused_at "a. b" 5 1
    -- runs that start with a digit
    ∷ refused_at "12ab" 5 0
    ∷ refused_at "1_000" 5 0
    ∷ refused_at "8w255" 5 0
    ∷ refused_at "0x" 5 0
    ∷ refused_at "0d" 5 0
    ∷ refused_at "0b2" 5 0
    ∷ refused_at "0o8" 5 0
    ∷ refused_at "0xg" 5 0
    ∷ accepted "007 == 7"
    ∷ accepted "0d12 == 12"
    ∷ accepted "0D12 == 0b1100"
    ∷ accepted "0B1111 == 0Xf"
    ∷ refused_at "0O17 == 0Xf" 22 0
    -- strings and comments
    ∷ refused_at "'ab" 5 0
    ∷ refused_at "ipv4('')" 10 5
    ∷ refused_at "ipv4('//')" 10 5
    ∷ accepted "ipv4('0.0.0.1') == 1"
    ∷ refused_at "true /" 5 5
    ∷ accepted "true // '"
    ∷ refused_at "// x" 8 4
    ∷ refused_at "true && // x" 8 12
    -- longest from the left
    ∷ refused_at "!==" 5 2
    ∷ refused_at "===" 5 2
    ∷ refused_at ":::" 5 2
    ∷ refused_at "&&&" 5 2
    ∷ refused_at "=>" 5 0
    ∷ refused_at "v- >v" 8 1
    ∷ accepted "--2 == 2"
    ∷ violated "v<-1"
    ∷ refused_at "1-->2" 8 1
    -- the whole text is cut into tokens first
    ∷ refused_at "true true @" 5 10
    -- "::" after a key, and what it names
    ∷ refused_at "(v)::a" 8 3
    ∷ refused_at "true::a" 8 4
    ∷ refused_at "1::a" 8 1
    ∷ refused_at "v::value::b" 8 8
    ∷ refused_at "v::a.b" 8 3
    ∷ refused_at "v::true" 12 3
    ∷ refused_at "v::ipv4('1.2.3.4')" 8 7
    ∷ accepted ":: priority == 10"
    ∷ accepted "v :: value == 1"
    -- addresses
    ∷ refused_at "ipv4 (1)" 8 6
    ∷ refused_at "ipv4 == 1" 11 0
    ∷ refused_at "ipv4.valid" 11 0
    ∷ refused_at "ipv4('bad'" 10 5
    ∷ refused_at "ipv4('1.2.3.4' 5" 8 15
    ∷ refused_at "foo('x')" 8 3
    ∷ refused_at "ipv4('01.2.3.4') == 1" 10 5
    ∷ refused_at "ipv4('1.2.3.256') == 1" 10 5
    ∷ refused_at "ipv4('1.2.3') == 1" 10 5
    ∷ accepted "ipv4('255.255.255.255') == 0xffffffff"
    ∷ accepted "mac('00:00:00:00:00:05') == 5"
    ∷ refused_at "mac('0:00:00:00:00:05') == 5" 10 4
    ∷ accepted "mac('Ff:00:00:00:00:00') == 0xff0000000000"
    ∷ accepted "ipv6('::') == 0"
    ∷ accepted "ipv6('::1') == 1"
    ∷ accepted "ipv6('1::') == 0x10000000000000000000000000000"
    ∷ accepted "ipv6('1:2:3:4:5:6:7::') == 0x10002000300040005000600070000"
    ∷ refused_at "ipv6('1:2:3:4:5:6:7:8::') == 1" 10 5
    ∷ accepted "ipv6('1:2:3:4:5:6:7:8') == 0x10002000300040005000600070008"
    ∷ refused_at "ipv6('1::2::3') == 1" 10 5
    ∷ refused_at "ipv6('12345::') == 1" 10 5
    ∷ refused_at "ipv6(':1') == 1" 10 5
    -- the trailing ";"
    ∷ refused_at "(true;)" 8 6
    ∷ refused_at ";" 8 0
    ∷ accepted "true; true;"
    ∷ violated "(true; false)"
    -- places of refusals 11 to 14
    ∷ refused_at "1 && zz" 11 5
    ∷ refused_at "zz && yy" 11 0
    ∷ refused_at "zz == yy" 11 0
    ∷ refused_at "v::mask" 12 3
    ∷ refused_at "::prio" 12 2
    ∷ refused_at "zz::foo" 11 0
    ∷ refused_at "1; true" 13 1
    ∷ refused_at "((1))" 14 2
    ∷ refused_at "-(1)" 14 0
    ∷ refused_at "(d::mask)" 14 1
    ∷ refused_at " ::priority" 14 1
    ∷ refused_at "!1" 13 0
    ∷ refused_at "-true" 13 0
    ∷ refused_at "-d == 1" 13 0
    -- types that meet, and types that do not
    ∷ accepted "true != false"
    ∷ refused_at "true < false" 13 5
    ∷ violated "d == 0x20"
    ∷ violated "0x20 == d"
    ∷ refused_at "d == v" 13 2
    ∷ refused_at "r > 1" 13 2
    ∷ accepted "r::low < r::high"
    ∷ violated "v == p::prefix_length"
    ∷ violated "d == ::priority"
    ∷ accepted "-v == v"
    ∷ accepted "-0 == 0"
    ∷ violated "-1 == 1"
    ∷ accepted "p == p"
    ∷ refused_at "d == o" 13 2
    ∷ accepted "1 == 1 -> v == 1"
    ∷ accepted "r != 80"
    ∷ accepted "o == o"
    -- values
    ∷ accepted "r::low == 80 && r::high == 443"
    ∷ accepted "o::value == 0"
    ∷ accepted "p::value == 0xc0"
    ∷ accepted "p::prefix_length == 2"
    ∷ accepted "d::mask == 240"
    ∷ accepted "-d::mask == 16"
    ∷ refused_at "v::value == 257" 23 12
    ∷ accepted "::priority >= 10"
    ∷ violated "::priority > 10"
    ∷ violated "::priority <= -1"
    ∷ accepted "1 > -1"
    ∷ []

abbrev pub Readings : Type 0
Readings = AreJudged the_keys the_entry readings
