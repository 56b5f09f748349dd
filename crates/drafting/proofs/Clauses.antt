-- The clauses before a byte, as trees in the nodes: what is known of them, and how an assertion goes on with them. An assertion that begins a
-- clause leaves the others where they stood; one that goes on with a clause is put behind it.
use Prim.Native.Nat.{ℕ, ◌+◌, ◌*◌, ◌≤◌, ◌<◌}
use native.Mathlib.Omega.{arith}
use mathlib.Core.Path.{◌≡◌, refl, sym, ap, subst, ◌∙◌}
use mathlib.Core.Bool.{Bool, true, false}
use mathlib.Core.Option.{Option, none, some, none-ne-some}
use mathlib.Core.List.{List, [], ◌∷◌, ◌++◌}
use lib.ListN.{length, get_or, take}
use Rattle.paper.specs.Answers.{ok}
use Rattle.paper.specs.Tokens.{sequel, Comparison}
use Rattle.paper.specs.Grammar as G
use Rattle.paper.specs.Grammar.{Tree}
use Rattle.paper.specs.Sized.{count}
use Rattle.paper.specs.Pact as P
use Rattle.paper.specs.Pact.{Clause, Assertion}
use Rattle.paper.specs.Contract.{Front, fault, continued, with_conjunction}
use Rattle.paper.specs.Drafting.{inversion, comparison_of, link_of, operand_tree, assertion_tree, clause_tree, sequel_of}
use Rattle.std.specs.Prelude as S
use Rattle.std.specs.Prelude.{Some, None}
use Rattle.drafting.specs.declared.pieces.Piece.{Piece}
use Rattle.drafting.specs.declared.opcodes.Conjunction.{Conjunction}
use Rattle.drafting.specs.declared.fronts.Front as R
use Rattle.drafting.specs.Opcodes.{conjunction_meant, linking_meant}
use Rattle.drafting.specs.Pieces.{Holds, Grown, Operands}
use Rattle.drafting.specs.Assertions.{names_in}
use Rattle.drafting.specs.Fronts.{all_of, clause_of, sequel_on, end_of, PartIs, Represents, most_nodes, Closable, Steps, link_meant}
use Rattle.drafting.proofs.Growing.{small, still_holds, stays_before, grown_as, grown_behind}

-- what stands directly behind an assertion
abbrev behind : List Clause → Clause → Front
behind cs c = record { closed = cs; clause = some c; conjunction = none; comparator = none }

-- the cases of the definition, by what is known of them

module _ (cs : List Clause) (o : Option Clause) (j : Option P.Conjunction) where
  module _ (at : ℕ) (k : P.Conjunction) where
    two_conjunctions : (c : Clause) (i : P.Conjunction) → o ≡ some c → j ≡ some i → with_conjunction at cs o j k ≡ fault at
    two_conjunctions c i e l = rw (e, l)

    one_conjunction : (c : Clause) → o ≡ some c → j ≡ none
        → with_conjunction at cs o j k ≡ ok (record { closed = cs; clause = o; conjunction = some k; comparator = none })
    one_conjunction c e l = rw (e, l)

  module _ (a : Assertion) where
    begun_first : o ≡ none → continued cs o j a ≡ behind cs (P.alone a)
    begun_first e = rw e

    begun_behind : (c : Clause) → o ≡ some c → j ≡ none → continued cs o j a ≡ behind (cs ++ (c ∷ [])) (P.alone a)
    begun_behind c e l = rw (e, l)

    gone_on : (c : Clause) (k : P.Conjunction) → o ≡ some c → j ≡ some k → continued cs o j a ≡ behind cs (P.linked c k a)
    gone_on c k e l = rw (e, l)

-- what is there and what is not

part_as : (list ns : List ℕ) (start : ℕ) {x y : S.Option Piece} (o : Option Tree) → x ≡ y → PartIs list ns start x o → PartIs list ns start y o
part_as list ns start o e h = subst (λ (z : S.Option Piece). PartIs list ns start z o) e h

nothing_there : (list ns : List ℕ) (start : ℕ) (x : S.Option Piece) → PartIs list ns start x none → x ≡ None
nothing_there list ns start None h = refl
nothing_there list ns start (Some p) h = absurd h

-- the closed clauses stand within the limit of tokens
end_most : (list ns : List ℕ) (x : S.Option Piece) (o : Option Tree) → PartIs list ns 0 x o → end_of x ≤ 1024
end_most list ns None o h = omega arith
end_most list ns (Some p) none h = absurd h
end_most list ns (Some p) (some t) h = omega (arith, h.room)

-- and stay where nodes are changed behind them
part_stays : (list : List ℕ) (before after : List ℕ) (x : S.Option Piece) (o : Option Tree) → take (end_of x * 8) after ≡ take (end_of x * 8) before
    → PartIs list before 0 x o → PartIs list after 0 x o
part_stays list before after None none e h = h
part_stays list before after None (some t) e h = h
part_stays list before after (Some p) none e h = h
part_stays list before after (Some p) (some t) e h = still_holds list p.end e (omega arith) h

-- there is room to join them with a clause behind them
closable : (list ns : List ℕ) (x : S.Option Piece) (o : Option Tree) (c : Piece) (t : Tree) → most_nodes * 8 ≤ length ns → PartIs list ns 0 x o
    → Holds list ns (end_of x) c t → Closable x c ns
closable list ns None o c t room h g = tt
closable list ns (Some p) none c t room h g = absurd h
closable list ns (Some p) (some u) c t room h g =
    record {
      left = small u h.sized;
      some = omega (arith, h.begun);
      behind = omega (arith, g.begun);
      right =
          record {
            small = small t g.sized;
            some = omega (arith, g.begun);
            most = omega (arith, g.room, h.room);
            fits = omega (arith, g.room, h.room, room);
          };
    }

pub closable_as : {x : S.Option Piece} (p c : Piece) (ns : List ℕ) → x ≡ Some p → Closable x c ns → Operands p c ns
closable_as p c ns e h = subst (λ (y : S.Option Piece). Closable y c ns) e h

-- a clause and what is closed before it

module _ (list ns : List ℕ) {x : S.Option Piece} {c : Piece} where
  pub alone : x ≡ None → (o : Option Tree) (t : Tree) → PartIs list ns 0 x o → Holds list ns (end_of x) c t → Grown list ns ns 0 c (sequel_on o t)
  alone e none t h g = grown_as list ns 0 (subst (λ (y : S.Option Piece). Holds list ns (end_of y) c t) e g)
  alone e (some u) t h g = absurd (part_as list ns 0 (some u) e h)

  pub behind_all : (after : List ℕ) (p r : Piece) → x ≡ Some p
      → ((t u : Tree) → Holds list ns 0 p t → Holds list ns p.end c u → Grown list ns after 0 r (G.joined 0 sequel t u))
      → (o : Option Tree) (t : Tree) → PartIs list ns 0 x o → Holds list ns (end_of x) c t → Grown list ns after 0 r (sequel_on o t)
  behind_all after p r e join none t h g = absurd (part_as list ns 0 none e h)
  behind_all after p r e join (some u) t h g =
      join u t (part_as list ns 0 (some u) e h) (subst (λ (y : S.Option Piece). Holds list ns (end_of y) c t) e g)

-- an assertion has six tokens at most

operand_one : (names : List (List ℕ)) (table : List ℕ) (c : Comparison) (w : List ℕ) (l : P.Load) (j : ℕ) → count (G.compared 0 c (G.key 0 w) (operand_tree names table l j)) ≡ 3
operand_one names table c w P.user j = refl
operand_one names table c w P.input j = refl

inverted_three : (b : Bool) (c : Comparison) (l r : Tree) → count (G.compared 0 c l r) ≡ 3 → count (inversion b (G.compared 0 c l r)) ≤ 6
inverted_three true c l r e = omega (arith, e)
inverted_three false c l r e = omega (arith, e)

module _ (list table : List ℕ) where
  abbrev names : List (List ℕ)
  names = names_in list

  pub six_tokens : (a : Assertion) → count (assertion_tree names table a) ≤ 6
  six_tokens a =
      let c = a.comparator in
      inverted_three c.inverted _ _ _ (operand_one names table (comparison_of c.relation) (get_or names a.left []) c.load a.right)

  -- one clause more is one ";" more
  sequel_more : (t : Tree) (cs : List Clause) (c : Clause) → sequel_of names table t (cs ++ (c ∷ [])) ≡ G.joined 0 sequel (sequel_of names table t cs) (clause_tree names table c)
  sequel_more t [] c = refl
  sequel_more t (d ∷ cs) c = sequel_more (G.joined 0 sequel t (clause_tree names table d)) cs c

  pub all_more : (cs : List Clause) (c : Clause) → all_of list table (cs ++ (c ∷ [])) ≡ some (sequel_on (all_of list table cs) (clause_tree names table c))
  all_more [] c = refl
  all_more (d ∷ cs) c = ap some (sequel_more (clause_tree names table d) cs c)

  module _ (ns : List ℕ) (start : ℕ) where
    no_clause : (o : Option Clause) → PartIs list ns start None (clause_of list table o) → o ≡ none
    no_clause none h = refl
    no_clause (some c) h = absurd h

    a_clause : (p : Piece) (o : Option Clause) → PartIs list ns start (Some p) (clause_of list table o)
        → (c : Clause) × ((o ≡ some c) × Holds list ns start p (clause_tree names table c))
    a_clause p none h = absurd h
    a_clause p (some c) h = (c, (refl, h))

  -- of a front that represents another

  module _ (ns : List ℕ) (x : R.Front) (f : Front) (h : Represents list table ns x f) where
    pub no_clause_yet : x.clause ≡ None → f.clause ≡ none
    no_clause_yet e = no_clause ns (end_of x.closed) f.clause (part_as list ns _ _ e h.clause)

    pub clause_there : (p : Piece) → x.clause ≡ Some p → (c : Clause) × ((f.clause ≡ some c) × Holds list ns (end_of x.closed) p (clause_tree names table c))
    clause_there p e = a_clause ns (end_of x.closed) p f.clause (part_as list ns _ _ e h.clause)

    pub closed_most : end_of x.closed ≤ 1024
    closed_most = end_most list ns x.closed (all_of list table f.closed) h.closed

    pub is_closable : most_nodes * 8 ≤ length ns → (p : Piece) → x.clause ≡ Some p → Closable x.closed p ns
    is_closable room p e =
        let c = clause_there p e in
        closable list ns x.closed _ p _ room h.closed c.1.1

    -- a conjunction

    module _ (at : ℕ) (k : P.Conjunction) where
      pub none_before : x.clause ≡ None → with_conjunction at f.closed f.clause f.conjunction k ≡ fault at
      none_before e = rw (no_clause_yet e)

      pub another_before : {p : Piece} {j : Conjunction} → x.clause ≡ Some p → x.link ≡ Some j
          → with_conjunction at f.closed f.clause f.conjunction k ≡ fault at
      another_before {p} {j} e l =
          let c = clause_there p e in
          two_conjunctions f.closed f.clause f.conjunction at k c.0 (conjunction_meant j) c.1.0 (sym h.link ∙ ap link_meant l)

    pub conjoined : (at : ℕ) (k : Conjunction) (p : Piece) → x.clause ≡ Some p → x.link ≡ None
        → Steps list table ns at (with_conjunction at f.closed f.clause f.conjunction (conjunction_meant k))
        (Some (record { closed = x.closed; clause = x.clause; link = Some k; opened = None }))
    conjoined at k p e l =
        let c = clause_there p e in (
          record { closed = f.closed; clause = f.clause; conjunction = some (conjunction_meant k); comparator = none },
          (one_conjunction f.closed f.clause f.conjunction at (conjunction_meant k) c.0 c.1.0 (sym h.link ∙ ap link_meant l), record { closed = h.closed; clause = h.clause; link = refl; opened = refl; first = h.first }),
        )

    -- the clause that may go on

    module _ (c : Piece) (e : x.clause ≡ Some c) where
      abbrev before : Clause
      before = (clause_there c e).0

      abbrev before_stands : Holds list ns (end_of x.closed) c (clause_tree names table before)
      before_stands = (clause_there c e).1.1

      -- there is room for an assertion behind it

      pub room_behind : most_nodes * 8 ≤ length ns → (c.end * 8 + 64 ≤ length ns) × (c.end < 60000)
      room_behind room = (omega (arith, room, before_stands.room, closed_most), omega (arith, before_stands.room, closed_most))

      abbrev Closing : List ℕ → Piece → Type 0
      Closing mid all =
          (o : Option Tree) (t : Tree) → PartIs list ns 0 x.closed o → Holds list ns (end_of x.closed) c t → Grown list ns mid 0 all (sequel_on o t)

      pub all_closed : {mid : List ℕ} {all : Piece} → Closing mid all
          → Grown list ns mid 0 all (sequel_on (all_of list table f.closed) (clause_tree names table before))
      all_closed close = close (all_of list table f.closed) (clause_tree names table before) h.closed before_stands

    -- an assertion is put: first of all, behind a clause that it closes, and behind one that it goes on with

    abbrev with_it : S.Option Piece → Piece → R.Front
    with_it closed p = record { closed = closed; clause = Some p; link = None; opened = None }

    stands_as : (after : List ℕ) (y : R.Front) (a : Assertion) {g : Front} → continued f.closed f.clause f.conjunction a ≡ g
        → Represents list table after y g → Represents list table after y (continued f.closed f.clause f.conjunction a)
    stands_as after y a e g = subst (Represents list table after y) (sym e) g

    module _ (a : Assertion) where
      abbrev a_tree : Tree
      a_tree = assertion_tree names table a

      pub begins_all : x.clause ≡ None → (after : List ℕ) (p : Piece) → Grown list ns after 0 p a_tree
          → Represents list table after (with_it x.closed p) (continued f.closed f.clause f.conjunction a)
      begins_all e after p g =
          let none_yet = no_clause_yet e in
          let empty : f.closed ≡ [] = h.first none_yet in
          let nowhere = nothing_there list ns 0 x.closed (subst (λ (cs : List Clause). PartIs list ns 0 x.closed (all_of list table cs)) empty h.closed) in
          stands_as after _ a (begun_first f.closed f.clause f.conjunction a none_yet)
          (record {
            closed = part_stays list ns after x.closed _ (rw nowhere) h.closed;
            clause = subst (λ (y : S.Option Piece). Holds list after (end_of y) p a_tree) (sym nowhere) g.holds;
            link = refl;
            opened = refl;
            first = λ (z : some (P.alone a) ≡ none). absurd (none-ne-some _ (sym z));
          })

      module _ (c : Piece) (e : x.clause ≡ Some c) where
        -- and for a link behind both
        pub linkable : most_nodes * 8 ≤ length ns → {mid : List ℕ} {next : Piece} → Grown list ns mid c.end next a_tree
            → Operands c next mid × ((next.end * 8 + 16 ≤ length mid) × (next.end < 60000))
        linkable room {mid} {next} g =
            let near : next.end ≤ 2054 = omega (arith, (before_stands c e).room, closed_most, g.holds.few, six_tokens a) in (
              record {
                left = small _ (before_stands c e).sized;
                some = omega (arith, (before_stands c e).begun);
                behind = omega (arith, g.holds.begun);
                right =
                    record {
                      small = small a_tree g.holds.sized;
                      some = omega (arith, g.holds.begun);
                      most = omega (arith, near);
                      fits = omega (arith, near, g.kept, room);
                    };
              },
              (omega (arith, near, g.kept, room), omega (arith, near)),
            )

        pub closes : x.link ≡ None → {mid after : List ℕ} {all p : Piece} → Closing c e mid all → Grown list mid after all.end p a_tree
            → Represents list table after (with_it (Some all) p) (continued f.closed f.clause f.conjunction a)
        closes l {mid} {after} {all} {p} close k =
            let both = grown_behind list (all_closed c e close) k in
            stands_as after _ a (begun_behind f.closed f.clause f.conjunction a (before c e) (clause_there c e).1.0 (sym h.link ∙ ap link_meant l))
            (record {
              closed = rw (all_more f.closed (before c e)) both.holds;
              clause = k.holds;
              link = refl;
              opened = refl;
              first = λ (z : some (P.alone a) ≡ none). absurd (none-ne-some _ (sym z));
            })

        abbrev Linking : List ℕ → List ℕ → Piece → Piece → Conjunction → Type 0
        Linking mid after next p j =
            (start : ℕ) (t u : Tree) → Holds list mid start c t → Holds list mid c.end next u
            → Grown list mid after start p (inversion j.inverted (link_of (linking_meant j.linking) t u))

        pub goes_on : {j : Conjunction} → x.link ≡ Some j → {mid after : List ℕ} {next p : Piece} → Grown list ns mid c.end next a_tree
            → Linking mid after next p j → Represents list table after (with_it x.closed p) (continued f.closed f.clause f.conjunction a)
        goes_on {j} l {mid} {after} {next} {p} g link =
            let still = still_holds list c.end g.stays (omega arith) (before_stands c e) in
            let linked = link (end_of x.closed) (clause_tree names table (before c e)) a_tree still g.holds in
            let stays = stays_before ns mid (end_of x.closed) c.end (omega (arith, (before_stands c e).begun)) g.stays in
            stands_as after _ a (gone_on f.closed f.clause f.conjunction a (before c e) (conjunction_meant j) (clause_there c e).1.0 (sym h.link ∙ ap link_meant l))
            (record {
              closed = part_stays list ns after x.closed _ (linked.stays ∙ stays) h.closed;
              clause = linked.holds;
              link = refl;
              opened = refl;
              first = λ (z : some (P.linked (before c e) (conjunction_meant j) a) ≡ none). absurd (none-ne-some _ (sym z));
            })
