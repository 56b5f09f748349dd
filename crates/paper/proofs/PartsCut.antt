-- The parts of a text, cut by its parentheses, are the phrases that the grammar joins by ";": so its tree is their trees, joined from the
-- left. A phrase stands whole in one part, since it closes each parenthesis that it opens, and a ";" in it stands inside one.
use Prim.Native.Nat.{ℕ, zero, suc}
use mathlib.Core.Path.{◌≡◌, refl, sym, ap, subst, ◌∙◌}
use mathlib.Core.Bool.{Bool, true, false}
use mathlib.Core.List.{List, [], ◌∷◌, ◌++◌, append_assoc, append-nil}
use lib.ListN.{length}
use Rattle.paper.specs.Answers.{Answer, ok, ◌>>=◌}
use Rattle.paper.specs.Tokens.{sequel, implies, or_else, and_also, join, prefix, opening, closing, colons, word, string, Token, tokens}
use Rattle.paper.specs.Addresses.{address}
use Rattle.paper.specs.Grammar.{Tree, Make, Reader, most_levels, parsed}
use Rattle.paper.specs.Sentences.{Phrases, token_at, sign_at, Operator, Joining, joining, Comparing, comparing, Once, none_of, one_of, Chain, first, further, Operand, a_true, a_false, a_numeral, an_address, a_key, a_field, an_attribute, a_prefixed, a_parenthesis, Implication, Prefixed, without, trailing, Valid}
use Rattle.paper.specs.Calls.{tree}
use Rattle.paper.specs.Parts.{open_after, in_front, divides, between, non_empty, top_level, stretch_of, Part, numbered, parts}
use Rattle.paper.specs.PartsDecide.{JoinedLeft, alone, then, roots, TextIsItsParts}
use Rattle.paper.proofs.Stages.{ok_same, bind_ok}
use Rattle.paper.proofs.Refusals.{read_is_valid}

-- tokens before the first of some parts, in it

abbrev pub before : List Token → List (List Token) → List (List Token)
before [] ps = ps
before (u ∷ us) ps = in_front u (before us ps)

pub before_append : (us vs : List Token) (ps : List (List Token)) → before (us ++ vs) ps ≡ before us (before vs ps)
before_append [] vs ps = refl
before_append (u ∷ us) vs ps = ap (in_front u) (before_append us vs ps)

pub before_none : (us : List Token) (ps : List (List Token)) → before us ([] ∷ ps) ≡ us ∷ ps
before_none [] ps = refl
before_none (u ∷ us) ps = ap (in_front u) (before_none us ps)

-- tokens that stand whole in one part, where so many parentheses are open, and leave as many open

abbrev Passes : ℕ → List Token → Type 0
Passes depth ts = (us : List Token) → between depth (ts ++ us) ≡ before ts (between depth us)

passes_join : (depth : ℕ) (ls rs : List Token) → Passes depth ls → Passes depth rs → Passes depth (ls ++ rs)
passes_join depth ls rs h g us =
    ap (between depth) (append_assoc ls rs us) ∙ h (rs ++ us) ∙ ap (before ls) (g us) ∙ sym (before_append ls rs (between depth us))

-- a token that divides nothing there, and opens and closes nothing
record Plain (depth : ℕ) (u : Token) : Type 0 where
  whole : divides depth u ≡ false
  level : open_after depth u.tok ≡ depth

passes_plain : (depth : ℕ) (u : Token) (us : List Token) → Plain depth u → Passes depth us → Passes depth (u ∷ us)
unfolding between
passes_plain depth u us p h vs = rw (p.whole, p.level, h vs)

-- "(", what stands whole inside parentheses, and ")"
passes_closed : (depth at to : ℕ) (ts : List Token) → Passes (suc depth) ts
    → Passes depth (sign_at at opening ∷ (ts ++ (sign_at to closing ∷ [])))
unfolding between
passes_closed depth at to ts h us =
    let close = sign_at to closing ∷ [] in
    ap (in_front (sign_at at opening))
    (ap (between (suc depth)) (append_assoc ts close us) ∙ h (close ++ us) ∙ sym (before_append ts close (between depth us)))

-- phrases: each stands whole, anywhere or only inside parentheses, and has a token

abbrev opened : Bool → ℕ → ℕ
opened false depth = depth
opened true depth = suc depth

record Stands (inside : Bool) (ts : List Token) : Type 0 where
  whole : (depth : ℕ) → Passes (opened inside depth) ts
  head : Token
  tail : List Token
  some : ts ≡ head ∷ tail

abbrev AllStand : Bool → Phrases → Type 0
AllStand inside S = (t : Tree) (ts : List Token) → S t ts → Stands inside ts

-- what stands whole anywhere does so inside parentheses
also_inside : {S : Phrases} → AllStand false S → AllStand true S
also_inside h t ts s =
    let w = h t ts s in
    record { whole = λ depth. w.whole (suc depth); head = w.head; tail = w.tail; some = w.some }

-- operators that divide nothing there: all but ";", which divides nothing inside parentheses

abbrev Within : Bool → Operator → Type 0
Within inside op = (u : Token) (make : Make) → op u make → (depth : ℕ) → Plain (opened inside depth) u

within_implies : (inside : Bool) → Within inside (Joining implies)
within_implies inside u make (joining at) depth = record { whole = refl; level = refl }

within_or : (inside : Bool) → Within inside (Joining or_else)
within_or inside u make (joining at) depth = record { whole = refl; level = refl }

within_and : (inside : Bool) → Within inside (Joining and_also)
within_and inside u make (joining at) depth = record { whole = refl; level = refl }

within_comparing : (inside : Bool) → Within inside Comparing
within_comparing inside u make (comparing at c) depth = record { whole = refl; level = refl }

within_sequel : Within true (Joining sequel)
within_sequel u make (joining at) depth = record { whole = refl; level = refl }

-- the ladder

stands_join : (inside : Bool) (ls rs : List Token) (u : Token) → Stands inside ls → ((depth : ℕ) → Plain (opened inside depth) u)
    → Stands inside rs → Stands inside (ls ++ (u ∷ rs))
stands_join inside ls rs u h p g =
    record {
      whole = λ depth.
          let d = opened inside depth in passes_join d ls (u ∷ rs) (h.whole depth) (passes_plain d u rs (p depth) (g.whole depth));
      head = h.head;
      tail = h.tail ++ (u ∷ rs);
      some = ap (λ (x : List Token). x ++ (u ∷ rs)) h.some;
    }

module _ (inside : Bool) {op : Operator} (within : Within inside op) {S : Phrases} (below : AllStand inside S) where
  once_stands : AllStand inside (Once op S)
  once_stands t ts (none_of h) = below t ts h
  once_stands t ts (one_of {l = l} {r = r} {ls = ls} {rs = rs} {u = u} {make = make} h o g) =
      stands_join inside ls rs u (below l ls h) (within u make o) (below r rs g)

  chain_stands : AllStand inside (Chain op S)
  chain_stands t ts (first h) = below t ts h
  chain_stands t ts (further {l = l} {r = r} {ls = ls} {rs = rs} {u = u} {make = make} h o g) =
      stands_join inside ls rs u (chain_stands l ls h) (within u make o) (below r rs g)

implication_stands : (inside : Bool) {S : Phrases} → AllStand inside S → AllStand inside (Implication S)
implication_stands b below =
    once_stands b (within_implies b)
    (chain_stands b (within_or b) (chain_stands b (within_and b) (once_stands b (within_comparing b) below)))

-- operands

one_plain : (u : Token) → ((depth : ℕ) → Plain depth u) → Stands false (u ∷ [])
one_plain u p = record { whole = λ depth. passes_plain depth u [] (p depth) (λ us. refl); head = u; tail = []; some = refl }

more_plain : (u : Token) (us : List Token) → ((depth : ℕ) → Plain depth u) → Stands false us → Stands false (u ∷ us)
more_plain u us p h =
    record { whole = λ depth. passes_plain depth u us (p depth) (h.whole depth); head = u; tail = us; some = refl }

closed : (at to : ℕ) (ts : List Token) → ((depth : ℕ) → Passes (suc depth) ts)
    → Stands false (sign_at at opening ∷ (ts ++ (sign_at to closing ∷ [])))
closed at to ts h =
    record {
      whole = λ depth. passes_closed depth at to ts (h depth);
      head = sign_at at opening;
      tail = ts ++ (sign_at to closing ∷ []);
      some = refl;
    }

module _ (read : Reader) {Inner Outer : Phrases} (inner : AllStand false Inner) (outer : AllStand true Outer) where
  operand_stands : AllStand false (Operand read Inner Outer)
  operand_stands t ts (a_true at) = one_plain _ (λ depth. record { whole = refl; level = refl })
  operand_stands t ts (a_false at) = one_plain _ (λ depth. record { whole = refl; level = refl })
  operand_stands t ts (a_numeral at n) = one_plain _ (λ depth. record { whole = refl; level = refl })
  operand_stands t ts (an_address at w s a b c q n scheme found) =
      more_plain (token_at at (word w)) _ (λ depth. record { whole = refl; level = refl })
      (closed a c (token_at b (string q) ∷ [])
      (λ depth. passes_plain (suc depth) (token_at b (string q)) [] (record { whole = refl; level = refl }) (λ us. refl)))
  operand_stands t ts (a_key at w name) = one_plain _ (λ depth. record { whole = refl; level = refl })
  operand_stands t ts (a_field at w a to f name plain) =
      more_plain (token_at at (word w)) _ (λ depth. record { whole = refl; level = refl })
      (more_plain (sign_at a colons) _ (λ depth. record { whole = refl; level = refl })
      (one_plain _ (λ depth. record { whole = refl; level = refl })))
  operand_stands t ts (an_attribute at to f plain) =
      more_plain (sign_at at colons) _ (λ depth. record { whole = refl; level = refl })
      (one_plain _ (λ depth. record { whole = refl; level = refl }))
  operand_stands t ts (a_prefixed {t = r} {ts = rs} at o h) =
      more_plain (sign_at at (prefix o)) rs (λ depth. record { whole = refl; level = refl }) (inner r rs h)
  operand_stands t ts (a_parenthesis {ts = rs} at to h) = closed at to rs (outer t rs h).whole

prefixed_stands : (read : Reader) (levels : ℕ) → AllStand false (Prefixed read levels)
unfolding Prefixed
prefixed_stands read zero = operand_stands read (λ t ts h. absurd h) (λ t ts h. absurd h)
prefixed_stands read (suc levels) =
    let below = prefixed_stands read levels in
    operand_stands read below (chain_stands true within_sequel (implication_stands true (also_inside below)))

-- what stands between two top-level ";"

abbrev PartPhrase : Phrases
PartPhrase = Implication (Prefixed address most_levels)

part_stands : AllStand false PartPhrase
part_stands = implication_stands false (prefixed_stands address most_levels)

data Each : List (List Token) → List Tree → Type 0 where
  none_more : Each [] []
  one_more : {p : List Token} {t : Tree} {ps : List (List Token)} {ts : List Tree} → PartPhrase t p → Each ps ts → Each (p ∷ ps) (t ∷ ts)

each_last : {ps : List (List Token)} {ts : List Tree} → Each ps ts → (p : List Token) (t : Tree) → PartPhrase t p
    → Each (ps ++ (p ∷ [])) (ts ++ (t ∷ []))
each_last none_more p t h = one_more h none_more
each_last (one_more g more) p t h = one_more g (each_last more p t h)

-- a sequence: the parts before its last, and its last
record Sequenced (t : Tree) (ts : List Token) : Type 0 where
  front : List (List Token)
  last : List Token
  trees : List Tree
  root : Tree
  each : Each front trees
  part : PartPhrase root last
  cuts : (us : List Token) → between 0 (ts ++ us) ≡ front ++ before last (between 0 us)
  joins : JoinedLeft (trees ++ (root ∷ [])) t

sequenced : (t : Tree) (ts : List Token) → Chain (Joining sequel) PartPhrase t ts → Sequenced t ts
unfolding between
sequenced t ts (first h) =
    record {
      front = [];
      last = ts;
      trees = [];
      root = t;
      each = none_more;
      part = h;
      cuts = (part_stands t ts h).whole 0;
      joins = alone t;
    }
sequenced t ts (further {l = l} {r = r} {ls = ls} {rs = rs} h (joining at) g) =
    let s = sequenced l ls h in
    let sign = sign_at at (join sequel) in
    record {
      front = s.front ++ (s.last ∷ []);
      last = rs;
      trees = s.trees ++ (s.root ∷ []);
      root = r;
      each = each_last s.each s.last s.root s.part;
      part = g;
      cuts = λ us.
          ap (between 0) (append_assoc ls (sign ∷ rs) us) ∙ s.cuts (sign ∷ (rs ++ us))
          ∙ ap (λ (q : List (List Token)). s.front ++ q) (before_none s.last (between 0 (rs ++ us)))
          ∙ ap (λ (q : List (List Token)). s.front ++ (s.last ∷ q)) ((part_stands r rs g).whole 0 us)
          ∙ sym (append_assoc s.front (s.last ∷ []) (before rs (between 0 us)));
      joins = then s.joins at r;
    }

-- none of them is empty
each_kept : {ps : List (List Token)} {ts : List Tree} → Each ps ts → (qs : List (List Token)) → non_empty (ps ++ qs) ≡ ps ++ non_empty qs
each_kept none_more qs = refl
each_kept (one_more {p = p} {t = t} {ps = ps} h more) qs =
    let w = part_stands t p h in
    subst (λ (x : List Token). non_empty (x ∷ (ps ++ qs)) ≡ x ∷ (ps ++ non_empty qs)) (sym w.some)
    (ap (λ (x : List (List Token)). (w.head ∷ w.tail) ∷ x) (each_kept more qs))

-- what is made of tokens between ";" signs: a part of each, numbered from n on

abbrev pub part_of : List ℕ → ℕ → List Token → Tree → Part
part_of text n p t = record { number = n; root = t; stretch = stretch_of text p }

pub data Made (text : List ℕ) : ℕ → List (List Token) → List Part → Type 0 where
  no_part : {n : ℕ} → Made text n [] []
  a_part : {n : ℕ} {ps : List (List Token)} {more : List Part} (p : List Token) (t : Tree) → parsed (length text) p ≡ ok t
      → Made text (suc n) ps more → Made text n (p ∷ ps) (part_of text n p t ∷ more)

numbered_made : (text : List ℕ) (n : ℕ) (ps : List (List Token)) (made : List Part) → numbered text n ps ≡ ok made → Made text n ps made
unfolding numbered
numbered_made text n [] made e = subst (Made text n []) (ok_same [] made e) no_part
numbered_made text n (p ∷ ps) made e =
    let one : Tree → List Part → Answer (List Part) = λ t more. ok (part_of text n p t ∷ more) in
    let (t, read, rest) = bind_ok (parsed (length text) p) (λ t. numbered text (suc n) ps >>= one t) made e in
    let (more, later, whole) = bind_ok (numbered text (suc n) ps) (one t) made rest in
    subst (Made text n (p ∷ ps)) (ok_same (part_of text n p t ∷ more) made whole) (a_part p t read (numbered_made text (suc n) ps more later))

made_numbered : (text : List ℕ) (n : ℕ) {ps : List (List Token)} {made : List Part} → Made text n ps made → numbered text n ps ≡ ok made
unfolding numbered
made_numbered text n no_part = refl
made_numbered text n (a_part p t read more) = rw (read, made_numbered text (suc n) more)

pub parts_made : (text : List ℕ) (ps : List Part) → parts text ≡ ok ps → (ts : List Token) × (tokens text ≡ ok ts) × Made text 1 (top_level ts) ps
unfolding parts
parts_made text ps h =
    let (ts, cut, made) = bind_ok (tokens text) (λ ts. numbered text 1 (top_level ts)) ps h in
    (ts, cut, numbered_made text 1 (top_level ts) ps made)

made_parts : (text : List ℕ) (ts : List Token) (ps : List Part) → tokens text ≡ ok ts → Made text 1 (top_level ts) ps → parts text ≡ ok ps
unfolding parts
made_parts text ts ps cut made = rw cut (made_numbered text 1 made)

-- each phrase makes a part with its tree
record Trees (text : List ℕ) (n : ℕ) (ps : List (List Token)) (ts : List Tree) : Type 0 where
  made : List Part
  are : Made text n ps made
  trees : roots made ≡ ts

each_made : (text : List ℕ) (n : ℕ) {ps : List (List Token)} {ts : List Tree} → Each ps ts → Trees text n ps ts
each_made text n none_more = record { made = []; are = no_part; trees = refl }
each_made text n (one_more {p = p} {t = t} h more) =
    let rest = each_made text (suc n) more in
    record {
      made = part_of text n p t ∷ rest.made;
      are = a_part p t ((read_is_valid (length text) p t).1 (without (first h))) rest.are;
      trees = ap (λ (x : List Tree). t ∷ x) rest.trees;
    }

-- a text's tokens: a sequence, and after it no part

abbrev Parted : List ℕ → Tree → List Token → Type 0
Parted text t ts = (ps : List Part) × Made text 1 (top_level ts) ps × JoinedLeft (roots ps) t

module _ (text : List ℕ) (t : Tree) (ts : List Token) (s : Sequenced t ts) where
  abbrev all : List (List Token)
  all = s.front ++ (s.last ∷ [])

  each_part : Each all (s.trees ++ (s.root ∷ []))
  each_part = each_last s.each s.last s.root s.part

  without_trailing : between 0 ts ≡ all ++ []
  unfolding between
  without_trailing =
      ap (between 0) (sym (append-nil ts)) ∙ s.cuts []
      ∙ ap (λ (q : List (List Token)). s.front ++ q) (before_none s.last [])
      ∙ sym (append-nil all)

  with_trailing : (at : ℕ) → between 0 (ts ++ (sign_at at (join sequel) ∷ [])) ≡ all ++ ([] ∷ [])
  unfolding between
  with_trailing at =
      s.cuts (sign_at at (join sequel) ∷ [])
      ∙ ap (λ (q : List (List Token)). s.front ++ q) (before_none s.last ([] ∷ []))
      ∙ sym (append_assoc s.front (s.last ∷ []) ([] ∷ []))

  parted : (us : List Token) (rest : List (List Token)) → non_empty rest ≡ [] → between 0 us ≡ all ++ rest → Parted text t us
  unfolding top_level
  parted us rest none e =
      let m = each_made text 1 each_part in
      let kept : top_level us ≡ all =
      ap non_empty e ∙ each_kept each_part rest ∙ ap (λ (x : List (List Token)). all ++ x) none ∙ append-nil all
      in (
        m.made,
        subst (λ (x : List (List Token)). Made text 1 x m.made) (sym kept) m.are,
        subst (λ (x : List Tree). JoinedLeft x t) (sym m.trees) s.joins,
      )

valid_parted : (text : List ℕ) (t : Tree) (ts : List Token) → Valid t ts → Parted text t ts
valid_parted text t ts (without h) =
    let s = sequenced t ts h in
    parted text t ts s ts [] refl (without_trailing text t ts s)
valid_parted text t ts (trailing {ts = us} h (joining at)) =
    let s = sequenced t us h in
    parted text t us s (us ++ (sign_at at (join sequel) ∷ [])) ([] ∷ []) refl (with_trailing text t us s at)

pub text_is_its_parts : TextIsItsParts
unfolding tree
text_is_its_parts text t h =
    let (ts, cut, read) = bind_ok (tokens text) (parsed (length text)) t h in
    let (ps, made, joins) = valid_parted text t ts ((read_is_valid (length text) ts t).0 read) in
    (ps, made_parts text ts ps cut made, joins)
