-- A part's stretch lies in the text, since its tokens do, and no token takes a byte past the text's end; its root's place is the offset of
-- one of them. And there are few parts: each has a token, and a ";" stands between two.
use Prim.Native.Nat.{ℕ, suc, ◌+◌, ◌*◌, ◌≤◌, ◌<◌, zero-le}
use native.Mathlib.Omega.{arith}
use mathlib.Core.Path.{◌≡◌, refl, ap, subst}
use mathlib.Core.Bool.{Bool, true, false, cond}
use mathlib.Core.List.{List, [], ◌∷◌, Memᴰ}
use lib.ListN.{length, drop, length-drop}
use Rattle.paper.specs.Answers.{ok}
use Rattle.paper.specs.Numbers.{byte_at}
use Rattle.paper.specs.Tokens.{Tok, Token, token, tokens}
use Rattle.paper.specs.Grammar.{Tree, truth, number, key, field, attribute, prefixed, joined, compared, place_of, parsed}
use Rattle.paper.specs.Places.{Everywhere, Rising}
use Rattle.paper.specs.BlocksRoundTrip.{All}
use Rattle.paper.specs.Faults.{scan_at, Cut, at_start, a_blank, a_token}
use Rattle.paper.specs.Parts.{open_after, in_front, divides, between, non_empty, top_level, token_end, last_of, stretch_of, Part}
use Rattle.paper.specs.PartsDecide.{PartIn, PartsInText, FewParts, AtMostParts}
use Rattle.paper.proofs.Basics.{all_append}
use Rattle.paper.proofs.Stages.{never_ok}
use Rattle.paper.proofs.Nodes.{places_as_offsets}
use Rattle.paper.proofs.ScansFit.{Fits, scan_fits}
use Rattle.paper.proofs.Offsets.{sooner, offsets_rise}
use Rattle.paper.proofs.TokenFaults.{tokens_are_cut}
use Rattle.paper.proofs.TokenNumbers.{tokens_within}
use Rattle.paper.proofs.PartsCut.{part_of, Made, no_part, a_part, parts_made}

-- each token of a text ends in it

module _ (text : List ℕ) where
  abbrev EndsIn : Token → Type 0
  EndsIn u = token_end text u.at ≤ length text

  token_ends : (at n : ℕ) (k : Tok) → at < length text → scan_at text at ≡ token k n → EndsIn (record { at = at; tok = k })
  unfolding token_end
  token_ends at n k inside e =
      let rest = drop (suc at) text in
      let fits : n ≤ length rest = subst (Fits rest) e (scan_fits (byte_at text at) rest) in
      rw e (omega (arith, fits, length-drop (suc at) text))

  tokens_end : (at : ℕ) (ts : List Token) → Cut text at ts → All EndsIn ts
  tokens_end at ts at_start = tt
  tokens_end at ts (a_blank {at = from} n cut inside e) = tokens_end from ts cut
  tokens_end at ts (a_token {at = from} {ts = vs} k n cut inside e) =
      all_append EndsIn vs (record { at = from; tok = k } ∷ []) (tokens_end from vs cut) (token_ends from n k inside e, tt)

-- what all tokens have, those of each part have; and where their offsets rise, they rise in each part

module _ (P : Token → Type 0) where
  all_front : (u : Token) (ps : List (List Token)) → P u → All (All P) ps → All (All P) (in_front u ps)
  all_front u [] h g = ((h, tt), tt)
  all_front u (p ∷ ps) h g = ((h, g.0), g.1)

  all_between : (depth : ℕ) (ts : List Token) → All P ts → All (All P) (between depth ts)
  unfolding between
  all_between depth [] h = (tt, tt)
  all_between depth (u ∷ us) h =
      let later = open_after depth u.tok in
      go (divides depth u) (between later us) (all_between later us h.1)
    where
      go : (b : Bool) (rest : List (List Token)) → All (All P) rest → All (All P) (cond b ([] ∷ rest) (in_front u rest))
      go true rest g = (tt, g)
      go false rest g = all_front u rest h.0 g

module _ (below : ℕ) where
  all_sooner : (from later : ℕ) (ps : List (List Token)) → from ≤ later → All (Rising later below) ps → All (Rising from below) ps
  all_sooner from later [] l h = tt
  all_sooner from later (p ∷ ps) l h = (sooner from later below p l h.0, all_sooner from later ps l h.1)

  rising_front : (from : ℕ) (u : Token) (ps : List (List Token)) → from ≤ u.at → u.at < below
      → All (Rising (suc u.at) below) ps → All (Rising from below) (in_front u ps)
  rising_front from u [] l h g = ((l, h, tt), tt)
  rising_front from u (p ∷ ps) l h g = ((l, h, g.0), all_sooner from (suc u.at) ps (omega arith) g.1)

  rising_between : (depth from : ℕ) (ts : List Token) → Rising from below ts → All (Rising from below) (between depth ts)
  unfolding between
  rising_between depth from [] h = (tt, tt)
  rising_between depth from (u ∷ us) (l, inside, rises) =
      let later = open_after depth u.tok in
      go (divides depth u) (between later us) (rising_between later (suc u.at) us rises)
    where
      go : (b : Bool) (rest : List (List Token)) → All (Rising (suc u.at) below) rest
          → All (Rising from below) (cond b ([] ∷ rest) (in_front u rest))
      go true rest g = (tt, all_sooner from (suc u.at) rest (omega arith) g)
      go false rest g = rising_front from u rest l inside g

-- a part from its first token to its last

last_has : (P : Token → Type 0) (u : Token) (us : List Token) → All P (u ∷ us) → P (last_of u us)
last_has P u [] h = h.0
last_has P u (v ∷ us) h = last_has P v us h.1

-- no token of it begins before the first, or after the last

not_before : (from below : ℕ) (ts : List Token) → Rising from below ts → (v : Token) → Memᴰ v ts → from ≤ v.at
not_before from below [] _ v m = elim m [ ]
not_before from below (u ∷ us) (l, inside, later) v (Memᴰ.head e) = rw e l
not_before from below (u ∷ us) (l, inside, later) v (Memᴰ.tail m) =
    omega (arith, l, not_before (suc u.at) below us later v m)

not_after : (from below : ℕ) (u : Token) (us : List Token) → Rising from below (u ∷ us) → (v : Token) → Memᴰ v (u ∷ us)
    → v.at ≤ (last_of u us).at
not_after from below u [] h v (Memᴰ.head e) = rw e (omega arith)
not_after from below u [] h v (Memᴰ.tail m) = elim m [ ]
not_after from below u (w ∷ us) (l, inside, later) v (Memᴰ.tail m) = not_after (suc u.at) below w us later v m
not_after from below u (w ∷ us) (l, inside, later) v (Memᴰ.head e) =
    let next = not_after (suc u.at) below w us later w (Memᴰ.head refl) in
    rw e (omega (arith, next, later.0))

place_has : (P : ℕ → Type 0) (t : Tree) → Everywhere P t → P (place_of t)
place_has P (truth at b) h = h
place_has P (number at n) h = h
place_has P (key at w) h = h
place_has P (field at w to f) h = h.0
place_has P (attribute at to f) h = h.0
place_has P (prefixed at o t) h = h.0
place_has P (joined at o l r) h = h.0
place_has P (compared at c l r) h = h.0

module _ (text : List ℕ) where
  -- tokens of the text, in their order
  record Sound (p : List Token) : Type 0 where
    rises : Rising 0 (length text) p
    ends : All (EndsIn text) p

  end_after : (at : ℕ) → at < token_end text at
  unfolding token_end
  end_after at = omega arith

  part_in : (n : ℕ) (u : Token) (us : List Token) (t : Tree) → Sound (u ∷ us) → parsed (length text) (u ∷ us) ≡ ok t
      → PartIn text (part_of text n (u ∷ us) t)
  unfolding stretch_of
  part_in n u us t s read =
      let last = last_of u us in
      let rises = s.rises in
      let Between : ℕ → Type 0 = λ at. (u.at ≤ at) × (at ≤ last.at) in
      let (low, high) = place_has Between t
      (places_as_offsets Between (length text) (u ∷ us) t read
      (λ v m. (
        not_before u.at (length text) (u ∷ us) (omega arith, rises.1, rises.2) v m,
        not_after 0 (length text) u us rises v m,
      )))
      in
      record {
        stretch =
            record {
              some = omega (arith, not_after 0 (length text) u us rises u (Memᴰ.head refl), end_after last.at);
              inside = last_has (EndsIn text) u us s.ends;
            };
        from = low;
        to = omega (arith, high, end_after last.at);
      }

  parsed_none : (t : Tree) → ¬ (parsed (length text) [] ≡ ok t)
  unfolding parsed
  parsed_none t e = never_ok e

  one_in : (n : ℕ) (p : List Token) (t : Tree) → Sound p → parsed (length text) p ≡ ok t → PartIn text (part_of text n p t)
  one_in n [] t s read = absurd (parsed_none t read)
  one_in n (u ∷ us) t s read = part_in n u us t s read

  all_in : {n : ℕ} {ps : List (List Token)} {made : List Part} → Made text n ps made → All Sound ps → All (PartIn text) made
  all_in no_part h = tt
  all_in (a_part {n = n} p t read more) h = (one_in n p t h.0 read, all_in more h.1)

  all_sound : (ps : List (List Token)) → All (Rising 0 (length text)) ps → All (All (EndsIn text)) ps → All Sound (non_empty ps)
  all_sound [] h g = tt
  all_sound ([] ∷ ps) h g = all_sound ps h.1 g.1
  all_sound ((u ∷ us) ∷ ps) h g = (record { rises = h.0; ends = g.0 }, all_sound ps h.1 g.1)

  sound_parts : (ts : List Token) → tokens text ≡ ok ts → All Sound (top_level ts)
  unfolding top_level
  sound_parts ts cut =
      let (end, cuts, out, few) = (tokens_are_cut text ts).0 cut in
      all_sound (between 0 ts) (rising_between (length text) 0 0 ts (offsets_rise text ts cut))
      (all_between (EndsIn text) 0 ts (tokens_end text end ts cuts))

pub parts_in_text : PartsInText
parts_in_text text ps h =
    let (ts, cut, made) = parts_made text ps h in
    all_in text made (sound_parts text ts cut)

-- how many tokens they have, with one more for each part

abbrev weight : List (List Token) → ℕ
weight [] = 0
weight (p ∷ ps) = suc (length p) + weight ps

between_weight : (depth : ℕ) (ts : List Token) → weight (between depth ts) ≡ suc (length ts)
unfolding between
between_weight depth [] = refl
between_weight depth (u ∷ us) =
    let later = open_after depth u.tok in
    go (divides depth u) (between later us) (between_weight later us)
  where
    go : (b : Bool) (rest : List (List Token)) → weight rest ≡ suc (length us)
        → weight (cond b ([] ∷ rest) (in_front u rest)) ≡ suc (suc (length us))
    go true rest h = omega (arith, h)
    go false [] h = absurd (omega (arith, h))
    go false (p ∷ ps) h = omega (arith, h)

kept_weight : (ps : List (List Token)) → 2 * length (non_empty ps) ≤ weight ps
kept_weight [] = zero-le
kept_weight ([] ∷ ps) = omega (arith, kept_weight ps)
kept_weight ((u ∷ us) ∷ ps) = omega (arith, kept_weight ps)

pub few_parts : FewParts
unfolding top_level
few_parts ts = omega (arith, kept_weight (between 0 ts), between_weight 0 ts)

pub as_many : {text : List ℕ} {n : ℕ} {ps : List (List Token)} {made : List Part} → Made text n ps made → length made ≡ length ps
as_many no_part = refl
as_many (a_part p t read more) = ap suc (as_many more)

pub at_most_parts : AtMostParts
at_most_parts text ps h =
    let (ts, cut, made) = parts_made text ps h in
    omega (arith, few_parts ts, (tokens_within text ts cut).few, as_many made)
