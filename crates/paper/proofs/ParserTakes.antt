-- What a parser's answer says of the tokens before it: those that it took are a phrase, or where it is stuck the beginning of
-- one; and it would answer the same, whatever stands after the next token.
use Prim.Native.Nat.{ℕ}
use mathlib.Core.Path.{◌≡◌, refl, sym, ap, ◌∙◌}
use mathlib.Core.List.{List, [], ◌∷◌, ◌++◌, append_assoc}
use Rattle.paper.specs.Tokens.{Token}
use Rattle.paper.specs.Grammar.{Tree, got, stuck, Out, ends, deep, bad, ◌>>>◌, Parser}
use Rattle.paper.specs.Sentences.{Phrases, Continues, OpensLevel, IsString}

-- the same next token, or none
pub data Same : List Token → List Token → Type 0 where
  same_end : Same [] []
  same_next : {u : Token} {us vs : List Token} → Same (u ∷ us) (u ∷ vs)

pub same_after : (ts : List Token) {us vs : List Token} → Same us vs → Same (ts ++ us) (ts ++ vs)
same_after [] h = h
same_after (t ∷ ts) h = same_next

-- what holds of all lists with the same next token
pub of_end : (P : List Token → Type 0) → P [] → (vs : List Token) → Same [] vs → P vs
of_end P h [] same_end = h
of_end P h (_ ∷ _) s = elim s [ ]

pub of_next : (P : List Token → Type 0) {u : Token} {us : List Token}
    → ((ws : List Token) → P (u ∷ ws)) → (vs : List Token) → Same (u ∷ us) vs → P vs
of_next P h [] s = elim s [ ]
of_next P h (u ∷ vs) same_next = h vs

-- the phrases that a parser reads, and those with one level more, or with any address strings
pub data Kind : Type 0 where
  exact deeper laxer : Kind

abbrev pub Family : Type 1
Family = Kind → Phrases

pub record Takes (p : Parser) (ts us : List Token) (answer : List Token → Out) (Front : List Token → Type 0) : Type 0 where
  pub taken : List Token
  pub split : ts ≡ taken ++ us
  pub front : Front taken
  pub local : (vs : List Token) → Same us vs → p (taken ++ vs) ≡ answer vs

-- the beginning of a phrase, of every kind
abbrev pub Begun : Family → List Token → Type 0
Begun S taken = (k : Kind) → Continues (S k) taken

-- the tokens that another kind of phrase may go on with
abbrev Cause : Kind → Token → Type 0
Cause exact u = ⊥
Cause deeper u = OpensLevel u
Cause laxer u = IsString u

-- broken off at such a token
abbrev pub Breaks : Parser → Family → List Token → Kind → (ℕ → Out) → ℕ → Type 0
Breaks p S ts k answer at =
    (u : Token) × (us : List Token) × (u.at ≡ at) × Cause k u
    × Takes p ts (u ∷ us) (λ vs. answer at) (λ taken. Begun S taken × Continues (S k) (taken ++ (u ∷ [])))

abbrev pub Says : Parser → Family → List Token → Out → Type 0
Says p S ts (ends (got t) us) = Takes p ts us (ends (got t)) (λ taken. (k : Kind) → S k t taken)
Says p S ts (ends stuck us) = Takes p ts us (ends stuck) (Begun S)
Says p S ts (deep at) = Breaks p S ts deeper deep at
Says p S ts (bad at) = Breaks p S ts laxer bad at

-- of every list of tokens
pub record Tells (p : Parser) (S : Family) : Type 0 where
  pub says : (ts : List Token) → Says p S ts (p ts)

-- nothing is taken

pub stays : {q : Parser} {us : List Token} {answer : List Token → Out} {F : List Token → Type 0}
    → ((vs : List Token) → Same us vs → q vs ≡ answer vs) → F [] → Takes q us us answer F
stays same front = record { taken = []; split = refl; front = front; local = same }

-- a parser that goes on as another one does, after some first tokens

continues_after : (S : Phrases) (head taken : List Token)
    → Continues (λ t ws. S t (head ++ ws)) taken → Continues S (head ++ taken)
continues_after S head taken (t, rest, h) = (t, rest, rw append_assoc h)

module _ (q f : Parser) (R : Family) (ts head us : List Token) (split : ts ≡ head ++ us)
    (same : (vs : List Token) → Same us vs → q (head ++ vs) ≡ f vs) where
  takes_after : {ws : List Token} {answer : List Token → Out} {F G : List Token → Type 0}
      → ((taken : List Token) → F taken → G (head ++ taken)) → Takes f us ws answer F → Takes q ts ws answer G
  takes_after {ws} {answer} front h =
      record {
        taken = head ++ h.taken;
        split = split ∙ ap (head ++◌) h.split ∙ sym (append_assoc head h.taken ws);
        front = front h.taken h.front;
        local = λ vs s. rw append_assoc (same (h.taken ++ vs) (rw h.split (same_after h.taken s)) ∙ h.local vs s);
      }

  begun : (taken : List Token) → Begun (λ k t ws. R k t (head ++ ws)) taken → Begun R (head ++ taken)
  begun taken h k = continues_after (R k) head taken (h k)

  breaks : (k : Kind) (answer : ℕ → Out) (at : ℕ)
      → Breaks f (λ k t ws. R k t (head ++ ws)) us k answer at → Breaks q R ts k answer at
  breaks k answer at h = (
    h.0,
    h.1,
    h.2,
    h.3,
    takes_after
        (λ taken g. (begun taken g.0, rw append_assoc (continues_after (R k) head (taken ++ (h.0 ∷ [])) g.1))) h.4,
  )

  extended : (o : Out) → Says f (λ k t ws. R k t (head ++ ws)) us o → Says q R ts o
  extended (ends (got t) ws) h = takes_after (λ taken g. g) h
  extended (ends stuck ws) h = takes_after begun h
  extended (deep at) h = breaks deeper deep at h
  extended (bad at) h = breaks laxer bad at h

  pub extend : Says f (λ k t ws. R k t (head ++ ws)) us (f us) → Says q R ts (f us)
  extend h = extended (f us) h

-- a parser and then another

module _ (p : Parser) (f : Tree → List Token → Out) (S R : Family)
    (wide : (k : Kind) (t : Tree) (vs : List Token) → S k t vs → Continues (R k) vs) where
  begins : (k : Kind) (taken : List Token) → Continues (S k) taken → Continues (R k) taken
  begins k taken (t, rest, h) =
      let (r, more, g) = wide k t (taken ++ rest) h in
      (r, rest ++ more, rw append_assoc at g)

  breaks_first : (k : Kind) (answer : ℕ → Out) (at : ℕ) (ts : List Token) → (answer at >>> f) ≡ answer at
      → Breaks p S ts k answer at → Breaks (λ vs. p vs >>> f) R ts k answer at
  breaks_first k answer at ts e (u, us, place, cause, h) = (
    u,
    us,
    place,
    cause,
    record {
      taken = h.taken;
      split = h.split;
      front = (λ k. begins k h.taken (h.front.0 k), begins k (h.taken ++ (u ∷ [])) h.front.1);
      local = λ vs s. ap (◌>>> f) (h.local vs s) ∙ e;
    },
  )

  module _ (ts : List Token)
      (next : (t : Tree) (vs us : List Token) → ts ≡ vs ++ us → ((k : Kind) → S k t vs)
      → Says (f t) (λ k r ws. R k r (vs ++ ws)) us (f t us)) where
    bound : (o : Out) → Says p S ts o → Says (λ vs. p vs >>> f) R ts (o >>> f)
    bound (ends (got t) us) h =
        extend (λ vs. p vs >>> f) (f t) R ts h.taken us h.split (λ vs s. ap (◌>>> f) (h.local vs s))
        (next t h.taken us h.split h.front)
    bound (ends stuck us) h =
        record {
          taken = h.taken;
          split = h.split;
          front = λ k. begins k h.taken (h.front k);
          local = λ vs s. ap (◌>>> f) (h.local vs s);
        }
    bound (deep at) h = breaks_first deeper deep at ts refl h
    bound (bad at) h = breaks_first laxer bad at ts refl h

    pub bind : Says p S ts (p ts) → Says (λ vs. p vs >>> f) R ts (p ts >>> f)
    bind h = bound (p ts) h
