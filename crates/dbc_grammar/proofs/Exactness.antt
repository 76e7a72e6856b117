-- Rules and their parsers: a parser finds the one reading of its rule.
use Rattle.dbc_grammar.proofs.Common.{◌≡◌, ℕ, zero, suc, ◌≤◌, ◌<◌, ◌⊎◌, Bool, true, false, cond, List, [], ◌∷◌, ◌++◌}
use Rattle.dbc_grammar.proofs.Common.{length, Option, Some, None, is_some, refl, sym, ap, subst, ◌∙◌, arith, inl, inr}
use Rattle.dbc_grammar.proofs.Common.{append_assoc, option_and_then}
use Rattle.std.proofs.Common.{length-append}
use Rattle.dbc_grammar.specs.Parsing.{Parsed, token_at, one_at, followed_at, optional_at, many_by, many_at, or_else}
use Rattle.dbc_grammar.specs.Rules.{Rule, Read, token, one, only, starts, begins, ◌>>=◌, Done, done, Followed, followed}
use Rattle.dbc_grammar.specs.Rules.{optional, many, either, unless}
use Rattle.dbc_grammar.specs.Token.{Token}

-- rest is the end of ts
abbrev pub Within : List Token → List Token → Type 0
Within ts rest = (run : List Token) × (ts ≡ run ++ rest)

pub within_all : (ts rest : List Token) → rest ≡ ts → Within ts rest
within_all ts rest e = ([], sym e)

pub within_one : (t : Token) (ts rest : List Token) → ts ≡ t ∷ rest → Within ts rest
within_one t ts rest e = (t ∷ [], e)

pub within_trans : (ts mid rest : List Token) → Within ts mid → Within mid rest → Within ts rest
within_trans ts mid rest h k =
    (h.0 ++ k.0, h.1 ∙ ap (λ (l : List Token). h.0 ++ l) k.1 ∙ sym (append_assoc h.0 k.0 rest))

pub length_within : (ts rest : List Token) → Within ts rest → length rest ≤ length ts
length_within ts rest h = omega (arith, ap length h.1, length-append h.0 rest)

-- The parser's answer o is the one reading of R: it is a reading, and the one where F holds of what follows.
pub record Exact {A : Type 0} (F : List Token → Type 0) (ts : List Token) (R : A → List Token → Type 0)
    (o : Parsed A) : Type 0 where
  pub takes : (x : A × List Token) → o ≡ Some x → R x.0 x.1
  pub again : (x : A) (rest : List Token) → R x rest → F rest → o ≡ Some (x, rest)
  pub within : (x : A) (rest : List Token) → R x rest → Within ts rest

-- nothing is required of what follows
abbrev pub Any : List Token → Type 0
Any ts = Unit {0}

pub bind_takes : {A B : Type 0} (o : Option A) (f : A → Option B) (y : B) → option_and_then f o ≡ Some y
    → (x : A) × (o ≡ Some x) × (f x ≡ Some y)
bind_takes None f y e = absurd cc
bind_takes (Some x) f y e = (x, refl, e)

pub exact_then : {A B : Type 0} {F G : List Token → Type 0} {r : Rule A} {q : A → Rule B} {ts : List Token}
    {o : Parsed A} (f : A × List Token → Parsed B)
    → Exact F ts (r ts) o → ((x : A) (mid : List Token) → Exact G mid (q x mid) (f (x, mid)))
    → ((x : A) (mid : List Token) (y : B) (rest : List Token) → q x mid y rest → G rest → F mid)
    → Exact G ts ((r >>= q) ts) (option_and_then f o)
exact_then {r} {q} {ts} {o} f first second follow = record {
  takes = λ y e.
      let b = bind_takes o f y e in
      record {
        value = b.0.0;
        middle = b.0.1;
        begins = first.takes b.0 b.1;
        goes_on =
            (second b.0.0 b.0.1).takes y b.2;
      };
  again = λ y rest h g.
      ap (option_and_then f) (first.again h.value h.middle h.begins (follow h.value h.middle y rest h.goes_on g))
      ∙ (second h.value h.middle).again y rest h.goes_on g;
  within = λ y rest h. within_trans ts h.middle rest (first.within h.value h.middle h.begins)
      ((second h.value h.middle).within y rest h.goes_on);
}

-- after a rule that requires nothing of what follows
pub exact_next : {A B : Type 0} {G : List Token → Type 0} {r : Rule A} {q : A → Rule B} {ts : List Token} {o : Parsed A}
    (f : A × List Token → Parsed B)
    → Exact Any ts (r ts) o → ((x : A) (mid : List Token) → Exact G mid (q x mid) (f (x, mid)))
    → Exact G ts ((r >>= q) ts) (option_and_then f o)
exact_next f first second = exact_then f first second (λ x mid y rest h g. tt)

-- what is required may hold always
pub exact_any : {A : Type 0} {F : List Token → Type 0} {ts : List Token} {R : A → List Token → Type 0} {o : Parsed A}
    → Exact Any ts R o → Exact F ts R o
exact_any e = record { takes = e.takes; again = λ x rest h _. e.again x rest h tt; within = e.within }

-- One token.

token_by : {A : Type 0} (says : Token → Option A) (t : Token) (ts : List Token) (o : Option A) → says t ≡ o
    → Exact Any (t ∷ ts) (token says (t ∷ ts)) (option_and_then (λ x. Some (x, ts)) o)
token_by {A} says t ts (Some v) e = record {
  takes = λ x h.
      let same : (v, ts) ≡ x = cc in
      subst (λ (x : A × List Token). Read says (t ∷ ts) x.0 x.1) same (record { first = t; front = refl; value = e });
  again = λ x rest h _.
      let front = h.front in let value = h.value in
      let a : t ≡ h.first = cc in let b : ts ≡ rest = cc in let c : v ≡ x = cc in
      rw (b, c) refl;
  within = λ x rest h. within_one h.first (t ∷ ts) rest h.front;
}
token_by says t ts None e = record {
  takes = λ x h. absurd cc;
  again = λ x rest h _. let front = h.front in let value = h.value in let a : t ≡ h.first = cc in absurd cc;
  within = λ x rest h. within_one h.first (t ∷ ts) rest h.front;
}

pub exact_token : {A : Type 0} (says : Token → Option A) (ts : List Token)
    → Exact Any ts (token says ts) (token_at says ts)
exact_token says [] = record {
  takes = λ x e. absurd cc;
  again = λ x rest h _. let e = h.front in absurd cc;
  within = λ x rest h. let e = h.front in absurd cc;
}
exact_token says (t ∷ ts) = token_by says t ts (says t) refl

pub exact_one : (test : Token → Bool) (ts : List Token) → Exact Any ts (one test ts) (one_at test ts)
exact_one test ts = exact_token (λ t. only (test t) tt) ts

-- a token that says something passes the test of those that do
pub token_passes : {A : Type 0} (says : Token → Option A) (ts : List Token) (x : A) (rest : List Token)
    → token says ts x rest → begins says ts ≡ true
token_passes says ts x rest h = ap (begins says) h.front ∙ ap is_some h.value

pub only_passes : {A : Type 0} (b : Bool) (x y : A) → only b x ≡ Some y → b ≡ true
only_passes true x y e = refl
only_passes false x y e = absurd cc

-- what comes first passes the test
pub one_passes : (test : Token → Bool) (ts : List Token) (x : Unit {0}) (rest : List Token) → one test ts x rest
    → starts test ts ≡ true
one_passes test ts x rest h = ap (starts test) h.front ∙ only_passes (test h.first) tt x h.value

-- and so another test, where the one implies the other's answer
pub first_answers : {A : Type 0} (says : Token → Option A) (test : Token → Bool) (b : Bool)
    → ((t : Token) (x : A) → says t ≡ Some x → test t ≡ b) → (ts : List Token) (x : A) (rest : List Token)
    → token says ts x rest → starts test ts ≡ b
first_answers says test b f ts x rest h = ap (starts test) h.front ∙ f h.first x h.value

-- Nothing more, and what follows.

pub exact_done : {A : Type 0} (x y : A) (ts : List Token) → x ≡ y → Exact Any ts (done x ts) (Some (y, ts))
exact_done {A} x y ts e = record {
  takes = λ z h. let same : (y, ts) ≡ z = cc in
      subst (λ (z : A × List Token). Done x ts z.0 z.1) same (record { value = sym e; all = refl });
  again = λ z rest h _. rw (h.value, h.all, e) refl;
  within = λ z rest h. within_all ts rest h.all;
}

followed_by : (test : List Token → Bool) (ts : List Token) (b : Bool) → test ts ≡ b
    → Exact Any ts (followed test ts) (only b (tt, ts))
followed_by test ts true e = record {
  takes = λ x h. let same : (tt, ts) ≡ x = cc in
      subst (λ (x : Unit {0} × List Token). Followed test ts x.0 x.1) same (record { passes = e; all = refl });
  again = λ x rest h _. rw h.all refl;
  within = λ x rest h. within_all ts rest h.all;
}
followed_by test ts false e = record {
  takes = λ x h. absurd cc;
  again = λ x rest h _. let passes = h.passes in absurd cc;
  within = λ x rest h. within_all ts rest h.all;
}

pub exact_followed : (test : List Token → Bool) (ts : List Token)
    → Exact Any ts (followed test ts) (followed_at test ts)
exact_followed test ts = followed_by test ts (test ts) refl

-- At most once.

-- what is required of a rule that may be read once, and of what follows
pub record Chance {A : Type 0} (F : List Token → Type 0) (r : Rule A) (test : List Token → Bool)
    (p : List Token → Parsed A) : Type 0 where
  pub each : (ts : List Token) → Exact F ts (r ts) (p ts)
  pub begins : (ts : List Token) (x : A) (rest : List Token) → r ts x rest → test ts ≡ true
  pub stops : (ts : List Token) → F ts → test ts ≡ false

module _ {A : Type 0} {F : List Token → Type 0} {r : Rule A} {test : List Token → Bool} {p : List Token → Parsed A}
    (chance : Chance F r test p) where
  optional_within : (ts : List Token) (x : Option A) (rest : List Token) → optional r ts x rest → Within ts rest
  optional_within ts None rest h = within_all ts rest h
  optional_within ts (Some x) rest h = (chance.each ts).within x rest h

  once : A × List Token → Parsed (Option A)
  once a = Some (Some a.0, a.1)

  there_again : (ts : List Token) (x : Option A) (rest : List Token) → test ts ≡ true → optional r ts x rest → F rest
      → option_and_then once (p ts) ≡ Some (x, rest)
  unfolding once
  there_again ts None rest e h f = absurd (let stopped : test ts ≡ false = chance.stops ts (subst F h f) in cc)
  there_again ts (Some y) rest e h f = ap (option_and_then once) ((chance.each ts).again y rest h f)

  absent_again : (ts : List Token) (x : Option A) (rest : List Token) → test ts ≡ false → optional r ts x rest
      → (let made : Parsed (Option A) = Some (None, ts) in made) ≡ Some (x, rest)
  absent_again ts None rest e h = rw h refl
  absent_again ts (Some y) rest e h = absurd (let begun : test ts ≡ true = chance.begins ts y rest h in cc)

  optional_by : (ts : List Token) (b : Bool) → test ts ≡ b
      → Exact F ts (optional r ts) (cond b (option_and_then once (p ts)) (Some (None, ts)))
  unfolding once
  optional_by ts true e = record {
    takes = λ x h.
        let b = bind_takes (p ts) once x h in
        let same : (Some b.0.0, b.0.1) ≡ x = let k = b.2 in cc in
        subst (λ (x : Option A × List Token). optional r ts x.0 x.1) same ((chance.each ts).takes b.0 b.1);
    again = λ x rest h f. there_again ts x rest e h f;
    within = optional_within ts;
  }
  optional_by ts false e = record {
    takes = λ x h. let same : (None, ts) ≡ x = cc in
        subst (λ (x : Option A × List Token). optional r ts x.0 x.1) same refl;
    again = λ x rest h f. absent_again ts x rest e h;
    within = optional_within ts;
  }

  pub exact_optional : (ts : List Token) → Exact F ts (optional r ts) (optional_at test p ts)
  unfolding once
  exact_optional ts = optional_by ts (test ts) refl

-- an optional token
pub token_chance : {A : Type 0} (says : Token → Option A)
    → Chance (λ ts. begins says ts ≡ false) (token says) (begins says) (token_at says)
token_chance says = record {
  each = λ ts. exact_any (exact_token says ts);
  begins = token_passes says;
  stops =
      λ ts h. h;
}

pub one_chance : (test : Token → Bool) → Chance (λ ts. starts test ts ≡ false) (one test) (starts test) (one_at test)
one_chance test = record { each = λ ts. exact_any (exact_one test ts); begins = one_passes test; stops = λ ts h. h }

-- Any number of times.

-- what is required of one, of what follows one, and of what follows all
pub record Repeats {A : Type 0} (F I : List Token → Type 0) (r : Rule A) (test : List Token → Bool)
    (p : List Token → Parsed A) : Type 0 where
  pub each : (ts : List Token) → Exact I ts (r ts) (p ts)
  pub begins : (ts : List Token) (x : A) (rest : List Token) → r ts x rest → test ts ≡ true
  pub before : (ts : List Token) (x : A) (rest : List Token) → r ts x rest → I ts
  pub shorter : (ts : List Token) (x : A) (rest : List Token) → r ts x rest → length rest < length ts
  pub stops : (ts : List Token) → F ts → test ts ≡ false
  pub last : (ts : List Token) → F ts → I ts

module _ {A : Type 0} {F I : List Token → Type 0} {r : Rule A} {test : List Token → Bool} {p : List Token → Parsed A}
    (repeats : Repeats F I r test p) where
  step_takes : (n : ℕ) (ts : List Token) (x : List A × List Token) (b : Bool) → test ts ≡ b
      → cond b (option_and_then (λ a. option_and_then (λ b. Some (a.0 ∷ b.0, b.1)) (many_by test p n a.1)) (p ts))
      (Some ([], ts)) ≡ Some x
      → ((us : List Token) (y : List A × List Token) → many_by test p n us ≡ Some y → many r us y.0 y.1)
      → many r ts x.0 x.1
  step_takes n ts x true e h again =
      let a = bind_takes (p ts) (λ a. option_and_then (λ b. Some (a.0 ∷ b.0, b.1)) (many_by test p n a.1)) x h in
      let b = bind_takes (many_by test p n a.0.1) (λ b. Some (a.0.0 ∷ b.0, b.1)) x a.2 in
      let same : (a.0.0 ∷ b.0.0, b.0.1) ≡ x = let k = b.2 in cc in
      subst (λ (x : List A × List Token). many r ts x.0 x.1) same
      (a.0.1, (repeats.each ts).takes a.0 a.1, again a.0.1 b.0 b.1)
  step_takes n ts x false e h again = let same : ([], ts) ≡ x = cc in
      subst (λ (x : List A × List Token). many r ts x.0 x.1) same refl

  many_takes : (n : ℕ) (ts : List Token) (x : List A × List Token) → many_by test p n ts ≡ Some x → many r ts x.0 x.1
  many_takes zero ts x e = let same : ([], ts) ≡ x = cc in
      subst (λ (x : List A × List Token). many r ts x.0 x.1) same refl
  many_takes (suc n) ts x e = step_takes n ts x (test ts) refl e (many_takes n)

  none_again : (n : ℕ) (ts : List Token) → test ts ≡ false → many_by test p n ts ≡ Some ([], ts)
  none_again zero ts e = refl
  none_again (suc n) ts e = rw e refl

  some_again : (n : ℕ) (ts : List Token) (x : A) (mid : List Token) (xs : List A) (rest : List Token) → test ts ≡ true
      → p ts ≡ Some (x, mid)
      → many_by test p n mid ≡ Some (xs, rest) → many_by test p (suc n) ts ≡ Some (x ∷ xs, rest)
  some_again n ts x mid xs rest e e1 e2 = rw (e, e1, e2) refl

  -- what comes after one
  after_one : (mid : List Token) (xs : List A) (rest : List Token) → many r mid xs rest → F rest → I mid
  after_one mid [] rest m f = repeats.last mid (subst F m f)
  after_one mid (x ∷ xs) rest m f = repeats.before mid x m.0 m.1

  many_again : (n : ℕ) (ts : List Token) (xs : List A) (rest : List Token) → length ts ≤ n → many r ts xs rest → F rest
      → many_by test p n ts ≡ Some (xs, rest)
  many_again n ts [] rest le m f = none_again n ts (repeats.stops ts (subst F m f))
      ∙ ap (λ (l : List Token). Some ([], l)) (sym m)
  many_again zero ts (x ∷ xs) rest le m f = absurd (omega (arith, repeats.shorter ts x m.0 m.1))
  many_again (suc n) ts (x ∷ xs) rest le m f =
      some_again n ts x m.0 xs rest (repeats.begins ts x m.0 m.1)
      ((repeats.each ts).again x m.0 m.1 (after_one m.0 xs rest m.2 f))
      (many_again n m.0 xs rest (omega (arith, repeats.shorter ts x m.0 m.1)) m.2 f)

  many_within : (ts : List Token) (xs : List A) (rest : List Token) → many r ts xs rest → Within ts rest
  many_within ts [] rest m = within_all ts rest m
  many_within ts (x ∷ xs) rest m =
      within_trans ts m.0 rest ((repeats.each ts).within x m.0 m.1) (many_within m.0 xs rest m.2)

  pub exact_many : (ts : List Token) → Exact F ts (many r ts) (many_at test p ts)
  exact_many ts = record {
    takes = many_takes (length ts) ts;
    again =
        λ xs rest m f. many_again (length ts) ts xs rest (omega arith) m f;
    within = many_within ts;
  }

pub tokens_repeat : (test : Token → Bool)
    → Repeats (λ ts. starts test ts ≡ false) Any (one test) (starts test) (one_at test)
tokens_repeat test = record {
  each = exact_one test;
  begins = one_passes test;
  before = λ ts x rest h. tt;
  shorter = λ ts x rest h. omega (arith, ap length h.front);
  stops = λ ts h. h;
  last = λ ts h. tt;
}

-- One of two rules.

either_by : {A : Type 0} {F : List Token → Type 0} {ts : List Token} {R Q : A → List Token → Type 0} {p o : Parsed A}
    (test b : Bool) → test ≡ b
    → Exact F ts R p → Exact F ts Q o
    → ((x : A) (rest : List Token) → R x rest → test ≡ true) → ((x : A) (rest : List Token) → Q x rest → test ≡ false)
    → Exact F ts (λ x rest. R x rest ⊎ Q x rest) (cond b p o)
either_by test true e first second firstly secondly = record {
  takes = λ x h. inl (first.takes x h);
  again = λ x rest h f. elim h
      [ inl h ↦ first.again x rest h f | inr h ↦ absurd (let w : test ≡ false = secondly x rest h in cc) ];
  within = λ x rest h. elim h [ inl h ↦ first.within x rest h | inr h ↦ second.within x rest h ];
}
either_by test false e first second firstly secondly = record {
  takes = λ x h. inr (second.takes x h);
  again = λ x rest h f. elim h
      [ inl h ↦ absurd (let w : test ≡ true = firstly x rest h in cc) | inr h ↦ second.again x rest h f ];
  within = λ x rest h. elim h [ inl h ↦ first.within x rest h | inr h ↦ second.within x rest h ];
}

pub exact_either : {A : Type 0} {F : List Token → Type 0} {ts : List Token} {R Q : A → List Token → Type 0}
    {p o : Parsed A} (test : Bool)
    → Exact F ts R p → Exact F ts Q o
    → ((x : A) (rest : List Token) → R x rest → test ≡ true) → ((x : A) (rest : List Token) → Q x rest → test ≡ false)
    → Exact F ts (λ x rest. R x rest ⊎ Q x rest) (cond test p o)
exact_either test = either_by test test refl

-- One rule, and another where the first reads nothing.

pub exact_unless : {A : Type 0} {r q : Rule A} (ts : List Token) (o other : Parsed A) → Exact Any ts (r ts) o
    → Exact Any ts (q ts) other
    → Exact Any ts (either r (unless r q) ts) (or_else o other)
exact_unless {A} {r} {q} ts None other first second = record {
  takes = λ x h. inr (record {
    unread = λ y more k. let e = first.again y more k tt in absurd cc;
    reads =
        second.takes x h;
  });
  again = λ x rest h _. elim h
      [ inl h ↦ absurd (let e = first.again x rest h tt in cc) | inr h ↦ second.again x rest h.reads tt ];
  within = λ x rest h. elim h [ inl h ↦ first.within x rest h | inr h ↦ second.within x rest h.reads ];
}
exact_unless {A} {r} {q} ts (Some y) other first second = record {
  takes = λ x h. inl (first.takes x h);
  again = λ x rest h _. elim h
      [ inl h ↦ first.again x rest h tt | inr h ↦ absurd (h.unread y.0 y.1 (first.takes y refl)) ];
  within = λ x rest h. elim h [ inl h ↦ first.within x rest h | inr h ↦ second.within x rest h.reads ];
}

-- Rules that begin with a token.

pub record Eats {A : Type 0} (F : List Token → Type 0) (ts : List Token) (R : A → List Token → Type 0)
    (o : Parsed A) : Type 0 where
  pub exact : Exact F ts R o
  pub shorter : (x : A) (rest : List Token) → R x rest → length rest < length ts

pub eats : {A B : Type 0} {G : List Token → Type 0} (says : Token → Option A) {q : A → Rule B} (ts : List Token)
    (f : A × List Token → Parsed B)
    → ((x : A) (mid : List Token) → Exact G mid (q x mid) (f (x, mid)))
    → Eats G ts ((token says >>= q) ts) (option_and_then f (token_at says ts))
eats says ts f second = record {
  exact = exact_next f (exact_token says ts) second;
  shorter = λ y rest h. omega (
    arith,
    ap length h.begins.front,
    length_within h.middle rest ((second h.value h.middle).within y rest h.goes_on),
  );
}
