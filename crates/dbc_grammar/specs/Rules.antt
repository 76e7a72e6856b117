-- Rules: what a list of tokens begins with, and what follows it. A rule describes what is there and not how it is
-- found, so it may have more than one reading; that statements have only one is a law.
use Rattle.std.specs.Prelude.{◌≡◌, ◌⊎◌, Bool, true, false, List, [], ◌∷◌, Option, Some, None, is_some, if◌then◌else◌}
use Rattle.dbc_grammar.specs.Token.{Token}

-- rule ts x rest: the tokens ts begin with an x, and rest follows it
abbrev pub Rule : Type 0 → Type 1
Rule A = List Token → A → List Token → Type 0

-- one token that means x
pub record Read {A : Type 0} (says : Token → Option A) (ts : List Token) (x : A) (rest : List Token) : Type 0 where
  pub first : Token
  pub front : ts ≡ first ∷ rest
  pub value : says first ≡ Some x

abbrev pub token : {A : Type 0} → (Token → Option A) → Rule A
token says = λ ts x rest. Read says ts x rest

-- x, if the test holds
abbrev pub only : {A : Type 0} → Bool → A → Option A
only test x = if test then Some x else None

-- one token that passes the test
abbrev pub one : (Token → Bool) → Rule (Unit {0})
one test = token (λ t. only (test t) tt)

-- first one rule, then another that may depend on the value of the first
pub record Then {A B : Type 0} (rule : Rule A) (others : A → Rule B) (ts : List Token) (y : B)
    (rest : List Token) : Type 0 where
  pub value : A
  pub middle : List Token
  pub begins : rule ts value middle
  pub goes_on : others value middle y rest

infixl 10 ◌>>=◌
abbrev pub ◌>>=◌ : {A B : Type 0} → Rule A → (A → Rule B) → Rule B
rule >>= others = λ ts y rest. Then rule others ts y rest

-- nothing more, and x is the value of the whole
pub record Done {A : Type 0} (x : A) (ts : List Token) (y : A) (rest : List Token) : Type 0 where
  pub value : y ≡ x
  pub all : rest ≡ ts

abbrev pub done : {A : Type 0} → A → Rule A
done x = λ ts y rest. Done x ts y rest

-- no token, but what follows passes the test
pub record Followed (test : List Token → Bool) (ts : List Token) (x : Unit {0}) (rest : List Token) : Type 0 where
  pub passes : test ts ≡ true
  pub all : rest ≡ ts

abbrev pub followed : (List Token → Bool) → Rule (Unit {0})
followed test = λ ts x rest. Followed test ts x rest

-- at most once
abbrev pub optional : {A : Type 0} → Rule A → List Token → Option A → List Token → Type 0
optional rule ts None rest = rest ≡ ts
optional rule ts (Some x) rest = rule ts x rest

-- any number of times
abbrev pub many : {A : Type 0} → Rule A → List Token → List A → List Token → Type 0
many rule ts [] rest = rest ≡ ts
many rule ts (x ∷ xs) rest = (middle : List Token) × rule ts x middle × many rule middle xs rest

-- one of two rules
abbrev pub either : {A : Type 0} → Rule A → Rule A → Rule A
either rule other = λ ts x rest. rule ts x rest ⊎ other ts x rest

-- the second rule, if the first one reads nothing
pub record Unless {A B : Type 0} (rule : Rule A) (other : Rule B) (ts : List Token) (x : B) (rest : List Token) : Type 0
  where
    pub unread : (y : A) (more : List Token) → ¬ (rule ts y more)
    pub reads : other ts x rest

abbrev pub unless : {A B : Type 0} → Rule A → Rule B → Rule B
unless rule other = λ ts x rest. Unless rule other ts x rest

-- no tokens are this
abbrev pub nothing : {A : Type 0} → Rule A
nothing = λ ts x rest. ⊥

-- Tests of what comes first.

-- whether the first token passes
abbrev pub starts : (Token → Bool) → List Token → Bool
starts test [] = false
starts test (t ∷ ts) = test t

-- whether the first token means something
abbrev pub begins : {A : Type 0} → (Token → Option A) → List Token → Bool
begins says ts = starts (λ t. is_some (says t)) ts
