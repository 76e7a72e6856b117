-- Rules, applied to the tokens of pieces.
use Rattle.dbc_law.proofs.Common.{◌≡◌, ◌++◌, ℕ, Bool, true, List, Option, Some, refl, Piece, Rule, token, Token}
use Rattle.dbc_grammar.specs.Rules.{◌>>=◌, done, followed}
use Rattle.dbc_law.proofs.PieceTokens.{Front, line, many_parts, piece, token_of}

-- the token of the piece means x; `λ _ _. refl` shows it if that follows from the piece alone
pub read : {A : Type 0} {says : Token → Option A} {x : A} {p : Piece} {ts rest : List Token} → Front ts p rest
    → ((start end : ℕ) → says (token_of p start end) ≡ Some x) → token says ts x rest
read {p} f e = record { first = token_of p f.start f.end; front = f.front; value = e f.start f.end }

-- first one rule, then the others
pub chain : {A B : Type 0} {rule : Rule A} {others : A → Rule B} {ts rest : List Token} {y : B} (x : A)
    (middle : List Token) → rule ts x middle
    → others x middle y rest → (rule >>= others) ts y rest
chain x middle first more = record { value = x; middle = middle; begins = first; goes_on = more }

-- first the token of the piece
pub past : {A B : Type 0} {says : Token → Option A} {others : A → Rule B} {x : A} {p : Piece}
    {ts middle rest : List Token} {y : B} → Front ts p middle
    → ((start end : ℕ) → says (token_of p start end) ≡ Some x) → others x middle y rest
    → (token says >>= others) ts y rest
past {x} {middle} f e more = chain x middle (read f e) more

-- first a look at what follows, which passes the test
pub then_followed : {B : Type 0} {test : List Token → Bool} {others : Unit {0} → Rule B} {ts rest : List Token} {y : B}
    → test ts ≡ true
    → others tt ts y rest → (followed test >>= others) ts y rest
then_followed {ts} e more = chain tt ts (record { passes = e; all = refl }) more

pub finish : {A : Type 0} {x : A} {ts rest : List Token} → rest ≡ ts → done x ts x rest
finish e = record { value = refl; all = e }

-- If pieces come before others, there is an offset between them. What follows from it is stated as a function of that
-- offset, which keeps the terms small.
pub split_pieces : {C : Type 0} (front back : List Piece) (ts rest : List Token) → line ts (front ++ back) rest
    → ((middle : List Token) → line ts front middle → line middle back rest → C) → C
split_pieces front back ts rest is_line says =
    let (middle, first, others) = many_parts piece ts front back rest is_line in
    says middle first others
