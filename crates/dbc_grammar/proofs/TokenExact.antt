-- The tokens of a text are what is read of it, and reading ends with a fault where no token begins.
use Rattle.dbc_grammar.proofs.Common.{◌≡◌, ℕ, zero, suc, ◌+◌, ◌-◌, ◌<◌, ◌↔◌, List, [], ◌∷◌, ◌++◌, length, drop, Option}
use Rattle.dbc_grammar.proofs.Common.{Some, None, Result, Ok, Err, refl, sym, ap, subst, ◌∙◌, arith, append_assoc}
use Rattle.dbc_grammar.proofs.Common.{length-append, drop_at}
use Rattle.dbc_grammar.specs.Lexing.{LexFault, Lexed, first_token, lexed, lexed_in, with_first}
use Rattle.dbc_grammar.specs.Token.{Token}
use Rattle.dbc_grammar.specs.TokenLaw.{StopsWith, tokens_then_fault, tokens_without_fault}
use Rattle.dbc_grammar.specs.Tokens.{HasTokens, IsFirst}
use Rattle.dbc_grammar.proofs.TokenReading.{Means, first_is_read, first_token_means, gap_is_read, stop_is_read}
use Rattle.dbc_grammar.proofs.TokensOnce.{spelling_some}

-- what follows the first token
pub after_first : (offset : ℕ) (bytes : List ℕ) (t : Token) (rest : List ℕ) → IsFirst offset bytes t rest
    → drop (t.end - offset) bytes ≡ rest
after_first offset bytes t rest f =
    let whole : bytes ≡ (f.gap ++ t.text) ++ rest = f.parts ∙ sym (append_assoc f.gap t.text rest) in
    let long : length (f.gap ++ t.text) ≡ t.end - offset = omega (arith, f.start, f.end, length-append f.gap t.text) in
    ap (drop (t.end - offset)) whole ∙ drop_at (f.gap ++ t.text) rest (t.end - offset) long

pub rest_is_shorter : (offset : ℕ) (bytes : List ℕ) (t : Token) (rest : List ℕ) → IsFirst offset bytes t rest
    → length rest < length bytes
rest_is_shorter offset bytes t rest f =
    let some = spelling_some t.kind t.text f.spelled in
    omega (arith, some, ap length f.parts, length-append f.gap (t.text ++ rest), length-append t.text rest)

-- the tokens are the first ones, and after them is a gap alone, or none begins, as the fault says
abbrev pub IsRead : ℕ → List ℕ → List Token → Option LexFault → Type 0
IsRead offset bytes tokens None = HasTokens offset bytes tokens
IsRead offset bytes tokens (Some fault) = StopsWith offset bytes tokens fault

pub first_of : (offset : ℕ) (bytes : List ℕ) (t : Token) (ts : List Token) (o : Option LexFault)
    → IsRead offset bytes (t ∷ ts) o
    → (rest : List ℕ) × IsFirst offset bytes t rest × IsRead t.end rest ts o
first_of offset bytes t ts None h = h
first_of offset bytes t ts (Some fault) h = h

with_token : (offset : ℕ) (bytes : List ℕ) (t : Token) (rest : List ℕ) (ts : List Token) (o : Option LexFault)
    → IsFirst offset bytes t rest → IsRead t.end rest ts o → IsRead offset bytes (t ∷ ts) o
with_token offset bytes t rest ts None f h = (rest, f, h)
with_token offset bytes t rest ts (Some fault) f h = (rest, f, h)

-- ---- what is there is read

abbrev reading : List Token → Option LexFault → Lexed
reading ts o = record { tokens = ts; fault = o }

front_read : (t : Token) (l : Lexed) (ts : List Token) (o : Option LexFault) → l ≡ reading ts o
    → with_first (Ok (Some t)) (λ v. l) ≡ reading (t ∷ ts) o
front_read t l ts o e = rw e refl

there_in : (ts : List Token) (o : Option LexFault) (steps offset : ℕ) (bytes : List ℕ) → length bytes < steps
    → IsRead offset bytes ts o
    → lexed_in steps offset bytes ≡ reading ts o
unfolding lexed_in
there_in ts o zero offset bytes few h = absurd (omega arith)
there_in [] None (suc steps) offset bytes few h = rw (gap_is_read offset bytes h) refl
there_in [] (Some fault) (suc steps) offset bytes few h = rw (stop_is_read offset bytes fault h) refl
there_in (t ∷ ts) o (suc steps) offset bytes few h =
    let (rest, f, more) = first_of offset bytes t ts o h in
    let after = ap (lexed_in steps t.end) (after_first offset bytes t rest f) in
    let fewer : length rest < steps = omega (arith, rest_is_shorter offset bytes t rest f) in
    rw (first_is_read offset bytes t rest f) (front_read t _ ts o (after ∙ there_in ts o steps t.end rest fewer more))

pub there_is_read : (offset : ℕ) (bytes : List ℕ) (ts : List Token) (o : Option LexFault) → IsRead offset bytes ts o
    → lexed offset bytes ≡ reading ts o
unfolding lexed
there_is_read offset bytes ts o h = there_in ts o (length bytes + 1) offset bytes (omega arith) h

-- ---- what is read is there

abbrev pub IsLexed : ℕ → List ℕ → Lexed → Type 0
IsLexed offset bytes l = IsRead offset bytes l.tokens l.fault

from_first : (offset : ℕ) (bytes : List ℕ) (r : Result (Option Token) LexFault) (after : Token → Lexed)
    → Means offset bytes r
    → ((t : Token) (rest : List ℕ) → IsFirst offset bytes t rest → IsLexed t.end rest (after t))
    → IsLexed offset bytes (with_first r after)
from_first offset bytes (Err fault) after m more = m
from_first offset bytes (Ok None) after m more = m
from_first offset bytes (Ok (Some t)) after (rest, f) more =
    with_token offset bytes t rest (after t).tokens (after t).fault f (more t rest f)

read_in : (steps offset : ℕ) (bytes : List ℕ) → length bytes < steps
    → IsLexed offset bytes (lexed_in steps offset bytes)
unfolding lexed_in
read_in zero offset bytes few = absurd (omega arith)
read_in (suc steps) offset bytes few =
    from_first offset bytes (first_token offset bytes) (λ t. lexed_in steps t.end (drop (t.end - offset) bytes))
    (first_token_means offset bytes) (λ t rest f.
    let fewer : length rest < steps = omega (arith, rest_is_shorter offset bytes t rest f) in
    subst (λ v. IsLexed t.end rest (lexed_in steps t.end v)) (sym (after_first offset bytes t rest f))
    (read_in steps t.end rest fewer))

pub read_is_there : (offset : ℕ) (bytes : List ℕ) → IsLexed offset bytes (lexed offset bytes)
unfolding lexed
read_is_there offset bytes = read_in (length bytes + 1) offset bytes (omega arith)

-- ---- both

pub exact : (offset : ℕ) (bytes : List ℕ) (ts : List Token)
    → HasTokens offset bytes ts ↔ (lexed offset bytes ≡ tokens_without_fault ts)
exact offset bytes ts = (
  there_is_read offset bytes ts None,
  λ e. subst (IsLexed offset bytes) e (read_is_there offset bytes),
)

pub fault_exact : (offset : ℕ) (bytes : List ℕ) (ts : List Token) (fault : LexFault)
    → StopsWith offset bytes ts fault ↔ (lexed offset bytes ≡ tokens_then_fault ts fault)
fault_exact offset bytes ts fault =
    (there_is_read offset bytes ts (Some fault), λ e. subst (IsLexed offset bytes) e (read_is_there offset bytes))
