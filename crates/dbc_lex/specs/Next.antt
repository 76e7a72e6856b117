-- What a call of the lexer returns, and what it leaves.
use Rattle.std.specs.Prelude.{◌≡◌, [], ◌∷◌, Option, Some, None, Result, Ok, Err}
use Rattle.dbc_grammar.specs.Lexing.{Lexed, LexFault}
use Rattle.dbc_grammar.specs.TokenLaw.{tokens_then_fault, tokens_without_fault}
use Rattle.dbc_lex.specs.declared.fault.ReadFault.{ReadFault}
use Rattle.dbc_lex.specs.declared.token.Token.{Token as TextToken}
use Rattle.dbc_lex.specs.Fault.{fault_of}
use Rattle.dbc_lex.specs.Token.{token_of}

-- What was left before the call, its result, and what is left after it. A token is the first of those that were left,
-- and the others are left with the same fault. The result is None if no token and no fault was left, and a fault if
-- that fault was left and no token. Both leave everything as it was, so that the next call returns the same.
abbrev pub GivesNext : Lexed → Result (Option TextToken) ReadFault → Lexed → Type 0
GivesNext old (Ok (Some t)) new = (old.tokens ≡ token_of t ∷ new.tokens) × (old.fault ≡ new.fault)
GivesNext old (Ok None) new = (old ≡ tokens_without_fault []) × (new ≡ old)
GivesNext old (Err fault) new =
    (cause : LexFault) × (old ≡ tokens_then_fault [] cause) × (fault ≡ fault_of cause) × (new ≡ old)
