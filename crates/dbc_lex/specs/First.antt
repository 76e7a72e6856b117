-- The first token, as the lexer returns it.
use Rattle.std.specs.Prelude.{◌≡◌, ℕ, List, Option, Some, None, Result, Ok, Err, option_and_then, slice_get}
use Rattle.dbc_grammar.specs.Lexing.{LexFault, kind_of}
use Rattle.dbc_grammar.specs.Token.{Token}
use Rattle.dbc_grammar.specs.declared.token.TokenKind.{TokenKind}
use Rattle.dbc_lex.specs.declared.fault.ReadFault.{ReadFault}
use Rattle.dbc_lex.specs.declared.token.Token.{Token as TextToken}
use Rattle.dbc_lex.specs.Fault.{fault_of}
use Rattle.dbc_lex.specs.Token.{token_of}

-- The result and the first token of the definitions: that token, None at the end, or the fault where none begins.
abbrev pub GivesFirst : Result (Option TextToken) ReadFault → Result (Option Token) LexFault → Type 0
GivesFirst (Ok (Some t)) first = first ≡ Ok (Some (token_of t))
GivesFirst (Ok None) first = first ≡ Ok None
GivesFirst (Err fault) first = (cause : LexFault) × (first ≡ Err cause) × (fault ≡ fault_of cause)

-- the kind of the tokens that begin with the byte at the offset; None if none does, or if the bytes end there
abbrev pub kind_at : List ℕ → ℕ → Option TokenKind
kind_at bytes at = option_and_then kind_of (slice_get bytes at)
