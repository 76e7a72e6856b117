-- The lexer's tokens as tokens of the definitions of `dbc_grammar`.
use Rattle.dbc_lex.specs.declared.token.Token.{Token as TextToken}
use Rattle.dbc_grammar.specs.Token.{Token}

-- a token of the lexer, with its bytes instead of the slice
abbrev pub token_of : TextToken → Token
token_of t = record { kind = t.kind; start = t.start; end = t.end; text = t.text.now }
