-- What is left of a text whose statements are read one by one.
use Rattle.std.specs.Prelude.{◌≡◌, ◌<◌, ℕ, List, ◌∷◌, ◌++◌, length}
use Rattle.std.specs.Option.{option_map}
use Rattle.dbc_grammar.specs.Lexing.{lexed}
use Rattle.dbc_grammar.specs.Parsing.{statements_at}
use Rattle.dbc_grammar.specs.Statement.{Statement}
use Rattle.dbc_grammar.specs.Token.{Token}
use Rattle.dbc_statements.specs.Tokens.{IsReached}

-- the text, and the tokens that are left of it
pub record Left : Type 0 where
  pub source : List ℕ
  pub tokens : List Token

-- they are the last tokens of the text, which was read up to an offset
pub record IsLeft (source : List ℕ) (tokens : List Token) (offset : ℕ) : Type 0 where
  pub read : List Token
  pub whole : (lexed 0 source).tokens ≡ read ++ tokens
  pub reached : IsReached (lexed 0 source).tokens offset

-- the tokens are those of this statement, and the rest
pub record BeginsWith (s : Statement) (tokens rest : List Token) : Type 0 where
  pub statements : statements_at tokens ≡ option_map (λ others. s ∷ others) (statements_at rest)
  pub fewer : length rest < length tokens
