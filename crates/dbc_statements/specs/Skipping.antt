-- Tokens that are skipped one by one.
use Rattle.std.specs.Prelude.{◌≡◌, Bool, not, List, Some}
use Rattle.dbc_grammar.specs.Grammar.{begins_next}
use Rattle.dbc_grammar.specs.Parsing.{many_at, one_at, with_front}
use Rattle.dbc_grammar.specs.Rules.{starts}
use Rattle.dbc_grammar.specs.Token.{Token}

-- the tokens at the front that pass the test are skipped
pub record Skips (test : Token → Bool) (tokens rest : List Token) : Type 0 where
  pub times : List (Unit {0})
  pub all : many_at (starts test) (one_at test) tokens ≡ Some (times, rest)

-- some of them are skipped so far
pub record IsSkipping (test : Token → Bool) (tokens rest : List Token) : Type 0 where
  pub times : List (Unit {0})
  pub more : with_front times (many_at (starts test) (one_at test) rest) ≡ many_at (starts test) (one_at test) tokens

-- a token that doesn't end this statement
abbrev pub begins_no_next : Token → Bool
begins_no_next t = not (begins_next t)
