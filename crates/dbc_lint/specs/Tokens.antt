-- Tokens taken one by one.
use Rattle.std.specs.Prelude.{◌≡◌, List, [], ◌∷◌, Option, Some, None}
use Rattle.dbc_grammar.specs.Token.{Token}
use Rattle.dbc_lex.specs.Token.{token_of}
use Rattle.dbc_lex.specs.declared.token.Token.{Token as TextToken}

-- the first of the tokens, and the others are left; or there is none
abbrev pub GivesToken : List Token → Option TextToken → List Token → Type 0
GivesToken old (Some t) new = old ≡ token_of t ∷ new
GivesToken old None new = (old ≡ []) × (new ≡ [])
