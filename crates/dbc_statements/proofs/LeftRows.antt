-- Computed rows of the tokens that are left, and of offsets that aren't kept.
use Rattle.dbc_statements.proofs.Common.{◌≡◌, List, [], ◌∷◌, refl, arith, codes, Statement, Token, Name, Text}
use Rattle.std.proofs.Common.{Box, Global}
use Rattle.dbc_words.specs.declared.keyword.Keyword.TheVariants.{Version}
use Rattle.dbc_grammar.specs.Parsing.{line_at, statement_at, statements_at, version_at}
use Rattle.dbc_grammar.specs.Statement.{VersionIs}
use Rattle.dbc_statements.specs.Left.{BeginsWith}
use Rattle.dbc_statements.specs.Statement.{HasNoOffsets}
use Rattle.dbc_statements.specs.declared.statement.Content.TheVariants as content
use Rattle.dbc_statements.specs.declared.statement.MessageLine.{MessageLine}

abbrev version : Statement
version = record { start = 0; keyword = Version; content = VersionIs (codes "1.0") }

abbrev tokens : List Token
tokens = record { kind = Name; start = 0; end = 7; text = codes "VERSION" }
    ∷ record { kind = Text; start = 8; end = 13; text = codes "\"1.0\"" } ∷ []

version_comes_first : BeginsWith version tokens []
unfolding statements_at statement_at line_at version_at
version_comes_first = record { statements = refl; fewer = omega arith }

-- a version has no signals, so no offsets of them
version_has_none : HasNoOffsets (content.Version (codes "1.0"))
version_has_none = tt

-- and a message has none if its list is empty
message_has_none : (line : Box MessageLine Global) → line.value.offsets.items ≡ [] → HasNoOffsets (content.Message line)
message_has_none line none = none
