-- Definitions that come after something was cited: they are gathered alone, and then all other statements without them.
use Rattle.std.specs.Prelude.{◌≡◌, List, [], ◌∷◌, ◌++◌, map, Some}
use Rattle.dbc_grammar.specs.Parsing.{statements_at}
use Rattle.dbc_grammar.specs.Saying.{messages_of, node_names_of}
use Rattle.dbc_grammar.specs.Statement as dbc
use Rattle.dbc_grammar.specs.Token.{Token}
use Rattle.dbc_read.specs.Attaching.{in_signals, with_attached}
use Rattle.dbc_read.specs.Definitions.{AreDefinitions}
use Rattle.dbc_read.specs.Finding.{Finds}
use Rattle.dbc_read.specs.Gathered.{AreGathered}
use Rattle.dbc_read.specs.Gathering.{Gathers, IsOfTokens, with_definitions}
use Rattle.dbc_read.specs.declared.finding.Finders.{Finders}
use Rattle.dbc_read.specs.declared.gathered.Gathered.{Gathered}
use Rattle.dbc_read.specs.declared.one_by_one.Found.{Found}
use Rattle.dbc_read.specs.declared.one_by_one.Found.TheVariants as found
use Rattle.dbc_statements.specs.Statement.{message_of, names_of, statement_of}
use Rattle.dbc_statements.specs.declared.statement.MessageLine.{MessageLine}
use Rattle.dbc_statements.specs.declared.statement.NodeName.{NodeName}
use Rattle.dbc_statements.specs.declared.statement.Statement.{Statement}

-- what the late statement and those after it define is gathered too
pub record DefineLate (late : Statement) (tokens : List Token) (old new : Gathered) : Type 0 where
  pub stated : List dbc.Statement
  pub read : statements_at tokens ≡ Some stated
  pub are : (before : List dbc.Statement) → AreDefinitions before old
      → AreDefinitions ((before ++ statement_of late ∷ []) ++ stated) new

-- what all statements of the tokens define
pub record DefineAll (tokens : List Token) (g : Gathered) : Type 0 where
  pub stated : List dbc.Statement
  pub read : statements_at tokens ≡ Some stated
  pub are : AreDefinitions stated g

abbrev pub IsFound : List Token → Found → Type 0
IsFound tokens (found.All g) = IsOfTokens tokens (in_signals g)
IsFound tokens (found.Definitions g) = DefineAll tokens g

-- Gathering all but the nodes and messages of the statements: with some nodes and messages it would be all.
pub record GathersApart (all : List dbc.Statement) (g : Gathered) (rest : List dbc.Statement) : Type 0 where
  pub nodes : List NodeName
  pub messages : List MessageLine
  pub gathers : Gathers all (with_definitions nodes messages g) rest

-- these statements are gathered so, where what they cite is found
abbrev pub SettlesApart : Finders → List dbc.Statement → List MessageLine → Gathered → List MessageLine → Gathered
    → Type 0
SettlesApart f more lines old new_lines new = (all rest : List dbc.Statement) → Finds f lines all
    → GathersApart all (with_attached lines old) (more ++ rest) → GathersApart all (with_attached new_lines new) rest

-- all statements that are left are
pub record SettlesOthers (f : Finders) (tokens : List Token) (lines : List MessageLine) (old : Gathered)
    (new_lines : List MessageLine) (new : Gathered) : Type 0 where
  pub stated : List dbc.Statement
  pub read : statements_at tokens ≡ Some stated
  pub gathered : SettlesApart f stated lines old new_lines new

-- it is what all statements of the tokens say, if they define these nodes and messages
pub record FollowAll (nodes : List NodeName) (lines : List MessageLine) (tokens : List Token)
    (new_lines : List MessageLine) (new : Gathered) : Type 0 where
  pub stated : List dbc.Statement
  pub read : statements_at tokens ≡ Some stated
  pub gathered : names_of nodes ≡ node_names_of stated → map message_of lines ≡ messages_of stated
      → AreGathered stated (with_definitions nodes new_lines (with_attached new_lines new))
