-- How far statements are settled, which come after those that define what they cite.
use Rattle.std.specs.Prelude.{◌≡◌, List, [], ◌∷◌, ◌++◌, Option, Some}
use Rattle.dbc_grammar.specs.Parsing.{statements_at}
use Rattle.dbc_grammar.specs.Statement as dbc
use Rattle.dbc_grammar.specs.Token.{Token}
use Rattle.dbc_read.specs.Attaching.{with_attached}
use Rattle.dbc_read.specs.Gathered.{AreGathered}
use Rattle.dbc_read.specs.Gathering.{BeginWith, DefineNothing, IsDefining, Settles, one_or_none, with_definitions}
use Rattle.dbc_read.specs.declared.finding.Finders.{Finders}
use Rattle.dbc_read.specs.declared.gathered.Gathered.{Gathered}
use Rattle.dbc_read.specs.declared.settling.Settled.{Settled}
use Rattle.dbc_read.specs.declared.settling.Settled.TheVariants as settled
use Rattle.dbc_statements.specs.Statement.{statement_of}
use Rattle.dbc_statements.specs.declared.statement.MessageLine.{MessageLine}
use Rattle.dbc_statements.specs.declared.statement.NodeName.{NodeName}
use Rattle.dbc_statements.specs.declared.statement.Statement.{Statement}

-- the tokens are those of these statements; or of these, the late one, and the rest
abbrev pub ReadUpTo : Settled → List dbc.Statement → List Token → List Token → Type 0
ReadUpTo settled.All stated tokens rest = statements_at tokens ≡ Some stated
ReadUpTo (settled.UpTo late) stated tokens rest = BeginWith (stated ++ statement_of late ∷ []) tokens rest

-- statements are gathered up to the first that defines something
pub record SettlesTo (f : Finders) (end : Settled) (tokens rest : List Token) (lines : List MessageLine)
    (old : Gathered) (new_lines : List MessageLine) (new : Gathered) : Type 0 where
  pub stated : List dbc.Statement
  pub read : ReadUpTo end stated tokens rest
  pub none : DefineNothing stated
  pub gathered : Settles f stated lines old new_lines new

-- they are gathered after those that define these nodes and messages, and after the first that cites something
pub record Follow (nodes : List NodeName) (lines : List MessageLine) (first : Option Statement) (end : Settled)
    (tokens rest : List Token) (old : Gathered) (new_lines : List MessageLine) (new : Gathered) : Type 0 where
  pub stated : List dbc.Statement
  pub read : ReadUpTo end stated tokens rest
  pub gathered : (before : List dbc.Statement) → IsDefining before (with_definitions nodes lines old)
      → AreGathered ((before ++ one_or_none first) ++ stated)
      (with_definitions nodes new_lines (with_attached new_lines new))

-- all statements up to the late one are gathered
pub record AreSettled (end : Settled) (tokens rest : List Token) (g : Gathered) : Type 0 where
  pub stated : List dbc.Statement
  pub read : ReadUpTo end stated tokens rest
  pub gathered : AreGathered stated g
