-- What finds the nodes, the messages and the signals that statements cite.
use Rattle.std.specs.Prelude.{◌≡◌, ℕ, List, map}
use Rattle.std.specs.Borrow.{Bor}
use Rattle.base.specs.Keyed.{text_cmp}
use Rattle.dbc_grammar.specs.Saying.{messages_of, node_names_of}
use Rattle.dbc_grammar.specs.Statement.{Statement}
use Rattle.dbc_read.specs.Keys.{text_of}
use Rattle.dbc_read.specs.Lookup.{IsLookupOf}
use Rattle.dbc_read.specs.Numbers.{line_numbers}
use Rattle.dbc_read.specs.Orders.{AreOrdersOf}
use Rattle.dbc_read.specs.declared.finding.Finders.{Finders}
use Rattle.dbc_statements.specs.Statement.{message_of, names_of}
use Rattle.dbc_statements.specs.declared.statement.MessageLine.{MessageLine}
use Rattle.dbc_statements.specs.declared.statement.NodeName.{NodeName}

-- it finds the nodes that the statements define, and the messages, which are in these lines
pub record Finds (f : Finders) (lines : List MessageLine) (statements : List Statement) : Type 0 where
  pub node_names : List (Bor (List ℕ))
  pub nodes : IsLookupOf (λ (a b : Bor (List ℕ)). text_cmp a.now b.now) f.nodes node_names
  pub names : map text_of node_names ≡ node_names_of statements
  pub messages : map message_of lines ≡ messages_of statements
  pub numbers : f.numbers ≡ line_numbers lines

-- it finds these nodes and messages, whichever statements define them
abbrev pub FindsAll : Finders → List NodeName → List MessageLine → Type 0
FindsAll f nodes lines = (statements : List Statement) → names_of nodes ≡ node_names_of statements
    → map message_of lines ≡ messages_of statements → Finds f lines statements

-- it finds the messages of these lines by number, and their signals by name
pub record FindsSignals (f : Finders) (lines : List MessageLine) : Type 0 where
  pub numbers : f.numbers ≡ line_numbers lines
  pub orders : AreOrdersOf (map message_of lines) f.orders.items
