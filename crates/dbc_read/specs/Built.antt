-- The parts of a sheet, built of what is gathered: each node, message and signal takes what is attached at its index.
use Rattle.std.specs.Prelude.{◌≡◌, ◌++◌, ℕ, List, [], ◌∷◌, drop, map, unwrap_or, IsPermutation}
use Rattle.std.specs.List.{AllByRecursion}
use Rattle.dbc_words.specs.declared.value_type.ValueType.TheVariants.{Integer}
use Rattle.dbc_sheet.specs.Form.{IsSheet}
use Rattle.dbc_sheet.specs.Sheet.{node_name}
use Rattle.dbc_grammar.specs.Statement as dbc
use Rattle.dbc_sheet.specs.WellFormed.{AreRostered}
use Rattle.dbc_sheet.specs.declared.message.Message.{Message}
use Rattle.dbc_sheet.specs.declared.node.Node.{Node}
use Rattle.dbc_sheet.specs.declared.sheet.Sheet.{Sheet}
use Rattle.dbc_sheet.specs.declared.signal.Signal.{Signal}
use Rattle.dbc_sheet.specs.declared.value_table.ValueTable.{ValueTable}
use Rattle.dbc_read.specs.Fit.{CanShareSheet, IsFit, TablesFit}
use Rattle.dbc_read.specs.declared.feed.Feeds.{Feeds}
use Rattle.dbc_read.specs.declared.gathered.Gathered.{Gathered}
use Rattle.dbc_statements.specs.Parts.{message_with, signal_with, table_of}
use Rattle.dbc_statements.specs.Statement.{message_of, names_of}

abbrev pub first_or : {A : Type 0} → A → List A → A
first_or d [] = d
first_or d (x ∷ xs) = x

abbrev pub nodes_from : List (List ℕ) → List (List ℕ) → List Node
nodes_from [] comments = []
nodes_from (name ∷ names) comments = record { name = name; comment = first_or [] comments }
    ∷ nodes_from names (drop 1 comments)

-- what is left after one signal took its own
abbrev pub rest_of : Feeds → Feeds
rest_of f = record {
  comments = drop 1 f.comments;
  values = drop 1 f.values;
  types = drop 1 f.types;
  spns =
      drop 1 f.spns;
}

abbrev pub next_signal : dbc.SignalLine → Feeds → Signal
next_signal line f = signal_with line (first_or [] f.comments) (first_or 0 f.spns) (first_or [] f.values)
    (first_or Integer f.types)

abbrev pub signals_from : List dbc.SignalLine → Feeds → List Signal
signals_from [] f = []
signals_from (line ∷ lines) f = next_signal line f ∷ signals_from lines (rest_of f)

-- what is left after these signals took theirs
abbrev pub feeds_after : List dbc.SignalLine → Feeds → Feeds
feeds_after [] f = f
feeds_after (line ∷ lines) f = feeds_after lines (rest_of f)

abbrev pub next_message : dbc.MessageLine → List ℕ → Feeds → Message
next_message line comment f = message_with line comment (signals_from line.signals f)

abbrev pub messages_from : List dbc.MessageLine → List (List ℕ) → Feeds → List Message
messages_from [] comments f = []
messages_from (line ∷ lines) comments f =
    next_message line (first_or [] comments) f ∷ messages_from lines (drop 1 comments) (feeds_after line.signals f)

-- each of these messages is fit for a sheet, and they can be added to those that are there
pub record AreAddable (before messages : List Message) : Type 0 where
  pub fit : AllByRecursion IsFit messages
  pub together : CanShareSheet (before ++ messages)

-- of all that is gathered

abbrev pub nodes_in : Gathered → List Node
nodes_in g = nodes_from (names_of g.nodes) g.node_comments

abbrev pub tables_in : Gathered → List ValueTable
tables_in g = map table_of g.tables

abbrev pub feeds_in : Gathered → Feeds
feeds_in g = record {
  comments = g.signal_comments;
  values = g.signal_values;
  types = g.signal_types;
  spns =
      g.signal_spns;
}

abbrev pub messages_in : Gathered → List Message
messages_in g = messages_from (map message_of g.messages) g.message_comments (feeds_in g)

-- the sheet of all that is gathered
pub record IsBuilt (g : Gathered) (s : Sheet) : Type 0 where
  pub is_sheet : IsSheet s
  pub version : s.version ≡ unwrap_or g.version []
  pub comment : s.comment ≡ unwrap_or g.comment []
  pub nodes : s.nodes ≡ nodes_in g
  pub tables : s.tables ≡ tables_in g
  pub messages : IsPermutation (messages_in g) s.messages

-- all that is gathered can be in one sheet
pub record CanBeSheet (g : Gathered) : Type 0 where
  pub nodes : AreRostered node_name (nodes_in g)
  pub tables : TablesFit (tables_in g)
  pub messages : AllByRecursion IsFit (messages_in g)
  pub together : CanShareSheet (messages_in g)
