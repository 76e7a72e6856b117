-- Well-formed sheets (Vector's DBC File Format Documentation, in the limits of this project's dialect): names and
-- numbers that are unique, lists that are not too long. The forms of names and texts and the ranges of numbers are in
-- `Form`; a well-formed sheet need not be clear.
use Rattle.std.specs.Prelude.{ℕ, ◌≤◌, List, length}
use Rattle.std.specs.List.{AllByRecursion}
use Rattle.dbc_words.specs.Limits.{roster_limit, value_text_limit}
use Rattle.dbc_words.specs.Named.{AreNamedApart}
use Rattle.dbc_sheet.specs.Messages.{AreMessages}
use Rattle.dbc_sheet.specs.Sheet.{node_name, table_name}
use Rattle.dbc_sheet.specs.Signals.{AreSignals}
use Rattle.dbc_sheet.specs.declared.message.Message.{Message}
use Rattle.dbc_sheet.specs.declared.sheet.Sheet.{Sheet}
use Rattle.dbc_sheet.specs.declared.signal.Signal.{Signal}
use Rattle.dbc_sheet.specs.declared.value_table.ValueTable.{ValueTable}
use Rattle.dbc_sheet.specs.declared.value_texts.ValueText.{ValueText}

-- Nodes or value tables of one sheet: no two have the same name, and they are at most as many as the limit.
pub record AreRostered {A : Type 0} (name : A → List ℕ) (things : List A) : Type 0 where
  pub apart : AreNamedApart name things
  pub few : length things ≤ roster_limit

-- no more texts than one list can have
abbrev pub AreFewTexts : List ValueText → Type 0
AreFewTexts texts = length texts ≤ value_text_limit

-- What each message keeps: different names and one multiplexor at most among its signals, and not too many value texts
-- for each.
pub record IsWellFormedMessage (m : Message) : Type 0 where
  pub signals : AreSignals m.signals
  pub values : AllByRecursion (λ (s : Signal). AreFewTexts s.values) m.signals

-- What a sheet keeps: its messages are in ascending order of their numbers, and no two messages, nodes or value tables
-- have the same name.
pub record IsWellFormed (s : Sheet) : Type 0 where
  pub nodes : AreRostered node_name s.nodes
  pub tables : AreRostered table_name s.tables
  pub entries : AllByRecursion (λ (t : ValueTable). AreFewTexts t.entries) s.tables
  pub together : AreMessages s.messages
  pub messages : AllByRecursion IsWellFormedMessage s.messages
