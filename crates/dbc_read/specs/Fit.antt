-- What can be in one sheet.
use Rattle.std.specs.Prelude.{◌≤◌, ◌==◌, List, length}
use Rattle.std.specs.List.{AllByRecursion, IsDistinct}
use Rattle.dbc_words.specs.Limits.{message_limit}
use Rattle.dbc_words.specs.Named.{AreNamedApart}
use Rattle.dbc_sheet.specs.Messages.{message_name, number_of}
use Rattle.dbc_sheet.specs.Signals.{AreSignals}
use Rattle.dbc_sheet.specs.Sheet.{table_name}
use Rattle.dbc_sheet.specs.WellFormed.{AreFewTexts, AreRostered}
use Rattle.dbc_sheet.specs.declared.message.Message.{Message}
use Rattle.dbc_sheet.specs.declared.signal.Signal.{Signal}
use Rattle.dbc_sheet.specs.declared.value_table.ValueTable.{ValueTable}

abbrev pub HaveFewTexts : Signal → Type 0
HaveFewTexts s = AreFewTexts s.values

-- signals that can be in one message
pub record AreFit (signals : List Signal) : Type 0 where
  pub together : AreSignals signals
  pub values : AllByRecursion HaveFewTexts signals

abbrev pub IsFit : Message → Type 0
IsFit m = AreFit m.signals

-- value tables that can be in one sheet
pub record TablesFit (tables : List ValueTable) : Type 0 where
  pub together : AreRostered table_name tables
  pub entries : AllByRecursion (λ (t : ValueTable). AreFewTexts t.entries) tables

-- messages that can be in one sheet, whichever their order
pub record CanShareSheet (messages : List Message) : Type 0 where
  pub numbers : IsDistinct (λ a b. number_of a == number_of b) messages
  pub names : AreNamedApart message_name messages
  pub few : length messages ≤ message_limit
