-- A sheet: what a DBC file describes of a network (Vector's DBC File Format Documentation, in this project's dialect).
use Rattle.std.specs.Prelude.{◌≡◌, ℕ, List, [], take, All, Some, slice_get}
use Rattle.bitlayout.specs.Clash.{IsFirstClash}
use Rattle.bitlayout.specs.declared.clash.Clash.{Clash}
use Rattle.dbc_words.specs.Fault.{clash_code}
use Rattle.dbc_words.specs.declared.fault.About.TheVariants as about
use Rattle.dbc_words.specs.declared.fault.SheetFault.{SheetFault}
use Rattle.dbc_sheet.specs.Messages.{IsClearMessage, number_of}
use Rattle.dbc_sheet.specs.Signals.{places_of}
use Rattle.dbc_sheet.specs.declared.message.Message.{Message}
use Rattle.dbc_sheet.specs.declared.node.Node.{Node}
use Rattle.dbc_sheet.specs.declared.sheet.Sheet.{Sheet}
use Rattle.dbc_sheet.specs.declared.value_table.ValueTable.{ValueTable}

abbrev pub node_name : Node → List ℕ
node_name node = node.name

abbrev pub table_name : ValueTable → List ℕ
table_name table = table.name

-- the empty sheet
abbrev pub empty_sheet : Sheet
empty_sheet = record { version = []; comment = []; nodes = []; tables = []; messages = [] }

-- the signals of each message fit together in its payload
abbrev pub IsClearSheet : Sheet → Type 0
IsClearSheet s = All IsClearMessage s.messages

-- the fault of the first message that isn't clear: its first clash, the code of that, and the message's number
pub record IsFirstFault (s : Sheet) (fault : SheetFault) : Type 0 where
  pub index : ℕ
  pub message : Message
  pub there : slice_get s.messages index ≡ Some message
  pub clear_before : All IsClearMessage (take index s.messages)
  pub unclear : ¬ (IsClearMessage message)
  pub clash : Clash
  pub first : IsFirstClash (places_of message.signals) message.length clash
  pub code : fault.code ≡ clash_code clash
  pub about : fault.about ≡ about.Signals (number_of message) clash
