-- The parts of a sheet, made of the statements' lines and of what other statements attach to them.
use Rattle.std.specs.Prelude.{ℕ, List}
use Rattle.dbc_words.specs.declared.value_type.ValueType.{ValueType}
use Rattle.dbc_grammar.specs.Statement as dbc
use Rattle.dbc_sheet.specs.declared.message.Message.{Message}
use Rattle.dbc_sheet.specs.declared.signal.Signal.{Signal}
use Rattle.dbc_sheet.specs.declared.value_table.ValueTable.{ValueTable}
use Rattle.dbc_sheet.specs.declared.value_texts.ValueText.{ValueText}
use Rattle.dbc_statements.specs.declared.statement.TableLine.{TableLine}

abbrev pub table_of : TableLine → ValueTable
table_of line = record { name = line.name; entries = line.entries }

abbrev pub signal_with : dbc.SignalLine → List ℕ → ℕ → List ValueText → ValueType → Signal
signal_with line comment spn values value_type = record {
  name = line.name;
  layout = line.layout;
  signed = line.signed;
  mux = line.mux;
  factor = line.factor;
  offset = line.offset;
  minimum = line.minimum;
  maximum = line.maximum;
  unit = line.unit;
  receivers = line.receivers;
  comment = comment;
  spn = spn;
  values = values;
  value_type = value_type;
}

abbrev pub message_with : dbc.MessageLine → List ℕ → List Signal → Message
message_with line comment signals = record {
  ident = line.ident;
  name = line.name;
  length = line.length;
  transmitter = line.transmitter;
  comment = comment;
  signals = signals;
}
