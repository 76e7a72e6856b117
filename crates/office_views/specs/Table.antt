-- The table of a sheet's messages.
use Rattle.std.specs.Prelude.{ℕ, List, [], ◌∷◌, length, map, Some, codes, unwrap_or}
use Rattle.std.specs.List.{flat_map}
use Rattle.dbc_sheet.specs.declared.message.Message.{Message}
use Rattle.dbc_sheet.specs.declared.sheet.Sheet.{Sheet}
use Rattle.office_views.specs.declared.table.TheConstants.{MESSAGE_TOTALS, TABLE}
use Rattle.rows.specs.Fact.{Fact, of_ident, of_name, of_number}
use Rattle.rows.specs.Lines.{table_text}
use Rattle.rows.specs.Table.{Listing, plain}

-- identifier, length, count of signals, transmitter, name
abbrev pub message_row : Message → List Fact
message_row m =
    of_ident (Some m.ident) ∷ of_number m.length ∷ of_number (length m.signals)
    ∷ of_name (unwrap_or m.transmitter (codes "-")) ∷ of_name m.name ∷ []

-- how many signals the messages have altogether
abbrev pub signal_count : List Message → ℕ
signal_count messages = length (flat_map (λ (m : Message). m.signals) messages)

-- a row for each message, in ascending order of number, and how many messages and signals there are
abbrev pub sheet_table : Sheet → Listing
sheet_table s = plain TABLE (map message_row s.messages) MESSAGE_TOTALS
    (of_number (length s.messages) ∷ of_number (signal_count s.messages) ∷ [])

-- the same as lines
abbrev pub table_of : Sheet → List ℕ
table_of s = table_text (sheet_table s)
