-- All of a live message.
use Rattle.std.specs.Prelude.{ℕ, ◌==◌, List, [], ◌∷◌, ◌++◌, codes, find, map, unwrap_or, Option, Some, None}
use Rattle.std.specs.Prelude.{if◌then◌else◌, option_map}
use Rattle.std.specs.List.{flat_map}
use Rattle.std.specs.Str.{bytes_eq}
use Rattle.can_id.specs.J1939.{Fields, ident_fields, is_pdu1, pgn_of}
use Rattle.dbc_sheet.specs.Messages.{number_of}
use Rattle.dbc_sheet.specs.declared.message.Message.{Message}
use Rattle.dbc_sheet.specs.declared.signal.Signal.{Signal}
use Rattle.dbc_sheet.specs.declared.value_texts.ValueText.{ValueText}
use Rattle.dbc_words.specs.declared.value_type.ValueType.TheVariants.{Integer, Float, Double}
use Rattle.office_views.specs.Message.{message_chart}
use Rattle.office_seen.specs.Since.{last_release, releases_runs, since}
use Rattle.office_seen.specs.View.{owned}
use Rattle.office_seen.specs.declared.view.View.{View}
use Rattle.office_looks.specs.declared.message_whole.TheConstants.{MESSAGE}
use Rattle.office_looks.specs.declared.signal_rows.TheConstants.{NOTES, SIGNALS, TYPES, VALUES}
use Rattle.rows.specs.Fact.{Fact, of_decimal, of_digits, of_layout, of_maybe, of_mux, of_name, of_number, of_range}
use Rattle.rows.specs.Fact.{of_rest, of_runs, of_scale, of_word, of_words}
use Rattle.rows.specs.Lines.{table_text}
use Rattle.rows.specs.Table.{Listing, Kind, headed}
use Rattle.rows.specs.declared.cell.Column.{Column}

-- ---- what it has once

-- the destination address; a group that goes to every node has none
abbrev pub destination_shown : Fields → Option ℕ
destination_shown f = if is_pdu1 f.pf then Some f.ps else None

-- parameter group, priority, source, destination; an identifier of 11 bits has none of these
abbrev pub field_facts : Option Fields → List Fact
field_facts None = of_maybe None ∷ of_maybe None ∷ of_maybe None ∷ of_maybe None ∷ []
field_facts (Some f) =
    of_maybe (Some (pgn_of f)) ∷ of_maybe (Some f.priority) ∷ of_maybe (Some f.source)
    ∷ of_maybe (destination_shown f) ∷ []

-- name, number, identifier and its fields; how long it is, who sends it, who owns it; which releases have it, and what
-- has become of it since the last one; comment
abbrev pub message_facts : View → Message × List ℕ → List Fact
message_facts view p =
    of_name p.0.name ∷ of_number (number_of p.0) ∷ of_digits p.0.ident
    ∷ field_facts (ident_fields p.0.ident)
    ++ of_number p.0.length ∷ of_name (unwrap_or p.0.transmitter (codes "-")) ∷ of_word p.1
    ∷ of_runs (releases_runs view.releases (number_of p.0))
    ∷ of_name (since (last_release view.releases) view.sheet p.0) ∷ of_rest p.0.comment ∷ []

-- ---- its signals

-- a signal with 0 has no number
abbrev pub spn_shown : ℕ → Option ℕ
spn_shown n = if n == 0 then None else Some n

-- place, multiplexer indicator, suspect parameter number, name, values, unit, receivers
abbrev pub signal_row : Signal → List Fact
signal_row s =
    of_layout s.layout s.signed ∷ of_mux s.mux ∷ of_maybe (spn_shown s.spn) ∷ of_name s.name
    ∷ of_scale s.factor s.offset ∷ of_range s.minimum s.maximum ∷ of_word s.unit ∷ of_words s.receivers ∷ []

abbrev pub type_row : Signal → List ℕ → List Fact
type_row s word = of_name s.name ∷ of_name word ∷ []

-- a row where its values aren't whole numbers
abbrev pub type_rows : Signal → List (List Fact)
type_rows s = elim s.value_type [
  | Integer ↦ []
  | Float ↦ type_row s (codes "float") ∷ []
  | Double ↦ type_row s (codes "double") ∷ []
]

-- a row for each text of a value
abbrev pub value_row : Signal → ValueText → List Fact
value_row s v = of_name s.name ∷ of_decimal v.value ∷ of_rest v.text ∷ []

abbrev pub value_rows : Signal → List (List Fact)
value_rows s = map (value_row s) s.values

-- a row where it has a comment
abbrev pub note_rows : Signal → List (List Fact)
note_rows s = if bytes_eq s.comment [] then [] else (of_name s.name ∷ of_rest s.comment ∷ []) ∷ []

abbrev pub kind : List ℕ → List Column → List (List Fact) → Kind
kind name columns rows = record { name = name; columns = columns; rows = rows }

abbrev pub signal_kinds : List Signal → List Kind
signal_kinds signals =
    kind (codes "signal      ") SIGNALS (map signal_row signals)
    ∷ kind (codes "type        ") TYPES (flat_map type_rows signals)
    ∷ kind (codes "value       ") VALUES (flat_map value_rows signals)
    ∷ kind (codes "note        ") NOTES (flat_map note_rows signals) ∷ []

-- ---- the whole: what it has once, its signals, their types, texts and comments; as lines its chart too

abbrev pub whole_table : View → Message × List ℕ → Listing
whole_table view p = headed MESSAGE (message_facts view p) (signal_kinds p.0.signals)

abbrev pub whole_text : View → Message × List ℕ → List ℕ
whole_text view p = table_text (whole_table view p) ++ message_chart p.0

-- the live message of the name, with its owner
abbrev pub owned_named : View → List ℕ → Option (Message × List ℕ)
owned_named view name = find (λ (p : Message × List ℕ). bytes_eq p.0.name name) (owned view)

abbrev pub message_table : List ℕ → View → Option Listing
message_table name view = option_map (whole_table view) (owned_named view name)

abbrev pub message_text : List ℕ → View → Option (List ℕ)
message_text name view = option_map (whole_text view) (owned_named view name)
