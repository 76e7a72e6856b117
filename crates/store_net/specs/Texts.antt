-- The texts of a network: of its live sheet, and of its releases.
use Rattle.std.specs.Prelude.{◌≡◌, ◌==◌, ℕ, Bool, false, List, Option, Some, None, find}
use Rattle.std.specs.Option.{option_map}
use Rattle.std.specs.Str.{bytes_eq}
use Rattle.can_id.specs.Ident.{dbc_number}
use Rattle.can_id.specs.declared.ident.Ident.{Ident}
use Rattle.dbc_grammar.specs.Canon.{canonical_text}
use Rattle.dbc_grammar.specs.Reads.{ReadsOnlyAs}
use Rattle.dbc_sheet.specs.Messages.{has_number}
use Rattle.dbc_sheet.specs.declared.message.Message.{Message}
use Rattle.dbc_sheet.specs.declared.sheet.Sheet.{Sheet}
use Rattle.office_views.specs.Message.{message_chart}
use Rattle.office_views.specs.Table.{table_of}
use Rattle.office_types.specs.State.{sheet_of}
use Rattle.office_types.specs.declared.state.Net.{Net}
use Rattle.store_rows.specs.Rows.{numbered}

-- the canonical text of the live sheet, where the network is there
abbrev pub live_text : Option Net → Option (List ℕ)
live_text net = option_map (λ (n : Net). canonical_text (sheet_of n)) net

-- the table of the live messages, where the network is there
abbrev pub live_table : Option Net → Option (List ℕ)
live_table net = option_map (λ (n : Net). table_of (sheet_of n)) net

-- the message of a name
abbrev pub message_named : List ℕ → Sheet → Option Message
message_named name s = find (λ (m : Message). bytes_eq m.name name) s.messages

-- the chart of the live message of a name, where the network and the message are there
abbrev pub live_chart : Option Net → List ℕ → Option (List ℕ)
live_chart None name = None
live_chart (Some net) name = option_map message_chart (message_named name (sheet_of net))

-- the release of the number, from 1
abbrev pub release_at : Option Net → ℕ → Option Sheet
release_at None number = None
release_at (Some net) number =
    option_map (λ (r : ℕ × Sheet). r.1) (find (λ (r : ℕ × Sheet). r.0 == number) (numbered 1 net.releases))

-- it is there and has a message of the identifier
abbrev pub release_has : Option Sheet → Ident → Bool
release_has None ident = false
release_has (Some sheet) ident = has_number sheet.messages (dbc_number ident)

-- its canonical text
abbrev pub release_text : Option Net → ℕ → Option (List ℕ)
release_text net number = option_map canonical_text (release_at net number)

-- a text that reads as the sheet and as no other; none where there is no sheet
abbrev pub IsTextOf : Option Sheet → Option (List ℕ) → Type 0
IsTextOf None text = text ≡ None
IsTextOf (Some sheet) None = ⊥
IsTextOf (Some sheet) (Some text) = ReadsOnlyAs text sheet
