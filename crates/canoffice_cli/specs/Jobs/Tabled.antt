-- The outcome of the table of a DBC text.
use Rattle.std.specs.Prelude.{◌≡◌, ◌⊎◌, ℕ, Bool, List}
use Rattle.dbc_grammar.specs.Reads.{Reads}
use Rattle.dbc_sheet.specs.declared.sheet.Sheet.{Sheet}
use Rattle.office_views.specs.Table.{sheet_table}
use Rattle.canoffice_cli.specs.Jobs.Formatted.{IsUnread}
use Rattle.canoffice_cli.specs.Outcome.{Outcome, success}
use Rattle.rows.specs.Json.{list_text}

-- the text reads as a sheet, whose table is printed, as JSON or as lines, or as none
abbrev pub IsTableOutcome : Bool → List ℕ → Outcome → Type 0
IsTableOutcome json bytes o =
    ((s : Sheet) × Reads bytes s × (o ≡ success (list_text json (sheet_table s)))) ⊎ IsUnread bytes o
