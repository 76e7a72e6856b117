-- The outcome of an export.
use Rattle.std.specs.Prelude.{◌≡◌, ◌⊎◌, ◌==◌, ℕ, Bool, true, false, List, Option, Some, None, Result, Ok, Err}
use Rattle.std.specs.Prelude.{if◌then◌else◌}
use Rattle.dbc_keep.specs.Completed.{CannotBeCompleted, IsCompleted, NamedText}
use Rattle.dbc_lex.specs.declared.fault.ReadFault.{ReadFault}
use Rattle.office_types.specs.PlainName.{IsPlainName}
use Rattle.store.specs.declared.lost.Lost.{Lost}
use Rattle.office_types.specs.declared.look.Look.{Look}
use Rattle.office_types.specs.declared.look.Look.TheVariants.{Live, Release}
use Rattle.canoffice_cli.specs.Answered.{lost_outcome}
use Rattle.canoffice_cli.specs.Jobs.Checked.{fault_line}
use Rattle.canoffice_cli.specs.Databases.{AreKept, Databases}
use Rattle.canoffice_cli.specs.Jobs.Formatted.{fault_errors}
use Rattle.canoffice_cli.specs.Jobs.Looked.{IsLookedUp}
use Rattle.canoffice_cli.specs.Outcome.{Outcome, and_errors, not_found, success}

-- release N of a network, or its live sheet for 0
abbrev pub sheet_requested : List ℕ → ℕ → Look
sheet_requested net number = if number == 0 then Live net else Release net number

-- The text is printed with what is wanted besides, and on standard error a line for each statement of the original that
-- is left out; or a fault of reading one of them.
abbrev pub IsCompletedOutcome : Option NamedText → Bool → List ℕ → Outcome → Type 0
IsCompletedOutcome original j1939 text o =
    ((made lines : List ℕ) × IsCompleted original j1939 text made lines × (o ≡ and_errors (success made) lines))
    ⊎ ((fault : ReadFault) × CannotBeCompleted original j1939 text fault × (o ≡ fault_errors (fault_line fault)))

-- the text alone, if nothing is wanted besides
abbrev pub IsTextOutcome : Option NamedText → Bool → List ℕ → Outcome → Type 0
IsTextOutcome None false text o = o ≡ success text
IsTextOutcome None true text o = IsCompletedOutcome None true text o
IsTextOutcome (Some original) j1939 text o = IsCompletedOutcome (Some original) j1939 text o

-- the same of what is shown; or that nothing was found, or why the call was lost
abbrev pub IsShownOutcome : Option NamedText → Bool → Result (Option (List ℕ)) Lost → Outcome → Type 0
IsShownOutcome original j1939 (Ok (Some text)) o = IsTextOutcome original j1939 text o
IsShownOutcome original j1939 (Ok None) o = o ≡ not_found
IsShownOutcome original j1939 (Err lost) o = o ≡ lost_outcome lost

-- The word for the network has no name's form, so nothing is found; or the office looks, and what it shows is printed.
abbrev pub IsExportWith : Databases → Databases → List ℕ → List ℕ → ℕ → Option NamedText → Bool → Outcome → Type 0
IsExportWith before after path net number original j1939 o =
    ((¬ IsPlainName net) × (o ≡ not_found) × AreKept before after)
    ⊎ (IsPlainName net × (shown : Result (Option (List ℕ)) Lost)
    × IsLookedUp before after path (sheet_requested net number) shown × IsShownOutcome original j1939 shown o)
