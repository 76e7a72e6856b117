-- The outcome of comparing two DBC texts, or two releases of a network.
use Rattle.std.specs.Prelude.{◌≡◌, ◌⊎◌, ◌↔◌, ◌++◌, ℕ, Bool, List, [], Option, IsTrue, codes, decimal, if◌then◌else◌}
use Rattle.std.specs.Option.{option_map}
use Rattle.desk_send.specs.Desks.{Desks}
use Rattle.dbc_advice.specs.ShownPath.{shown_path}
use Rattle.dbc_compare.specs.List.{compare_text, has_no_difference}
use Rattle.dbc_grammar.specs.Reads.{Reads}
use Rattle.dbc_lex.specs.Fault as reading
use Rattle.dbc_lex.specs.declared.fault.ReadFault.{ReadFault}
use Rattle.dbc_sheet.specs.declared.sheet.Sheet.{Sheet}
use Rattle.office_fields.specs.Value.{plain_name_of}
use Rattle.office_types.specs.Look.{formed}
use Rattle.office_types.specs.declared.look.Look.{Look}
use Rattle.office_types.specs.declared.look.Look.TheVariants as look
use Rattle.office_types.specs.declared.look.LookForm.TheVariants.{Lines}
use Rattle.office_types.specs.declared.look.NetLook.TheVariants as of_net
use Rattle.canoffice_cli.specs.Databases.{Databases}
use Rattle.canoffice_cli.specs.Jobs.Formatted.{IsUnreadAs}
use Rattle.canoffice_cli.specs.Jobs.Looked.{IsLookOutcome}
use Rattle.canoffice_cli.specs.Outcome.{Outcome}
use Rattle.canoffice_jobs.specs.declared.place.OfficePlace.{OfficePlace}
use Rattle.canoffice_cli.specs.declared.report.ExitStatus.{ExitStatus}
use Rattle.canoffice_cli.specs.declared.report.ExitStatus.TheVariants.{FaultFound, Success}

-- 0 where both are equal, and else 1
abbrev pub status_by : Bool → ExitStatus
status_by are_equal = if are_equal then Success else FaultFound

-- ---- two texts

-- `fault CODE NAME AT FILE`: the fault, its offset, and the file
abbrev pub fault_in : List ℕ → ReadFault → List ℕ
fault_in path fault =
    codes "fault " ++ (decimal (reading.code_number fault.code)
    ++ (codes " " ++ (reading.code_name fault.code
    ++ (codes " " ++ (decimal fault.at ++ (codes " " ++ (shown_path path ++ codes "\n")))))))

abbrev pub comparison : List ℕ → Bool → Outcome
comparison text are_equal = record { output = text; errors = []; status = status_by are_equal }

-- the differences of the sheets are printed, and the status says whether the sheets are equal
abbrev pub IsComparison : Bool → Sheet → Sheet → Outcome → Type 0
IsComparison json old new o =
    (are_equal : Bool) × (IsTrue are_equal ↔ (old ≡ new)) × (o ≡ comparison (compare_text json old new) are_equal)

-- the sheet is compared with that of the text at the path, if this reads as one
abbrev pub IsComparedWith : Bool → Sheet → List ℕ → List ℕ → Outcome → Type 0
IsComparedWith json old path bytes o =
    ((s : Sheet) × Reads bytes s × IsComparison json old s o) ⊎ IsUnreadAs (fault_in path) bytes o

-- so is the sheet of the text at the first path, if this reads as one
abbrev pub IsCompareOutcome : Bool → List ℕ → List ℕ → List ℕ → List ℕ → Outcome → Type 0
IsCompareOutcome json old_path new_path old new o =
    ((s : Sheet) × Reads old s × IsComparedWith json s new_path new o) ⊎ IsUnreadAs (fault_in old_path) old o

-- ---- two releases

-- two releases of the network that a word names, by their numbers, 0 for the live sheet
abbrev pub compare_look : Bool → List ℕ → ℕ → ℕ → Option Look
compare_look json word old new =
    option_map (λ net. formed json (look.Net net (of_net.Compare old new) Lines)) (plain_name_of word)

-- a list was found: the status says whether it has no difference
abbrev pub judged_by : Bool → ExitStatus → Outcome → Outcome
judged_by json Success o = record o { status = status_by (has_no_difference json o.output) }
judged_by json status o = o

abbrev pub judged : Bool → Outcome → Outcome
judged json o = judged_by json o.status o

-- what the office at the place shows is printed, with that status
abbrev pub IsReleasesOutcome : Desks → Desks → Databases → Databases → OfficePlace → List ℕ → ℕ → ℕ → Bool → Outcome → Type 0
IsReleasesOutcome earlier later before after place net old new json o =
    (shown : Outcome) × IsLookOutcome earlier later before after place (compare_look json net old new) shown
    × (o ≡ judged json shown)
