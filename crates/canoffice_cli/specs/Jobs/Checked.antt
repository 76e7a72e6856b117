-- The outcome of checking a DBC text.
use Rattle.std.specs.Prelude.{◌≡◌, ◌==◌, ◌⊎◌, ℕ, Bool, List, [], ◌∷◌, Option, Some, None, codes, length, map}
use Rattle.std.specs.Prelude.{if◌then◌else◌}
use Rattle.dbc_words.specs.Fault.{code_name, code_number, message_about}
use Rattle.dbc_words.specs.Keyword.{keyword_text}
use Rattle.dbc_words.specs.declared.fault.SheetCode.{SheetCode}
use Rattle.dbc_words.specs.declared.fault.SheetFault.{SheetFault}
use Rattle.dbc_words.specs.declared.keyword.Keyword.{Keyword}
use Rattle.dbc_grammar.specs.Reads.{ReadsAs}
use Rattle.dbc_sheet.specs.Sheet.{IsClearSheet, IsFirstFault}
use Rattle.dbc_sheet.specs.declared.sheet.Sheet.{Sheet}
use Rattle.office_views.specs.Table.{signal_count}
use Rattle.dbc_lex.specs.Fault as reading
use Rattle.dbc_lex.specs.declared.fault.ReadFault.{ReadFault}
use Rattle.dbc_lint.specs.Listing.{AreRemarks, remark_rows}
use Rattle.dbc_lint.specs.declared.listing.TheConstants.{REMARKS}
use Rattle.dbc_lint.specs.declared.remark.Remark.{Remark}
use Rattle.dbc_read.specs.Reading.{IsReadFault}
use Rattle.canoffice_cli.specs.Outcome.{Outcome}
use Rattle.canoffice_cli.specs.declared.jobs.checking.TheConstants.{CLEAR, FAULT, PASSED, UNCLEAR}
use Rattle.canoffice_cli.specs.declared.report.ExitStatus.{ExitStatus}
use Rattle.canoffice_cli.specs.declared.report.ExitStatus.TheVariants.{FaultFound, Success}
use Rattle.rows.specs.Fact.{Fact, of_name, of_number}
use Rattle.rows.specs.Json.{list_text}
use Rattle.rows.specs.Lines.{table_text}
use Rattle.rows.specs.Table.{Kind, totalled}
use Rattle.rows.specs.declared.cell.Column.{Column}

-- ---- lists

abbrev pub one_row : List ℕ → List Column → List Fact → Kind
one_row name columns row = record { name = name; columns = columns; rows = row ∷ [] }

-- the offset where a skipped statement begins, and its first keyword
abbrev pub passed_row : ℕ × Keyword → List Fact
passed_row p = of_number p.0 ∷ of_name (keyword_text p.1) ∷ []

abbrev pub passed_kind : List (ℕ × Keyword) → Kind
passed_kind passed = record { name = codes "passed "; columns = PASSED; rows = map passed_row passed }

-- how many messages and signals there are
abbrev pub clear_kind : Sheet → Kind
clear_kind s = one_row (codes "ok ") CLEAR
    (of_number (length s.messages) ∷ of_number (signal_count s.messages) ∷ [])

-- the code of the fault and its name, and the DBC number of the message
abbrev pub unclear_kind : SheetCode → ℕ → Kind
unclear_kind code number = one_row (codes "unclear ") UNCLEAR
    (of_number (code_number code) ∷ of_name (code_name code) ∷ of_number number ∷ [])

-- the code of the fault and its name, and its offset
abbrev pub fault_kind : ReadFault → Kind
fault_kind fault = one_row (codes "fault ") FAULT
    (of_number (reading.code_number fault.code) ∷ of_name (reading.code_name fault.code) ∷ of_number fault.at ∷ [])

abbrev pub fault_line : ReadFault → List ℕ
fault_line fault = table_text (totalled (fault_kind fault ∷ []) [] [])

abbrev pub remark_kind : List (List Fact) → Kind
remark_kind rows = record { name = codes "remark "; columns = REMARKS; rows = rows }

-- the lists on standard output, as JSON or as lines, and the status
abbrev pub listed : Bool → List Kind → ExitStatus → Outcome
listed json kinds status = record { output = list_text json (totalled kinds [] []); errors = []; status = status }

-- ---- the outcome

-- the sheet is clear, or else this is its first fault, with the number of its message
abbrev pub IsJudged : Sheet → Kind → ExitStatus → Type 0
IsJudged s kind status =
    (IsClearSheet s × (kind ≡ clear_kind s) × (status ≡ Success))
    ⊎ ((fault : SheetFault) × (number : ℕ) × IsFirstFault s fault × (message_about fault.about ≡ Some number)
    × (kind ≡ unclear_kind fault.code number) × (status ≡ FaultFound))

-- what was skipped, and whether the sheet is clear
abbrev pub IsPlainCheck : Bool → Sheet → List (ℕ × Keyword) → Outcome → Type 0
IsPlainCheck json s passed o =
    (kind : Kind) × (status : ExitStatus) × IsJudged s kind status
    × (o ≡ listed json (passed_kind passed ∷ kind ∷ []) status)

-- the status after so many remarks
abbrev pub remarked : ExitStatus → ℕ → ExitStatus
remarked status count = if count == 0 then status else FaultFound

-- the same, and then these rows of remarks
abbrev pub IsRemarkedCheck : Bool → Sheet → List (ℕ × Keyword) → List (List Fact) → Outcome → Type 0
IsRemarkedCheck json s passed rows o =
    (kind : Kind) × (status : ExitStatus) × IsJudged s kind status
    × (o ≡ listed json (passed_kind passed ∷ kind ∷ remark_kind rows ∷ []) (remarked status (length rows)))

-- those of the remarks on the sheet whose kinds the names choose
abbrev pub IsLintedCheck : Bool → List ℕ → Sheet → List (ℕ × Keyword) → List ℕ → Outcome → Type 0
IsLintedCheck json bytes s passed names o =
    (remarks : List Remark) × AreRemarks bytes s remarks
    × IsRemarkedCheck json s passed (remark_rows bytes names remarks) o

abbrev pub IsSheetCheck : Bool → Option (List ℕ) → List ℕ → Sheet → List (ℕ × Keyword) → Outcome → Type 0
IsSheetCheck json None bytes s passed o = IsPlainCheck json s passed o
IsSheetCheck json (Some names) bytes s passed o = IsLintedCheck json bytes s passed names o

-- the text reads as a sheet, and its check is printed; or as none, and the fault of `read` is
abbrev pub IsCheckedOutcome : Bool → Option (List ℕ) → List ℕ → Outcome → Type 0
IsCheckedOutcome json lint bytes o =
    ((s : Sheet) × (passed : List (ℕ × Keyword)) × ReadsAs bytes s passed × IsSheetCheck json lint bytes s passed o)
    ⊎ ((fault : ReadFault) × IsReadFault bytes fault × (o ≡ listed json (fault_kind fault ∷ []) FaultFound))
