-- The outcome of formatting a DBC text.
use Rattle.std.specs.Prelude.{◌≡◌, ◌⊎◌, ℕ, Bool, true, false, List, []}
use Rattle.dbc_grammar.specs.Canon.{canonical_text}
use Rattle.dbc_sheet.specs.Form.{IsSheet}
use Rattle.dbc_grammar.specs.Reads.{Reads, ReadsAs, ReadsOnlyAs}
use Rattle.dbc_keep.specs.Keeping.{KeepsEach}
use Rattle.dbc_keep_law.specs.Law.{IsKept}
use Rattle.dbc_sheet.specs.declared.sheet.Sheet.{Sheet}
use Rattle.dbc_lex.specs.declared.fault.ReadFault.{ReadFault}
use Rattle.dbc_read.specs.Reading.{IsReadFault}
use Rattle.canoffice_cli.specs.Jobs.Checked.{fault_line}
use Rattle.canoffice_cli.specs.Outcome.{Outcome, success}
use Rattle.canoffice_cli.specs.declared.report.ExitStatus.TheVariants.{FaultFound}

-- this text on standard error, for a fault that was found
abbrev pub fault_errors : List ℕ → Outcome
fault_errors text = record { output = []; errors = text; status = FaultFound }

-- the text reads as no sheet, and the line is this one of the fault of `read`
abbrev pub IsUnreadAs : (ReadFault → List ℕ) → List ℕ → Outcome → Type 0
IsUnreadAs line bytes o = (fault : ReadFault) × IsReadFault bytes fault × (o ≡ fault_errors (line fault))

-- its code and its offset
abbrev pub IsUnread : List ℕ → Outcome → Type 0
IsUnread bytes o = IsUnreadAs fault_line bytes o

-- The text reads as the sheet of the source, and as no other. Its skipped statements are those of the source, each once
-- and at its place, with the declarations of the attribute `SPN` that its canonical lines add; and it is its own kept
-- text.
pub record IsKeptText (source text : List ℕ) : Type 0 where
  pub sheet : Sheet
  pub reads : Reads source sheet
  pub only : ReadsOnlyAs text sheet
  pub kept : IsKept source text
  pub each : KeepsEach source text sheet
  pub again : IsKept text text

-- such a text is printed, or the source reads as no sheet
abbrev pub IsKeptOutcome : List ℕ → Outcome → Type 0
IsKeptOutcome bytes o = ((text : List ℕ) × IsKeptText bytes text × (o ≡ success text)) ⊎ IsUnread bytes o

-- the text reads as a sheet, whose canonical text is printed, or as none
abbrev pub IsFormatOutcome : List ℕ → Outcome → Type 0
IsFormatOutcome bytes o = ((s : Sheet) × Reads bytes s × (o ≡ success (canonical_text s))) ⊎ IsUnread bytes o

-- the skipped statements are left out, or kept
abbrev pub IsFormatted : Bool → List ℕ → Outcome → Type 0
IsFormatted false bytes o = IsFormatOutcome bytes o
IsFormatted true bytes o = IsKeptOutcome bytes o

-- a text that is its own kept text is printed unchanged
abbrev pub KeepsKept : List ℕ → Outcome → Type 0
KeepsKept bytes o = IsKept bytes bytes → o ≡ success bytes

-- of a text in which nothing is skipped the canonical text is printed
abbrev pub KeepsNothing : List ℕ → Outcome → Type 0
KeepsNothing bytes o = (s : Sheet) → ReadsAs bytes s [] → o ≡ success (canonical_text s)

-- the canonical text of a sheet is printed unchanged
abbrev pub KeepsCanonical : List ℕ → Outcome → Type 0
KeepsCanonical bytes o = (s : Sheet) → IsSheet s → bytes ≡ canonical_text s → o ≡ success bytes
