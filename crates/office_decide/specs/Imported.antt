-- What is decided on an import.
use Rattle.std.specs.Prelude.{◌≡◌, ℕ, List, Option, Some, None, min}
use Rattle.dbc_grammar.specs.Reads.{Reads}
use Rattle.dbc_lex.specs.Fault.{code_number}
use Rattle.dbc_lex.specs.declared.fault.ReadCode.TheVariants.{Memory}
use Rattle.dbc_lex.specs.declared.fault.ReadFault.{ReadFault}
use Rattle.dbc_read.specs.Reading.{IsReadFault}
use Rattle.office_types.specs.declared.book.SpnBook.{SpnBook}
use Rattle.office_types.specs.declared.change.Decision.{Decision}
use Rattle.office_types.specs.declared.command.Command.{Command}
use Rattle.office_types.specs.declared.command.Task.TheVariants.{Import}
use Rattle.office_types.specs.declared.refusal.FileFault.{FileFault}
use Rattle.office_types.specs.declared.state.Net.{Net}
use Rattle.office_rules.specs.Change.{Decides, NetAndBook}
use Rattle.office_rules.specs.Commands.{outcome}
use Rattle.office_rules.specs.Importing.{FileReading, Reading, Unreadable, import}
use Rattle.office_rules.specs.Step.{file_wanted}

-- A fault of reading, as a refusal shows it: its code and its offset, up to the greatest 32-bit number. Out of memory
-- isn't reported so.
pub record ReportsFault (f : ReadFault) (reported : FileFault) : Type 0 where
  pub other : f.code ≡ Memory → ⊥
  pub code : reported.fault ≡ code_number f.code
  pub offset : reported.at ≡ min f.at 4294967295

-- a fault that `read` gives for the file, as a refusal shows it
pub record IsReportedFault (file : List ℕ) (reported : FileFault) : Type 0 where
  pub fault : ReadFault
  pub given : IsReadFault file fault
  pub reports : ReportsFault fault reported

-- what `read` makes of the file: the sheet that it reads as, or else its fault
abbrev pub IsReadAs : List ℕ → FileReading → Type 0
IsReadAs file (Reading s) = Reads file s
IsReadAs file (Unreadable f) = IsReportedFault file f

-- the same of the file that is wanted, if one is
abbrev pub IsWantedReading : Option (List ℕ) → FileReading → Type 0
IsWantedReading None reading = Unit {0}
IsWantedReading (Some file) reading = IsReadAs file reading

-- What is decided on the import of a file is what the import results in with the reading of `read`.
pub record IsImportDecision (team : List ℕ) (net : Option Net) (file : List ℕ) (d : Decision) : Type 0 where
  pub reading : FileReading
  pub read : IsWantedReading (file_wanted net (Import file)) reading
  pub decides : (name : List ℕ) (book : SpnBook)
      → Decides name (record { net = net; book = book }) (import team net reading) d

-- the same where the network is there, and the file is wanted
pub record IsReadDecision (team : List ℕ) (net : Net) (file : List ℕ) (d : Decision) : Type 0 where
  pub reading : FileReading
  pub read : IsReadAs file reading
  pub decides : (name : List ℕ) (book : SpnBook)
      → Decides name (record { net = Some net; book = book }) (import team (Some net) reading) d

-- What is decided on a command is what it results in, for an import with the reading of `read`: so a file that reads as
-- no sheet is refused with the fault and the offset that `read` gives.
pub record IsCommandDecision (team : List ℕ) (before : NetAndBook) (c : Command) (d : Decision) : Type 0 where
  pub reading : FileReading
  pub read : IsWantedReading (file_wanted before.net c.task) reading
  pub decides : Decides c.net before (outcome team reading before.net before.book c) d
