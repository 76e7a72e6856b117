-- A text that reads as no sheet, and its fault.
use Rattle.std.specs.Prelude.{◌≡◌, ◌≢◌, ◌≤◌, ◌⊎◌, ℕ, List, Some, length}
use Rattle.dbc_grammar.specs.Lexing.{LexFault, lexed}
use Rattle.dbc_grammar.specs.Reads.{Reads}
use Rattle.dbc_grammar.specs.Statement.{Statement}
use Rattle.dbc_sheet.specs.declared.sheet.Sheet.{Sheet}
use Rattle.dbc_lex.specs.Fault.{fault_of}
use Rattle.dbc_lex.specs.declared.fault.ReadCode.TheVariants.{Memory}
use Rattle.dbc_lex.specs.declared.fault.ReadFault.{ReadFault}
use Rattle.dbc_read.specs.Built.{CanBeSheet}
use Rattle.dbc_read.specs.Faults.{IsFault}
use Rattle.dbc_read.specs.Gathered.{AreGathered}
use Rattle.dbc_read.specs.Gathering.{IsOfText}
use Rattle.dbc_read.specs.declared.gathered.Gathered.{Gathered}
use Rattle.dbc_statements.specs.Division.{HasNoDivision, IsDivided}

abbrev pub ReadsAsNothing : List ℕ → Type 0
ReadsAsNothing bytes = (s : Sheet) → ¬ (Reads bytes s)

-- A fault that `read` gives for the text, other than out of memory: the text reads as no sheet, the offset is in it or
-- at its end, and if at some offset no token begins, the fault is the first one of this kind.
pub record IsReadFault (bytes : List ℕ) (fault : ReadFault) : Type 0 where
  pub named : fault.code ≢ Memory
  pub nothing : ReadsAsNothing bytes
  pub within : fault.at ≤ length bytes
  pub tokens : (cause : LexFault) → (lexed 0 bytes).fault ≡ Some cause → fault ≡ fault_of cause

-- the fault is one of what all statements of the text say
pub record IsFaultOfText (bytes : List ℕ) (fault : ReadFault) : Type 0 where
  pub gathered : Gathered
  pub of : IsOfText bytes gathered
  pub is : IsFault gathered fault

-- the text isn't a sequence of statements, or the fault is one of what they say
abbrev pub HasFault : List ℕ → ReadFault → Type 0
HasFault bytes fault = HasNoDivision bytes ⊎ IsFaultOfText bytes fault

-- What the statements of the text say can't be in one sheet.
abbrev pub CanNeverBeSheet : List ℕ → Type 0
CanNeverBeSheet bytes = (stated : List Statement) → IsDivided bytes stated → (g : Gathered) → AreGathered stated g
    → ¬ CanBeSheet g
