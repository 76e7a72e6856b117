-- The outcome of a run of the program: the bytes on its two streams, and its exit status.
use Rattle.std.specs.Prelude.{◌++◌, ℕ, List, [], codes, decimal, Result, Ok, Err}
use Rattle.std.specs.declared.alloc.AllocError.{AllocError}
use Rattle.dbc_advice.specs.ShownPath.{shown_path}
use Rattle.canoffice_cli.specs.declared.report.Report.{Report}
use Rattle.canoffice_cli.specs.declared.report.ExitStatus.{ExitStatus}
use Rattle.canoffice_cli.specs.declared.report.ExitStatus.TheVariants.{Success, FaultFound, WrongInput, Failed}

-- the bytes for standard output and for standard error, and the status
pub record Outcome : Type 0 where
  pub output : List ℕ
  pub errors : List ℕ
  pub status : ExitStatus

abbrev pub outcome_of : Report → Outcome
outcome_of report = record { output = report.output.items; errors = report.errors.items; status = report.status }

-- the number of a status, with which the program ends
abbrev pub code_of : ExitStatus → ℕ
code_of Success = 0
code_of FaultFound = 1
code_of WrongInput = 2
code_of Failed = 3

-- the same, with this text after its own on standard error
abbrev pub and_errors : Outcome → List ℕ → Outcome
and_errors o more = record o { errors = o.errors ++ more }

-- this text on standard output, and nothing on standard error
abbrev pub success : List ℕ → Outcome
success text = record { output = text; errors = []; status = Success }

-- this text on standard error, for input that is wrong
abbrev pub wrong_input : List ℕ → Outcome
wrong_input text = record { output = []; errors = text; status = WrongInput }

-- this text on standard error, for a run that could not be done
abbrev pub failure : List ℕ → Outcome
failure text = record { output = []; errors = text; status = Failed }

-- what is looked up isn't there
abbrev pub not_found : Outcome
not_found = record { output = []; errors = codes "not found\n"; status = FaultFound }

-- the file of this path cannot be read
abbrev pub unreadable : List ℕ → Outcome
unreadable path = failure (codes "cannot read " ++ (shown_path path ++ codes "\n"))

-- the line of this number, from 1, is wrong
abbrev pub wrong_line : ℕ → Outcome
wrong_line number = wrong_input (codes "bad line " ++ (decimal number ++ codes "\n"))

-- this word of the command line is malformed
abbrev pub wrong_word : List ℕ → Outcome
wrong_word word = wrong_input (codes "bad word " ++ (word ++ codes "\n"))

-- memory ran out
abbrev pub memory_lost : Outcome
memory_lost = failure (codes "lost 71\n")

-- the outcome of a report, or that memory ran out
abbrev pub final_outcome : Result Report AllocError → Outcome
final_outcome (Ok report) = outcome_of report
final_outcome (Err lost) = memory_lost
