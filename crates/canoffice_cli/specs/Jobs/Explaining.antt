-- What is stated of a file, beside the outcome of a job on its bytes.
use Rattle.std.specs.Prelude.{◌≡◌, ◌⊎◌, ℕ, Bool, true, false, List, [], Option, Some, None, map}
use Rattle.std.specs.Borrow.{Bor}
use Rattle.dbc_grammar.specs.Reads.{ReadsAs}
use Rattle.dbc_sheet.specs.declared.sheet.Sheet.{Sheet}
use Rattle.dbc_advice.specs.Explained.{IsExplained}
use Rattle.dbc_advice.specs.LeftOut.{left_out}
use Rattle.dbc_read.specs.Passed.{start_and_keyword}
use Rattle.dbc_read.specs.Reading.{ReadsAsNothing}
use Rattle.dbc_read.specs.declared.passed.Passed.{Passed}
use Rattle.office_history.specs.declared.arrival.Answer.{Answer}
use Rattle.office_script.specs.Files.{Files}
use Rattle.office_script.specs.Lines.{lines_of}
use Rattle.office_script.specs.declared.keys.Dash.{Dash}
use Rattle.office_script.specs.declared.keys.Dash.TheVariants.{LineNumber, Wrong}
use Rattle.office_advice.specs.Explained.{IsStatedOf}
use Rattle.canoffice_cli.specs.Outcome.{Outcome, and_errors}
use Rattle.canoffice_cli.specs.Reasons.{HasReasons}
use Rattle.canoffice_cli.specs.declared.jobs.explaining.Advice.{Advice}
use Rattle.canoffice_cli.specs.declared.jobs.explaining.Advice.TheVariants.{Everything, Nothing, WrongLine}
use Rattle.canoffice_cli.specs.declared.jobs.file_jobs.FileTask.{FileTask}
use Rattle.canoffice_cli.specs.declared.jobs.file_jobs.FileTask.TheVariants as task

-- what the canonical text leaves out of a DBC text: nothing, if what is skipped is kept
abbrev pub IsStatedOfReading : Bool → List ℕ → List ℕ → Sheet → List Passed → List ℕ → Type 0
IsStatedOfReading true name bytes s passed stated = stated ≡ []
IsStatedOfReading false name bytes s passed stated = stated ≡ left_out name bytes s passed

-- what is stated of a DBC text whose canonical text is printed: what that leaves out, or its faults if it reads as no
-- sheet
abbrev pub IsStatedOfFormat : Bool → List ℕ → List ℕ → List ℕ → Type 0
IsStatedOfFormat keep name bytes stated =
    (ReadsAsNothing bytes × IsExplained name bytes stated)
    ⊎ ((s : Sheet) × (passed : List Passed) × ReadsAs bytes s (map start_and_keyword passed)
    × IsStatedOfReading keep name bytes s passed stated)

-- what `-` means as a key in a script for the office in this database, or for one in memory
abbrev pub dash_of : Option (Bor (List ℕ)) → Dash
dash_of None = LineNumber
dash_of (Some path) = Wrong

-- What is stated of the file of this name with these bytes before anything is done with them. Of a script that is its
-- first wrong line, whatever can't be read before it, or the first wrong line of a bundle's file.
abbrev pub IsStated : Files → FileTask → List ℕ → List ℕ → List ℕ → Type 0
IsStated files (task.Apply database manner) name bytes stated =
    IsStatedOf files name (dash_of database) 1 (lines_of bytes) stated
IsStated files (task.Check lint json) name bytes stated = IsExplained name bytes stated
IsStated files (task.Format keep) name bytes stated = IsStatedOfFormat keep name bytes stated

-- the whole of what is stated: of a script also why its commands were refused that have these answers
abbrev pub IsExplanation : Files → FileTask → List ℕ → List ℕ → List Answer → List ℕ → Type 0
IsExplanation files (task.Apply database manner) name bytes answers text =
    (stated : List ℕ) × IsStated files (task.Apply database manner) name bytes stated
    × HasReasons name bytes stated answers text
IsExplanation files (task.Check lint json) name bytes answers text = IsStated files (task.Check lint json) name bytes text
IsExplanation files (task.Format keep) name bytes answers text = IsStated files (task.Format keep) name bytes text

-- the output and the status are the plain ones, and something is printed after the plain errors
pub record Explains (IsStated : List ℕ → Type 0) (plain o : Outcome) : Type 0 where
  pub stated : List ℕ
  pub is : IsStated stated
  pub whole : o ≡ and_errors plain stated

-- the outcome is one of these, with something printed after its errors that goes by its answers
abbrev pub IsExplainedBy : (Outcome → List Answer → Type 0) → (List Answer → List ℕ → Type 0) → Outcome → Type 0
IsExplainedBy IsPlain IsStated o =
    (plain : Outcome) × (answers : List Answer) × IsPlain plain answers × Explains (IsStated answers) plain o

-- the outcome stays, or something is printed after its errors
abbrev pub MayState : (List ℕ → Type 0) → Outcome → Outcome → Type 0
MayState IsStated plain o = (o ≡ plain) ⊎ Explains IsStated plain o

-- the outcome is one of these, or it is with something printed after its errors
abbrev pub MayBeStatedBy : (Outcome → List Answer → Type 0) → (List ℕ → Type 0) → Outcome → Type 0
MayBeStatedBy IsPlain IsStated o =
    (plain : Outcome) × (answers : List Answer) × IsPlain plain answers × MayState IsStated plain o

-- ---- how much is stated

-- with `--explain` or without it
abbrev pub requested : Bool → Advice
requested true = Everything
requested false = Nothing

-- the same of a script: where standard error is a terminal, its first wrong line in any case
abbrev pub of_script : Bool → Bool → Advice
of_script true terminal = Everything
of_script false true = WrongLine
of_script false false = Nothing

-- what is printed for it after the plain errors: what is stated first, where there is memory for it, or the whole
abbrev pub IsWithAdvice : Advice → (List ℕ → Type 0) → (List ℕ → Type 0) → Outcome → Outcome → Type 0
IsWithAdvice Nothing IsStated IsWhole plain o = o ≡ plain
IsWithAdvice WrongLine IsStated IsWhole plain o = MayState IsStated plain o
IsWithAdvice Everything IsStated IsWhole plain o = Explains IsWhole plain o
