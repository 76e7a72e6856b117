-- The outcome of a script.
use Rattle.std.specs.Prelude.{◌≡◌, ◌⊎◌, ℕ, List, [], Option, Some, None, ⊤}
use Rattle.office_history.specs.declared.arrival.Answer.{Answer}
use Rattle.office_history.specs.declared.arrival.Arrival.{Arrival}
use Rattle.office_history.specs.History.{Answered}
use Rattle.office_script.specs.Files.{Files}
use Rattle.office_script.specs.Lines.{lines_of}
use Rattle.office_script.specs.Script.{AreArrivalsOf, IsFirstAmiss, IsWrong, NamesUnreadable}
use Rattle.office_script.specs.declared.script.ScriptFault.{ScriptFault}
use Rattle.office_script.specs.declared.script.ScriptFault.TheVariants.{BadLine, Unreadable, Memory}
use Rattle.office_script.specs.declared.keys.Dash.{Dash}
use Rattle.office_script.specs.declared.keys.Dash.TheVariants.{LineNumber, Wrong}
use Rattle.store.specs.declared.lost.Lost.{Lost}
use Rattle.canoffice_cli.specs.Answered.{AreAnswered, InDatabase, InMemory}
use Rattle.canoffice_cli.specs.Databases.{AreKept, Databases}
use Rattle.canoffice_cli.specs.Outcome.{Outcome, unreadable, wrong_line}
use Rattle.canoffice_cli.specs.Reasons.{TellsOf}
use Rattle.canoffice_cli.specs.declared.reasons.Reasons.{Reasons}
use Rattle.canoffice_jobs.specs.declared.manner.Manner.{Manner}

-- At the first line at which something is amiss the line is wrong, and its number is printed, or the file that it names
-- can't be read, and its path is printed.
abbrev pub IsAmiss : Files → Dash → List ℕ → Outcome → Type 0
IsAmiss files dash script o =
    ((number : ℕ) × IsFirstAmiss files dash (IsWrong files dash) (lines_of script) number × (o ≡ wrong_line number))
    ⊎ ((path : List ℕ) × (number : ℕ) × IsFirstAmiss files dash (NamesUnreadable files dash path) (lines_of script)
    number × (o ≡ unreadable path))

-- what is reported of a fault; out of memory has a report of its own
abbrev pub Reports : ScriptFault → Outcome → Type 0
Reports (BadLine number) o = o ≡ wrong_line number
Reports (Unreadable path) o = o ≡ unreadable path
Reports Memory o = ⊥

-- The arrivals of the script were answered, by these answers. Or something is amiss at a line of it: nothing was done
-- then, and there are no answers.
abbrev pub IsScriptOutcome : Files → Dash → Manner → (List Answered → Option Lost → Type 0) → Type 0 → List ℕ → Outcome
    → List Answer → Type 0
IsScriptOutcome files dash manner GoesOn NothingDone script o answers =
    ((arrivals : List Arrival) × AreArrivalsOf files dash (lines_of script) arrivals
    × AreAnswered manner GoesOn arrivals o answers)
    ⊎ (IsAmiss files dash script o × NothingDone × (answers ≡ []))

-- The script is applied to a new office in memory, and nothing else is done. Or it is applied to the office in the
-- database of the path; then `-` is no key.
abbrev pub IsApplyOutcome : Files → Option (List ℕ) → Manner → Databases → Databases → List ℕ → Outcome → List Answer
    → Type 0
IsApplyOutcome files None manner before after script o answers =
    IsScriptOutcome files LineNumber manner InMemory ⊤ script o answers × AreKept before after
IsApplyOutcome files (Some path) manner before after script o answers =
    IsScriptOutcome files Wrong manner (InDatabase before after path) (AreKept before after) script o answers

-- these are some answers, and reasons were added for lines of the script that they refuse
abbrev pub AreTold : (List Answer → Type 0) → List ℕ → Reasons → Reasons → Type 0
AreTold AreAnswers script old new = (answers : List Answer) × AreAnswers answers × TellsOf script answers old new
