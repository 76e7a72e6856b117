-- The outcome of each job, from what is known of files, standard input, desks and databases.
pub mod Applied
pub mod Charted
pub mod Checked
pub mod Compared
pub mod Explaining
pub mod Exported
pub mod Formatted
pub mod Looked
pub mod Migrated
pub mod Paged
pub mod Sent
pub mod Served
pub mod Tabled
pub mod WordFault
use Rattle.std.specs.Prelude.{◌≡◌, ◌⊎◌, ⊤, ℕ, Bool, List, map, Option, Some, None, option_map}
use Rattle.std.specs.Borrow.{Bor}
use Rattle.desk_send.specs.Desks.{Desks, TakesNone}
use Rattle.dbc_advice.specs.ShownPath.{shown_path}
use Rattle.office_history.specs.declared.arrival.Answer.{Answer}
use Rattle.office_script.specs.Files.{Files, Holding, unknown, absent, holding}
use Rattle.canoffice_cli.specs.Holding.{source_at}
use Rattle.canoffice_cli.specs.Outcome.{Outcome, unreadable}
use Rattle.canoffice_cli.specs.Databases.{AreKept, Databases}
use Rattle.canoffice_cli.specs.Jobs.Applied.{IsApplyOutcome}
use Rattle.canoffice_cli.specs.Jobs.Charted.{IsChartOutcome}
use Rattle.canoffice_cli.specs.Jobs.Checked.{IsCheckedOutcome}
use Rattle.canoffice_cli.specs.Jobs.Compared.{IsCompareOutcome, IsReleasesOutcome}
use Rattle.canoffice_cli.specs.Jobs.Explaining.{IsExplanation, IsStated, IsWithAdvice, of_script, requested}
use Rattle.canoffice_cli.specs.Jobs.Exported.{IsExportWith}
use Rattle.canoffice_cli.specs.Jobs.Formatted.{IsFormatted}
use Rattle.canoffice_cli.specs.Jobs.Looked.{IsRequestsOutcome, IsShowOutcome}
use Rattle.canoffice_cli.specs.Jobs.Migrated.{IsMigrateOutcome}
use Rattle.canoffice_cli.specs.Jobs.Paged.{IsFilePageOutcome, IsPageOutcome}
use Rattle.canoffice_cli.specs.Jobs.Sent.{IsSendOutcome}
use Rattle.canoffice_cli.specs.Jobs.Served.{IsServeOutcome}
use Rattle.canoffice_cli.specs.Jobs.Tabled.{IsTableOutcome}
use Rattle.canoffice_cli.specs.declared.jobs.file_jobs.FileJob.{FileJob}
use Rattle.canoffice_cli.specs.declared.jobs.file_jobs.FileTask.{FileTask}
use Rattle.canoffice_cli.specs.declared.jobs.file_jobs.FileTask.TheVariants as task
use Rattle.canoffice_jobs.specs.declared.extras.Extras.{Extras}
use Rattle.canoffice_jobs.specs.declared.job.Job.{Job}
use Rattle.canoffice_jobs.specs.declared.job.Job.TheVariants.{Apply, Chart, Check, Compare, CompareReleases, Export}
use Rattle.canoffice_jobs.specs.declared.job.Job.TheVariants.{Format, Migrate, Page, PageFile, Requests, Send, Serve}
use Rattle.canoffice_jobs.specs.declared.job.Job.TheVariants.{Show, Table}

-- the outcome of a job whose file is at the path: that of its bytes, or that it can't be read; nothing is done then
abbrev pub IsOfFile : Type 0 → (List ℕ → Outcome → Type 0) → List ℕ → Holding → Outcome → Type 0
IsOfFile NothingDone IsOf path unknown o = ((o ≡ unreadable path) × NothingDone) ⊎ ((bytes : List ℕ) × IsOf bytes o)
IsOfFile NothingDone IsOf path absent o = (o ≡ unreadable path) × NothingDone
IsOfFile NothingDone IsOf path (holding bytes) o = IsOf bytes o

-- the same of two files, in order
abbrev pub IsOfTwoFiles : (List ℕ → List ℕ → Outcome → Type 0) → Files → Holding → List ℕ → List ℕ → Outcome → Type 0
IsOfTwoFiles IsOf files input path other o =
    IsOfFile ⊤ (λ bytes. IsOfFile ⊤ (IsOf bytes) other (source_at files input other)) path
    (source_at files input path) o

-- the outcome of the bytes of a file, by what is done with them; a script may name further files, and has answers
abbrev pub IsTaskOutcome : Files → Databases → Databases → FileTask → List ℕ → Outcome → List Answer → Type 0
IsTaskOutcome files before after (task.Apply database manner) bytes o answers =
    IsApplyOutcome files (option_map (λ path. path.now) database) manner before after bytes o answers
IsTaskOutcome files before after (task.Check lint json) bytes o answers =
    IsCheckedOutcome json (option_map (λ names. names.now) lint) bytes o × AreKept before after
IsTaskOutcome files before after (task.Format keep) bytes o answers = IsFormatted keep bytes o × AreKept before after

-- the same for a job, of whose file something may be stated
abbrev pub IsOfBytes : Files → Databases → Databases → FileJob → List ℕ → Outcome → Type 0
IsOfBytes files before after job bytes o =
    (plain : Outcome) × (answers : List Answer) × IsTaskOutcome files before after job.task bytes plain answers
    × IsWithAdvice job.advice (IsStated files job.task (shown_path job.path.now) bytes)
    (IsExplanation files job.task (shown_path job.path.now) bytes answers) plain o

abbrev pub IsFileOutcome : Files → Holding → Databases → Databases → FileJob → Outcome → Type 0
IsFileOutcome files input before after job o =
    IsOfFile (AreKept before after) (IsOfBytes files before after job) job.path.now (source_at files input job.path.now)
    o

-- the outcome of an export for which the file of an original may be read before
abbrev pub IsExportedBy : Files → Holding → Databases → Databases → List ℕ → List ℕ → ℕ → Option (Bor (List ℕ)) → Bool
    → Outcome → Type 0
IsExportedBy files input before after path net number None j1939 o =
    IsExportWith before after path net number None j1939 o
IsExportedBy files input before after path net number (Some file) j1939 o =
    IsOfFile (AreKept before after)
    (λ bytes. IsExportWith before after path net number
    (Some (record { name = shown_path file.now; bytes = bytes })) j1939)
    file.now (source_at files input file.now) o

abbrev pub IsExported : Files → Holding → Databases → Databases → List ℕ → List ℕ → ℕ → Extras → Outcome → Type 0
IsExported files input before after path net number extras o =
    IsExportedBy files input before after path net number extras.original extras.j1939 o

-- the outcome of the job, by whether standard error is a terminal, and what is known of desks and of databases before
-- and after; a job that names no desk sends nothing
abbrev pub IsDone : Files → Holding → Bool → Desks → Desks → Databases → Databases → Job → Outcome → Type 0
IsDone files input terminal earlier later before after (Apply database script explain manner) o =
    IsFileOutcome files input before after
    (record { task = task.Apply database manner; path = script; advice = of_script explain terminal }) o
    × TakesNone earlier later
IsDone files input terminal earlier later before after (Chart length signals) o =
    IsChartOutcome length (map (λ s. s.now) signals.items) o × AreKept before after × TakesNone earlier later
IsDone files input terminal earlier later before after (Check file explain lint json) o =
    IsFileOutcome files input before after
    (record { task = task.Check lint json; path = file; advice = requested explain }) o × TakesNone earlier later
IsDone files input terminal earlier later before after (Compare old new json) o =
    IsOfTwoFiles (IsCompareOutcome json old.now new.now) files input old.now new.now o × AreKept before after
    × TakesNone earlier later
IsDone files input terminal earlier later before after (CompareReleases place net old new json) o =
    IsReleasesOutcome earlier later before after place net.now old new json o
IsDone files input terminal earlier later before after (Export database net number extras) o =
    IsExported files input before after database.now net.now number extras o × TakesNone earlier later
IsDone files input terminal earlier later before after (Format file explain keep) o =
    IsFileOutcome files input before after
    (record { task = task.Format keep; path = file; advice = requested explain }) o × TakesNone earlier later
IsDone files input terminal earlier later before after (Migrate database) o =
    IsMigrateOutcome before after database.now o × TakesNone earlier later
IsDone files input terminal earlier later before after (Page place net number) o =
    IsPageOutcome earlier later before after place net.now number o
IsDone files input terminal earlier later before after (PageFile file) o =
    IsOfFile ⊤ (IsFilePageOutcome file.now) file.now (source_at files input file.now) o × AreKept before after
    × TakesNone earlier later
IsDone files input terminal earlier later before after (Requests place team json) o =
    IsRequestsOutcome earlier later before after place team.now json o
IsDone files input terminal earlier later before after (Send sending script) o =
    IsOfFile (TakesNone earlier later) (IsSendOutcome files earlier later sending) script.now
    (source_at files input script.now) o
    × AreKept before after
IsDone files input terminal earlier later before after (Serve database port count explain) o =
    IsServeOutcome before after database.now count o × TakesNone earlier later
IsDone files input terminal earlier later before after (Show place net what name json) o =
    IsShowOutcome earlier later before after place (option_map (λ word. word.now) net) what
    (option_map (λ word. word.now) name) json o
IsDone files input terminal earlier later before after (Table file json) o =
    IsOfFile ⊤ (IsTableOutcome json) file.now (source_at files input file.now) o × AreKept before after
    × TakesNone earlier later
