-- The outcome of the program, from its words and from what is known of files, standard input, desks and databases.
use Rattle.std.specs.Prelude.{◌≡◌, ◌⊎◌, Bool, List, ℕ, Result, Ok, Err, string_bytes}
use Rattle.desk_send.specs.Desks.{Desks, TakesNone}
use Rattle.office_script.specs.Files.{Files, Holding}
use Rattle.canoffice_jobs.specs.CommandLine.{IsLine, entered}
use Rattle.canoffice_jobs.specs.Meant.{words_meant}
use Rattle.canoffice_jobs.specs.declared.job.Job.{Job}
use Rattle.canoffice_jobs.specs.declared.job.JobFault.{JobFault}
use Rattle.canoffice_jobs.specs.declared.job.JobFault.TheVariants.{Help, Usage, Memory}
use Rattle.canoffice_cli.specs.Outcome.{Outcome, memory_lost, success, wrong_input}
use Rattle.canoffice_cli.specs.Databases.{AreKept, Databases}
use Rattle.canoffice_cli.specs.Delivery.{IsDelivered, Writing}
use Rattle.canoffice_cli.specs.Jobs.{IsDone}
use Rattle.canoffice_cli.specs.Unprinted.{IsUnprinted}
use Rattle.canoffice_cli.specs.declared.report.ExitStatus.{ExitStatus}

-- the outcome of words that request no job: the text of their fault
abbrev pub IsFaultAnswer : JobFault → Outcome → Type 0
IsFaultAnswer (Help text) o = o ≡ success (string_bytes text)
IsFaultAnswer (Usage text) o = o ≡ wrong_input (string_bytes text)
IsFaultAnswer Memory o = o ≡ memory_lost

-- the outcome of a command line
abbrev pub IsAnswer : Files → Holding → Bool → Desks → Desks → Databases → Databases → Result Job JobFault → Outcome
    → Type 0
IsAnswer files input terminal earlier later before after (Ok job) o =
    IsDone files input terminal earlier later before after job o
IsAnswer files input terminal earlier later before after (Err fault) o =
    IsFaultAnswer fault o × AreKept before after × TakesNone earlier later

-- the outcome of the words that clap is given
abbrev pub IsEnteredAnswer : List (List ℕ) → Files → Holding → Bool → Desks → Desks → Databases → Databases → Outcome
    → Type 0
IsEnteredAnswer words files input terminal earlier later before after o =
    (line : Result Job JobFault) × IsLine words line
    × IsAnswer files input terminal earlier later before after line o

-- the outcome of the program's words, unless memory runs out before there is one
abbrev pub IsAnswered : List (List ℕ) → Files → Holding → Bool → Desks → Desks → Databases → Databases → Outcome
    → Type 0
IsAnswered words files input terminal earlier later before after o =
    IsEnteredAnswer (entered (words_meant words)) files input terminal earlier later before after o

-- A run of the program: the outcome of its words is delivered, or that memory ran out. Then no desk was sent anything,
-- or just what it is sent for an outcome of these words.
abbrev pub IsPerformed : List (List ℕ) → Files → Holding → Bool → Desks → Desks → Databases → Databases → Writing
    → Writing → ExitStatus → Type 0
IsPerformed words files input terminal earlier later before after output errors status =
    (o : Outcome)
    × (((o ≡ memory_lost)
    × IsUnprinted earlier later (IsAnswered words files input terminal earlier later before after))
    ⊎ IsAnswered words files input terminal earlier later before after o)
    × IsDelivered o output errors status
