use Rattle.canoffice_cli.proofs.Common.{inl, refl}
use Rattle.canoffice_cli.specs.Outcome.{outcome_of}
use Rattle.canoffice_cli.proofs.jobs.file_jobs.report_at_terminal.Goals as goal

pub returns-in-WrongInput : goal.returns-in-WrongInput
returns-in-WrongInput g c =
    let is = c.in_ok-report.ensures in (outcome_of c.in_ok-report.report, is.0, is.1, c.with_stated.ensures)

pub returns-in_default : goal.returns-in_default
returns-in_default g c = let is = c.in_ok-report.ensures in (outcome_of c.in_ok-report.report, is.0, is.1, inl refl)
