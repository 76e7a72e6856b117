use Rattle.canoffice_cli.proofs.Common.{shown_path}
use Rattle.canoffice_cli.specs.Jobs.Explaining.{IsStated}
use Rattle.canoffice_cli.specs.Outcome.{outcome_of}
use Rattle.canoffice_cli.proofs.StatedMore.{may_state}
use Rattle.canoffice_cli.proofs.jobs.file_jobs.with_stated.Goals as goal

pub returns-in-Ok : goal.returns-in-Ok
returns-in-Ok g c =
    let job = c.args.job in
    may_state (IsStated (g.F.FileSource.held c.args.files.now) job.task (shown_path job.path.now) c.args.bytes.now)
    (outcome_of c.args.report) (outcome_of c.and_advice.result) c.in-Ok.stated.items c.in-Ok.ensures
    (rw c.deref.ensures.value at c.and_advice.ensures)
