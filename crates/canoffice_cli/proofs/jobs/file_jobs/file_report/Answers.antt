use Rattle.canoffice_cli.specs.Databases.{AreKept}
use Rattle.canoffice_cli.specs.Holding.{source_at}
use Rattle.canoffice_cli.specs.Jobs.{IsOfBytes}
use Rattle.canoffice_cli.proofs.FileJobs.{of_bytes, unread}
use Rattle.canoffice_cli.proofs.Opened.{kept_same}
use Rattle.canoffice_cli.proofs.jobs.file_jobs.file_report.Goals as goal

pub returns-in-Ok : goal.returns-in-Ok
returns-in-Ok g c =
    let files = g.F.FileSource.held c.args.files.now in
    let input = g.F.StandardInput.given c.args.files.now in
    let before = g.D.Databases.known c.args.databases.now in
    let after = g.D.Databases.known c.bytes_report.new.databases in
    let path = c.args.job.path.now in
    of_bytes (AreKept before after) (IsOfBytes files before after c.args.job) path (source_at files input path)
    c.in-Ok.bytes.items c.bytes_report.result c.in-Ok.ensures.bytes
    (rw c.deref.ensures.value at c.bytes_report.ensures)

pub returns-in-Err : goal.returns-in-Err
returns-in-Err g c =
    let files = g.F.FileSource.held c.args.files.now in
    let input = g.F.StandardInput.given c.args.files.now in
    let known = g.D.Databases.known c.args.databases.now in
    let path = c.args.job.path.now in
    unread (AreKept known known) (IsOfBytes files known known c.args.job) path (source_at files input path)
    c.in-Err.fault c.unreadable_report.result (kept_same known) c.in-Err.ensures.fault c.unreadable_report.ensures
