use Rattle.canoffice_cli.proofs.Common.{shown_path}
use Rattle.canoffice_cli.specs.Jobs.Explaining.{IsExplanation, IsStated}
use Rattle.canoffice_cli.specs.Jobs.{IsTaskOutcome}
use Rattle.canoffice_cli.proofs.StatedMore.{everything, nothing, wrong_line}
use Rattle.canoffice_cli.proofs.jobs.file_jobs.bytes_report.Goals as goal

pub returns-in-Nothing : goal.returns-in-Nothing
returns-in-Nothing g c =
    let files = g.F.FileSource.held c.args.files.now in
    let before = g.D.Databases.known c.args.databases.now in
    let after = g.D.Databases.known c.task_report.new.databases in
    let job = c.args.job in
    let name = shown_path job.path.now in
    nothing job.advice (IsTaskOutcome files before after job.task c.args.bytes.now)
    (IsStated files job.task name c.args.bytes.now) (IsExplanation files job.task name c.args.bytes.now)
    c.task_report.result c.in-Nothing.is c.task_report.ensures

pub returns-in-WrongLine : goal.returns-in-WrongLine
returns-in-WrongLine g c =
    let files = g.F.FileSource.held c.args.files.now in
    let before = g.D.Databases.known c.args.databases.now in
    let after = g.D.Databases.known c.report_at_terminal.new.databases in
    let job = c.args.job in
    let name = shown_path job.path.now in
    wrong_line job.advice (IsTaskOutcome files before after job.task c.args.bytes.now)
    (IsStated files job.task name c.args.bytes.now) (IsExplanation files job.task name c.args.bytes.now)
    c.report_at_terminal.result c.in-WrongLine.is c.report_at_terminal.ensures

pub returns-in-Everything : goal.returns-in-Everything
returns-in-Everything g c =
    let files = g.F.FileSource.held c.args.files.now in
    let before = g.D.Databases.known c.args.databases.now in
    let after = g.D.Databases.known c.full_report.new.databases in
    let job = c.args.job in
    let name = shown_path job.path.now in
    everything job.advice (IsTaskOutcome files before after job.task c.args.bytes.now)
    (IsStated files job.task name c.args.bytes.now) (IsExplanation files job.task name c.args.bytes.now)
    c.full_report.result c.in-Everything.is c.full_report.ensures
