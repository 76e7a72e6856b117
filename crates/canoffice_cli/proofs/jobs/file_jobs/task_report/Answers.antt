use Rattle.std.specs.Prelude.{option_map}
use Rattle.canoffice_cli.specs.Jobs.Applied.{IsApplyOutcome}
use Rattle.canoffice_cli.specs.Jobs.Formatted.{IsFormatted}
use Rattle.canoffice_cli.specs.Jobs.Checked.{IsCheckedOutcome}
use Rattle.canoffice_cli.proofs.FileJobs.{with_answers, without_answers}
use Rattle.canoffice_cli.proofs.jobs.file_jobs.task_report.Goals as goal

pub returns-in-Apply : goal.returns-in-Apply
returns-in-Apply g c =
    let before = g.D.Databases.known c.args.databases.now in
    let after = g.D.Databases.known c.apply_script.new.databases in
    rw c.in-Apply.is (with_answers (IsApplyOutcome (g.F.FileSource.held c.args.files.now)
    (option_map (λ path. path.now) c.in-Apply.database) c.in-Apply.manner before after c.args.bytes.now)
    c.args.bytes.now c.new-reasons.result c.apply_script.new.reasons c.apply_script.result c.apply_script.ensures.done)

pub returns-in-Check : goal.returns-in-Check
returns-in-Check g c =
    rw c.in-Check.is (without_answers (g.D.Databases.known c.args.databases.now)
    (IsCheckedOutcome c.in-Check.json (option_map (λ names. names.now) c.in-Check.lint) c.args.bytes.now)
    c.check_report.result c.check_report.ensures)

pub returns-in-Format : goal.returns-in-Format
returns-in-Format g c =
    rw c.in-Format.is (without_answers (g.D.Databases.known c.args.databases.now)
    (IsFormatted c.in-Format.keep c.args.bytes.now) c.formatted_report.result c.formatted_report.ensures)
