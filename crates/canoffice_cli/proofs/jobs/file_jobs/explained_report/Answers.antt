use Rattle.canoffice_cli.proofs.Common.{subst, sym, IfOk}
use Rattle.canoffice_cli.specs.Jobs.Explaining.{IsExplainedBy, IsExplanation, IsStated}
use Rattle.canoffice_cli.specs.Outcome.{outcome_of}
use Rattle.canoffice_cli.specs.Jobs.{IsTaskOutcome}
use Rattle.canoffice_cli.specs.Reasons.{HasReasons}
use Rattle.canoffice_cli.proofs.ReasonLines.{of_stated}
use Rattle.canoffice_cli.proofs.StatedMore.{more_by, with_more}
use Rattle.canoffice_cli.proofs.jobs.file_jobs.explained_report.Goals as goal

pub returns-in-Apply : goal.returns-in-Apply
returns-in-Apply g c =
    let files = g.F.FileSource.held c.args.files.now in
    let before = g.D.Databases.known c.args.databases.now in
    let after = g.D.Databases.known c.script_report.new.databases in
    let source = c.args.source in
    let stated = c.in_ok-stated.stated.items in
    let is = c.in_ok-stated.ensures in
    subst (λ t. IsStated files t source.name.now source.text.now stated
    → IfOk c.script_report.result (λ report. IsExplainedBy (IsTaskOutcome files before after t source.text.now)
    (IsExplanation files t source.name.now source.text.now) (outcome_of report))) (sym c.in-Apply.is)
    (λ is. more_by _ (HasReasons source.name.now source.text.now stated) _ c.script_report.result
    (λ answers text has. (stated, is, has))
    (rw c.deref.ensures.value at c.script_report.ensures)) is

pub returns : goal.returns
returns g c =
    let files = g.F.FileSource.held c.args.files.now in
    let before = g.D.Databases.known c.args.databases.now in
    let after = g.D.Databases.known c.task_report.new.databases in
    let source = c.args.source in
    let task = c.args.task in
    let stated = c.in_ok-stated.stated.items in
    with_more (IsTaskOutcome files before after task source.text.now)
    (IsExplanation files task source.name.now source.text.now) c.and_errors.result c.in_ok-report-in_default.report
    stated
    c.in_ok-report-in_default.ensures
    (of_stated files task source.name.now source.text.now stated c.in_ok-stated.ensures)
    (rw c.deref-in_default.ensures.value at c.and_errors.ensures)
