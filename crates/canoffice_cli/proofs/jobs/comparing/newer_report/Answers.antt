use Rattle.canoffice_cli.proofs.Common.{⊤}
use Rattle.canoffice_cli.specs.Jobs.Compared.{IsCompareOutcome}
use Rattle.canoffice_cli.specs.Holding.{source_at}
use Rattle.canoffice_cli.proofs.FileJobs.{of_bytes}
use Rattle.canoffice_cli.proofs.jobs.comparing.newer_report.Goals as goal

pub returns-in-Ok : goal.returns-in-Ok
returns-in-Ok g c =
    let files = g.F.FileSource.held c.args.files.now in
    let input = g.F.StandardInput.given c.args.files.now in
    let path = c.args.new_path.now in
    of_bytes ⊤ (IsCompareOutcome c.args.json c.args.old_path.now path c.args.old.now) path (source_at files input path)
    c.in-Ok.new.items c.texts_report.result c.in-Ok.ensures.bytes (rw c.deref.ensures.value at c.texts_report.ensures)
