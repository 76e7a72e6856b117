use Rattle.canoffice_cli.proofs.Common.{IfOk-weaker}
use Rattle.canoffice_cli.proofs.jobs.report_of.Goals as goal

pub returns-in-Serve-clause-done : goal.returns-in-Serve-clause-done
returns-in-Serve-clause-done g c =
    rw c.in-Serve.is
    (IfOk-weaker c.serve_report.result _ _ (λ report is. (is, λ earlier was. was)) c.serve_report.ensures)
