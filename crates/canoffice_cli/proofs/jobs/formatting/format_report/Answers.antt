use Rattle.canoffice_cli.proofs.Common.{ap, ◌∙◌, IfOk-weaker}
use Rattle.canoffice_cli.specs.Outcome.{success}
use Rattle.canoffice_cli.proofs.Canonical.{not_nothing, printed_again}
use Rattle.canoffice_cli.proofs.jobs.formatting.format_report.Goals as goal

pub returns-in_ok-written-in-Ok-clause-canonical : goal.returns-in_ok-written-in-Ok-clause-canonical
returns-in_ok-written-in-Ok-clause-canonical c =
    printed_again c.canonical_texts_read_as_their_sheets.ensures c.args.source.now c.in-Ok.reading.sheet _
    (rw c.in-Ok.is at c.in_ok-reading.ensures.sheet) (c.of_output.ensures ∙ ap success c.in_ok-written-in-Ok.ensures.text)

pub returns-in-Err-clause-canonical : goal.returns-in-Err-clause-canonical
returns-in-Err-clause-canonical c =
    let is = rw c.in-Err.is at c.in_ok-reading.ensures.fault in
    IfOk-weaker c.unread_report.result _ _ (λ report same. not_nothing c.canonical_texts_read_as_their_sheets.ensures
    c.args.source.now _ is.nothing) c.unread_report.ensures
