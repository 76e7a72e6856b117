use Rattle.canoffice_cli.proofs.Common.{[], inl, IfOk-weaker}
use Rattle.canoffice_cli.proofs.KeptTexts.{nothing_kept, unchanged}
use Rattle.canoffice_cli.proofs.jobs.formatting.kept_report.Goals as goal

pub returns-in_ok-written-in-Ok-clause-outcome : goal.returns-in_ok-written-in-Ok-clause-outcome
returns-in_ok-written-in-Ok-clause-outcome c =
    let made = c.in_ok-written-in-Ok.ensures in
    inl (
      _,
      record {
        sheet = c.in-Ok.reading.sheet;
        reads = rw c.in-Ok.is at c.in_ok-reading.ensures.sheet;
        only = made.reads;
        kept = made.kept;
        each = made.each;
        again = made.again;
      },
      c.of_output.ensures,
    )

pub returns-in_ok-written-in-Ok-clause-unchanged : goal.returns-in_ok-written-in-Ok-clause-unchanged
returns-in_ok-written-in-Ok-clause-unchanged c =
    unchanged c.kept_texts_read_as_their_sheets.ensures.one c.args.source.now _ _ c.in_ok-written-in-Ok.ensures.kept
    c.of_output.ensures

pub returns-in_ok-written-in-Ok-clause-nothing : goal.returns-in_ok-written-in-Ok-clause-nothing
returns-in_ok-written-in-Ok-clause-nothing c =
    nothing_kept c.texts_read_as_one_sheet.ensures c.args.source.now _ c.in-Ok.reading.sheet c.in-Ok.reading.passed _
    (rw c.in-Ok.is at c.in_ok-reading.ensures.reads) c.in_ok-written-in-Ok.ensures.nothing c.of_output.ensures

pub returns-in-Err-clause-unchanged : goal.returns-in-Err-clause-unchanged
returns-in-Err-clause-unchanged c =
    let is = rw c.in-Err.is at c.in_ok-reading.ensures.fault in
    IfOk-weaker c.unread_report.result _ _ (λ report same own. absurd (is.nothing own.sheet
    (c.kept_texts_read_as_their_sheets.ensures.read c.args.source.now own.sheet own.passages own.keeps)))
    c.unread_report.ensures

pub returns-in-Err-clause-nothing : goal.returns-in-Err-clause-nothing
returns-in-Err-clause-nothing c =
    let is = rw c.in-Err.is at c.in_ok-reading.ensures.fault in
    IfOk-weaker c.unread_report.result _ _ (λ report same s reads. absurd (is.nothing s ([], reads)))
    c.unread_report.ensures
