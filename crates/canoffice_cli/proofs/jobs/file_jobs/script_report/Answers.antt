use Rattle.canoffice_cli.specs.Outcome.{outcome_of}
use Rattle.canoffice_cli.proofs.ReasonLines.{reasons_are, with_reasons}
use Rattle.canoffice_cli.proofs.jobs.file_jobs.script_report.Goals as goal

pub returns : goal.returns
returns g c =
    let source = c.args.source in
    let advice = c.advice-advice.result.items in
    let told = c.in_ok-report.ensures.done in
    let plain = outcome_of c.in_ok-report.report in (
      plain,
      told.0,
      told.1,
      with_reasons source.name.now source.text.now c.args.stated.now advice told.0 plain
          (outcome_of c.in_ok-report-2.report) (outcome_of c.and_advice.result)
          (reasons_are source.name.now source.text.now advice told.0 c.new-reasons.result
          c.apply_script.new.reasons c.new-reasons.ensures told.2 c.advice-advice.ensures)
          c.in_ok-report-2.ensures
          (rw c.deref.ensures.value at c.and_advice.ensures),
    )
