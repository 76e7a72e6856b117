use Rattle.canoffice_cli.specs.Outcome.{outcome_of}
use Rattle.canoffice_cli.proofs.ReasonLines.{maybe_added}
use Rattle.canoffice_cli.proofs.report.Report.and_advice.Goals as goal

pub returns : goal.returns
returns c = maybe_added (outcome_of c.args.self) c.args.advice.now c.extend_from_slice-added.new.self.items _
    c.extend_from_slice-added.ensures.items
