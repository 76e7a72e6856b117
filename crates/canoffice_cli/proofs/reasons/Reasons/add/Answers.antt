use Rattle.canoffice_cli.proofs.Told.{told_or_not}
use Rattle.canoffice_cli.proofs.reasons.Reasons.add.Goals as goal

pub returns : goal.returns
returns c = told_or_not c.push-added.result _ c.args.self.now (record c.args.self.now { lines = c.push-added.new.self })
    c.push-added.ensures.items
