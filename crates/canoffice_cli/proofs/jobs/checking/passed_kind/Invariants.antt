use Rattle.canoffice_cli.proofs.Common.{◌≡◌, map, take, start_and_keyword}
use Rattle.canoffice_cli.specs.Jobs.Checked.{passed_row}
use Rattle.canoffice_cli.proofs.jobs.checking.passed_kind.Given as goal

abbrev pub invariant-loop-statement : goal.invariant-loop-statement
invariant-loop-statement l = l.rows ≡ map passed_row (map start_and_keyword (take l.statement-index l.passed))
