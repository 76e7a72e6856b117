use Rattle.office_law.proofs.DecidedByTests.{tests_decide}
use Rattle.office_law.proofs.deciding.tests_decide_commands.Goals as goal

pub returns : goal.returns
returns c = tests_decide
