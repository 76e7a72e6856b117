use Rattle.canoffice_cli.proofs.LongestLines as lines
use Rattle.canoffice_cli.proofs.room.answers_fit.Goals as goal

pub returns : goal.returns
returns c = lines.answers_fit
