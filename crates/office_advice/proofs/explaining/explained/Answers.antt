use Rattle.office_advice.proofs.WrongLaw.{part_law, wrong_law}
use Rattle.office_advice.proofs.explaining.explained.Goals as goal

pub returns-clause-wrong : goal.returns-clause-wrong
returns-clause-wrong g c = λ number line. wrong_law c.args.dash number line

pub returns-clause-parts : goal.returns-clause-parts
returns-clause-parts g c = part_law
