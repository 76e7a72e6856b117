use Rattle.office_looks.proofs.FirstLine.{no_end}
use Rattle.office_looks.proofs.requests.first_line.Goals as goal

pub returns-in-None : goal.returns-in-None
returns-in-None c = no_end 10 c.args.content.now c.in-None.ensures.parts
