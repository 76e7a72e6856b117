use Rattle.desk_advice.proofs.Printable.{visible_line}
use Rattle.desk_advice.proofs.lines.line_of.Goals as goal

pub returns-clause-line : goal.returns-clause-line
returns-clause-line c = visible_line _ c.in_ok-line.line.items c.in_ok-line.ensures

pub returns-clause-on : goal.returns-clause-on
returns-clause-on c = (c.in_ok-front.front.items, _, c.in_ok-front.ensures, c.in_ok-line.ensures)
