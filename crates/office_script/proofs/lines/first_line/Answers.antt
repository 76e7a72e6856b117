use Rattle.std.proofs.Common.{◌∙◌, ap, arith}
use Rattle.std.proofs.lemmas.Bool.Decides.{nat_tests}
use Rattle.office_script.proofs.LineLaws.{lines_law, lines_of-feed, lines_of-last}
use Rattle.office_script.specs.Lines.{lines_of}
use Rattle.office_script.proofs.lines.first_line.Goals as goal

pub returns-then-is_empty-clause-lines : goal.returns-then-is_empty-clause-lines
returns-then-is_empty-clause-lines c = lines_law c.args.text.now

pub returns-in-Some-clause-next : goal.returns-in-Some-clause-next
returns-in-Some-clause-next c =
    ap lines_of c.in-Some.ensures.parts.1
    ∙ lines_of-feed c.in-Some.line.now c.in-Some.rest.now c.in-Some.ensures.parts.0

pub returns-in-Some-clause-lines : goal.returns-in-Some-clause-lines
returns-in-Some-clause-lines c = lines_law c.args.text.now

pub returns-in-None-clause-next : goal.returns-in-None-clause-next
returns-in-None-clause-next c = lines_of-last c.args.text.now c.in-None.ensures.parts (grind (arith, nat_tests))

pub returns-in-None-clause-lines : goal.returns-in-None-clause-lines
returns-in-None-clause-lines c = lines_law c.args.text.now
