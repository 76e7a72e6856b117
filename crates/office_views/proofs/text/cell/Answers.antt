use Rattle.std.proofs.Common.{◌<◌, arith}
use Rattle.std.proofs.lemmas.Bool.{iff_false}
use Rattle.bitlayout.specs.Mask.{mask_end}
use Rattle.office_views.proofs.Holding.{point_cell}
use Rattle.office_views.proofs.text.cell.Goals as goal

pub returns-else-has-2 : goal.returns-else-has-2
returns-else-has-2 c =
    let within : c.args.position < mask_end = omega arith in
    point_cell c.args.signals.now c.args.position
    (λ some. iff_false c.has-else-has.ensures c.if-has-2.false ((c.requires.some c.args.position within).1 some))
