use Rattle.dbc_keep.proofs.Common.{also}
use Rattle.dbc_keep.proofs.kept.text_part.Goals as goal

pub returns : goal.returns
returns c =
    also (also (also (also (also (also c.in_ok-value_lines.ensures c.in_ok-placed.ensures)
    c.in_ok-placed-2.ensures)
    c.in_ok-placed-3.ensures)
    c.in_ok-placed-4.ensures)
    c.in_ok-placed-5.ensures)
    c.in_ok-placed-6.ensures
