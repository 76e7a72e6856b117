use Rattle.dbc_keep.proofs.Common.{also}
use Rattle.dbc_keep.proofs.kept.type_part.Goals as goal

pub returns : goal.returns
returns c =
    also (also c.in_ok-type_lines.ensures c.in_ok-placed.ensures)
    c.in_ok-placed-2.ensures
