use Rattle.dbc_keep.proofs.Common.{also}
use Rattle.dbc_keep.proofs.kept.attribute_part.Goals as goal

pub returns : goal.returns
returns c =
    also c.in_ok-placed.ensures c.in_ok-spn_lines.ensures
