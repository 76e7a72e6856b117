use Rattle.dbc_keep.proofs.Common.{also}
use Rattle.dbc_keep.proofs.kept.declaration_part.Goals as goal

pub returns : goal.returns
returns c =
    also (also (also c.in_ok-placed.ensures c.in_ok-definition_if_needed.ensures)
    c.in_ok-placed-2.ensures)
    c.in_ok-default_if_needed.ensures
