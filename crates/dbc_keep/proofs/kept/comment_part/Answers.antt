use Rattle.dbc_keep.proofs.Common.{also}
use Rattle.dbc_keep.proofs.kept.comment_part.Goals as goal

pub returns : goal.returns
returns c =
    also c.in_ok-comment_lines.ensures c.in_ok-placed.ensures
