use Rattle.dbc_keep.proofs.Common.{also}
use Rattle.dbc_keep.proofs.kept.lines.Goals as goal

pub returns : goal.returns
returns c =
    also (also (also (also (also c.in_ok-sheet_part.ensures c.in_ok-comment_part.ensures)
    c.in_ok-declaration_part.ensures)
    c.in_ok-attribute_part.ensures)
    c.in_ok-text_part.ensures)
    c.in_ok-type_part.ensures
