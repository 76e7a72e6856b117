use Rattle.dbc_write.proofs.Adds.{also, line}
use Rattle.dbc_write.proofs.sections.definition.Goals as goal

pub returns : goal.returns
returns c =
    let attribute = also (also c.in_ok-tight_word.ensures c.in_ok-spaced_word.ensures)
    (also c.in_ok-quoted.ensures c.in_ok-spaced_word-2.ensures) in
    let range = also (also c.in_ok-spaced_number.ensures c.in_ok-spaced_number-2.ensures) c.in_ok-tight_mark.ensures in
    line (also attribute range) c.in_ok-push.ensures.items
