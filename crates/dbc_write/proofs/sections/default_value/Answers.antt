use Rattle.dbc_write.proofs.Adds.{also, line}
use Rattle.dbc_write.proofs.sections.default_value.Goals as goal

pub returns : goal.returns
returns c =
    let attribute = also c.in_ok-tight_word.ensures c.in_ok-quoted.ensures in
    line (also (also attribute c.in_ok-spaced_number.ensures) c.in_ok-tight_mark.ensures) c.in_ok-push.ensures.items
