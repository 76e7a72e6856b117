use Rattle.dbc_write.proofs.Common.{◌∷◌, [], codes, space, tight, word}
use Rattle.dbc_write.proofs.Adds.{also, line}
use Rattle.dbc_write.proofs.entries.table_line.Goals as goal

pub returns : goal.returns
returns c =
    let start = rw c.as_bytes.ensures.bytes at c.in_ok-push_all.ensures in
    line (also {xs = word tight (codes "VAL_TABLE_") ∷ word space c.args.table.now.name ∷ []} (record { text = start })
    c.in_ok-entries.ensures) c.in_ok-push.ensures.items
