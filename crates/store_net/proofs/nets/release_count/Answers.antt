use Rattle.store_net.proofs.Common.{length, ap, ◌∙◌, state, tables_of}
use Rattle.store_net.proofs.Names.{count_is}
use Rattle.store_net.proofs.nets.release_count.Goals as goal

pub returns-clause-found : goal.returns-clause-found
returns-clause-found g c clean office net there =
    ap length c.as_slice.ensures.value
    ∙ count_is c.args.name.now (tables_of (state g.S.Store c.args.tx.now.conn.now).now.trees) net
    c.in_ok-rows.rows.items there
    (rw c.as_bytes.ensures.bytes at (c.in_ok-rows.ensures.found clean office))
