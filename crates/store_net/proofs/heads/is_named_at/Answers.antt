use Rattle.store_net.proofs.Common.{◌∙◌, ap, not, state, tables_of}
use Rattle.std.proofs.Common.{◌==◌}
use Rattle.store_net.proofs.HeadsShown.{named_by_rows}
use Rattle.store_net.proofs.heads.is_named_at.Goals as goal

pub returns-clause-found : goal.returns-clause-found
returns-clause-found g c clean office live h =
    ap not c.is_empty.ensures ∙ ap (λ n. not (n == 0)) c.in_ok-rows.rows.ok.0
    ∙ named_by_rows c.args.name.now (tables_of (state g.S.Store c.args.tx.now.conn.now).now.trees) live h
    c.args.message.now c.in_ok-rows.rows.items
    (rw (c.as_bytes.ensures.bytes, c.as_bytes-2.ensures.bytes) at (c.in_ok-rows.ensures.found clean office))
