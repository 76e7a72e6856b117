use Rattle.store_net.proofs.Common.{◌∙◌, Some, sym, ap, slice_get, IfOk-weaker, state, tables_of}
use Rattle.store_net.proofs.Released.{its_release}
use Rattle.store_net.proofs.releases.release_numbered.Goals as goal

pub returns-in_ok-blob_at-in-Some-clause-found : goal.returns-in_ok-blob_at-in-Some-clause-found
returns-in_ok-blob_at-in-Some-clause-found g c clean office =
    IfOk-weaker c.read_body.result _ _
    (λ found is net there.
    let release = its_release c.args.name.now c.args.number
    (tables_of (state g.S.Store c.args.tx.now.conn.now).now.trees) c.in_ok-rows.rows.items c.in-Some.row.now
    c.in_ok-blob_at-in-Some.field-0.now net there
    (rw c.as_bytes.ensures.bytes at (c.in_ok-rows.ensures.found clean office))
    (c.in-Some.ensures.value ∙ ap (λ l. slice_get l 0) c.deref.ensures.value) c.in_ok-blob_at-in-Some.ensures in
    release.1 ∙ ap Some (sym (is release.0 release.2)))
    c.read_body.ensures
